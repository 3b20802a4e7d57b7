-- What reading a line does to a book.
use Rattle.std.specs.Prelude.{◌≡◌, ℕ, List, Some, None, Ok, Err, Option, Result}
use Rattle.ir.specs.Limits.{limits}
use Rattle.ir.specs.declared.value.DefiningEntity.{DefiningEntity}
use Rattle.model.specs.Model.{BookM, empty}
use Rattle.book.specs.Of.{model_of}
use Rattle.session.specs.declared.course.Course.{Course}
use Rattle.calls.specs.Calls.{call_step}
use Rattle.calls.specs.declared.call.Call.{Call}

-- a line that goes through carries out one call; one that does not changes nothing
abbrev pub Entered : {T : Type 0} → BookM → Result (Option DefiningEntity) T → BookM → Type 0
Entered m (Ok d) n = (c : Call) × (call_step limits m c ≡ (Ok d, n))
Entered m (Err e) n = n ≡ m

-- a book that granted calls lead to, one after another, from the empty book of the types
pub data Led (types : List ℕ) : BookM → Type 0 where
  begun : Led types (empty types)
  went : (m n : BookM) (c : Call) (d : Option DefiningEntity) → Led types m → call_step limits m c ≡ (Ok d, n) → Led types n

-- the book of a course is one that granted calls lead to
abbrev pub CourseLed : Course → Type 0
CourseLed course = (types : List ℕ) × Led types (model_of course.book)

-- so is that of a course that is there
abbrev pub SoFar : Option Course → Type 0
SoFar None = Unit {0}
SoFar (Some course) = CourseLed course
