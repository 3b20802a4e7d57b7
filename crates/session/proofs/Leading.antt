-- A course is led on by each line that is carried out.
use Rattle.std.proofs.Common.{◌≡◌, ℕ, List, IfOk, Some, Ok, Err, Option, Result, sym, subst}
use Rattle.model.specs.Model.{BookM, empty}
use Rattle.book.specs.Of.{model_of}
use Rattle.ir.specs.declared.value.DefiningEntity.{DefiningEntity}
use Rattle.session.specs.declared.course.Course.{Course}
use Rattle.session.specs.declared.trouble.Trouble.{Trouble}
use Rattle.session.specs.Entered.{Entered, Led, begun, went, CourseLed, SoFar}

pub led_first : (types : List ℕ) (r : Result Course Trouble) → IfOk r (λ c. model_of c.book ≡ empty types) → IfOk r CourseLed
led_first types (Ok c) h = (types, subst (Led types) (sym h) begun)
led_first types (Err e) h = tt

pub led_on : (course : Course) (d : Option DefiningEntity) (n : BookM) → CourseLed course → Entered {T = Trouble} (model_of course.book) (Ok d) n → (types : List ℕ) × Led types n
led_on course d n led e = (led.0, went (model_of course.book) n e.0 d led.1 e.1)

pub led_some : (o : Option Course) (course : Course) → o ≡ Some course → SoFar o → CourseLed course
led_some o course e h = subst SoFar e h
