-- The model that a book stands for, and its making.
use Rattle.std.specs.Prelude.{◌≡◌, ℕ, List, Ok, Err, vec_items, Result}
use Rattle.ir.specs.Limits.{limits}
use Rattle.model.specs.Model.{BookM, empty}
use Rattle.model.specs.Steps.{make_check}
use Rattle.book.specs.declared.book.Book.{Book}
use Rattle.book.specs.declared.unmade.Unmade.{Unmade}
use Rattle.book.specs.declared.unmade.Unmade.TheVariants.{Refused, Memory}
use Rattle.book.specs.Parts.{parts}

-- its rows in use, and the numbers that come next
abbrev pub model_of : Book → BookM
model_of b = parts (vec_items b.types) (vec_items b.ops.rows) (vec_items b.blocks.rows) (vec_items b.regions.rows) b.next_value b.next_use

-- an empty book; or the refusal, where there are too many types; or else want of memory
abbrev pub Makes : List ℕ → Result Book Unmade → Type 0
Makes types (Ok b) = (make_check limits types ≡ Ok tt) × (model_of b ≡ empty types)
Makes types (Err (Refused e)) = make_check limits types ≡ Err e
Makes types (Err Memory) = make_check limits types ≡ Ok tt
