-- What holds of every book, out of its ghost field.
use Rattle.std.proofs.Common.{◌≡◌, ℕ, ◌≤◌, List, [], sym, subst, arith}
use mathlib.Core.Logic.{∥∥₁_elim}
use Rattle.rows.specs.Counts.{listed_ops, placed_ops, listed_blocks, placed_blocks}
use Rattle.ir.specs.Limits.{limits}
use Rattle.model.specs.Model.{BookM, empty}
use Rattle.model.specs.Sound.{Sound}
use Rattle.model.proofs.Props.{sound_prop}
use Rattle.rows.specs.declared.operation.Operation.{Operation}
use Rattle.rows.specs.declared.basic_block.BasicBlock.{BasicBlock}
use Rattle.rows.specs.declared.region.Region.{Region}
use Rattle.book.specs.declared.book.Book.{Book}
use Rattle.book.specs.Of.{model_of}
use Rattle.book.specs.Parts.{parts}

pub sound_of : (b : Book) → Sound limits (model_of b)
sound_of b = ∥∥₁_elim b.sound (sound_prop limits (model_of b)) (λ s. s)

-- the ghost field of a book whose tables are those of a sound model
pub sound_at : (m n : BookM) → n ≡ m → Sound limits m → ∥ Sound limits n ∥₁
sound_at m n e s = ∣ subst (Sound limits) (sym e) s ∣₁

pub empty_parts : (ts : List ℕ) (os : List Operation) (bs : List BasicBlock) (rs : List Region) → os ≡ [] → bs ≡ [] → rs ≡ [] → parts ts os bs rs 0 0 ≡ empty ts
empty_parts ts os bs rs p q r = rw (p, q, r)

pub empty_fits : (os : List Operation) (bs : List BasicBlock) (rs : List Region) → os ≡ [] → bs ≡ [] → rs ≡ [] → (listed_ops bs ≤ placed_ops os) × (listed_blocks rs ≤ placed_blocks bs)
empty_fits os bs rs p q r = rw (p, q, r) (omega arith, omega arith)
