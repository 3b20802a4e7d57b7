-- A book of which one operation was written: its operands were changed, and n uses are made in all.
use Rattle.std.proofs.Common.{◌≡◌, ℕ, ◌<◌, ◌≤◌, List, get_or, set, Ok, vec_items, vec_len, Result, ap}
use Rattle.ir.specs.Limits.{limits}
use Rattle.ir.specs.declared.refusal.Refusal.{Refusal}
use Rattle.ir.specs.declared.value.Operand.{Operand}
use Rattle.model.specs.Model.{OpM, BookM, with_operands}
use Rattle.model.specs.Checks.{steps}
use Rattle.model.specs.Steps.{edited}
use Rattle.model.specs.Sound.{Sound}
use Rattle.model.specs.Lasts.{Lasts}
use Rattle.rows.specs.Counts.{listed_ops, placed_ops, listed_blocks, placed_blocks}
use Rattle.rows.specs.Of.{op_model}
use Rattle.rows.specs.declared.operation.Operation.{Operation}
use Rattle.book.specs.declared.book.Book.{Book}
use Rattle.book.specs.Of.{model_of}
use Rattle.book.specs.Parts.{parts}
use Rattle.book.proofs.Sounds.{sound_of, sound_at}
use Rattle.book.proofs.Changes.{steps_ok, lasts_at, row_changed, op_fit}

-- the operation i, read as x and written as y with the change f a, where r granted a
module _ (b : Book) (i n : ℕ) (f : Operand → List Operand → List Operand) (r : Result Operand Refusal) (a : Operand) (granted : Ok a ≡ r)
    (x y : Operation) (e : x ≡ get_or (vec_items b.ops.rows) i x) (h : op_model y ≡ with_operands (f a) (op_model x)) where
  abbrev written : BookM
  written = parts (vec_items b.types) (set (vec_items b.ops.rows) i y) (vec_items b.blocks.rows) (vec_items b.regions.rows) b.next_value n

  -- the ghost fields of the book
  pub written_holds : i < vec_len b.ops.rows → (Sound limits (model_of b) → Ok a ≡ r → Sound limits (edited (model_of b) i n (f a))) →
      ((listed_ops (vec_items b.blocks.rows) ≤ placed_ops (set (vec_items b.ops.rows) i y)) × (listed_blocks (vec_items b.regions.rows) ≤ placed_blocks (vec_items b.blocks.rows))) × ∥ Sound limits written ∥₁
  written_holds l s = (op_fit b i x y l e (ap (λ (o : OpM). o.parent) h), sound_at _ _ (row_changed b i n x y (with_operands (f a)) e h) (s (sound_of b) granted))

  -- what the edit ensures
  pub written_steps : {A : Type 0} (answer : Operand → A) → (Ok a ≡ r → Lasts (model_of b) (edited (model_of b) i n (f a))) →
      (steps r answer (λ x. edited (model_of b) i n (f x)) (model_of b) ≡ (Ok (answer a), written)) × Lasts (model_of b) written
  written_steps answer l =
      let after = row_changed b i n x y (with_operands (f a)) e h in
      (steps_ok r a answer (λ x. edited (model_of b) i n (f x)) (model_of b) written granted after, lasts_at _ _ _ after (l granted))
