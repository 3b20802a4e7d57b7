-- What a call that writes a row owes: the step that it made, what lasts, and that lists still have room.
use Rattle.std.proofs.Common.{◌≡◌, ℕ, ◌+◌, ◌<◌, ◌≤◌, List, map, length, get_or, set, Some, None, Ok, vec_items, vec_len, sum_by, Option, Result, sym, ap, ◌∙◌, subst, arith}
use Rattle.ir.specs.declared.refusal.Refusal.{Refusal}
use Rattle.model.specs.Model.{OpM, BookM}
use Rattle.model.specs.Checks.{steps}
use Rattle.model.specs.Steps.{changed}
use Rattle.model.specs.Lasts.{Lasts}
use Rattle.rows.specs.Counts.{standing, op_standing, op_count, listed_ops, placed_ops, listed_blocks, placed_blocks}
use Rattle.rows.specs.Of.{op_model, block_model, region_model}
use Rattle.rows.specs.declared.operation.Operation.{Operation}
use Rattle.rows.proofs.Read.{edit_row}
use Rattle.rows.proofs.Sums.{sum_set, sum_same, sum_at, sum_below}
use Rattle.book.specs.declared.book.Book.{Book}
use Rattle.book.specs.Of.{model_of}
use Rattle.book.specs.Parts.{parts}

-- a step whose checks passed, where n is the book after it
pub steps_ok : {A B : Type 0} (r : Result A Refusal) (a : A) (answer : A → B) (after : A → BookM) (m n : BookM) → Ok a ≡ r → n ≡ after a → steps r answer after m ≡ (Ok (answer a), n)
steps_ok r a answer after m n h e = ap (λ x. steps x answer after m) (sym h) ∙ ap (λ x. (Ok (answer a), x)) (sym e)

pub lasts_at : (m n k : BookM) → n ≡ k → Lasts m k → Lasts m n
lasts_at m n k e l = subst (Lasts m) (sym e) l

-- the book with one operation written, where y is g of x on the model, and n uses made in all
pub row_changed : (b : Book) (i n : ℕ) (x y : Operation) (g : OpM → OpM) → x ≡ get_or (vec_items b.ops.rows) i x → op_model y ≡ g (op_model x) →
    parts (vec_items b.types) (set (vec_items b.ops.rows) i y) (vec_items b.blocks.rows) (vec_items b.regions.rows) b.next_value n ≡ changed (model_of b) i n g
row_changed b i n x y g e h =
    ap (λ (xs : List OpM). record { types = vec_items b.types; ops = xs; blocks = map block_model (vec_items b.blocks.rows); regions = map region_model (vec_items b.regions.rows); values = b.next_value; uses = n })
    (edit_row op_model g (vec_items b.ops.rows) i x y e h)

-- ---- rows that stand in lists of other rows: operations in blocks, blocks in regions

pub standing_once : (p : Option ℕ) → standing p ≤ 1
standing_once None = omega arith
standing_once (Some n) = omega arith

module _ {C P : Type 0} (stands : C → ℕ) (count : P → ℕ) (cs : List C) (ps : List P) (fit : sum_by count ps ≤ sum_by stands cs) where
  -- where one row stands nowhere, each list is shorter than there are rows
  pub room_for : ((c : C) → stands c ≤ 1) → (i k : ℕ) (c : C) (p : P) → i < length cs → k < length ps → c ≡ get_or cs i c → p ≡ get_or ps k p → stands c ≡ 0 → count p < length cs
  room_for one i k c p h l e f z = omega (arith, fit, sum_below stands one cs i c h e z, sum_at count ps k p l f)

  -- one more is listed, and one more stands
  pub placed_fit : (i k : ℕ) (c d : C) (p q : P) → i < length cs → k < length ps → c ≡ get_or cs i c → p ≡ get_or ps k p → stands c ≡ 0 → stands d ≡ 1 → count q ≡ count p + 1 → sum_by count (set ps k q) ≤ sum_by stands (set cs i d)
  placed_fit i k c d p q h l e f z s n = omega (arith, fit, sum_set stands cs i c d h e, sum_set count ps k p q l f, z, s, n)

  -- a row that is written stands where it stood, or lists as many as it did
  pub stood_fit : (i : ℕ) (c d : C) → i < length cs → c ≡ get_or cs i c → stands d ≡ stands c → sum_by count ps ≤ sum_by stands (set cs i d)
  stood_fit i c d h e s = omega (arith, fit, sum_same stands cs i c d h e s)

  pub listed_fit : (k : ℕ) (p q : P) → k < length ps → p ≡ get_or ps k p → count q ≡ count p → sum_by count (set ps k q) ≤ sum_by stands cs
  listed_fit k p q h e s = omega (arith, fit, sum_same count ps k p q h e s)

-- an operation that is written and stands where it stood
pub op_fit : (b : Book) (i : ℕ) (x y : Operation) → i < vec_len b.ops.rows → x ≡ get_or (vec_items b.ops.rows) i x → y.parent ≡ x.parent →
    (listed_ops (vec_items b.blocks.rows) ≤ placed_ops (set (vec_items b.ops.rows) i y)) × (listed_blocks (vec_items b.regions.rows) ≤ placed_blocks (vec_items b.blocks.rows))
op_fit b i x y h e p = (stood_fit op_standing op_count (vec_items b.ops.rows) (vec_items b.blocks.rows) b.fit.0 i x y (omega (arith, b.ops.rows.ok.0)) e (ap standing p), b.fit.1)
