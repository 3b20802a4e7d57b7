-- A book of which two rows were written, one to stand in the other: lists have room, and the model is that of the step.
use Rattle.std.proofs.Common.{◌≡◌, ℕ, ◌+◌, ◌<◌, ◌≤◌, Vec, get_or, set, None, Ok, vec_items, vec_len, sum_by, Result, ap, arith}
use Rattle.ir.specs.Limits.{limits}
use Rattle.ir.specs.declared.refusal.Refusal.{Refusal}
use Rattle.model.specs.Model.{OpM, BlockM, BookM, op_in, with_op, block_in, with_block}
use Rattle.model.specs.Checks.{steps}
use Rattle.model.specs.Steps.{place_op_check, op_placed, place_op_step, place_block_check, block_placed, place_block_step}
use Rattle.model.specs.Sound.{Sound}
use Rattle.model.specs.Lasts.{Lasts}
use Rattle.model.proofs.Placed.{sound_op_placed, lasts_op_placed, sound_block_placed, lasts_block_placed}
use Rattle.rows.specs.Counts.{standing, op_standing, op_count, block_standing, block_count, listed_ops, placed_ops, listed_blocks, placed_blocks}
use Rattle.rows.specs.Of.{op_model, block_model, region_model}
use Rattle.rows.specs.declared.operation.Operation.{Operation}
use Rattle.rows.specs.declared.basic_block.BasicBlock.{BasicBlock}
use Rattle.rows.specs.declared.region.Region.{Region}
use Rattle.rows.proofs.Read.{edit_row}
use Rattle.book.specs.declared.book.Book.{Book}
use Rattle.book.specs.Of.{model_of}
use Rattle.book.specs.Parts.{parts}
use Rattle.book.specs.Rows.{HasRow}
use Rattle.book.proofs.Sounds.{sound_of, sound_at}
use Rattle.book.proofs.Changes.{steps_ok, lasts_at, standing_once, room_for, placed_fit, stood_fit, listed_fit}

-- row i of cs, which stands nowhere, read as o, and row k of ps, read as x
module _ {C P Y Z : Type 0} (stands : C → ℕ) (count : P → ℕ) (cs : Vec C Y) (ps : Vec P Z) (fit : sum_by count (vec_items ps) ≤ sum_by stands (vec_items cs))
    (i k : ℕ) (o : C) (x : P) (e : o ≡ get_or (vec_items cs) i o) (f : x ≡ get_or (vec_items ps) k x) (hi : i < vec_len cs) (hk : k < vec_len ps) (z : stands o ≡ 0) where
  list_room : ((c : C) → stands c ≤ 1) → count x < vec_len cs
  list_room one = let r = room_for stands count (vec_items cs) (vec_items ps) fit one i k o x (omega (arith, cs.ok.0)) (omega (arith, ps.ok.0)) e f z in omega (arith, r, cs.ok.0)

  lists_fit : (p : C) (y : P) → stands p ≡ 1 → count y ≡ count x + 1 → sum_by count (set (vec_items ps) k y) ≤ sum_by stands (set (vec_items cs) i p)
  lists_fit p y = placed_fit stands count (vec_items cs) (vec_items ps) fit i k o p x y (omega (arith, cs.ok.0)) (omega (arith, ps.ok.0)) e f z

-- the step to the model m that r granted, where n is the book after it
module _ (b : Book) (n m : BookM) (r : Result (Unit {0}) Refusal) (after : n ≡ m) (granted : Ok tt ≡ r) where
  placed_sound : (Sound limits (model_of b) → Ok tt ≡ r → Sound limits m) → ∥ Sound limits n ∥₁
  placed_sound s = sound_at m n after (s (sound_of b) granted)

  placed_step : (Ok tt ≡ r → Lasts (model_of b) m) → (steps r (λ u. u) (λ _. m) (model_of b) ≡ (Ok tt, n)) × Lasts (model_of b) n
  placed_step l = (steps_ok r tt (λ u. u) (λ _. m) (model_of b) n granted after, lasts_at (model_of b) n m after (l granted))

-- the operation i, read as o and written as p, put into the block k, read as x and written as y
module _ (b : Book) (i k : ℕ) (o : Operation) (x : BasicBlock) (e : o ≡ get_or (vec_items b.ops.rows) i o) (f : x ≡ get_or (vec_items b.blocks.rows) k x)
    (s : HasRow b.ops.rows i (λ o. o.parent ≡ None) × (k < vec_len b.blocks.rows)) where
  pub op_room : vec_len x.ops < limits.operations
  op_room = let r = list_room op_standing op_count b.ops.rows b.blocks.rows b.fit.0 i k o x e f s.0.0 s.1 (ap standing (s.0.1 o e)) (λ c. standing_once c.parent) in omega (arith, r, b.ops.all)

  module _ (p : Operation) (y : BasicBlock) (g : op_model p ≡ op_in k (op_model o)) (h : block_model y ≡ with_op i (block_model x)) (granted : Ok tt ≡ place_op_check (model_of b) i k) where
    abbrev op_after : BookM
    op_after = parts (vec_items b.types) (set (vec_items b.ops.rows) i p) (set (vec_items b.blocks.rows) k y) (vec_items b.regions.rows) b.next_value b.next_use

    op_is : op_after ≡ op_placed (model_of b) i k
    op_is = rw (edit_row op_model (op_in k) (vec_items b.ops.rows) i o p e g, edit_row block_model (with_op i) (vec_items b.blocks.rows) k x y f h)

    pub op_holds : vec_len y.ops ≡ vec_len x.ops + 1 →
        ((listed_ops (set (vec_items b.blocks.rows) k y) ≤ placed_ops (set (vec_items b.ops.rows) i p)) × (listed_blocks (vec_items b.regions.rows) ≤ placed_blocks (set (vec_items b.blocks.rows) k y)))
        × ∥ Sound limits op_after ∥₁
    op_holds n = (
      (
        lists_fit op_standing op_count b.ops.rows b.blocks.rows b.fit.0 i k o x e f s.0.0 s.1 (ap standing (s.0.1 o e)) p y (ap (λ (m : OpM). standing m.parent) g) n,
        stood_fit block_standing block_count (vec_items b.blocks.rows) (vec_items b.regions.rows) b.fit.1 k x y (omega (arith, s.1, b.blocks.rows.ok.0)) f (ap (λ (m : BlockM). standing m.parent) h),
      ),
      placed_sound b op_after (op_placed (model_of b) i k) _ op_is granted (sound_op_placed limits (model_of b) i k),
    )

    pub op_step : (place_op_step (model_of b) i k ≡ (Ok tt, op_after)) × Lasts (model_of b) op_after
    op_step = placed_step b op_after (op_placed (model_of b) i k) _ op_is granted (lasts_op_placed (model_of b) i k)

-- the block i, read as o and written as p, put into the region k, read as x and written as y
module _ (b : Book) (i k : ℕ) (o : BasicBlock) (x : Region) (e : o ≡ get_or (vec_items b.blocks.rows) i o) (f : x ≡ get_or (vec_items b.regions.rows) k x)
    (s : HasRow b.blocks.rows i (λ o. o.parent ≡ None) × (k < vec_len b.regions.rows)) where
  pub block_room : vec_len x.blocks < limits.blocks
  block_room = let r = list_room block_standing block_count b.blocks.rows b.regions.rows b.fit.1 i k o x e f s.0.0 s.1 (ap standing (s.0.1 o e)) (λ c. standing_once c.parent) in omega (arith, r, b.blocks.all)

  module _ (p : BasicBlock) (y : Region) (g : block_model p ≡ block_in k (block_model o)) (h : region_model y ≡ with_block i (region_model x)) (granted : Ok tt ≡ place_block_check (model_of b) i k) where
    abbrev block_after : BookM
    block_after = parts (vec_items b.types) (vec_items b.ops.rows) (set (vec_items b.blocks.rows) i p) (set (vec_items b.regions.rows) k y) b.next_value b.next_use

    block_is : block_after ≡ block_placed (model_of b) i k
    block_is = rw (edit_row block_model (block_in k) (vec_items b.blocks.rows) i o p e g, edit_row region_model (with_block i) (vec_items b.regions.rows) k x y f h)

    pub block_holds : vec_len p.ops ≡ vec_len o.ops → vec_len y.blocks ≡ vec_len x.blocks + 1 →
        ((listed_ops (set (vec_items b.blocks.rows) i p) ≤ placed_ops (vec_items b.ops.rows)) × (listed_blocks (set (vec_items b.regions.rows) k y) ≤ placed_blocks (set (vec_items b.blocks.rows) i p)))
        × ∥ Sound limits block_after ∥₁
    block_holds l n = (
      (
        listed_fit op_standing op_count (vec_items b.ops.rows) (vec_items b.blocks.rows) b.fit.0 i o p (omega (arith, s.0.0, b.blocks.rows.ok.0)) e l,
        lists_fit block_standing block_count b.blocks.rows b.regions.rows b.fit.1 i k o x e f s.0.0 s.1 (ap standing (s.0.1 o e)) p y (ap (λ (m : BlockM). standing m.parent) g) n,
      ),
      placed_sound b block_after (block_placed (model_of b) i k) _ block_is granted (sound_block_placed limits (model_of b) i k),
    )

    pub block_step : (place_block_step (model_of b) i k ≡ (Ok tt, block_after)) × Lasts (model_of b) block_after
    block_step = placed_step b block_after (block_placed (model_of b) i k) _ block_is granted (lasts_block_placed (model_of b) i k)
