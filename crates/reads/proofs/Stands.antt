-- In a sound book a row stands in the one row that lists it.
use Rattle.std.proofs.Common.{◌≡◌, ℕ, List, map, Some, None, Ok, Err, Option, Result, sym, refl, ap, ◌∙◌, subst}
use Rattle.std.specs.List.{slice_get}
use Rattle.std.specs.Option.{ok_or}
use Rattle.ir.specs.Limits.{Limits}
use Rattle.ir.specs.declared.refusal.Refusal.{Refusal}
use Rattle.ir.specs.declared.refusal.Refusal.TheVariants.{NoRow}
use Rattle.model.specs.Model.{OpM, BlockM, RegionM, BookM}
use Rattle.model.specs.Checks.{and_then, map_ok, op_row, block_row, region_row}
use Rattle.model.specs.Sound.{Sound, Nested, regions_of, owner_of, blocks_of, region_of, ops_of, block_of}
use Rattle.model.proofs.Nths.{none_some, some_is, nth_map, nth_mapped}
use Rattle.model.proofs.Members.{nth_is_in, listed_there}
use Rattle.reads.specs.Parents.{Lists, Only, Names, Found, Standing, above, region_parent_op, block_parent_region, block_parent_op, op_parent_region, op_parent_op, OpLists, RegionLists, BlockLists, OpHoldsBlock, RegionHolds, OpHolds}

-- ---- one step up

module _ {P C : Type 0} (list : P → List ℕ) (parent : C → Option ℕ) (ps : List P) (cs : List C) (h : Nested (map list ps) (map parent cs)) where
  lists : (c p : ℕ) (y : C) → slice_get cs c ≡ Some y → parent y ≡ Some p → Lists list ps p c
  lists c p y e f =
      let w = listed_there c (slice_get (map list ps) p) (h.listed p c (nth_mapped parent cs c y e ∙ ap (λ o. Some o) f)) in
      let v = nth_map list ps p w.0 w.1 in
      let u = nth_is_in w.0 c w.2 in
      (v.0, u.0, v.1, ap (λ xs. slice_get xs u.0) (sym v.2) ∙ u.1)

  stands : (p c : ℕ) → Lists list ps p c → (y : C) → slice_get cs c ≡ Some y → parent y ≡ Some p
  stands p c l y e = some_is (nth_mapped parent cs c y e) (h.stands p l.1 c (list l.0) (nth_mapped list ps p l.0 l.2) l.3)

  names : (c : ℕ) (y : C) → slice_get cs c ≡ Some y → (o : Option ℕ) → parent y ≡ o → Names (λ p. Lists list ps p c) o
  names c y e None f = λ q l. none_some (sym f ∙ stands q c l y e)
  names c y e (Some p) f = record { holds = lists c p y e f; alone = λ q l. some_is (stands q c l y e) f }

-- what is read of a row that is there
found : {X Y : Type 0} (o : Option X) (e : Refusal) (f : X → Y) (P : Y → Type 0) → ((x : X) → o ≡ Some x → P (f x)) → Found (ok_or o e) P (map_ok f (ok_or o e))
found None e f P h = refl
found (Some x) e f P h = h x refl

-- an answer that is no refusal, since its row is there
Sure : {Y : Type 0} → (Y → Type 0) → Result Y Refusal → Type 0
Sure {Y} P r = (a : Y) × (r ≡ Ok a) × P a

sure : {X Y : Type 0} (o : Option X) (e : Refusal) (P : Y → Type 0) (r : Result Y Refusal) (x : X) → o ≡ Some x → Found (ok_or o e) P r → Sure P r
unfolding Sure
sure None e P r x q h = absurd (none_some q)
sure (Some y) e P (Ok a) x q h = (a, refl, h)
sure (Some y) e P (Err d) x q h = absurd h

-- ---- two steps up: from c to a row p of which P holds, and from there to one of which Q holds

module _ (P : ℕ → Type 0) (Q : ℕ → ℕ → Type 0) (g : ℕ → Result (Option ℕ) Refusal) (h : (p : ℕ) → P p → Sure (Names (λ q. Q q p)) (g p)) where
  up : (p : ℕ) (o : Option ℕ) → Only P p → Names (λ q. Q q p) o → Names (λ q. (p : ℕ) × Q q p × P p) o
  up p None a k = λ q w. k q (subst (Q q) (a.alone w.0 w.2) w.1)
  up p (Some q) a k = record { holds = (p, k.holds, a.holds); alone = λ r w. k.alone r (subst (Q r) (a.alone w.0 w.2) w.1) }

  climb : {X : Type 0} (x : X) (a : Option ℕ) → Names P a → Found {X = X} (Ok x) (Names (λ q. (p : ℕ) × Q q p × P p)) (above a g)
  unfolding Sure
  climb {X} x None k = λ q w. k w.0 w.2
  climb {X} x (Some p) k = let w = h p k.holds in subst (Found {X = X} (Ok x) (Names (λ q. (p : ℕ) × Q q p × P p))) (sym w.1) (up p w.0 k w.2)

  climbed : {X : Type 0} (o : Option X) (e : Refusal) (f : X → Option ℕ) → ((x : X) → o ≡ Some x → Names P (f x)) → Found (ok_or o e) (Names (λ q. (p : ℕ) × Q q p × P p)) (and_then (map_ok f (ok_or o e)) (λ a. above a g))
  climbed None e f k = refl
  climbed (Some x) e f k = climb x (f x) (k x refl)

-- ---- a sound book

some_owner : (r : Result RegionM Refusal) → map_ok (λ p. Some p) (map_ok (λ x. x.owner) r) ≡ map_ok owner_of r
some_owner (Ok x) = refl
some_owner (Err e) = refl

module _ (L : Limits) (m : BookM) (s : Sound L m) where
  owner : (r : ℕ) → Found (region_row m r) (Names (λ p. OpLists m p r)) (map_ok (λ p. Some p) (region_parent_op m r))
  owner r =
      subst (Found (region_row m r) (Names (λ p. OpLists m p r))) (sym (some_owner (region_row m r)))
      (found (slice_get m.regions r) NoRow owner_of _ (λ x e. names regions_of owner_of m.ops m.regions s.regions r x e (Some x.owner) refl))

  in_region : (b : ℕ) (x : BlockM) → slice_get m.blocks b ≡ Some x → Names (λ p. RegionLists m p b) x.parent
  in_region b x e = names blocks_of region_of m.regions m.blocks s.blocks b x e x.parent refl

  in_block : (i : ℕ) (o : OpM) → slice_get m.ops i ≡ Some o → Names (λ p. BlockLists m p i) o.parent
  in_block i o e = names ops_of block_of m.blocks m.ops s.ops i o e o.parent refl

  region : (b : ℕ) → Found (block_row m b) (Names (λ p. RegionLists m p b)) (block_parent_region m b)
  region b = found (slice_get m.blocks b) NoRow region_of _ (in_region b)

  block_op : (b : ℕ) → Found (block_row m b) (Names (λ p. OpHoldsBlock m p b)) (block_parent_op m b)
  block_op b =
      climbed (λ p. RegionLists m p b) (OpLists m) (λ r. map_ok (λ i. Some i) (region_parent_op m r))
      (λ p l. sure (slice_get m.regions p) NoRow _ _ l.0 l.2 (owner p)) (slice_get m.blocks b) NoRow region_of (in_region b)

  op_region : (i : ℕ) → Found (op_row m i) (Names (λ p. RegionHolds m p i)) (op_parent_region m i)
  op_region i =
      climbed (λ p. BlockLists m p i) (RegionLists m) (block_parent_region m)
      (λ p l. sure (slice_get m.blocks p) NoRow _ _ l.0 l.2 (region p)) (slice_get m.ops i) NoRow block_of (in_block i)

  op_op : (i : ℕ) → Found (op_row m i) (Names (λ p. OpHolds m p i)) (op_parent_op m i)
  op_op i =
      climbed (λ p. BlockLists m p i) (OpHoldsBlock m) (block_parent_op m)
      (λ p l. sure (slice_get m.blocks p) NoRow _ _ l.0 l.2 (block_op p)) (slice_get m.ops i) NoRow block_of (in_block i)

  pub standing : Standing m
  standing = record {
    region_op = λ c r e. subst (Found (region_row m c) (Names (λ p. OpLists m p c))) (sym e) (owner c);
    block_region = λ c r e. subst (Found (block_row m c) (Names (λ p. RegionLists m p c))) (sym e) (region c);
    block_op = λ c r e. subst (Found (block_row m c) (Names (λ p. OpHoldsBlock m p c))) (sym e) (block_op c);
    op_block = λ c r e. subst (Found (op_row m c) (Names (λ p. BlockLists m p c))) (sym e) (found (slice_get m.ops c) NoRow block_of _ (in_block c));
    op_region = λ c r e. subst (Found (op_row m c) (Names (λ p. RegionHolds m p c))) (sym e) (op_region c);
    op_op = λ c r e. subst (Found (op_row m c) (Names (λ p. OpHolds m p c))) (sym e) (op_op c);
  }
