-- Placing an operation or a block.
use Rattle.std.proofs.Common.{◌≡◌, ℕ, ◌≤◌, [], ◌∷◌, ◌++◌, map, length, Some, None, Ok, sym, refl, ap, ◌∙◌, subst, ⊎_elim}
use Rattle.std.specs.List.{slice_get}
use Rattle.ir.specs.Limits.{Limits}
use Rattle.ir.specs.declared.value.DefiningEntity.TheVariants.{Op, Block}
use Rattle.model.specs.Model.{OpM, BlockM, RegionM, BookM, results_at, args_at, op_in, with_op, block_in, with_block}
use Rattle.model.specs.Steps.{place_op_check, op_placed, place_block_check, block_placed}
use Rattle.model.specs.Sound.{Few, Sound, regions_of, owner_of, blocks_of, region_of, ops_of, block_of}
use Rattle.model.specs.Lasts.{OpLasts, BlockLasts, RegionLasts, Lasts}
use Rattle.model.proofs.Nths.{nth_edit, nth_mapped, length_edit, each_edit, map_edit, map_edit_same, nth_edit_at}
use Rattle.model.proofs.Nests.{nested_placed}
use Rattle.model.proofs.Passed.{place_op_passed, place_block_passed}
use Rattle.model.proofs.Stood.{stays_none, stays_refl, grown_refl, op_refl, block_refl, region_refl, rows_same, rows_edit}
use Rattle.model.proofs.Values.{ValuesMade, values_kept}
use Rattle.model.proofs.Uses.{UsesMade, Never, stay, uses_kept}
use Rattle.model.proofs.Turns.{AllNested, Within, lasts_from, sound_from}

-- ---- an operation

module _ (m : BookM) (i b : ℕ) where
  op_values : ValuesMade m (op_placed m i b) (Op 0) []
  op_values = values_kept m (op_placed m i b) refl refl
      (elim [ Op j ↦ nth_edit_at results_at (op_in b) (λ _. refl) m.ops i j | Block c ↦ nth_edit_at args_at (with_op i) (λ _. refl) m.blocks b c ])

  op_uses : UsesMade m (op_placed m i b) stay Never
  op_uses = uses_kept m (op_placed m i b) refl
      (λ j o e. ⊎_elim (λ p. (p.0, p.2, cc p.3)) (λ p. (o, p.1, refl)) (nth_edit m.ops i j (op_in b) o e))

  pub lasts_op_placed : Ok tt ≡ place_op_check m i b → Lasts m (op_placed m i b)
  lasts_op_placed h =
      let p = place_op_passed m i b tt h in
      lasts_from m (op_placed m i b) (Op 0) [] op_values stay Never op_uses
      (rows_edit OpLasts op_refl m.ops i (op_in b) (λ o e. record { kind = refl; location = refl; results = refl; successors = refl; regions = refl; parent = stays_none o.parent (Some b) (cc (p.2, p.4, e)) }))
      (rows_edit BlockLasts block_refl m.blocks b (with_op i) (λ x e. record { args = refl; ops = (i ∷ [], refl); parent = stays_refl x.parent }))
      (rows_same RegionLasts region_refl m.regions)

  op_nested : (L : Limits) → Sound L m → (o : OpM) (x : BlockM) → slice_get m.ops i ≡ Some o → slice_get m.blocks b ≡ Some x → o.parent ≡ None → AllNested (op_placed m i b)
  op_nested L s o x e f z = record {
    regions = rw (map_edit_same regions_of (op_in b) (λ _. refl) m.ops i) s.regions;
    blocks = rw (map_edit_same region_of (with_op i) (λ _. refl) m.blocks b) s.blocks;
    ops = rw (map_edit ops_of (with_op i) (λ ys. ys ++ i ∷ []) (λ _. refl) m.blocks b, map_edit block_of (op_in b) (λ _. Some b) (λ _. refl) m.ops i)
        (nested_placed (map ops_of m.blocks) (map block_of m.ops) s.ops b i x.ops (nth_mapped ops_of m.blocks b x f) (nth_mapped block_of m.ops i o e ∙ ap (λ p. Some p) z));
  }

  op_within : (L : Limits) → Sound L m → Within L (op_placed m i b)
  op_within L s = record {
    few = each_edit (λ (o : OpM). Few L o.body) m.ops s.few i (op_in b) (s.few i);
    few_args = each_edit (λ (x : BlockM). length x.args ≤ L.arguments) m.blocks s.few_args b (with_op i) (s.few_args b);
    few_ops = subst (λ k. k ≤ L.operations) (sym (length_edit m.ops i (op_in b))) s.few_ops;
    few_blocks = subst (λ k. k ≤ L.blocks) (sym (length_edit m.blocks b (with_op i))) s.few_blocks;
    few_regions = s.few_regions;
    few_uses = s.few_uses;
  }

pub sound_op_placed : (L : Limits) (m : BookM) (i b : ℕ) → Sound L m → Ok tt ≡ place_op_check m i b → Sound L (op_placed m i b)
sound_op_placed L m i b s h =
    let p = place_op_passed m i b tt h in
    sound_from m (op_placed m i b) (Op 0) [] (op_values m i b) stay Never (op_uses m i b) L s (lasts_op_placed m i b h)
    (op_nested m i b L s p.0 p.1 p.2 p.3 p.4) (op_within m i b L s)

-- ---- a block

module _ (m : BookM) (b r : ℕ) where
  block_values : ValuesMade m (block_placed m b r) (Op 0) []
  block_values = values_kept m (block_placed m b r) refl refl (elim [ Op j ↦ refl | Block c ↦ nth_edit_at args_at (block_in r) (λ _. refl) m.blocks b c ])

  block_uses : UsesMade m (block_placed m b r) stay Never
  block_uses = uses_kept m (block_placed m b r) refl (λ j o e. (o, e, refl))

  pub lasts_block_placed : Ok tt ≡ place_block_check m b r → Lasts m (block_placed m b r)
  lasts_block_placed h =
      let p = place_block_passed m b r tt h in
      lasts_from m (block_placed m b r) (Op 0) [] block_values stay Never block_uses
      (rows_same OpLasts op_refl m.ops)
      (rows_edit BlockLasts block_refl m.blocks b (block_in r) (λ x e. record { args = refl; ops = grown_refl x.ops; parent = stays_none x.parent (Some r) (cc (p.2, p.4, e)) }))
      (rows_edit RegionLasts region_refl m.regions r (with_block b) (λ x e. record { owner = refl; blocks = (b ∷ [], refl) }))

  block_nested : (L : Limits) → Sound L m → (x : BlockM) (y : RegionM) → slice_get m.blocks b ≡ Some x → slice_get m.regions r ≡ Some y → x.parent ≡ None → AllNested (block_placed m b r)
  block_nested L s x y e f z = record {
    regions = rw (map_edit_same owner_of (with_block b) (λ _. refl) m.regions r) s.regions;
    blocks = rw (map_edit blocks_of (with_block b) (λ ys. ys ++ b ∷ []) (λ _. refl) m.regions r, map_edit region_of (block_in r) (λ _. Some r) (λ _. refl) m.blocks b)
        (nested_placed (map blocks_of m.regions) (map region_of m.blocks) s.blocks r b y.blocks (nth_mapped blocks_of m.regions r y f) (nth_mapped region_of m.blocks b x e ∙ ap (λ p. Some p) z));
    ops = rw (map_edit_same ops_of (block_in r) (λ _. refl) m.blocks b) s.ops;
  }

  block_within : (L : Limits) → Sound L m → Within L (block_placed m b r)
  block_within L s = record {
    few = s.few;
    few_args = each_edit (λ (x : BlockM). length x.args ≤ L.arguments) m.blocks s.few_args b (block_in r) (s.few_args b);
    few_ops = s.few_ops;
    few_blocks = subst (λ k. k ≤ L.blocks) (sym (length_edit m.blocks b (block_in r))) s.few_blocks;
    few_regions = subst (λ k. k ≤ L.regions) (sym (length_edit m.regions r (with_block b))) s.few_regions;
    few_uses = s.few_uses;
  }

pub sound_block_placed : (L : Limits) (m : BookM) (b r : ℕ) → Sound L m → Ok tt ≡ place_block_check m b r → Sound L (block_placed m b r)
sound_block_placed L m b r s h =
    let p = place_block_passed m b r tt h in
    sound_from m (block_placed m b r) (Op 0) [] (block_values m b r) stay Never (block_uses m b r) L s (lasts_block_placed m b r h)
    (block_nested m b r L s p.0 p.1 p.2 p.3 p.4) (block_within m b r L s)
