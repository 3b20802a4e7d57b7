-- From what a call makes of the rows, values and uses of a sound book: it is sound afterwards, and nothing is lost.
use Rattle.std.proofs.Common.{◌≡◌, ℕ, ◌≤◌, ◌⊎◌, List, map, length, Some}
use Rattle.std.specs.List.{slice_get}
use Rattle.ir.specs.Limits.{Limits}
use Rattle.ir.specs.declared.value.DefiningEntity.{DefiningEntity}
use Rattle.model.specs.Model.{OpM, BlockM, BookM}
use Rattle.model.specs.Sound.{Nested, Few, Sound, regions_of, owner_of, blocks_of, region_of, ops_of, block_of}
use Rattle.model.specs.Lasts.{OpLasts, BlockLasts, RegionLasts, Lasts}
use Rattle.model.proofs.Stood.{RowsLast}
use Rattle.model.proofs.Values.{ValuesMade, values_rise, values_new, values_typed, values_given, values_once}
use Rattle.model.proofs.Uses.{UsesMade, uses_new, block_uses_new, uses_typed, uses_aimed, uses_given, block_uses_given, uses_once, block_uses_once, uses_apart}

-- the clauses of Sound on where rows stand
pub record AllNested (n : BookM) : Type 0 where
  pub regions : Nested (map regions_of n.ops) (map owner_of n.regions)
  pub blocks : Nested (map blocks_of n.regions) (map region_of n.blocks)
  pub ops : Nested (map ops_of n.blocks) (map block_of n.ops)

-- the clauses of Sound on limits
pub record Within (L : Limits) (n : BookM) : Type 0 where
  pub few : (i : ℕ) (o : OpM) → slice_get n.ops i ≡ Some o → Few L o.body
  pub few_args : (b : ℕ) (x : BlockM) → slice_get n.blocks b ≡ Some x → length x.args ≤ L.arguments
  pub few_ops : length n.ops ≤ L.operations
  pub few_blocks : length n.blocks ≤ L.blocks
  pub few_regions : length n.regions ≤ L.regions
  pub few_uses : n.uses ≤ L.uses

module _ (m n : BookM) (q : DefiningEntity) (ts : List ℕ) (v : ValuesMade m n q ts) (to : ℕ → ℕ → ℕ) (F : ℕ ⊎ ℕ → ℕ → ℕ → Type 0) (u : UsesMade m n to F) where
  pub lasts_from : RowsLast OpLasts m.ops n.ops → RowsLast BlockLasts m.blocks n.blocks → RowsLast RegionLasts m.regions n.regions → Lasts m n
  lasts_from ops blocks regions = record {
    types = v.types;
    ops = ops;
    blocks = blocks;
    regions = regions;
    values_rise = values_rise m n q ts v;
    uses_rise = u.rise;
    values_new = values_new m n q ts v;
    uses_new = uses_new m n to F u;
    block_uses_new = block_uses_new m n to F u;
  }

  pub sound_from : (L : Limits) → Sound L m → Lasts m n → AllNested n → Within L n → Sound L n
  sound_from L s l a w = record {
    operands = uses_typed m n to F u L s l;
    successors = uses_aimed m n to F u L s l;
    types = values_typed m n q ts v L s;
    value_given = values_given m n q ts v L s;
    value_once = values_once m n q ts v L s;
    use_given = uses_given m n to F u L s;
    block_use_given = block_uses_given m n to F u L s;
    use_once = uses_once m n to F u L s;
    block_use_once = block_uses_once m n to F u L s;
    uses_apart = uses_apart m n to F u L s;
    regions = a.regions;
    blocks = a.blocks;
    ops = a.ops;
    few = w.few;
    few_args = w.few_args;
    few_ops = w.few_ops;
    few_blocks = w.few_blocks;
    few_regions = w.few_regions;
    few_uses = w.few_uses;
  }
