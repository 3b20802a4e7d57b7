-- The book right after its making is sound.
use Rattle.std.proofs.Common.{◌≡◌, ℕ, List, Some, arith}
use Rattle.std.specs.List.{slice_get}
use Rattle.ir.specs.Limits.{Limits}
use Rattle.ir.specs.declared.value.DefiningEntity.{DefiningEntity}
use Rattle.ir.specs.declared.value.DefiningEntity.TheVariants.{Op, Block}
use Rattle.ir.specs.declared.value.Definition.{Definition}
use Rattle.model.specs.Model.{empty, defined_by}
use Rattle.model.specs.Sound.{Sound}
use Rattle.model.proofs.Nths.{none_some}
use Rattle.model.proofs.Nests.{nested_empty}

undefined : (ts : List ℕ) (e : DefiningEntity) (k : ℕ) (d : Definition) → slice_get (defined_by (empty ts) e) k ≡ Some d → ⊥
undefined ts (Op i) k d h = none_some h
undefined ts (Block b) k d h = none_some h

pub sound_empty : (L : Limits) (ts : List ℕ) → Sound L (empty ts)
sound_empty L ts = record {
  operands = λ i k o x e. absurd (none_some e);
  successors = λ i k o s e. absurd (none_some e);
  types = λ e k d h. absurd (undefined ts e k d h);
  value_given = λ e k d h. absurd (undefined ts e k d h);
  value_once = λ e f k l c d h. absurd (undefined ts e k c h);
  use_given = λ i k o x e. absurd (none_some e);
  block_use_given = λ i k o s e. absurd (none_some e);
  use_once = λ i j k l o p x y e. absurd (none_some e);
  block_use_once = λ i j k l o p s t e. absurd (none_some e);
  uses_apart = λ i j k l o p x s e. absurd (none_some e);
  regions = nested_empty;
  blocks = nested_empty;
  ops = nested_empty;
  few = λ i o e. absurd (none_some e);
  few_args = λ b x e. absurd (none_some e);
  few_ops = omega arith;
  few_blocks = omega arith;
  few_regions = omega arith;
  few_uses = omega arith;
}
