-- The model book of tables of rows.
use Rattle.std.specs.Prelude.{ℕ, List, map}
use Rattle.model.specs.Model.{BookM}
use Rattle.rows.specs.Of.{op_model, block_model, region_model}
use Rattle.rows.specs.declared.operation.Operation.{Operation}
use Rattle.rows.specs.declared.basic_block.BasicBlock.{BasicBlock}
use Rattle.rows.specs.declared.region.Region.{Region}

abbrev pub parts : List ℕ → List Operation → List BasicBlock → List Region → ℕ → ℕ → BookM
parts types ops blocks regions values uses = record {
  types = types;
  ops = map op_model ops;
  blocks = map block_model blocks;
  regions = map region_model regions;
  values = values;
  uses = uses;
}
