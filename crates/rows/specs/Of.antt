-- What a row means: its model.
use Rattle.std.specs.Prelude.{vec_items}
use Rattle.model.specs.Model.{OpM, BlockM, RegionM}
use Rattle.rows.specs.declared.operation.Operation.{Operation}
use Rattle.rows.specs.declared.basic_block.BasicBlock.{BasicBlock}
use Rattle.rows.specs.declared.region.Region.{Region}

abbrev pub op_model : Operation → OpM
op_model o = record {
  body = record {
    kind = o.kind;
    location = o.location;
    results = vec_items o.results;
    operands = vec_items o.operands;
    successors = vec_items o.successors;
    regions = vec_items o.regions;
    sizes = o.sizes;
  };
  parent = o.parent;
}

abbrev pub block_model : BasicBlock → BlockM
block_model b = record { args = vec_items b.args; ops = vec_items b.ops; parent = b.parent }

abbrev pub region_model : Region → RegionM
region_model r = record { owner = r.owner; blocks = vec_items r.blocks }
