-- What is read of one row. Refusals: 1 where there is no such row, then 10 where it has no such place.
use Rattle.std.specs.Prelude.{ℕ, length, Option, Result}
use Rattle.std.specs.List.{slice_get}
use Rattle.ir.specs.Uses.{use_in}
use Rattle.ir.specs.declared.location.Location.{Location}
use Rattle.ir.specs.declared.refusal.Refusal.{Refusal}
use Rattle.ir.specs.declared.value.DefiningEntity.{DefiningEntity}
use Rattle.ir.specs.declared.value.DefiningEntity.TheVariants.{Op, Block}
use Rattle.ir.specs.declared.value.Value.{Value}
use Rattle.ir.specs.declared.value.Definition.{Definition}
use Rattle.ir.specs.declared.value.Operand.{Operand}
use Rattle.ir.specs.declared.value.Successor.{Successor}
use Rattle.ir.specs.declared.value.Use.{Use}
use Rattle.model.specs.Model.{BookM}
use Rattle.model.specs.Checks.{and_then, map_ok, op_row, block_row, region_row, place}
use Rattle.model.specs.Steps.{use_of}

-- a value, by the row that defines it and how that row holds it
abbrev pub value_by : DefiningEntity → Definition → Value
value_by e d = record { val_uid = d.val_uid; defining_entity = e }

-- the use of a block that a successor place of operation i is
abbrev pub block_use_of : ℕ → Successor → Use Successor
block_use_of i s = use_in i s.use_uid

-- ---- an operation

abbrev pub op_kind : BookM → ℕ → Result ℕ Refusal
op_kind m i = map_ok (λ o. o.body.kind) (op_row m i)

-- where it was written
abbrev pub op_loc : BookM → ℕ → Result Location Refusal
op_loc m i = map_ok (λ o. o.body.location) (op_row m i)

abbrev pub op_num_operands : BookM → ℕ → Result ℕ Refusal
op_num_operands m i = map_ok (λ o. length o.body.operands) (op_row m i)

abbrev pub operand_place : BookM → ℕ → ℕ → Result Operand Refusal
operand_place m i k = and_then (op_row m i) (λ o. place o.body.operands k)

-- the value that the operand place k holds
abbrev pub op_operand : BookM → ℕ → ℕ → Result Value Refusal
op_operand m i k = map_ok (λ x. x.value) (operand_place m i k)

-- the use that the operand place k is
abbrev pub op_operand_use : BookM → ℕ → ℕ → Result (Use Operand) Refusal
op_operand_use m i k = map_ok (use_of i) (operand_place m i k)

abbrev pub op_num_results : BookM → ℕ → Result ℕ Refusal
op_num_results m i = map_ok (λ o. length o.body.results) (op_row m i)

abbrev pub result_place : BookM → ℕ → ℕ → Result Definition Refusal
result_place m i k = and_then (op_row m i) (λ o. place o.body.results k)

-- the result k, a value that this operation defines
abbrev pub op_result : BookM → ℕ → ℕ → Result Value Refusal
op_result m i k = map_ok (value_by (Op i)) (result_place m i k)

abbrev pub op_num_successors : BookM → ℕ → Result ℕ Refusal
op_num_successors m i = map_ok (λ o. length o.body.successors) (op_row m i)

abbrev pub successor_place : BookM → ℕ → ℕ → Result Successor Refusal
successor_place m i k = and_then (op_row m i) (λ o. place o.body.successors k)

-- the block that the successor place k names
abbrev pub op_successor : BookM → ℕ → ℕ → Result ℕ Refusal
op_successor m i k = map_ok (λ s. s.block) (successor_place m i k)

-- the use that the successor place k is
abbrev pub op_successor_use : BookM → ℕ → ℕ → Result (Use Successor) Refusal
op_successor_use m i k = map_ok (block_use_of i) (successor_place m i k)

abbrev pub op_num_regions : BookM → ℕ → Result ℕ Refusal
op_num_regions m i = map_ok (λ o. length o.body.regions) (op_row m i)

-- the region k, of those that belong to it
abbrev pub op_region : BookM → ℕ → ℕ → Result ℕ Refusal
op_region m i k = and_then (op_row m i) (λ o. place o.body.regions k)

-- ---- a block

abbrev pub block_num_arguments : BookM → ℕ → Result ℕ Refusal
block_num_arguments m b = map_ok (λ x. length x.args) (block_row m b)

abbrev pub argument_place : BookM → ℕ → ℕ → Result Definition Refusal
argument_place m b k = and_then (block_row m b) (λ x. place x.args k)

-- the argument k, a value that this block defines
abbrev pub block_argument : BookM → ℕ → ℕ → Result Value Refusal
block_argument m b k = map_ok (value_by (Block b)) (argument_place m b k)

abbrev pub block_num_operations : BookM → ℕ → Result ℕ Refusal
block_num_operations m b = map_ok (λ x. length x.ops) (block_row m b)

-- the operation k, of those that stand in it
abbrev pub block_operation : BookM → ℕ → ℕ → Result ℕ Refusal
block_operation m b k = and_then (block_row m b) (λ x. place x.ops k)

-- ---- a region

abbrev pub region_num_blocks : BookM → ℕ → Result ℕ Refusal
region_num_blocks m r = map_ok (λ x. length x.blocks) (region_row m r)

-- the block k, of those that stand in it
abbrev pub region_block : BookM → ℕ → ℕ → Result ℕ Refusal
region_block m r k = and_then (region_row m r) (λ x. place x.blocks k)

-- the first block, if it has one
abbrev pub region_entry : BookM → ℕ → Result (Option ℕ) Refusal
region_entry m r = map_ok (λ x. slice_get x.blocks 0) (region_row m r)
