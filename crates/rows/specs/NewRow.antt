-- What a new row of an operation is made of.
use Rattle.std.specs.Prelude.{◌≤◌, length, None}
use Rattle.ir.specs.Limits.{limits}
use Rattle.model.specs.Model.{OpM, new_op}
use Rattle.ir.specs.declared.value.Operand.{Operand}
use Rattle.rows.specs.declared.operation.new_row.NewOperation.{NewOperation}
use Rattle.rows.specs.declared.operation.new_row.FirstNumbers.{FirstNumbers}

-- no more of each than one operation may have
abbrev pub IsFew : {V : Type 0} → NewOperation V → Type 0
IsFew new = (length new.result_types.now ≤ limits.results) × ((length new.operands.now ≤ limits.operands) × ((length new.successors.now ≤ limits.successors) × (new.num_regions ≤ limits.op_regions)))

-- numbers that a book may give
abbrev pub IsLow : FirstNumbers → Type 0
IsLow first = (first.value ≤ limits.uses) × ((first.block_use ≤ limits.uses) × (first.region ≤ limits.regions))

-- the operation, numbered from these numbers on
abbrev pub row_model : NewOperation Operand → FirstNumbers → OpM
row_model new first = new_op new.kind new.location None new.result_types.now new.operands.now new.successors.now new.num_regions first.value first.block_use first.region
