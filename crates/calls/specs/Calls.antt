-- What each call makes of the model book.
use Rattle.std.specs.Prelude.{ℕ, Some, None, vec_items, Option, Result}
use Rattle.ir.specs.Limits.{Limits}
use Rattle.ir.specs.declared.refusal.Refusal.{Refusal}
use Rattle.ir.specs.declared.value.DefiningEntity.{DefiningEntity}
use Rattle.ir.specs.declared.value.DefiningEntity.TheVariants.{Op, Block}
use Rattle.model.specs.Model.{BookM}
use Rattle.model.specs.Checks.{map_ok}
use Rattle.model.specs.Steps.{create_step, block_step, place_op_step, place_block_step}
use Rattle.calls.specs.declared.call.NewOperation.{NewOperation}
use Rattle.calls.specs.declared.call.Call.{Call}
use Rattle.calls.specs.declared.call.Call.TheVariants as call

-- the answer told as the row that was made, if one was
abbrev pub told : {A : Type 0} → (A → Option DefiningEntity) → Result A Refusal × BookM → Result (Option DefiningEntity) Refusal × BookM
told f s = (map_ok f s.0, s.1)

abbrev pub new_operation : Limits → BookM → NewOperation → Result ℕ Refusal × BookM
new_operation L m o = create_step L m o.kind o.location None (vec_items o.result_types) (vec_items o.operands) (vec_items o.successors) o.num_regions

abbrev pub call_step : Limits → BookM → Call → Result (Option DefiningEntity) Refusal × BookM
call_step L m (call.NewOperation o) = told (λ i. Some (Op i)) (new_operation L m o)
call_step L m (call.NewBlock types) = told (λ b. Some (Block b)) (block_step L m (vec_items types))
call_step L m (call.PlaceOperation i b) = told (λ _. None) (place_op_step m i b)
call_step L m (call.PlaceBlock b r) = told (λ _. None) (place_block_step m b r)
