-- What is read of a value. Refusals: 1 where there is no such row or type, 2 where the value's row does not define it.
use Rattle.std.specs.Prelude.{ℕ, List, Result}
use Rattle.std.specs.List.{slice_get}
use Rattle.std.specs.Option.{ok_or}
use Rattle.ir.specs.declared.refusal.Refusal.{Refusal}
use Rattle.ir.specs.declared.refusal.Refusal.TheVariants.{NoRow, NoValue}
use Rattle.ir.specs.declared.value.DefiningEntity.{DefiningEntity}
use Rattle.ir.specs.declared.value.DefiningEntity.TheVariants.{Op, Block}
use Rattle.ir.specs.declared.value.Value.{Value}
use Rattle.ir.specs.declared.value.Definition.{Definition}
use Rattle.model.specs.Model.{BookM, defined_by}
use Rattle.model.specs.Checks.{map_ok, op_row, block_row, value_type}
use Rattle.uses.specs.declared.error.ValueError.{ValueError}
use Rattle.uses.specs.declared.error.ValueError.TheVariants.{NotInOpResult, NotInBlockArgument}
use Rattle.uses.specs.Find.{index_in}

-- the id that a type handle has
abbrev pub id_of_type : BookM → ℕ → Result ℕ Refusal
id_of_type m t = ok_or (slice_get m.types t) NoRow

-- its place among the results or arguments of its row
abbrev pub value_index : BookM → Value → Result ℕ Refusal
value_index m v = ok_or (index_in (λ d. d.val_uid) v.val_uid (defined_by m v.defining_entity)) (NoValue v.val_uid)

-- the row that defines it
abbrev pub value_entity : BookM → Value → Result DefiningEntity Refusal
value_entity m v = map_ok (λ _. v.defining_entity) (value_type m v)

-- the values of a row
abbrev pub definitions_of : BookM → DefiningEntity → Result (List Definition) Refusal
definitions_of m (Op i) = map_ok (λ o. o.body.results) (op_row m i)
definitions_of m (Block b) = map_ok (λ x. x.args) (block_row m b)

-- why a row lacks a value
abbrev pub lacks : DefiningEntity → ValueError
lacks (Op i) = NotInOpResult
lacks (Block b) = NotInBlockArgument

-- its place, or why its row, which is there, lacks it
abbrev pub try_value_index : BookM → Value → Result (Result ℕ ValueError) Refusal
try_value_index m v = map_ok (λ ds. ok_or (index_in (λ d. d.val_uid) v.val_uid ds) (lacks v.defining_entity)) (definitions_of m v.defining_entity)
