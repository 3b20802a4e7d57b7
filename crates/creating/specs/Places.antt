-- The operand place of a value that is known to be found.
use Rattle.std.specs.Prelude.{ℕ}
use Rattle.std.specs.Option.{unwrap_or}
use Rattle.ir.specs.declared.value.Value.{Value}
use Rattle.ir.specs.declared.value.Operand.{Operand}
use Rattle.model.specs.Model.{BookM, type_of}

-- use n of the value, with its type; 0 stands for the type of a value that is not found, and none is made of such a one
abbrev pub typed_place : BookM → ℕ → Value → Operand
typed_place m n v = record { value = v; use_uid = n; ty = unwrap_or (type_of m v) 0 }
