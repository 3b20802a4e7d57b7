-- When two values are one.
use Rattle.std.specs.Prelude.{Bool, false, ◌&&◌, ◌==◌}
use Rattle.ir.specs.declared.value.DefiningEntity.{DefiningEntity}
use Rattle.ir.specs.declared.value.DefiningEntity.TheVariants.{Op, Block}
use Rattle.ir.specs.declared.value.Value.{Value}

abbrev pub same_entity : DefiningEntity → DefiningEntity → Bool
same_entity (Op a) (Op b) = a == b
same_entity (Op a) (Block b) = false
same_entity (Block a) (Op b) = false
same_entity (Block a) (Block b) = a == b

-- the same number, defined by the same row
abbrev pub same_value : Value → Value → Bool
same_value v w = v.val_uid == w.val_uid && same_entity v.defining_entity w.defining_entity
