-- What a name stands for.
use Rattle.std.specs.Prelude.{ℕ, cond, List, [], ◌∷◌, Some, None, Option}
use Rattle.std.specs.Str.{bytes_eq}
use Rattle.ir.specs.declared.value.DefiningEntity.{DefiningEntity}
use Rattle.session.specs.declared.names.Entry.{Entry}

-- the row of the first entry with this name
abbrev pub row_named : List ℕ → List Entry → Option DefiningEntity
row_named t [] = None
row_named t (e ∷ es) = cond (bytes_eq e.name t) (Some e.row) (row_named t es)
