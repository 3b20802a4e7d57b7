-- What a whole line says.
use Rattle.std.specs.Prelude.{◌≡◌, ℕ, cond, List, [], ◌∷◌, Some, None, Ok, Err, codes, Option, Result}
use Rattle.std.specs.Str.{bytes_eq}
use Rattle.std.specs.Option.{option_map}
use Rattle.text.specs.Words.{words}
use Rattle.reading.specs.Grammar.{Text, Parsed, and_then}
use Rattle.reading.specs.Readings.{Refuses}
use Rattle.statements.specs.Said.{BlockSaid, OpSaid, PlaceSaid, types_said, block_said, op_said, place_said}
use Rattle.statements.specs.Statements.{types_line, block_line, op_line, place_line}
use Rattle.reading.specs.declared.problem.Expected.TheVariants as wanted
use Rattle.reading.specs.declared.problem.ReadError.{ReadError}
use Rattle.statements.specs.declared.statement.Statement.{Statement}
use Rattle.statements.specs.declared.statement.Statement.TheVariants.{Types, Block, Op, Place}

pub data StatementSaid : Type 0 where
  types : List ℕ → StatementSaid
  block : BlockSaid → StatementSaid
  op : OpSaid → StatementSaid
  place : PlaceSaid → StatementSaid

abbrev pub statement_said : Statement → StatementSaid
statement_said (Types line) = types (types_said line)
statement_said (Block line) = block (block_said line)
statement_said (Op line) = op (op_said line)
statement_said (Place line) = place (place_said line)

abbrev pub saying : {A B : Type 0} → (A → B) → Parsed A → Parsed B
saying said p = and_then p (λ a rest. Ok (said a, rest))

-- the first word tells which statement it is
abbrev pub statement_line : List Text → Parsed StatementSaid
statement_line [] = Err ([], wanted.Statement)
statement_line (w ∷ ws) =
    cond (bytes_eq w (codes "types")) (saying types (types_line ws))
    (cond (bytes_eq w (codes "block")) (saying block (block_line ws))
    (cond (bytes_eq w (codes "op")) (saying op (op_line ws))
    (cond (bytes_eq w (codes "place")) (saying place (place_line ws))
    (Err (w ∷ ws, wanted.Statement)))))

-- a line without words says nothing
abbrev pub whole_line : List Text → Parsed (Option StatementSaid)
whole_line [] = Ok (None, [])
whole_line (w ∷ ws) = saying Some (statement_line (w ∷ ws))

abbrev pub ReadsLine : List ℕ → Result (Option Statement) ReadError → Type 0
ReadsLine line (Ok s) = whole_line (words line) ≡ Ok (option_map statement_said s, [])
ReadsLine line (Err e) = Refuses line (whole_line (words line)) e
