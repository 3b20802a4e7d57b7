-- What a statement says, in plain lists.
use Rattle.std.specs.Prelude.{ℕ, List, vec_items, Option}
use Rattle.ir.specs.declared.location.Location.{Location}
use Rattle.text.specs.declared.indexed.Indexed.{Indexed}
use Rattle.text.specs.declared.kinds.KindWord.{KindWord}
use Rattle.reading.specs.Grammar.{Text}
use Rattle.reading.specs.declared.target.Target.{Target}
use Rattle.statements.specs.declared.statement.BlockLine.{BlockLine}
use Rattle.statements.specs.declared.statement.OpLine.{OpLine}
use Rattle.statements.specs.declared.statement.PlaceLine.{PlaceLine}
use Rattle.statements.specs.declared.statement.TypesLine.{TypesLine}

pub record BlockSaid : Type 0 where
  pub name : Text
  pub arguments : List ℕ

pub record OpSaid : Type 0 where
  pub name : Text
  pub kind : KindWord
  pub location : Option Location
  pub results : List ℕ
  pub operands : List Indexed
  pub successors : List Text
  pub regions : ℕ

pub record PlaceSaid : Type 0 where
  pub name : Text
  pub target : Target

abbrev pub types_said : TypesLine → List ℕ
types_said line = vec_items line.ids

abbrev pub block_said : BlockLine → BlockSaid
block_said line = record { name = line.name; arguments = vec_items line.arguments }

abbrev pub op_said : OpLine → OpSaid
op_said line =
    record {
      name = line.name;
      kind = line.kind;
      location = line.location;
      results = vec_items line.results;
      operands = vec_items line.operands;
      successors = vec_items line.successors;
      regions = line.regions;
    }

abbrev pub place_said : PlaceLine → PlaceSaid
place_said line = record { name = line.name; target = line.target }
