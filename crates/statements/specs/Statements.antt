-- What the words of a statement say.
use Rattle.std.specs.Prelude.{ℕ, List, [], None, Ok, codes, Option}
use Rattle.ir.specs.declared.location.Location.{Location}
use Rattle.text.specs.Indices.{indexed_of}
use Rattle.text.specs.declared.indexed.Indexed.{Indexed}
use Rattle.text.specs.Kinds.{kind_of}
use Rattle.text.specs.Names.{name_of}
use Rattle.reading.specs.Grammar.{Text, Parsed, and_then, first, none, many, section}
use Rattle.reading.specs.Items.{at_of, handle_of, id_of, count_of, in_of}
use Rattle.reading.specs.Targets.{target_of}
use Rattle.statements.specs.Said.{BlockSaid, OpSaid, PlaceSaid}
use Rattle.reading.specs.declared.problem.Expected.{Expected}
use Rattle.reading.specs.declared.problem.Expected.TheVariants as wanted

-- the sections of an operation

-- a line that does not say where its operation was written leaves that open
abbrev pub location_section : List Text → Parsed (Option Location)
location_section ws = section (codes "at") (first at_of wanted.Location) None ws

abbrev pub results_section : List Text → Parsed (List ℕ)
results_section ws = section (codes "results") (many handle_of wanted.TypeHandle) [] ws

abbrev pub operands_section : List Text → Parsed (List Indexed)
operands_section ws = section (codes "operands") (many indexed_of wanted.Value) [] ws

abbrev pub successors_section : List Text → Parsed (List Text)
successors_section ws = section (codes "successors") (many name_of wanted.Name) [] ws

abbrev pub regions_section : List Text → Parsed ℕ
regions_section ws = section (codes "regions") (first count_of wanted.Count) 0 ws

-- the statements, without the word that each begins with

-- nothing follows, or `expected` would have to
abbrev pub ended : {A : Type 0} → Expected → A → List Text → Parsed A
ended expected said ws = and_then (none expected ws) (λ _ rest. Ok (said, rest))

abbrev pub types_line : List Text → Parsed (List ℕ)
types_line ws = and_then (many id_of wanted.TypeId ws) (λ ids. ended wanted.TypeId ids)

abbrev pub block_line : List Text → Parsed BlockSaid
block_line ws =
    and_then (first name_of wanted.Name ws) (λ name ws'.
    and_then (many handle_of wanted.TypeHandle ws') (λ arguments.
    ended wanted.TypeHandle (record { name = name; arguments = arguments })))

abbrev pub op_line : List Text → Parsed OpSaid
op_line ws =
    and_then (first name_of wanted.Name ws) (λ name ws₁.
    and_then (first kind_of wanted.Kind ws₁) (λ kind ws₂.
    and_then (location_section ws₂) (λ location ws₃.
    and_then (results_section ws₃) (λ results ws₄.
    and_then (operands_section ws₄) (λ operands ws₅.
    and_then (successors_section ws₅) (λ successors ws₆.
    and_then (regions_section ws₆) (λ regions.
    ended wanted.Section (record {
      name = name;
      kind = kind;
      location = location;
      results = results;
      operands = operands;
      successors = successors;
      regions = regions;
    }))))))))

abbrev pub place_line : List Text → Parsed PlaceSaid
place_line ws =
    and_then (first name_of wanted.Name ws) (λ name ws₁.
    and_then (first in_of wanted.In ws₁) (λ _ ws₂.
    and_then (first target_of wanted.Target ws₂) (λ target.
    ended wanted.EndOfLine (record { name = name; target = target }))))
