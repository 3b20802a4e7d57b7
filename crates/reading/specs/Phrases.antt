-- What is said of each thing that a line may lack.
use Rattle.std.specs.Prelude.{ℕ, List, codes}
use Rattle.reading.specs.declared.problem.Expected.{Expected}
use Rattle.reading.specs.declared.problem.Expected.TheVariants.{Statement, Name, TypeId, TypeHandle, Kind, Location, Value, Count, Section, In, Target, EndOfLine}

abbrev pub phrase_of : Expected → List ℕ
phrase_of Statement = codes "a statement: types, block, op or place"
phrase_of Name = codes "a name: at most 32 letters, digits or _, and no digit first"
phrase_of TypeId = codes "a type id from 0 to 65535"
phrase_of TypeHandle = codes "a type handle"
phrase_of Kind = codes "a kind: plain, yield, br, cond_br, if, loop, switch or a number from 0 to 255"
phrase_of Location = codes "a location: LINE:COLUMN or -"
phrase_of Value = codes "a value: NAME.K"
phrase_of Count = codes "a number of regions"
phrase_of Section = codes "a later section (at, results, operands, successors, regions) or the end of the line"
phrase_of In = codes "in"
phrase_of Target = codes "a block: NAME, or a region: NAME.K"
phrase_of EndOfLine = codes "the end of the line"
