-- A list that is read word by word, seen from the middle.
use Rattle.std.proofs.Common.{◌≡◌, List, ◌++◌, Ok, Option}
use Rattle.text.specs.Reading.{line_of, left}
use Rattle.text.specs.declared.cursor.Words.{Words}
use Rattle.reading.specs.Grammar.{Text, Parsed, and_then, many}
use Rattle.reading.specs.declared.problem.Expected.{Expected}

-- what is read goes on with xs
abbrev pub onto : {A : Type 0} → List A → Parsed (List A) → Parsed (List A)
onto xs p = and_then p (λ ys rest. Ok (xs ++ ys, rest))

-- the words go on as those at the start, once xs has been read
pub record Sofar {A : Type 0} (f : Text → Option A) (expected : Expected) (start : Words) (xs : List A) (at : Words) : Type 0 where
  pub same_line : line_of at ≡ line_of start
  pub goes : many f expected (left start) ≡ onto xs (many f expected (left at))
