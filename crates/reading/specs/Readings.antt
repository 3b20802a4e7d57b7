-- What a function that reads words of a line promises: it does what a reading of the words says, or finds no memory.
use Rattle.std.specs.Prelude.{◌≡◌, ℕ, true, false, List, [], ◌∷◌, Some, None, Ok, Err, Option, Result}
use Rattle.text.specs.Reading.{line_of, left, Stands}
use Rattle.text.specs.declared.cursor.Word.{Word}
use Rattle.text.specs.declared.cursor.Words.{Words}
use Rattle.reading.specs.Grammar.{Text, Parsed, section_word}
use Rattle.reading.specs.declared.problem.Expected.{Expected}
use Rattle.reading.specs.declared.problem.Problem.{Problem}
use Rattle.reading.specs.declared.problem.ReadError.{ReadError}
use Rattle.reading.specs.declared.problem.ReadError.TheVariants.{Malformed, Memory}

-- the problem is that of the reading: it stands in the line, at the first of the words that the reading blames
pub record Blames {A : Type 0} (line : List ℕ) (reading : Parsed A) (problem : Problem) : Type 0 where
  pub these : List Text
  pub fails : reading ≡ Err (these, problem.expected)
  pub stands : Stands line these problem.found

abbrev pub Refuses : {A : Type 0} → List ℕ → Parsed A → ReadError → Type 0
Refuses line reading (Malformed problem) = Blames line reading problem
Refuses line reading Memory = Unit {0}

pub record Reads {A : Type 0} (line : List ℕ) (reading : Parsed A) (said : A) (after : Words) : Type 0 where
  pub gives : reading ≡ Ok (said, left after)
  pub same_line : line_of after ≡ line

-- `said` is what the result says
abbrev pub Read : {A B : Type 0} → (List Text → Parsed A) → (B → A) → Words → Words → Result B ReadError → Type 0
Read reading said before after (Ok x) = Reads (line_of before) (reading (left before)) (said x) after
Read reading said before after (Err e) = Refuses (line_of before) (reading (left before)) e

-- the result is what the word says, or blames it
abbrev pub Says : {A B : Type 0} → (Text → Option A) → (B → A) → Expected → Word → Result B ReadError → Type 0
Says f said expected word (Ok x) = f word.text.now ≡ Some (said x)
Says f said expected word (Err e) = (f word.text.now ≡ None) × (e ≡ Malformed (record { found = word.span; expected = expected }))

-- no word is left, or P holds of the next
abbrev pub MatchFirst : List Text → (Text → Type 0) → Type 0
MatchFirst [] P = Unit {0}
MatchFirst (w ∷ ws) P = P w

-- no word is left, or the next begins a section
abbrev pub NoItem : List Text → Type 0
NoItem [] = Unit {0}
NoItem (w ∷ ws) = section_word w ≡ true

-- one word is read that begins no section
pub record TakesItem (before after : Words) (word : Word) : Type 0 where
  pub item : section_word word.text.now ≡ false
  pub first : left before ≡ word.text.now ∷ left after
  pub stands : Stands (line_of before) (left before) word.span
