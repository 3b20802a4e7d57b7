-- What is left of a line that is read word by word.
use Rattle.std.specs.Prelude.{◌≡◌, ℕ, ◌-◌, ◌≤◌, List, [], ◌∷◌, length, take, drop, Option, MatchOption}
use Rattle.text.specs.Words.{words}
use Rattle.text.specs.declared.cursor.Word.{Word}
use Rattle.text.specs.declared.cursor.Words.{Words}
use Rattle.text.specs.declared.words.Span.{Span}

abbrev pub line_of : Words → List ℕ
line_of w = w.line.now

-- the words that have not been read
abbrev pub left : Words → List (List ℕ)
left w = words (drop w.at (line_of w))

abbrev pub part : List ℕ → Span → List ℕ
part line span = take (span.end - span.start) (drop span.start line)

-- the bytes of the first word, none where there is none
abbrev pub first_of : List (List ℕ) → List ℕ
first_of [] = []
first_of (w ∷ ws) = w

-- the span lies in the line, the words from its start on are these, and it covers the first of them
pub record Stands (line : List ℕ) (these : List (List ℕ)) (span : Span) : Type 0 where
  pub forward : span.start ≤ span.end
  pub within : span.end ≤ length line
  pub begins : words (drop span.start line) ≡ these
  pub covers : part line span ≡ first_of these

-- one word is read
pub record TakesWord (before after : Words) (word : Word) : Type 0 where
  pub first : left before ≡ word.text.now ∷ left after
  pub stands : Stands (line_of before) (left before) word.span

-- the next word is read, or none is left
pub record Next (before : Words) (word : Option Word) (after : Words) : Type 0 where
  pub line : line_of after ≡ line_of before
  pub takes : MatchOption word ((left before ≡ []) × (left after ≡ [])) (TakesWord before after)
