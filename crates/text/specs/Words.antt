-- Where a word of a line stands. A line is a list of bytes, and a word a run of bytes with no blank and no `#` among them.
use Rattle.std.specs.Prelude.{◌≡◌, ℕ, ◌<◌, ◌≤◌, Bool, true, false, cond, not, ◌&&◌, ◌||◌, ◌⊎◌, List, [], ◌∷◌, ◌++◌, length, ◌==◌, slice_index}
use Rattle.text.specs.declared.words.Span.{Span}

-- a blank or a tab
abbrev pub blank : ℕ → Bool
blank b = b == 32 || b == 9

-- neither a blank nor the `#` that begins a comment
abbrev pub in_word : ℕ → Bool
in_word b = not (blank b) && not (b == 35)

-- the test holds of each byte from `low` up to `high`
abbrev pub Holds : (ℕ → Bool) → List ℕ → ℕ → ℕ → Type 0
Holds test line low high = (k : ℕ) → low ≤ k → k < high → test (slice_index line k) ≡ true

-- the first word from `from` on: only blanks stand before it, it lies in the line, and it goes on as far as it can
pub record NextWord (line : List ℕ) (from : ℕ) (word : Span) : Type 0 where
  pub after : from ≤ word.start
  pub skipped : Holds blank line from word.start
  pub some : word.start < word.end
  pub within : word.end ≤ length line
  pub whole : Holds in_word line word.start word.end
  pub ends : word.end < length line → in_word (slice_index line word.end) ≡ false

-- from `from` on there are only blanks, up to the end of the line or a comment
abbrev pub NoWord : List ℕ → ℕ → Type 0
NoWord line from = (stop : ℕ) × (from ≤ stop) × Holds blank line from stop × ((length line ≤ stop) ⊎ (slice_index line stop ≡ 35))

-- a word that has come to its end: none where it has no byte
abbrev pub ended : List ℕ → List (List ℕ)
ended [] = []
ended (b ∷ bs) = (b ∷ bs) ∷ []

-- the words of the bytes, which follow those of a word that has begun
abbrev pub words_after : List ℕ → List ℕ → List (List ℕ)
words_after word [] = ended word
words_after word (b ∷ bs) =
    cond (in_word b) (words_after (word ++ b ∷ []) bs) (ended word ++ cond (b == 35) [] (words_after [] bs))

-- the words of a line, in their order
abbrev pub words : List ℕ → List (List ℕ)
words line = words_after [] line
