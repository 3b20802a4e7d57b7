-- Words of two parts with a mark between them.
use Rattle.std.specs.Prelude.{ℕ, ◌+◌, Bool, not, List, take, drop, ◌==◌}
use Rattle.std.specs.List.{prefix_len}

abbrev pub other_than : ℕ → ℕ → Bool
other_than mark b = not (b == mark)

-- the bytes before the first mark: all where there is none
abbrev pub before : ℕ → List ℕ → List ℕ
before mark word = take (prefix_len (other_than mark) word) word

-- the bytes after the first mark: none where there is none
abbrev pub after : ℕ → List ℕ → List ℕ
after mark word = drop (prefix_len (other_than mark) word + 1) word
