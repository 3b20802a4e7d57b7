-- What a name with an index is, as `start.0`.
use Rattle.std.specs.Prelude.{ℕ, ◌-◌, ◌^◌, List, ◌∷◌, ◌++◌, Some, None, Option, decimal}
use Rattle.std.specs.Option.{option_map}
use Rattle.text.specs.Marks.{before, after}
use Rattle.text.specs.Names.{name_of}
use Rattle.text.specs.Numbers.{number_of}
use Rattle.text.specs.declared.indexed.Indexed.{Indexed}

-- the index after the first dot
abbrev pub index_of : List ℕ → Option ℕ
index_of word = number_of (after 46 word) (2 ^ 64 - 1)

-- a name, a dot and a number
abbrev pub indexed_of : List ℕ → Option Indexed
indexed_of word = elim (name_of (before 46 word)) [ Some name ↦ option_map (λ k. record { name = name; index = k }) (index_of word) | None ↦ None ]

-- how it is written: the name, a dot and the index in decimal digits
abbrev pub shown : Indexed → List ℕ
shown x = x.name ++ 46 ∷ decimal x.index
