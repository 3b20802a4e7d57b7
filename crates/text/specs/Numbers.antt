-- What a decimal number is, and what it says.
use Rattle.std.specs.Prelude.{ℕ, ◌+◌, ◌-◌, ◌*◌, Bool, false, cond, ◌&&◌, List, [], ◌∷◌, Some, None, Option, nat_le}
use Rattle.std.specs.List.{list_all}

-- `0` to `9`
abbrev pub digit : ℕ → Bool
digit b = nat_le 48 b && nat_le b 57

-- the number that a digit makes of the digits before it, which write n, where it is at most `most`
abbrev pub followed_by : ℕ → ℕ → ℕ → Option ℕ
followed_by n b most = cond (digit b && nat_le (n * 10 + (b - 48)) most) (Some (n * 10 + (b - 48))) None

-- what the digits say when they follow others that say n
abbrev pub value_after : ℕ → List ℕ → ℕ
value_after n [] = n
value_after n (b ∷ bs) = value_after (n * 10 + (b - 48)) bs

abbrev pub value : List ℕ → ℕ
value bs = value_after 0 bs

-- one digit or more, and nothing else
abbrev pub numeral : List ℕ → Bool
numeral [] = false
numeral (b ∷ bs) = list_all digit (b ∷ bs)

-- the number that the bytes write, where it is at most `most`
abbrev pub number_of : List ℕ → ℕ → Option ℕ
number_of bs most = cond (numeral bs && nat_le (value bs) most) (Some (value bs)) None
