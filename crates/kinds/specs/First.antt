-- Checks in order: the first fault is the answer.
use Rattle.std.specs.Prelude.{ℕ, zero, suc, Ok, Err, Result}

abbrev pub Check : Type 0 → Type 0
Check E = Result (Unit {0}) E

abbrev pub both : {E : Type 0} → Check E → Check E → Check E
both (Ok _) d = d
both (Err e) d = Err e

-- the checks 0 to n - 1
abbrev pub first_of : {E : Type 0} → (ℕ → Check E) → ℕ → Check E
first_of f zero = Ok tt
first_of f (suc n) = both (first_of f n) (f n)
