-- Checks in order: the first that refuses decides; what they find is handed on.
use Rattle.std.specs.Prelude.{ℕ, zero, suc, ◌+◌, Bool, true, false, ◌&&◌, List, [], ◌∷◌, Ok, Err, Result}
use Rattle.std.specs.List.{slice_get}
use Rattle.std.specs.Option.{ok_or}
use Rattle.ir.specs.declared.refusal.Refusal.{Refusal}
use Rattle.ir.specs.declared.refusal.Refusal.TheVariants.{NoRow, NoValue, OutOfRange}
use Rattle.ir.specs.declared.value.Value.{Value}
use Rattle.ir.specs.declared.value.Operand.{Operand}
use Rattle.model.specs.Model.{OpM, BlockM, RegionM, BookM, type_of}

abbrev pub and_then : {A B : Type 0} → Result A Refusal → (A → Result B Refusal) → Result B Refusal
and_then (Ok a) f = f a
and_then (Err e) f = Err e

abbrev pub demand : Bool → Refusal → Result (Unit {0}) Refusal
demand true e = Ok tt
demand false e = Err e

abbrev pub map_ok : {A B E : Type 0} → (A → B) → Result A E → Result B E
map_ok f (Ok a) = Ok (f a)
map_ok f (Err e) = Err e

abbrev pub every : {X : Type 0} → (X → Bool) → List X → Bool
every t [] = true
every t (x ∷ xs) = t x && every t xs

-- a list with f done at the place i, if there is such a place
abbrev pub edit : {X : Type 0} → List X → ℕ → (X → X) → List X
edit [] i f = []
edit (x ∷ xs) zero f = f x ∷ xs
edit (x ∷ xs) (suc i) f = x ∷ edit xs i f

-- what a call does: where its checks refuse, the refusal and the book as it was; else what they found says the answer and the book after it
abbrev pub steps : {A B : Type 0} → Result A Refusal → (A → B) → (A → BookM) → BookM → Result B Refusal × BookM
steps (Ok a) answer after m = (Ok (answer a), after a)
steps (Err e) answer after m = (Err e, m)

-- ---- look-ups

abbrev pub op_row : BookM → ℕ → Result OpM Refusal
op_row m i = ok_or (slice_get m.ops i) NoRow

abbrev pub block_row : BookM → ℕ → Result BlockM Refusal
block_row m b = ok_or (slice_get m.blocks b) NoRow

abbrev pub region_row : BookM → ℕ → Result RegionM Refusal
region_row m r = ok_or (slice_get m.regions r) NoRow

abbrev pub place : {X : Type 0} → List X → ℕ → Result X Refusal
place xs k = ok_or (slice_get xs k) OutOfRange

-- the type of a value; a value that its row does not define is refused by its number
abbrev pub value_type : BookM → Value → Result ℕ Refusal
value_type m v = ok_or (type_of m v) (NoValue v.val_uid)

-- the operand place that use n of the value makes
abbrev pub operand : BookM → ℕ → Value → Result Operand Refusal
operand m n v = map_ok (λ t. record { value = v; use_uid = n; ty = t }) (value_type m v)

-- the operand places of the values, with uses numbered from n on, or the first value that is not found
abbrev pub operands_of : BookM → ℕ → List Value → Result (List Operand) Refusal
operands_of m n [] = Ok []
operands_of m n (v ∷ vs) = and_then (operand m n v) (λ x. map_ok (λ xs. x ∷ xs) (operands_of m (n + 1) vs))
