-- Looking for a number in a list, and for the place that a use is. Refusals: 1 where there is no such operation, 10 where no
-- place of it is the use.
use Rattle.std.specs.Prelude.{ℕ, List, Option, Result, ◌==◌}
use Rattle.std.specs.List.{find, enumerate_from, position}
use Rattle.std.specs.Option.{option_map, ok_or}
use Rattle.ir.specs.declared.refusal.Refusal.{Refusal}
use Rattle.ir.specs.declared.refusal.Refusal.TheVariants.{OutOfRange}
use Rattle.ir.specs.declared.value.Operand.{Operand}
use Rattle.ir.specs.declared.value.Use.{Use}
use Rattle.model.specs.Model.{BookM}
use Rattle.model.specs.Checks.{and_then, map_ok, op_row}
use Rattle.uses.specs.declared.error.UseError.{UseError}
use Rattle.uses.specs.Places.{PlaceKind, operand_places}

-- the first that has the number n, with its place
abbrev pub find_in : {X : Type 0} → (X → ℕ) → ℕ → List X → Option (ℕ × X)
find_in uid n xs = find (λ p. uid p.1 == n) (enumerate_from 0 xs)

-- the place alone
abbrev pub index_in : {X : Type 0} → (X → ℕ) → ℕ → List X → Option ℕ
index_in uid n xs = position (λ x. uid x == n) xs

-- the place that is the use u, with its index, if one is
abbrev pub use_place : {P H : Type 0} → PlaceKind P H → BookM → Use P → Result (Option (ℕ × P)) Refusal
use_place kind m u = map_ok (λ o. find_in kind.uid u.use_uid (kind.places o)) (op_row m u.user_op)

-- 10 where none is
abbrev pub used_place : {P H : Type 0} → PlaceKind P H → BookM → Use P → Result (ℕ × P) Refusal
used_place kind m u = and_then (use_place kind m u) (λ p. ok_or p OutOfRange)

abbrev pub use_index : {P H : Type 0} → PlaceKind P H → BookM → Use P → Result ℕ Refusal
use_index kind m u = map_ok (λ p. p.0) (used_place kind m u)

-- its index, or that no place is the use
abbrev pub try_use_index : {P H : Type 0} → PlaceKind P H → BookM → Use P → Result (Result ℕ UseError) Refusal
try_use_index kind m u = map_ok (λ p. ok_or (option_map (λ q. q.0) p) kind.lost) (use_place kind m u)

-- what the place uses: a value or a block
abbrev pub use_def : {P H : Type 0} → PlaceKind P H → BookM → Use P → Result H Refusal
use_def kind m u = map_ok (λ p. kind.held p.1) (used_place kind m u)

-- the type of the value that an operand place holds
abbrev pub use_type : BookM → Use Operand → Result ℕ Refusal
use_type m u = map_ok (λ p. p.1.ty) (used_place operand_places m u)
