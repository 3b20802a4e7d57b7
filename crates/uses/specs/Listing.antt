-- Lists of the uses of one value or block. Refusals: those of the kind's check, where what is used is not there, then 16 where
-- the caller's list is too short.
use Rattle.std.specs.Prelude.{◌≡◌, ℕ, ◌+◌, ◌<◌, ◌⊎◌, List, [], ◌∷◌, ◌++◌, map, length, take, drop, Some, Ok, Err, filter, Result, nat_le}
use Rattle.std.specs.List.{slice_get}
use Rattle.ir.specs.declared.refusal.Refusal.{Refusal}
use Rattle.ir.specs.declared.refusal.Refusal.TheVariants.{ListTooShort}
use Rattle.ir.specs.declared.value.Use.{Use}
use Rattle.model.specs.Model.{OpM, BookM}
use Rattle.model.specs.Checks.{and_then, demand, map_ok}
use Rattle.uses.specs.Places.{PlaceKind, use_by}

-- ---- the listing

-- the uses that the places ps of operation i are, of those that use x
abbrev pub uses_in : {P H : Type 0} → PlaceKind P H → H → ℕ → List P → List (Use P)
uses_in kind x i ps = map (use_by kind i) (filter (kind.test x) ps)

-- the same of all operations, row by row, where rows are counted from i on
abbrev pub uses_from : {P H : Type 0} → PlaceKind P H → H → ℕ → List OpM → List (Use P)
uses_from kind x i [] = []
uses_from kind x i (o ∷ os) = uses_in kind x i (kind.places o) ++ uses_from kind x (i + 1) os

-- the uses of x, listed by row, then place
abbrev pub uses_of : {P H : Type 0} → PlaceKind P H → BookM → H → List (Use P)
uses_of kind m x = uses_from kind x 0 m.ops

abbrev pub num_uses : {P H : Type 0} → PlaceKind P H → BookM → H → Result ℕ Refusal
num_uses kind m x = map_ok (λ _. length (uses_of kind m x)) (kind.check m x)

-- ---- what it is, in the subject's words

-- u is the place k of operation i, and uses x
abbrev pub UseAt : {P H : Type 0} → PlaceKind P H → List OpM → H → ℕ → ℕ → Use P → Type 0
UseAt {P} kind os x i k u = (o : OpM) × (p : P) × (slice_get os i ≡ Some o) × (slice_get (kind.places o) k ≡ Some p) × (kind.held p ≡ x) × (u ≡ use_by kind i p)

-- place k of operation i comes before place l of operation j
abbrev pub Before : ℕ → ℕ → ℕ → ℕ → Type 0
Before i k j l = (i < j) ⊎ ((i ≡ j) × (k < l))

-- us lists just the uses for which Is i k u holds with some place k of some operation i, in the order of row, then place, so
-- none twice
pub record Listing {U : Type 0} (Is : ℕ → ℕ → U → Type 0) (us : List U) : Type 0 where
  pub listed : (n : ℕ) (u : U) → slice_get us n ≡ Some u → (i : ℕ) × (k : ℕ) × Is i k u
  pub all : (i k : ℕ) (u : U) → Is i k u → (n : ℕ) × (slice_get us n ≡ Some u)
  pub ordered : (a b i j k l : ℕ) (u w : U) → a < b → slice_get us a ≡ Some u → slice_get us b ≡ Some w → Is i k u → Is j l w → Before i k j l

-- us are the uses of x: the places that use x, each once, by row, then place
abbrev pub UsesAre : {P H : Type 0} → PlaceKind P H → BookM → H → List (Use P) → Type 0
UsesAre kind m x us = Listing (UseAt kind m.ops x) us

-- ---- into a list of the caller

-- how many there are; 16 where the caller's list, of length n, is shorter
abbrev pub list_check : {U : Type 0} → List U → ℕ → Result ℕ Refusal
list_check us n = map_ok (λ _. length us) (demand (nat_le (length us) n) ListTooShort)

-- how many uses of x are listed in a list of length n
abbrev pub uses_listed : {P H : Type 0} → PlaceKind P H → BookM → H → ℕ → Result ℕ Refusal
uses_listed kind m x n = and_then (kind.check m x) (λ _. list_check (uses_of kind m x) n)

-- the answer stands at the front of the caller's list, and the rest is as it was; all of it where the call is refused
abbrev pub Filled : {U : Type 0} → List U → List U → List U → Result ℕ Refusal → Type 0
Filled us before after (Ok n) = (take n after ≡ us) × (drop n after ≡ drop n before)
Filled us before after (Err e) = after ≡ before
