-- Where each element of an edited list stood before.
use Rattle.std.proofs.Common.{◌≡◌, ℕ, zero, suc, ◌+◌, ◌-◌, ◌≤◌, cond, ltb, ◌⊎◌, List, [], ◌∷◌, length, set, Some, refl, ap, inl, inr, ⊎_elim, arith}
use Rattle.std.specs.List.{insert, remove, slice_get}
use Rattle.std.proofs.lemmas.Bool.Decides.{nat_tests}
use Rattle.ir.specs.declared.value.Operand.{Operand}
use Rattle.model.specs.Steps.{all_but_last}
use Rattle.model.proofs.Nths.{none_some}

-- where the element at place j stands after an insertion at i, and after a removal at i
abbrev pub up_from : ℕ → ℕ → ℕ
up_from i j = cond (ltb j i) j (j + 1)

abbrev pub down_from : ℕ → ℕ → ℕ
down_from i j = cond (ltb i j) (j - 1) j

module _ {X : Type 0} where
  pub nth_inserted : (xs : List X) (i : ℕ) (y : X) → i ≤ length xs → (k : ℕ) (x : X) → slice_get (insert xs i y) k ≡ Some x → ((j : ℕ) × (k ≡ up_from i j) × (slice_get xs j ≡ Some x)) ⊎ ((k ≡ i) × (x ≡ y))
  nth_inserted xs zero y h zero x e = inr (refl, cc)
  nth_inserted xs zero y h (suc k) x e = inl (k, grind (arith, nat_tests), e)
  nth_inserted [] (suc i) y h k x e = absurd (omega arith)
  nth_inserted (z ∷ zs) (suc i) y h zero x e = inl (0, grind (arith, nat_tests), e)
  nth_inserted (z ∷ zs) (suc i) y h (suc k) x e = ⊎_elim
      (λ p. inl (suc p.0, grind (arith, nat_tests), p.2))
      (λ p. inr (ap suc p.0, p.1))
      (nth_inserted zs i y (omega arith) k x e)

  pub nth_removed : (xs : List X) (i k : ℕ) (x : X) → slice_get (remove xs i) k ≡ Some x → (j : ℕ) × (k ≡ down_from i j) × (slice_get xs j ≡ Some x)
  nth_removed [] zero k x e = absurd (none_some e)
  nth_removed (z ∷ zs) zero k x e = (suc k, grind (arith, nat_tests), e)
  nth_removed [] (suc i) k x e = absurd (none_some e)
  nth_removed (z ∷ zs) (suc i) zero x e = (0, grind (arith, nat_tests), e)
  nth_removed (z ∷ zs) (suc i) (suc k) x e = let p = nth_removed zs i k x e in (suc p.0, grind (arith, nat_tests), p.2)

  pub nth_set : (xs : List X) (i : ℕ) (y : X) (k : ℕ) (x : X) → slice_get (set xs i y) k ≡ Some x → ((j : ℕ) × (k ≡ j) × (slice_get xs j ≡ Some x)) ⊎ ((k ≡ i) × (x ≡ y))
  nth_set [] i y k x e = absurd (none_some e)
  nth_set (z ∷ zs) zero y zero x e = inr (refl, cc)
  nth_set (z ∷ zs) zero y (suc k) x e = inl (suc k, refl, e)
  nth_set (z ∷ zs) (suc i) y zero x e = inl (0, refl, e)
  nth_set (z ∷ zs) (suc i) y (suc k) x e = ⊎_elim (λ p. inl (suc p.0, ap suc p.1, p.2)) (λ p. inr (ap suc p.0, p.1)) (nth_set zs i y k x e)

pub nth_but_last : (xs : List Operand) (k : ℕ) (x : Operand) → slice_get (all_but_last xs) k ≡ Some x → slice_get xs k ≡ Some x
nth_but_last [] k x e = e
nth_but_last (y ∷ []) k x e = absurd (none_some e)
nth_but_last (y ∷ z ∷ zs) zero x e = e
nth_but_last (y ∷ z ∷ zs) (suc k) x e = nth_but_last (z ∷ zs) k x e

pub length_but_last : (xs : List Operand) → length (all_but_last xs) ≤ length xs
length_but_last [] = omega arith
length_but_last (y ∷ []) = omega arith
length_but_last (y ∷ z ∷ zs) = let h = length_but_last (z ∷ zs) in omega arith
