-- A loop over checks: it goes on while each check passes, and stops at the first fault.
use Rattle.std.proofs.Common.{◌≡◌, ℕ, zero, suc, ◌+◌, ◌<◌, Ok, Err, sym, refl, ap, ◌∙◌, ⊎_elim, add-one, arith, rules}
use Rattle.std.proofs.lemmas.Bool.{cases_lt}
use Rattle.kinds.specs.First.{Check, both, first_of}

-- what passed together passed each
pub both_passed : {E : Type 0} (c d : Check E) → both c d ≡ Ok tt → (c ≡ Ok tt) × (d ≡ Ok tt)
both_passed (Ok tt) d h = (refl, h)
both_passed (Err e) d h = absurd (search rules)

module _ {E : Type 0} (f : ℕ → Check E) where
  pub first_more : (i : ℕ) → first_of f i ≡ Ok tt → f i ≡ Ok tt → first_of f (i + 1) ≡ Ok tt
  first_more i a b = rw add-one (ap (λ (c : Check E). both c (f i)) a ∙ b)

  first_stop : (i n : ℕ) (e : E) → i < n → first_of f i ≡ Ok tt → f i ≡ Err e → first_of f n ≡ Err e
  first_stop i zero e h a b = absurd (omega arith)
  first_stop i (suc n) e h a b =
      ⊎_elim
      (λ lt. ap (λ (c : Check E). both c (f n)) (first_stop i n e lt a b))
      (λ ge. let same : i ≡ n = omega arith in rw (← same) (ap (λ (c : Check E). both c (f i)) a ∙ b))
      (cases_lt i n)

  -- as a function's answer is stated: k is what the loop counts to
  pub first_stops : (i k n : ℕ) (e : E) → i < k → k ≡ n → first_of f i ≡ Ok tt → Err e ≡ f i → Err e ≡ first_of f n
  first_stops i k n e h s a b = rw (← s) (sym (first_stop i k e h a (sym b)))

  -- what passed as a whole passed at each place
  pub first_each : (n i : ℕ) → first_of f n ≡ Ok tt → i < n → f i ≡ Ok tt
  first_each zero i h l = absurd (omega arith)
  first_each (suc n) i h l =
      let p = both_passed (first_of f n) (f n) h in
      ⊎_elim (λ lt. first_each n i p.0 lt) (λ ge. let same : n ≡ i = omega arith in rw (← same) p.1) (cases_lt i n)
