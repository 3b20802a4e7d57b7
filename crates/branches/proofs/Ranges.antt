-- What is asked of each number below n.
use Rattle.std.proofs.Common.{◌≡◌, ℕ, ◌<◌, Bool, true, false, length, get_or, Decides, MatchBool, sym, refl, subst, arith}
use Rattle.std.specs.List.{range_with_len, AllWithin, HoldsAt}
use Rattle.std.proofs.lemmas.Bool.{false≢true}
use Rattle.std.proofs.lemmas.List.FromFn.{length-range_with_len, get_or-range_with_len}

below_at : (n k : ℕ) → k < n → get_or (range_with_len 0 n) k 0 ≡ k
below_at n k l = omega (arith, get_or-range_with_len 0 n k 0 l)

pub Decides-below : (P : ℕ → Type 0) (n : ℕ) (r : Bool) → MatchBool r (AllWithin P (range_with_len 0 n) 0 (length (range_with_len 0 n))) ((k : ℕ) × (k < length (range_with_len 0 n)) × HoldsAt (λ i. P i → ⊥) (range_with_len 0 n) k) → Decides r ((i : ℕ) → i < n → P i)
Decides-below P n true h =
    (λ _ i l. subst P (below_at n i l) (h i 0 (omega arith) (omega (arith, length-range_with_len 0 n))), λ _. refl)
Decides-below P n false h =
    let l : h.0 < n = omega (arith, h.1, length-range_with_len 0 n) in
    (λ e. absurd (false≢true e), λ all. absurd (h.2 0 (subst P (sym (below_at n h.0 l)) (all h.0 l))))
