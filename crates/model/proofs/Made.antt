-- What stands at a place of a list of new things: numbered, repeated, counted.
use Rattle.std.proofs.Common.{◌≡◌, ℕ, zero, suc, ◌+◌, ◌<◌, List, [], ◌∷◌, map, length, replicate, Some, refl, ap, ◌∙◌, arith}
use Rattle.std.specs.List.{range_with_len, slice_get}
use Rattle.model.specs.Model.{numbered}
use Rattle.model.proofs.Nths.{none_some}

module _ {X Y : Type 0} (f : ℕ → X → Y) where
  pub length_numbered : (n : ℕ) (xs : List X) → length (numbered f n xs) ≡ length xs
  length_numbered n [] = refl
  length_numbered n (x ∷ xs) = ap suc (length_numbered (n + 1) xs)

  pub nth_numbered : (n : ℕ) (xs : List X) (k : ℕ) (y : Y) → slice_get (numbered f n xs) k ≡ Some y → (x : X) × (slice_get xs k ≡ Some x) × (y ≡ f (n + k) x)
  nth_numbered n [] k y h = absurd (none_some h)
  nth_numbered n (x ∷ xs) zero y h = let e : n + 0 ≡ n = omega arith in (x, refl, cc)
  nth_numbered n (x ∷ xs) (suc k) y h =
      let p = nth_numbered (n + 1) xs k y h in
      (p.0, p.1, p.2 ∙ ap (λ m. f m p.0) (omega arith))

module _ {X : Type 0} where
  pub nth_replicate : (n : ℕ) (x : X) (k : ℕ) (y : X) → slice_get (replicate n x) k ≡ Some y → y ≡ x
  nth_replicate zero x k y h = absurd (none_some h)
  nth_replicate (suc n) x zero y h = cc
  nth_replicate (suc n) x (suc k) y h = nth_replicate n x k y h

  pub nth_repeated : (n : ℕ) (x : X) (k : ℕ) → k < n → slice_get (replicate n x) k ≡ Some x
  nth_repeated zero x k h = absurd (omega arith)
  nth_repeated (suc n) x zero h = refl
  nth_repeated (suc n) x (suc k) h = nth_repeated n x k (omega arith)

  pub map_replicate : {Y : Type 0} (f : X → Y) (n : ℕ) (x : X) → map f (replicate n x) ≡ replicate n (f x)
  map_replicate f zero x = refl
  map_replicate f (suc n) x = ap (λ ys. f x ∷ ys) (map_replicate f n x)

pub nth_counting : (a n k c : ℕ) → slice_get (range_with_len a n) k ≡ Some c → (c ≡ a + k) × (k < n)
nth_counting a zero k c h = absurd (none_some h)
nth_counting a (suc n) zero c h = let e : a ≡ c = cc in (omega arith, omega arith)
nth_counting a (suc n) (suc k) c h = let p = nth_counting (a + 1) n k c h in (omega arith, omega arith)

pub nth_counted : (a n k : ℕ) → k < n → slice_get (range_with_len a n) k ≡ Some (a + k)
nth_counted a zero k h = absurd (omega arith)
nth_counted a (suc n) zero h = ap (λ x. Some x) (omega arith)
nth_counted a (suc n) (suc k) h = nth_counted (a + 1) n k (omega arith) ∙ ap (λ x. Some x) (omega arith)
