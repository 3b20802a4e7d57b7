-- Numbered lists that grow by one.
use Rattle.std.proofs.Common.{◌≡◌, ℕ, ◌+◌, ◌<◌, List, [], ◌∷◌, ◌++◌, length, get_or, take, sym, refl, ap, ◌∙◌, arith}
use Rattle.std.specs.List.{range_with_len}
use Rattle.std.proofs.lemmas.List.{take_more, length-take-le, map-id}
use Rattle.std.proofs.lemmas.List.FromFn.{map-range_with_len_more}
use Rattle.model.specs.Model.{numbered}

numbered_push : {X Y : Type 0} (f : ℕ → X → Y) (n : ℕ) (xs : List X) (x : X) → numbered f n (xs ++ x ∷ []) ≡ numbered f n xs ++ f (n + length xs) x ∷ []
numbered_push f n [] x = let e : n ≡ n + 0 = omega arith in ap (λ k. f k x ∷ []) e
numbered_push f n (y ∷ ys) x =
    let e : (n + 1) + length ys ≡ n + length (y ∷ ys) = omega arith in
    ap (λ zs. f n y ∷ zs) (numbered_push f (n + 1) ys x ∙ ap (λ k. numbered f (n + 1) ys ++ f k x ∷ []) e)

pub numbered_more : {X Y : Type 0} (f : ℕ → X → Y) (n : ℕ) (xs : List X) (i : ℕ) (d : X) → i < length xs → numbered f n (take (i + 1) xs) ≡ numbered f n (take i xs) ++ f (n + i) (get_or xs i d) ∷ []
numbered_more f n xs i d h =
    ap (numbered f n) (take_more xs i d h) ∙ numbered_push f n (take i xs) (get_or xs i d) ∙ ap (λ k. numbered f n (take i xs) ++ f (n + k) (get_or xs i d) ∷ []) (length-take-le i xs (omega arith))

pub counting_more : (k i : ℕ) → range_with_len k (i + 1) ≡ range_with_len k i ++ (k + i) ∷ []
counting_more k i =
    sym (map-id (range_with_len k (i + 1))) ∙ map-range_with_len_more (λ n. n) k i (k + i) refl ∙ ap (λ ns. ns ++ (k + i) ∷ []) (map-id (range_with_len k i))

-- one more turn of a loop that fills a list ys with what it numbers
pub numbered_step : {X Y : Type 0} (f : ℕ → X → Y) (n : ℕ) (xs : List X) (i : ℕ) (d : X) (k : ℕ) (y : Y) (ys zs : List Y) → i < length xs → ys ≡ numbered f n (take i xs) → k ≡ n + i → y ≡ f k (get_or xs i d) → zs ≡ ys ++ y ∷ [] → zs ≡ numbered f n (take (i + 1) xs)
numbered_step f n xs i d k y ys zs h e p q r = let m = numbered_more f n xs i d h in cc
