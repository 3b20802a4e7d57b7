-- A number read digit by digit is the number that the digits write.
use Rattle.std.proofs.Common.{◌≡◌, ℕ, ◌+◌, ◌-◌, ◌*◌, ◌<◌, ◌≤◌, Bool, true, false, cond, ◌&&◌, leb, List, [], ◌∷◌, length, get_or, drop, IfSome, Some, None, Option, refl, arith}
use Rattle.std.proofs.lemmas.List.{at_drop_more, at_drop_all}
use Rattle.std.proofs.lemmas.Bool.{le-leb, lt-leb, leb-true, leb-false, and_parts, cond_both}
use Rattle.std.specs.List.{list_all}
use Rattle.text.specs.Numbers.{digit, followed_by, value, value_after, numeral, number_of}

abbrev pub and_on : Option ℕ → (ℕ → Option ℕ) → Option ℕ
and_on None f = None
and_on (Some n) f = f n

-- the digits are read one by one, after others that write n
abbrev pub read : ℕ → ℕ → List ℕ → Option ℕ
read most n [] = Some n
read most n (b ∷ bs) = and_on (followed_by n b most) (λ m. read most m bs)

grows : (n : ℕ) (bs : List ℕ) → n ≤ value_after n bs
grows n [] = omega arith
grows n (b ∷ bs) = omega (arith, grows (n * 10 + (b - 48)) bs)

abbrev within : ℕ → ℕ → List ℕ → Option ℕ
within most n bs = cond (list_all digit bs && leb (value_after n bs) most) (Some (value_after n bs)) None

-- the bytes after a first one that is a digit or is not, and keeps the number small or does not
step : (most m : ℕ) (bs : List ℕ) (d small : Bool) → (small ≡ true → read most m bs ≡ within most m bs) → (small ≡ false → leb (value_after m bs) most ≡ false) → and_on (cond (d && small) (Some m) None) (λ k. read most k bs) ≡ cond (d && list_all digit bs && leb (value_after m bs) most) (Some (value_after m bs)) None
step most m bs false small same large = refl
step most m bs true true same large = same refl
step most m bs true false same large =
    rw (large refl) (elim (list_all digit bs) as (λ v. ◌≡◌ {A = Option ℕ} None (cond (v && false) (Some (value_after m bs)) None)) [ true ↦ refl | false ↦ refl ])

pub read_is : (most n : ℕ) (bs : List ℕ) → n ≤ most → read most n bs ≡ within most n bs
read_is most n [] h = rw (le-leb n most h) refl
read_is most n (b ∷ bs) h =
    step most (n * 10 + (b - 48)) bs (digit b) (leb (n * 10 + (b - 48)) most)
    (λ e. read_is most (n * 10 + (b - 48)) bs (leb-true _ _ e))
    (λ e. lt-leb _ _ (omega (arith, leb-false _ _ e, grows (n * 10 + (b - 48)) bs)))

pub read_whole : (most : ℕ) (word : List ℕ) → (length word ≡ 0 → ⊥) → read most 0 word ≡ number_of word most
read_whole most [] some = absurd (some refl)
read_whole most (b ∷ bs) some = read_is most 0 (b ∷ bs) (omega arith)

module _ (most n : ℕ) (word : List ℕ) (i : ℕ) where
  pub read_on : (m : ℕ) → i < length word → Some m ≡ followed_by n (get_or word i 0) most → read most m (drop (i + 1) word) ≡ read most n (drop i word)
  read_on m h e = let here = at_drop_more (read most n) word i 0 h in rw (here, ← e) refl

  pub read_stop : i < length word → None ≡ followed_by n (get_or word i 0) most → None ≡ read most n (drop i word)
  read_stop h e = let here = at_drop_more (read most n) word i 0 h in rw (here, ← e) refl

  pub read_end : length word ≤ i → Some n ≡ read most n (drop i word)
  read_end h = rw (at_drop_all (read most n) word i h) refl

pub number_bound : (word : List ℕ) (most : ℕ) (r : Option ℕ) → r ≡ number_of word most → IfSome r (λ n. n ≤ most)
number_bound word most r e =
    rw e (cond_both (numeral word && leb (value word) most) (Some (value word)) None (λ o. IfSome o (λ n. n ≤ most)) (λ t. leb-true _ _ (and_parts _ _ t).1) (λ _. tt))
