-- The words that begin a section, as a list.
use Rattle.std.proofs.Common.{◌≡◌, Bool, true, false, ◌||◌, List, [], ◌∷◌, map, codes, refl, sym, ◌∙◌}
use Rattle.std.specs.List.{list_any}
use Rattle.std.specs.Str.{bytes_eq}
use Rattle.reading.specs.Grammar.{Text, section_word}

abbrev pub keys : List Text
keys = codes "at" ∷ codes "results" ∷ codes "operands" ∷ codes "successors" ∷ codes "regions" ∷ []

any_read : {A : Type 0} (read : A → Text) (test : Text → Bool) (xs : List A) → list_any (λ x. test (read x)) xs ≡ list_any test (map read xs)
any_read read test [] = refl
any_read read test (x ∷ xs) = rw (any_read read test xs) refl

regrouped : (a b c d e : Bool) → (a || b || c || d || e) ≡ list_any (λ x. x) (a ∷ b ∷ c ∷ d ∷ e ∷ [])
regrouped true b c d e = refl
regrouped false true c d e = refl
regrouped false false true d e = refl
regrouped false false false true e = refl
regrouped false false false false true = refl
regrouped false false false false false = refl

-- the same where the bytes of each stand behind a reference
pub any_key : {A : Type 0} (read : A → Text) (word : Text) (xs : List A) → map read xs ≡ keys → list_any (λ x. bytes_eq word (read x)) xs ≡ section_word word
any_key read word xs is =
    let tests = regrouped (bytes_eq word (codes "at")) (bytes_eq word (codes "results")) (bytes_eq word (codes "operands")) (bytes_eq word (codes "successors")) (bytes_eq word (codes "regions")) in
    any_read read (bytes_eq word) xs ∙ rw is (sym tests)
