-- The names of kinds as a table, and what its search finds.
use Rattle.std.proofs.Common.{◌≡◌, ℕ, Bool, true, false, cond, List, [], ◌∷◌, map, codes, Some, None, Option, refl, ap, ◌∙◌}
use Rattle.std.specs.List.{find}
use Rattle.std.specs.Option.{option_map}
use Rattle.std.specs.Str.{bytes_eq}
use Rattle.ir.specs.declared.kind.Kind.TheVariants.{Yield, Br, CondBr, If, Loop, Switch}
use Rattle.text.specs.Kinds.{kind_of}
use Rattle.text.specs.Numbers.{number_of}
use Rattle.text.specs.declared.kinds.KindWord.{KindWord}
use Rattle.text.specs.declared.kinds.KindWord.TheVariants.{Plain, Named, Number}

abbrev pub names : List (List ℕ × KindWord)
names =
    (codes "plain", Plain) ∷ (codes "yield", Named Yield) ∷ (codes "br", Named Br) ∷ (codes "cond_br", Named CondBr)
    ∷ (codes "if", Named If) ∷ (codes "loop", Named Loop) ∷ (codes "switch", Named Switch) ∷ []

abbrev or : Option (List ℕ × KindWord) → Option KindWord → Option KindWord
or (Some p) rest = Some p.1
or None rest = rest

-- by the answer of each test in turn
split : (a b c d e f g : Bool) (rest : Option KindWord) →
    or (cond a (Some (codes "plain", Plain)) (cond b (Some (codes "yield", Named Yield)) (cond c (Some (codes "br", Named Br)) (cond d (Some (codes "cond_br", Named CondBr))
    (cond e (Some (codes "if", Named If)) (cond f (Some (codes "loop", Named Loop)) (cond g (Some (codes "switch", Named Switch)) None))))))) rest
    ≡ cond a (Some Plain) (elim (cond b (Some Yield) (cond c (Some Br) (cond d (Some CondBr) (cond e (Some If) (cond f (Some Loop) (cond g (Some Switch) None)))))) [ Some k ↦ Some (Named k) | None ↦ rest ])
split true b c d e f g rest = refl
split false true c d e f g rest = refl
split false false true d e f g rest = refl
split false false false true e f g rest = refl
split false false false false true f g rest = refl
split false false false false false true g rest = refl
split false false false false false false true rest = refl
split false false false false false false false rest = refl

pub named_or : (word : List ℕ) → or (find (λ p. bytes_eq word p.0) names) (option_map Number (number_of word 255)) ≡ kind_of word
named_or word = split (bytes_eq word (codes "plain")) (bytes_eq word (codes "yield")) (bytes_eq word (codes "br")) (bytes_eq word (codes "cond_br")) (bytes_eq word (codes "if")) (bytes_eq word (codes "loop")) (bytes_eq word (codes "switch")) _

module _ {A : Type 0} (read : A → List ℕ × KindWord) (test : List ℕ × KindWord → Bool) where
  tested : (b : Bool) (x : A) (r : Option A) → option_map read (cond b (Some x) r) ≡ cond b (Some (read x)) (option_map read r)
  tested true x r = refl
  tested false x r = refl

  found : (xs : List A) → option_map read (find (λ x. test (read x)) xs) ≡ find test (map read xs)
  found [] = refl
  found (x ∷ xs) = tested (test (read x)) x (find (λ y. test (read y)) xs) ∙ rw (found xs) refl

-- what the search of the table answers, or else the number
pub kind_found : {A : Type 0} (read : A → List ℕ × KindWord) (word : List ℕ) (xs : List A) (r : Option A) → map read xs ≡ names → r ≡ find (λ x. bytes_eq word (read x).0) xs → or (option_map read r) (option_map Number (number_of word 255)) ≡ kind_of word
kind_found read word xs r table is =
    let named = ap (option_map read) is ∙ found read (λ p. bytes_eq word p.0) xs in
    rw (named, table) (named_or word)
