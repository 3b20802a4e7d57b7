-- What a name is.
use Rattle.std.specs.Prelude.{◌≡◌, ℕ, ◌-◌, ◌≤◌, Bool, true, cond, not, ◌&&◌, ◌||◌, List, ◌++◌, length, take, replicate, Some, None, Option, ◌==◌, nat_le, nat_lt, slice_index}
use Rattle.std.specs.List.{list_all}
use Rattle.std.specs.Str.{bytes_eq}
use Rattle.std.proofs.Common.{sym, ap, ◌∙◌}
use Rattle.std.proofs.Math.Seq.{take-append_seam}
use Rattle.std.proofs.lemmas.Bool.Decides.{same_from_decides, Decides-and, Decides-eqb}
use Rattle.std.proofs.lemmas.Slice.Eq.{bytes_eq-Decides}
use Rattle.text.specs.Numbers.{digit}

-- `A` to `Z`, `a` to `z`, `_` or a digit
abbrev pub in_name : ℕ → Bool
in_name b = (nat_le 65 b && nat_le b 90) || (nat_le 97 b && nat_le b 122) || b == 95 || digit b

-- one to 32 letters, digits or `_`, and the first is no digit
abbrev pub is_name : List ℕ → Bool
is_name word = nat_lt 0 (length word) && nat_le (length word) 32 && list_all in_name word && not (digit (slice_index word 0))

-- the name that a word is
abbrev pub name_of : List ℕ → Option (List ℕ)
name_of word = cond (is_name word) (Some word) None

-- a name and the zeros after it
abbrev pub padded : List ℕ → List ℕ
padded name = name ++ replicate (32 - length name) 0

-- 32 bytes, a name of this size and then zeros
pub record Holds (bytes : List ℕ) (size : ℕ) : Type 0 where
  pub fits : size ≤ 32
  pub whole : length bytes ≡ 32
  pub named : is_name (take size bytes) ≡ true
  pub zeros : bytes ≡ padded (take size bytes)

same_text : (a b : List ℕ) → (padded a ≡ padded b) × (length a ≡ length b) → a ≡ b
same_text a b same =
    sym (take-append_seam a _) ∙ ap (take (length a)) same.0 ∙ ap (λ n. take n (padded b)) same.1 ∙ take-append_seam b _

-- names are equal where their texts are: what `==` tests, with the zeros and then the size, is that
pub same_name : (a b : List ℕ) → (bytes_eq (padded a) (padded b) && length a == length b) ≡ bytes_eq a b
same_name a b =
    let both = Decides-and _ _ (bytes_eq-Decides (padded a) (padded b)) (Decides-eqb (length a) (length b)) in
    same_from_decides {P = a ≡ b} _ _ ((λ h. same_text a b (both.0 h)), (λ h. both.1 (ap padded h, ap length h))) (bytes_eq-Decides a b)
