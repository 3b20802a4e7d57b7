-- Which numbers a list names.
use Rattle.std.proofs.Common.{◌≡◌, ℕ, zero, suc, true, eqb, List, [], ◌∷◌, ◌++◌, Some, None, Option, sym, refl, ap, subst, ⊎_elim}
use Rattle.std.specs.List.{slice_get}
use Rattle.std.proofs.lemmas.Bool.{eq-eqb, eqb-true, or_left, or_right, or_cases, false≢true}
use Rattle.model.specs.Sound.{is_in, list_at}
use Rattle.model.proofs.Nths.{none_some}

pub is_in_nth : (xs : List ℕ) (k c : ℕ) → slice_get xs k ≡ Some c → is_in c xs ≡ true
is_in_nth [] k c h = absurd (none_some h)
is_in_nth (x ∷ xs) zero c h = or_left (eqb x c) (is_in c xs) (eq-eqb x c (cc))
is_in_nth (x ∷ xs) (suc k) c h = or_right (eqb x c) (is_in c xs) (is_in_nth xs k c h)

pub nth_is_in : (xs : List ℕ) (c : ℕ) → is_in c xs ≡ true → (k : ℕ) × (slice_get xs k ≡ Some c)
nth_is_in [] c h = absurd (false≢true h)
nth_is_in (x ∷ xs) c h =
    ⊎_elim (λ e. (0, ap (λ y. Some y) (eqb-true x c e))) (λ e. let p = nth_is_in xs c e in (suc p.0, p.1)) (or_cases (eqb x c) (is_in c xs) h)

pub is_in_left : (c : ℕ) (xs ys : List ℕ) → is_in c xs ≡ true → is_in c (xs ++ ys) ≡ true
is_in_left c [] ys h = absurd (false≢true h)
is_in_left c (x ∷ xs) ys h =
    ⊎_elim (or_left (eqb x c) (is_in c (xs ++ ys))) (λ e. or_right (eqb x c) (is_in c (xs ++ ys)) (is_in_left c xs ys e)) (or_cases (eqb x c) (is_in c xs) h)

-- what is listed at a place is in a list that stands there
pub listed_there : (c : ℕ) (o : Option (List ℕ)) → is_in c (list_at o) ≡ true → (xs : List ℕ) × (o ≡ Some xs) × (is_in c xs ≡ true)
listed_there c None h = absurd (false≢true h)
listed_there c (Some xs) h = (xs, refl, h)

pub listed_at : (c : ℕ) (o : Option (List ℕ)) (xs : List ℕ) → o ≡ Some xs → is_in c xs ≡ true → is_in c (list_at o) ≡ true
listed_at c o xs e h = subst (λ q. is_in c (list_at q) ≡ true) (sym e) h
