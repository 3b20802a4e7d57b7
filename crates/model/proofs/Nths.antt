-- What stands at a place of a list that was made longer, changed at one place, or mapped.
use Rattle.std.proofs.Common.{◌≡◌, ℕ, zero, suc, ◌+◌, ◌⊎◌, List, [], ◌∷◌, ◌++◌, map, length, Some, None, Option, sym, refl, ap, ◌∙◌, subst, inl, inr, ⊎_elim, arith}
use Rattle.std.specs.List.{slice_get}
use Rattle.std.specs.Option.{option_map}
pub use Rattle.std.proofs.lemmas.Option.{slice_get_within as nth_below}
use Rattle.std.proofs.lemmas.Option.{none-some, slice_get-map}
use Rattle.model.specs.Checks.{edit}

pub none_some : {X : Type 0} {x : X} → ◌≡◌ {A = Option X} None (Some x) → ⊥
none_some {X} {x} h = none-some x h

pub some_is : {X : Type 0} {x y : X} {o : Option X} → o ≡ Some x → o ≡ Some y → x ≡ y
some_is p q = cc

module _ {X : Type 0} where
  -- ---- longer lists

  pub nth_left : (xs ys : List X) (i : ℕ) (x : X) → slice_get xs i ≡ Some x → slice_get (xs ++ ys) i ≡ Some x
  nth_left [] ys i x h = absurd (none_some h)
  nth_left (z ∷ zs) ys zero x h = h
  nth_left (z ∷ zs) ys (suc i) x h = nth_left zs ys i x h

  pub nth_right : (xs ys : List X) (i j : ℕ) → i ≡ length xs + j → slice_get (xs ++ ys) i ≡ slice_get ys j
  nth_right [] ys i j h = ap (slice_get ys) (omega arith)
  nth_right (z ∷ zs) ys zero j h = absurd (omega arith)
  nth_right (z ∷ zs) ys (suc i) j h = nth_right zs ys i j (omega arith)

  pub nth_append : (xs ys : List X) (i : ℕ) (x : X) → slice_get (xs ++ ys) i ≡ Some x → (slice_get xs i ≡ Some x) ⊎ ((j : ℕ) × (i ≡ length xs + j) × (slice_get ys j ≡ Some x))
  nth_append [] ys i x h = inr (i, omega arith, h)
  nth_append (z ∷ zs) ys zero x h = inl h
  nth_append (z ∷ zs) ys (suc i) x h = ⊎_elim inl (λ p. inr (p.0, omega (arith, p.1), p.2)) (nth_append zs ys i x h)

  pub nth_one : (y : X) (i : ℕ) (x : X) → slice_get (y ∷ []) i ≡ Some x → (i ≡ 0) × (x ≡ y)
  nth_one y zero x h = (refl, cc)
  nth_one y (suc i) x h = absurd (none_some h)

  pub nth_push : (xs : List X) (y : X) (i : ℕ) (x : X) → slice_get (xs ++ y ∷ []) i ≡ Some x → (slice_get xs i ≡ Some x) ⊎ ((i ≡ length xs) × (x ≡ y))
  nth_push xs y i x h =
      ⊎_elim inl (λ p. let q = nth_one y p.0 x p.2 in inr (omega (arith, p.1, q.0), q.1)) (nth_append xs (y ∷ []) i x h)

  pub nth_push_at : (xs : List X) (y : X) (i : ℕ) → (slice_get (xs ++ y ∷ []) i ≡ slice_get xs i) ⊎ ((i ≡ length xs) × (slice_get (xs ++ y ∷ []) i ≡ Some y))
  nth_push_at [] y zero = inr (refl, refl)
  nth_push_at [] y (suc i) = inl refl
  nth_push_at (z ∷ zs) y zero = inl refl
  nth_push_at (z ∷ zs) y (suc i) = ⊎_elim inl (λ p. inr (ap suc p.0, p.1)) (nth_push_at zs y i)

  pub nth_end : (xs : List X) (y : X) → slice_get (xs ++ y ∷ []) (length xs) ≡ Some y
  nth_end xs y = nth_right xs (y ∷ []) (length xs) 0 (omega arith)

  -- ---- a change at one place

  pub length_edit : (xs : List X) (i : ℕ) (f : X → X) → length (edit xs i f) ≡ length xs
  length_edit [] i f = refl
  length_edit (x ∷ xs) zero f = refl
  length_edit (x ∷ xs) (suc i) f = ap suc (length_edit xs i f)

  pub nth_edit_same : (xs : List X) (i : ℕ) (f : X → X) (x : X) → slice_get xs i ≡ Some x → slice_get (edit xs i f) i ≡ Some (f x)
  nth_edit_same [] i f x h = absurd (none_some h)
  nth_edit_same (y ∷ ys) zero f x h = cc
  nth_edit_same (y ∷ ys) (suc i) f x h = nth_edit_same ys i f x h

  pub nth_edit_other : (xs : List X) (i j : ℕ) (f : X → X) → (j ≡ i → ⊥) → slice_get (edit xs i f) j ≡ slice_get xs j
  nth_edit_other [] i j f h = refl
  nth_edit_other (y ∷ ys) zero zero f h = absurd (h refl)
  nth_edit_other (y ∷ ys) zero (suc j) f h = refl
  nth_edit_other (y ∷ ys) (suc i) zero f h = refl
  nth_edit_other (y ∷ ys) (suc i) (suc j) f h = nth_edit_other ys i j f (λ e. h (ap suc e))

  -- where an element comes from: it is the one that was changed, or as it was
  pub nth_edit : (xs : List X) (i j : ℕ) (f : X → X) (y : X) → slice_get (edit xs i f) j ≡ Some y → ((x : X) × (j ≡ i) × (slice_get xs j ≡ Some x) × (y ≡ f x)) ⊎ ((j ≡ i → ⊥) × (slice_get xs j ≡ Some y))
  nth_edit [] i j f y h = absurd (none_some h)
  nth_edit (x ∷ xs) zero zero f y h = inl (x, refl, refl, cc)
  nth_edit (x ∷ xs) zero (suc j) f y h = inr (omega arith, h)
  nth_edit (x ∷ xs) (suc i) zero f y h = inr (omega arith, h)
  nth_edit (x ∷ xs) (suc i) (suc j) f y h =
      ⊎_elim (λ p. inl (p.0, ap suc p.1, p.2, p.3)) (λ p. inr (λ e. p.0 (omega arith), p.1)) (nth_edit xs i j f y h)

-- ---- what holds of each element

module _ {X : Type 0} (P : X → Type 0) (xs : List X) (h : (i : ℕ) (x : X) → slice_get xs i ≡ Some x → P x) where
  pub each_push : (y : X) → P y → (i : ℕ) (x : X) → slice_get (xs ++ y ∷ []) i ≡ Some x → P x
  each_push y p i x e = ⊎_elim (h i x) (λ q. subst P (sym q.1) p) (nth_push xs y i x e)

  pub each_edit : (i : ℕ) (g : X → X) → ((x : X) → slice_get xs i ≡ Some x → P (g x)) → (j : ℕ) (y : X) → slice_get (edit xs i g) j ≡ Some y → P y
  each_edit i g p j y e = ⊎_elim (λ q. subst P (sym q.3) (p q.0 (cc (q.1, q.2)))) (λ q. h j y q.1) (nth_edit xs i j g y e)

-- ---- maps

module _ {X Y : Type 0} (f : X → Y) where
  pub nth_mapped : (xs : List X) (i : ℕ) (x : X) → slice_get xs i ≡ Some x → slice_get (map f xs) i ≡ Some (f x)
  nth_mapped xs i x h = slice_get-map f xs i ∙ ap (option_map f) h

  pub nth_map : (xs : List X) (i : ℕ) (y : Y) → slice_get (map f xs) i ≡ Some y → (x : X) × (slice_get xs i ≡ Some x) × (y ≡ f x)
  nth_map [] i y h = absurd (none_some h)
  nth_map (x ∷ xs) zero y h = (x, refl, cc)
  nth_map (x ∷ xs) (suc i) y h = nth_map xs i y h

  -- a change that f does not see
  pub map_edit_same : (g : X → X) → ((x : X) → f (g x) ≡ f x) → (xs : List X) (i : ℕ) → map f (edit xs i g) ≡ map f xs
  map_edit_same g e [] i = refl
  map_edit_same g e (x ∷ xs) zero = ap (λ y. y ∷ map f xs) (e x)
  map_edit_same g e (x ∷ xs) (suc i) = ap (λ ys. f x ∷ ys) (map_edit_same g e xs i)

  -- a change that f sees as h
  pub map_edit : (g : X → X) (h : Y → Y) → ((x : X) → f (g x) ≡ h (f x)) → (xs : List X) (i : ℕ) → map f (edit xs i g) ≡ edit (map f xs) i h
  map_edit g h e [] i = refl
  map_edit g h e (x ∷ xs) zero = ap (λ y. y ∷ map f xs) (e x)
  map_edit g h e (x ∷ xs) (suc i) = ap (λ ys. f x ∷ ys) (map_edit g h e xs i)

-- what F says of a place, where the change does not matter to it
pub nth_edit_at : {X Y : Type 0} (F : Option X → Y) (g : X → X) → ((x : X) → F (Some (g x)) ≡ F (Some x)) → (xs : List X) (i j : ℕ) → F (slice_get (edit xs i g) j) ≡ F (slice_get xs j)
nth_edit_at F g e [] i j = refl
nth_edit_at F g e (x ∷ xs) zero zero = e x
nth_edit_at F g e (x ∷ xs) zero (suc j) = refl
nth_edit_at F g e (x ∷ xs) (suc i) zero = refl
nth_edit_at F g e (x ∷ xs) (suc i) (suc j) = nth_edit_at F g e xs i j
