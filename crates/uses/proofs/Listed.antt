-- The listing, row by row and place by place, is a list of the uses in the sense of `Listing`.
use Rattle.std.proofs.Common.{◌≡◌, ℕ, zero, suc, ◌+◌, ◌<◌, Bool, true, false, cond, List, [], ◌∷◌, map, length, Some, Decides, filter, sym, refl, ap, ◌∙◌, subst, inl, inr, ⊎_elim, arith}
use Rattle.std.specs.List.{slice_get}
use Rattle.ir.specs.declared.value.Use.{Use}
use Rattle.model.specs.Model.{OpM, BookM}
use Rattle.model.proofs.Nths.{none_some, some_is, nth_below, nth_left, nth_right, nth_append}
use Rattle.uses.specs.Places.{PlaceKind, use_by}
use Rattle.uses.specs.Listing.{uses_in, uses_from, uses_of, UseAt, Before, UsesAre}

-- ---- one row: what is kept of its places

module _ {P U : Type 0} (test : P → Bool) (made : P → U) where
  -- u is made of the place k, which passes
  Kept : List P → ℕ → U → Type 0
  Kept ps k u = (p : P) × (slice_get ps k ≡ Some p) × (test p ≡ true) × (u ≡ made p)

  -- what the first place comes to
  front : P → List P → Bool → List U
  front p ps b = map made (cond b (p ∷ filter test ps) (filter test ps))

  from : (ps : List P) (n : ℕ) (u : U) → slice_get (map made (filter test ps)) n ≡ Some u → (k : ℕ) × Kept ps k u
  unfolding Kept front
  from [] n u h = absurd (none_some h)
  from (p ∷ ps) zero u h =
      elim (test p) as (λ b. test p ≡ b → slice_get (front p ps b) 0 ≡ Some u → (k : ℕ) × Kept (p ∷ ps) k u) [
        | true ↦ λ e g. (0, (p, refl, e, cc))
        | false ↦ λ e g. let r = from ps 0 u g in (suc r.0, r.1)
      ] refl h
  from (p ∷ ps) (suc n) u h =
      elim (test p) as (λ b. test p ≡ b → slice_get (front p ps b) (suc n) ≡ Some u → (k : ℕ) × Kept (p ∷ ps) k u) [
        | true ↦ λ e g. let r = from ps n u g in (suc r.0, r.1)
        | false ↦ λ e g. let r = from ps (suc n) u g in (suc r.0, r.1)
      ] refl h

  into : (ps : List P) (k : ℕ) (u : U) → Kept ps k u → (n : ℕ) × (slice_get (map made (filter test ps)) n ≡ Some u)
  unfolding Kept front
  into [] k u h = absurd (none_some h.1)
  into (p ∷ ps) zero u h =
      elim (test p) as (λ b. test p ≡ b → (n : ℕ) × (slice_get (front p ps b) n ≡ Some u)) [
        | true ↦ λ e. (0, let q = some_is refl h.1 in cc)
        | false ↦ λ e. absurd (let q : p ≡ h.0 = some_is refl h.1 in let z : true ≡ false = sym h.2 ∙ (ap test (sym q) ∙ e) in let y : ◌≡◌ {A = ℕ} 0 1 = cc in omega arith)
      ] refl
  into (p ∷ ps) (suc k) u h =
      let r = into ps k u h in
      elim (test p) as (λ b. test p ≡ b → (n : ℕ) × (slice_get (front p ps b) n ≡ Some u)) [
        | true ↦ λ e. (suc r.0, r.1)
        | false ↦ λ e. (r.0, r.1)
      ] refl

  order : (ps : List P) (a b : ℕ) (u w : U) → a < b → slice_get (map made (filter test ps)) a ≡ Some u → slice_get (map made (filter test ps)) b ≡ Some w → (k : ℕ) × (l : ℕ) × (k < l) × Kept ps k u × Kept ps l w
  unfolding Kept front
  order [] a b u w lt h g = absurd (none_some h)
  order (p ∷ ps) a zero u w lt h g = absurd (omega arith)
  order (p ∷ ps) zero (suc b) u w lt h g =
      elim (test p) as (λ x. test p ≡ x → slice_get (front p ps x) 0 ≡ Some u → slice_get (front p ps x) (suc b) ≡ Some w → (k : ℕ) × (l : ℕ) × (k < l) × Kept (p ∷ ps) k u × Kept (p ∷ ps) l w) [
        | true ↦ λ e i j. let r = from ps b w j in (0, suc r.0, omega arith, (p, refl, e, cc), r.1)
        | false ↦ λ e i j. let r = order ps 0 (suc b) u w (omega arith) i j in (suc r.0, suc r.1, omega (arith, r.2), r.3, r.4)
      ] refl h g
  order (p ∷ ps) (suc a) (suc b) u w lt h g =
      elim (test p) as (λ x. test p ≡ x → slice_get (front p ps x) (suc a) ≡ Some u → slice_get (front p ps x) (suc b) ≡ Some w → (k : ℕ) × (l : ℕ) × (k < l) × Kept (p ∷ ps) k u × Kept (p ∷ ps) l w) [
        | true ↦ λ e i j. let r = order ps a b u w (omega arith) i j in (suc r.0, suc r.1, omega (arith, r.2), r.3, r.4)
        | false ↦ λ e i j. let r = order ps (suc a) (suc b) u w (omega arith) i j in (suc r.0, suc r.1, omega (arith, r.2), r.3, r.4)
      ] refl h g

-- ---- all rows, counted from i on

module _ {P H : Type 0} (kind : PlaceKind P H) (x : H) where
  -- u is made of the place k of the j-th row
  At : ℕ → List OpM → ℕ → ℕ → Use P → Type 0
  At i os j k u = (o : OpM) × (p : P) × (slice_get os j ≡ Some o) × (slice_get (kind.places o) k ≡ Some p) × (kind.test x p ≡ true) × (u ≡ use_by kind (i + j) p)

  -- in the first row, and in a later one
  first : (i : ℕ) (o : OpM) (os : List OpM) (k : ℕ) (u : Use P) → Kept (kind.test x) (use_by kind i) (kind.places o) k u → At i (o ∷ os) 0 k u
  unfolding At Kept
  first i o os k u h = (o, h.0, refl, h.1, h.2, h.3 ∙ ap (λ r. use_by kind r h.0) (omega arith))

  next : (i : ℕ) (o : OpM) (os : List OpM) (j k : ℕ) (u : Use P) → At (i + 1) os j k u → At i (o ∷ os) (suc j) k u
  unfolding At
  next i o os j k u h = (h.0, h.1, h.2, h.3, h.4, h.5 ∙ ap (λ r. use_by kind r h.1) (omega arith))

  rows_from : (i : ℕ) (os : List OpM) (n : ℕ) (u : Use P) → slice_get (uses_from kind x i os) n ≡ Some u → (j : ℕ) × (k : ℕ) × At i os j k u
  rows_from i [] n u h = absurd (none_some h)
  rows_from i (o ∷ os) n u h =
      ⊎_elim
      (λ e. let r = from (kind.test x) (use_by kind i) (kind.places o) n u e in (0, r.0, first i o os r.0 u r.1))
      (λ e. let r = rows_from (i + 1) os e.0 u e.2 in (suc r.0, r.1, next i o os r.0 r.1 u r.2))
      (nth_append (uses_in kind x i (kind.places o)) (uses_from kind x (i + 1) os) n u h)

  rows_into : (i : ℕ) (os : List OpM) (j k : ℕ) (u : Use P) → At i os j k u → (n : ℕ) × (slice_get (uses_from kind x i os) n ≡ Some u)
  unfolding At Kept
  rows_into i [] j k u h = absurd (none_some h.2)
  rows_into i (o ∷ os) zero k u h =
      let q : o ≡ h.0 = some_is refl h.2 in
      let r = into (kind.test x) (use_by kind i) (kind.places o) k u (h.1, ap (λ z. slice_get (kind.places z) k) q ∙ h.3, h.4, h.5 ∙ ap (λ z. use_by kind z h.1) (omega arith)) in
      (r.0, nth_left (uses_in kind x i (kind.places o)) (uses_from kind x (i + 1) os) r.0 u r.1)
  rows_into i (o ∷ os) (suc j) k u h =
      let r = rows_into (i + 1) os j k u (h.0, h.1, h.2, h.3, h.4, h.5 ∙ ap (λ z. use_by kind z h.1) (omega arith)) in
      (length (uses_in kind x i (kind.places o)) + r.0, nth_right (uses_in kind x i (kind.places o)) (uses_from kind x (i + 1) os) _ r.0 refl ∙ r.1)

  -- two uses that are listed one before the other
  Ordered : ℕ → List OpM → Use P → Use P → Type 0
  Ordered i os u w = (j : ℕ) × (k : ℕ) × (j' : ℕ) × (k' : ℕ) × Before j k j' k' × At i os j k u × At i os j' k' w

  rows_order : (i : ℕ) (os : List OpM) (a b : ℕ) (u w : Use P) → a < b → slice_get (uses_from kind x i os) a ≡ Some u → slice_get (uses_from kind x i os) b ≡ Some w → Ordered i os u w
  unfolding Ordered
  rows_order i [] a b u w lt h g = absurd (none_some h)
  rows_order i (o ∷ os) a b u w lt h g =
      ⊎_elim
      (λ e. ⊎_elim
      (λ d. let r = order (kind.test x) (use_by kind i) (kind.places o) a b u w lt e d in (0, r.0, 0, r.1, inr (refl, r.2), first i o os r.0 u r.3, first i o os r.1 w r.4))
      (λ d. let r = from (kind.test x) (use_by kind i) (kind.places o) a u e in let s = rows_from (i + 1) os d.0 w d.2 in
      (0, r.0, suc s.0, s.1, inl (omega arith), first i o os r.0 u r.1, next i o os s.0 s.1 w s.2))
      (nth_append (uses_in kind x i (kind.places o)) (uses_from kind x (i + 1) os) b w g))
      (λ e. ⊎_elim
      (λ d. absurd (omega (arith, e.1, nth_below (uses_in kind x i (kind.places o)) b w d)))
      (λ d. let r = rows_order (i + 1) os e.0 d.0 u w (omega (arith, e.1, d.1)) e.2 d.2 in
      (suc r.0, r.1, suc r.2, r.3, ⊎_elim (λ y. inl (omega arith)) (λ y. inr (ap suc y.0, y.1)) r.4, next i o os r.0 r.1 u r.5, next i o os r.2 r.3 w r.6))
      (nth_append (uses_in kind x i (kind.places o)) (uses_from kind x (i + 1) os) b w g))
      (nth_append (uses_in kind x i (kind.places o)) (uses_from kind x (i + 1) os) a u h)

-- ---- in the subject's words: x is what the places use, and no two places are one use

module _ {P H : Type 0} (kind : PlaceKind P H) (m : BookM) (x : H)
    (decides : (x : H) (p : P) → Decides (kind.test x p) (kind.held p ≡ x))
    (once : (i j k l : ℕ) (o p : OpM) (a b : P) → slice_get m.ops i ≡ Some o → slice_get m.ops j ≡ Some p → slice_get (kind.places o) k ≡ Some a → slice_get (kind.places p) l ≡ Some b → kind.uid a ≡ kind.uid b → (i ≡ j) × (k ≡ l)) where
  said : (j k : ℕ) (u : Use P) → At kind x 0 m.ops j k u → UseAt kind m.ops x j k u
  unfolding At
  said j k u h = (h.0, h.1, h.2, h.3, (decides x h.1).0 h.4, h.5 ∙ ap (λ r. use_by kind r h.1) (omega arith))

  meant : (j k : ℕ) (u : Use P) → UseAt kind m.ops x j k u → At kind x 0 m.ops j k u
  unfolding At
  meant j k u h = (h.0, h.1, h.2, h.3, (decides x h.1).1 h.4, h.5 ∙ ap (λ r. use_by kind r h.1) (omega arith))

  alone : (i j k l : ℕ) (u : Use P) → UseAt kind m.ops x i k u → UseAt kind m.ops x j l u → (i ≡ j) × (k ≡ l)
  alone i j k l u p q = once i j k l p.0 q.0 p.1 q.1 p.2 q.2 p.3 q.3 (ap (λ z. z.use_uid) (sym p.5 ∙ q.5))

  pub uses_are : (us : List (Use P)) → us ≡ uses_of kind m x → UsesAre kind m x us
  unfolding Ordered
  uses_are us e = subst (UsesAre kind m x) (sym e) (record {
    listed = λ n u h. let r = rows_from kind x 0 m.ops n u h in (r.0, r.1, said r.0 r.1 u r.2);
    all = λ i k u h. rows_into kind x 0 m.ops i k u (meant i k u h);
    ordered = λ a b i j k l u w lt h g p q.
        let r = rows_order kind x 0 m.ops a b u w lt h g in
        let s = alone r.0 i r.1 k u (said r.0 r.1 u r.5) p in
        let t = alone r.2 j r.3 l w (said r.2 r.3 w r.6) q in
        ⊎_elim (λ y. inl (omega arith)) (λ y. inr (omega arith, omega arith)) r.4;
  })
