-- Lists and parents stay nested as rows are made and placed.
use Rattle.std.proofs.Common.{◌≡◌, ℕ, true, ◌⊎◌, List, [], ◌∷◌, ◌++◌, length, replicate, Some, None, Option, sym, ap, ◌∙◌, subst, ⊎_elim, arith}
use Rattle.std.specs.List.{range_with_len, slice_get}
use Rattle.std.proofs.lemmas.Bool.{cases_eq}
use Rattle.std.proofs.lemmas.List.{length-replicate}
use Rattle.model.specs.Checks.{edit}
use Rattle.model.specs.Sound.{Nested, is_in, list_at}
use Rattle.model.proofs.Nths.{none_some, some_is, nth_below, nth_left, nth_right, nth_append, nth_push, nth_end, nth_edit, nth_edit_same, nth_edit_other}
use Rattle.model.proofs.Made.{nth_replicate, nth_repeated, nth_counting, nth_counted}
use Rattle.model.proofs.Members.{is_in_nth, is_in_left, listed_there, listed_at}

pub nested_empty : Nested [] []
nested_empty = record {
  stands = λ p k c xs e f. absurd (none_some e);
  listed = λ p c e. absurd (none_some e);
  once = λ p k l c xs e f g. absurd (none_some e);
}

module _ (ls : List (List ℕ)) (ps : List (Option ℕ)) (h : Nested ls ps) where
  -- the list that names c, where c stands at p
  list_of : (p c : ℕ) → slice_get ps c ≡ Some (Some p) → (xs : List ℕ) × (slice_get ls p ≡ Some xs) × (is_in c xs ≡ true)
  list_of p c e = listed_there c (slice_get ls p) (h.listed p c e)

  -- more rows, after those that are there
  listed_more : (ms : List (List ℕ)) (p c : ℕ) → slice_get ps c ≡ Some (Some p) → is_in c (list_at (slice_get (ls ++ ms) p)) ≡ true
  listed_more ms p c e = let q = list_of p c e in listed_at c (slice_get (ls ++ ms) p) q.0 (nth_left ls ms p q.0 q.1) q.2

  -- n more rows that list nothing
  pub nested_rows : (n : ℕ) → Nested (ls ++ replicate n []) ps
  nested_rows n = record {
    stands = λ p k c xs e f. h.stands p k c xs (old p xs k c e f) f;
    listed = listed_more (replicate n []);
    once = λ p k l c xs e f g. h.once p k l c xs (old p xs k c e f) f g;
  }
    where
      old : (p : ℕ) (xs : List ℕ) (k c : ℕ) → slice_get (ls ++ replicate n []) p ≡ Some xs → slice_get xs k ≡ Some c → slice_get ls p ≡ Some xs
      old p xs k c e f =
          ⊎_elim (λ q. q)
          (λ q. let z = nth_replicate n [] q.0 xs q.2 in absurd (none_some (subst (λ ys. slice_get ys k ≡ Some c) z f)))
          (nth_append ls (replicate n []) p xs e)

  -- one more row that stands nowhere
  pub nested_loose : Nested ls (ps ++ None ∷ [])
  nested_loose = record {
    stands = λ p k c xs e f. nth_left ps (None ∷ []) c (Some p) (h.stands p k c xs e f);
    listed = λ p c e. h.listed p c (⊎_elim (λ q. q) (λ q. absurd (none_some (sym q.1))) (nth_push ps None c (Some p) e));
    once = h.once;
  }

  -- one more row that lists n more rows, which stand there
  pub nested_fresh : (n : ℕ) → Nested (ls ++ range_with_len (length ps) n ∷ []) (ps ++ replicate n (Some (length ls)))
  nested_fresh n = record {
    stands = λ p k c xs e f. ⊎_elim
        (λ q. nth_left ps new c (Some p) (h.stands p k c xs q f))
        (λ q. let r = nth_counting (length ps) n k c (subst (λ ys. slice_get ys k ≡ Some c) q.1 f) in
        nth_right ps new c k r.0 ∙ nth_repeated n (Some (length ls)) k r.1 ∙ ap (λ x. Some (Some x)) (sym q.0))
        (nth_push ls row p xs e);
    listed = λ p c e. ⊎_elim
        (listed_more (row ∷ []) p c)
        (λ q. let b = nth_below new q.0 (Some p) q.2 in
        let z = nth_replicate n (Some (length ls)) q.0 (Some p) q.2 in
        let l = length-replicate n (Some (length ls)) in
        listed_at c (slice_get (ls ++ row ∷ []) p) row (ap (slice_get (ls ++ row ∷ [])) (cc) ∙ nth_end ls row)
        (is_in_nth row q.0 c (nth_counted (length ps) n q.0 (omega arith) ∙ ap (λ x. Some x) (sym q.1))))
        (nth_append ps new c (Some p) e);
    once = λ p k l c xs e f g. ⊎_elim
        (λ q. h.once p k l c xs q f g)
        (λ q. let r = nth_counting (length ps) n k c (subst (λ ys. slice_get ys k ≡ Some c) q.1 f) in
        let s = nth_counting (length ps) n l c (subst (λ ys. slice_get ys l ≡ Some c) q.1 g) in omega arith)
        (nth_push ls row p xs e);
  }
    where
      row : List ℕ
      row = range_with_len (length ps) n

      new : List (Option ℕ)
      new = replicate n (Some (length ls))

  -- the row c, which stood nowhere, put last into the list of row p
  pub nested_placed : (p c : ℕ) (xs : List ℕ) → slice_get ls p ≡ Some xs → slice_get ps c ≡ Some None → Nested (edit ls p (λ ys. ys ++ c ∷ [])) (edit ps c (λ _. Some p))
  nested_placed p c xs here loose = record {
    stands = λ q k d ys e f. ⊎_elim
        (λ r. ⊎_elim (λ a. kept q d (h.stands q k d r.0 r.2 a)) (λ a. cc (a.1, r.1, nth_edit_same ps c (λ _. Some p) None loose)) (pushed ys r.0 k d r.3 f))
        (λ r. kept q d (h.stands q k d ys r.1 f))
        (nth_edit ls p q put ys e);
    listed = λ q d e. ⊎_elim
        (λ r. listed_at d (slice_get (edit ls p put) q) (put xs) (cc (r.3, nth_edit_same ls p put xs here)) (is_in_nth (put xs) (length xs) d (cc (r.1, nth_end xs c))))
        (λ r. let w = list_of q d r.1 in ⊎_elim
        (λ z. listed_at d (slice_get (edit ls p put) q) (put w.0) (cc (z, nth_edit_same ls p put w.0 (cc (z, w.1)))) (is_in_left d w.0 (c ∷ []) w.2))
        (λ z. listed_at d (slice_get (edit ls p put) q) w.0 (nth_edit_other ls p q put z ∙ w.1) w.2)
        (cases_eq q p))
        (nth_edit ps c d (λ _. Some p) (Some q) e);
    once = λ q k l d ys e f g. ⊎_elim
        (λ r. ⊎_elim
        (λ a. ⊎_elim (h.once q k l d r.0 r.2 a) (λ b. absurd (unnamed q r.0 k r.2 (a ∙ ap (λ x. Some x) b.1))) (pushed ys r.0 l d r.3 g))
        (λ a. ⊎_elim (λ b. absurd (unnamed q r.0 l r.2 (b ∙ ap (λ x. Some x) a.1))) (λ b. a.0 ∙ sym b.0) (pushed ys r.0 l d r.3 g))
        (pushed ys r.0 k d r.3 f))
        (λ r. h.once q k l d ys r.1 f g)
        (nth_edit ls p q put ys e);
  }
    where
      put : List ℕ → List ℕ
      put ys = ys ++ c ∷ []

      kept : (q d : ℕ) → slice_get ps d ≡ Some (Some q) → slice_get (edit ps c (λ _. Some p)) d ≡ Some (Some q)
      kept q d e = nth_edit_other ps c d (λ _. Some p) (λ z. none_some (some_is loose (subst (λ x. slice_get ps x ≡ Some (Some q)) z e))) ∙ e

      pushed : (ys zs : List ℕ) (k d : ℕ) → ys ≡ put zs → slice_get ys k ≡ Some d → (slice_get zs k ≡ Some d) ⊎ ((k ≡ length zs) × (d ≡ c))
      pushed ys zs k d e f = nth_push zs c k d (subst (λ us. slice_get us k ≡ Some d) e f)

      unnamed : (q : ℕ) (ys : List ℕ) (k : ℕ) → slice_get ls q ≡ Some ys → slice_get ys k ≡ Some c → ⊥
      unnamed q ys k e f = none_some (some_is loose (h.stands q k c ys e f))
