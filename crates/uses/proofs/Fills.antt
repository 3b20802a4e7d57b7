-- Steps of a loop that fills a list of the caller from its front with the uses of x, row by row.
use Rattle.std.proofs.Common.{◌≡◌, ℕ, ◌+◌, ◌<◌, ◌≤◌, Bool, true, false, List, [], ◌∷◌, ◌++◌, map, length, get_or, take, drop, set, vec_items, sym, ap, ◌∙◌, subst, arith}
use Rattle.std.proofs.lemmas.List.{append_assoc, append-nil, take_more_set, drop-set-lt, drop-drop}
use Rattle.ir.specs.declared.value.Use.{Use}
use Rattle.rows.specs.declared.operation.Operation.{Operation}
use Rattle.rows.specs.Of.{op_model}
use Rattle.book.specs.declared.book.Book.{Book}
use Rattle.book.specs.Of.{model_of}
use Rattle.uses.specs.Places.{PlaceKind, use_by}
use Rattle.uses.specs.Listing.{uses_in, uses_from, uses_of}
use Rattle.uses.proofs.Kept.{kept_yes, kept_no, kept_none, rows_more, rows_none}

-- of the list `all`, what is not left stands in the first n places of `out`, which began as `before`
pub record Wrote {U : Type 0} (before all : List U) (n : ℕ) (out left : List U) : Type 0 where
  pub count : n + length left ≡ length all
  pub front : take n out ++ left ≡ all
  pub rest : drop n out ≡ drop n before

module _ {U : Type 0} (before all : List U) where
  -- the same under other names
  moved : (out after : List U) (n next : ℕ) (left : List U) → after ≡ out → next ≡ n → Wrote before all n out left → Wrote before all next after left
  moved out after n next left a b w = subst (λ o. Wrote before all next o left) (sym a) (subst (λ k. Wrote before all k out left) (sym b) w)

  put : (out : List U) (n : ℕ) (y : U) (ys : List U) → Wrote before all n out (y ∷ ys) → n < length out → Wrote before all (n + 1) (set out n y) ys
  put out n y ys w h = record {
    count = omega (arith, w.count);
    front = ap (λ zs. zs ++ ys) (take_more_set out n y h) ∙ (append_assoc (take n out) (y ∷ []) ys ∙ w.front);
    rest = drop-set-lt (n + 1) out n y (omega arith) ∙ (sym (drop-drop 1 n out) ∙ (ap (drop 1) w.rest ∙ drop-drop 1 n before));
  }

  wrote_all : (out : List U) (n : ℕ) (left : List U) → left ≡ [] → Wrote before all n out left → (n ≡ length all) × (take n out ≡ all)
  wrote_all out n left e w =
      (omega (arith, w.count, ap length e), sym (append-nil (take n out)) ∙ (ap (λ zs. take n out ++ zs) (sym e) ∙ w.front))

module _ {P H : Type 0} (kind : PlaceKind P H) (x : H) (before : List (Use P)) (os : List Operation) where
  -- the uses of the rows from the i-th on
  abbrev later : ℕ → List (Use P)
  later i = uses_from kind x i (drop i (map op_model os))

  -- all but the uses of the rows from the i-th on stand in the first n places
  abbrev pub WroteRows : ℕ → ℕ → List (Use P) → Type 0
  WroteRows i n out = Wrote before (later 0) n out (later i)

  -- all but those of the i-th row's places ps from the k-th on, and of the rows behind it
  abbrev pub WrotePlaces : ℕ → List P → ℕ → ℕ → List (Use P) → Type 0
  WrotePlaces i ps k n out = Wrote before (later 0) n out (uses_in kind x i (drop k ps) ++ later (i + 1))

  -- the rows are those of the book b
  all_of : (b : Book) → os ≡ vec_items b.ops.rows → later 0 ≡ uses_of kind (model_of b) x
  all_of b is = ap (λ ys. uses_from kind x 0 (map op_model ys)) is

  -- at the i-th row
  module _ (i : ℕ) (ps : List P) where
    pub row_start : (o : Operation) → i < length os → o ≡ get_or os i o → ps ≡ kind.places (op_model o) → (n : ℕ) (out : List (Use P)) → WroteRows i n out → WrotePlaces i ps 0 n out
    row_start o h e is n out w =
        subst (Wrote before (later 0) n out)
        (rows_more op_model kind x os i o h e ∙ ap (λ qs. uses_in kind x i qs ++ later (i + 1)) (sym is)) w

    pub row_end : (k n : ℕ) (out : List (Use P)) → length ps ≤ k → WrotePlaces i ps k n out → WroteRows (i + 1) n out
    row_end k n out h w = subst (λ qs. Wrote before (later 0) n out (map (use_by kind i) qs ++ later (i + 1))) (kept_none (kind.test x) ps k h) w

    -- at its k-th place, which is p
    module _ (k : ℕ) (p : P) (h : k < length ps) (e : p ≡ get_or ps k p) (r : Bool) (s : r ≡ kind.test x p) (n : ℕ) (out : List (Use P)) (w : WrotePlaces i ps k n out) where
      -- its use comes next
      next : r ≡ true → Wrote before (later 0) n out (use_by kind i p ∷ (uses_in kind x i (drop (k + 1) ps) ++ later (i + 1)))
      next t = subst (λ qs. Wrote before (later 0) n out (map (use_by kind i) qs ++ later (i + 1))) (kept_yes (kind.test x) ps k p r h e s t) w

      -- and there is a place for it
      pub room : r ≡ true → (b : Book) → os ≡ vec_items b.ops.rows → length (uses_of kind (model_of b) x) ≤ length out → n < length out
      room t b is few = omega (arith, (next t).count, ap length (all_of b is), few)

      pub place_yes : r ≡ true → (b : Book) → os ≡ vec_items b.ops.rows → length (uses_of kind (model_of b) x) ≤ length out → (after : List (Use P)) (m : ℕ) (y : Use P) → y ≡ use_by kind i p → after ≡ set out n y → m ≡ n + 1 → WrotePlaces i ps (k + 1) m after
      place_yes t b is few after m y q c d =
          moved before (later 0) (set out n y) after (n + 1) m _ c d
          (put before (later 0) out n y _ (subst (λ z. Wrote before (later 0) n out (z ∷ (uses_in kind x i (drop (k + 1) ps) ++ later (i + 1)))) (sym q) (next t)) (room t b is few))

      pub place_no : (after : List (Use P)) (m : ℕ) → r ≡ false → after ≡ out → m ≡ n → WrotePlaces i ps (k + 1) m after
      place_no after m t a b =
          moved before (later 0) out after n m _ a b (subst (λ qs. Wrote before (later 0) n out (map (use_by kind i) qs ++ later (i + 1))) (kept_no (kind.test x) ps k p r h e s t) w)

  -- behind the last row
  pub rows_end : (i : ℕ) → length os ≤ i → (b : Book) → os ≡ vec_items b.ops.rows → (n : ℕ) (out : List (Use P)) → WroteRows i n out → (n ≡ length (uses_of kind (model_of b) x)) × (take n out ≡ uses_of kind (model_of b) x)
  rows_end i h b is n out w =
      let a = wrote_all before (later 0) out n (later i) (rows_none op_model kind x os i h) w in
      (a.0 ∙ ap length (all_of b is), a.1 ∙ all_of b is)
