-- Steps of loops over the places of a row, and over rows: what was found and what is left make the whole.
use Rattle.std.proofs.Common.{◌≡◌, ℕ, ◌+◌, ◌<◌, ◌≤◌, Bool, true, false, List, [], ◌∷◌, ◌++◌, map, length, get_or, drop, filter, sym, ap, ◌∙◌, arith}
use Rattle.std.proofs.lemmas.List.{at_drop_more, at_drop_all, length-map, get_or-map}
use Rattle.model.specs.Model.{OpM}
use Rattle.uses.specs.Places.{PlaceKind}
use Rattle.uses.specs.Listing.{uses_in, uses_from}

-- ---- places of one row

module _ {P : Type 0} (test : P → Bool) (ps : List P) (i : ℕ) where
  -- r is what was found of the place i
  pub kept_yes : (p : P) (r : Bool) → i < length ps → p ≡ get_or ps i p → r ≡ test p → r ≡ true → filter test (drop i ps) ≡ p ∷ filter test (drop (i + 1) ps)
  kept_yes p r h e s t = let u : test p ≡ true = cc in at_drop_more (filter test) ps i p h ∙ rw (← e, u)

  pub kept_no : (p : P) (r : Bool) → i < length ps → p ≡ get_or ps i p → r ≡ test p → r ≡ false → filter test (drop i ps) ≡ filter test (drop (i + 1) ps)
  kept_no p r h e s t = let u : test p ≡ false = cc in at_drop_more (filter test) ps i p h ∙ rw (← e, u)

  pub kept_none : length ps ≤ i → filter test (drop i ps) ≡ []
  kept_none h = at_drop_all (filter test) ps i h

-- ---- rows, seen through a function f from a row to its model

module _ {X P H : Type 0} (f : X → OpM) (kind : PlaceKind P H) (x : H) (os : List X) (i : ℕ) where
  pub rows_more : (o : X) → i < length os → o ≡ get_or os i o → uses_from kind x i (drop i (map f os)) ≡ uses_in kind x i (kind.places (f o)) ++ uses_from kind x (i + 1) (drop (i + 1) (map f os))
  rows_more o h e =
      let l = length-map os f in
      at_drop_more (uses_from kind x i) (map f os) i (f o) (omega arith) ∙
      ap (λ m. uses_in kind x i (kind.places m) ++ uses_from kind x (i + 1) (drop (i + 1) (map f os))) (get_or-map f os i o (f o) h ∙ ap f (sym e))

  pub rows_none : length os ≤ i → uses_from kind x i (drop i (map f os)) ≡ []
  rows_none h = let l = length-map os f in at_drop_all (uses_from kind x i) (map f os) i (omega arith)
