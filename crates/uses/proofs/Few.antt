-- How many places of the rows of a book use one value or block.
use Rattle.std.proofs.Common.{◌≡◌, ℕ, ◌+◌, ◌^◌, ◌<◌, ◌≤◌, List, [], ◌∷◌, map, length, filter, get_or, Some, vec_items, sym, refl, ap, ◌∙◌, subst, arith, length-append}
use Rattle.std.specs.List.{slice_get, sum_by}
use Rattle.std.proofs.lemmas.List.{length-map, get_or_default}
use Rattle.std.proofs.lemmas.List.Sums.{length-filter, count_by-le-length, sum_by-cons, sum_by-le}
use Rattle.ir.specs.Limits.{limits}
use Rattle.model.specs.Model.{OpM}
use Rattle.model.specs.Sound.{Few}
use Rattle.rows.specs.declared.operation.Operation.{Operation}
use Rattle.rows.specs.Of.{op_model}
use Rattle.rows.proofs.Read.{nth_row}
use Rattle.book.specs.declared.book.Book.{Book}
use Rattle.book.specs.Of.{model_of}
use Rattle.book.proofs.Sounds.{sound_of}
use Rattle.uses.specs.Places.{PlaceKind, use_by}
use Rattle.uses.specs.Listing.{uses_in, uses_from, uses_of}

module _ {P H : Type 0} (kind : PlaceKind P H) (x : H) where
  -- how many of a row
  abbrev pub found_in : Operation → ℕ
  found_in o = length (filter (kind.test x) (kind.places (op_model o)))

  -- the uses of x are what the rows have, summed
  uses_summed : (os : List Operation) (i : ℕ) → length (uses_from kind x i (map op_model os)) ≡ sum_by found_in os
  uses_summed [] i = refl
  uses_summed (o ∷ os) i =
      let a = length-append (uses_in kind x i (kind.places (op_model o))) (uses_from kind x (i + 1) (map op_model os)) in
      let b = length-map (filter (kind.test x) (kind.places (op_model o))) (use_by kind i) in
      let d = sum_by-cons found_in o os in
      omega (arith, uses_summed os (i + 1))

  module _ (b : Book) (os : List Operation) (is : os ≡ vec_items b.ops.rows) where
    pub found_all : sum_by found_in os ≡ length (uses_of kind (model_of b) x)
    found_all = ap (sum_by found_in) is ∙ sym (uses_summed (vec_items b.ops.rows) 0)

    module _ (few : (o : OpM) → Few limits o.body → length (kind.places o) ≤ limits.operands) where
      few_found : (i : ℕ) (o : Operation) → i < length os → o ≡ get_or os i o → found_in o ≤ limits.operands
      few_found i o h e =
          let n = few (op_model o) ((sound_of b).few i (op_model o) (subst (λ ys. slice_get (map op_model ys) i ≡ Some (op_model o)) is (nth_row op_model os i o h e))) in
          let ps = kind.places (op_model o) in
          omega (arith, length-filter (kind.test x) ps, count_by-le-length (kind.test x) ps)

      -- the sum fits a `usize`
      pub found_fit : sum_by found_in os < 2 ^ 64
      found_fit =
          let rows : length os ≤ limits.operations = let s = (sound_of b).few_ops in let l = length-map (vec_items b.ops.rows) op_model in subst (λ ys. length ys ≤ limits.operations) (sym is) (omega arith) in
          omega (arith, sum_by-le found_in limits.operands os (λ k d h. few_found k (get_or os k d) h (get_or_default os k d (get_or os k d) h)))
