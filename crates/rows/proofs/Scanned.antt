-- The searches of the model and of the names are those of the library's chains.
use Rattle.std.proofs.Common.{◌≡◌, Bool, true, false, ◌&&◌, cond, List, [], ◌∷◌, Some, None, Option, IsSomeAnd, MatchOption, Bor, sym, refl, ap, ◌∙◌}
use Rattle.std.specs.List.{find, list_all}
use Rattle.std.specs.Option.{option_map}
use Rattle.model.specs.Checks.{every}

module _ {X Y : Type 0} (f : X → Y) where
  -- a search that answers with f of the first element that passes the test
  pub found_as : (t : X → Bool) (s : List X → Option Y) → s [] ≡ None → ((x : X) (xs : List X) → s (x ∷ xs) ≡ cond (t x) (Some (f x)) (s xs)) → (xs : List X) → option_map f (find t xs) ≡ s xs
  found_as t s e h [] = sym e
  found_as t s e h (x ∷ xs) = next (t x) (found_as t s e h xs) ∙ sym (h x xs)
    where
      next : (b : Bool) → option_map f (find t xs) ≡ s xs → option_map f (cond b (Some x) (find t xs)) ≡ cond b (Some (f x)) (s xs)
      next true k = refl
      next false k = k

  -- what `map` answers of what was found, where its closure reads f
  pub found_mapped : (P : Bor X → Y → Type 0) (o : Option (Bor X)) (r : Option Y) (q : Option X) → MatchOption o (r ≡ None) (λ x. IsSomeAnd r (P x)) → ((x : Bor X) (y : Y) → P x y → y ≡ f x.now) → option_map (λ x. x.now) o ≡ q → r ≡ option_map f q
  found_mapped P None r q h g e = h ∙ ap (option_map f) e
  found_mapped P (Some x) (Some y) q h g e = ap (λ z. Some z) (g x y h) ∙ ap (option_map f) e
  found_mapped P (Some x) None q h g e = absurd h

pub all_is : {X : Type 0} (t : X → Bool) (xs : List X) → list_all t xs ≡ every t xs
all_is t [] = refl
all_is t (x ∷ xs) = ap (λ b. t x && b) (all_is t xs)
