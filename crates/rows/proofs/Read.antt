-- Rows that are read and written through a list of them, seen through a function f from a row to its model.
use Rattle.std.proofs.Common.{◌≡◌, ℕ, zero, suc, ◌<◌, List, [], ◌∷◌, map, length, get_or, set, Some, refl, ap, ◌∙◌}
use Rattle.std.specs.List.{slice_get}
use Rattle.std.specs.Option.{option_map}
use Rattle.std.proofs.lemmas.Option.{slice_get-map, slice_get_read}
use Rattle.model.specs.Checks.{edit}

module _ {X Y : Type 0} (f : X → Y) where
  -- a row that was read
  pub nth_row : (xs : List X) (i : ℕ) (x : X) → i < length xs → x ≡ get_or xs i x → slice_get (map f xs) i ≡ Some (f x)
  nth_row xs i x h e = slice_get-map f xs i ∙ ap (option_map f) (slice_get_read xs _ i x refl h e)

  -- a row that was read as x and written as y, where y is g of x on the model
  pub edit_row : (g : Y → Y) (xs : List X) (i : ℕ) (x y : X) → x ≡ get_or xs i x → f y ≡ g (f x) → map f (set xs i y) ≡ edit (map f xs) i g
  edit_row g [] i x y e h = refl
  edit_row g (z ∷ zs) zero x y e h = ap (λ w. w ∷ map f zs) (h ∙ ap (λ w. g (f w)) e)
  edit_row g (z ∷ zs) (suc i) x y e h = ap (λ ws. f z ∷ ws) (edit_row g zs i x y e h)
