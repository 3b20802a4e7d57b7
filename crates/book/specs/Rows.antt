-- A row of a table that is in use.
use Rattle.std.specs.Prelude.{◌≡◌, ℕ, ◌<◌, Vec, vec_len, slice_index_or}

-- there is a row i, and P holds of it
abbrev pub HasRow : {X Z : Type 0} → Vec X Z → ℕ → (X → Type 0) → Type 0
HasRow rows i P = (i < vec_len rows) × ((x : _) → x ≡ slice_index_or rows.items i x → P x)
