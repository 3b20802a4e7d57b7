-- A use, made of an operation and a number.
use Rattle.std.specs.Prelude.{ℕ}
use Rattle.ir.specs.declared.value.Use.{Use}

abbrev pub use_in : {P : Type 0} → ℕ → ℕ → Use P
use_in op n = record { user_op = op; use_uid = n; _place = record {} }
