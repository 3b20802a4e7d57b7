-- The numbers of the kinds that have a name.
use Rattle.std.specs.Prelude.{◌≡◌, ℕ, cond, Some, None, Option, Result, MatchResult, ◌==◌}
use Rattle.ir.specs.declared.kind.Kind.{Kind}
use Rattle.ir.specs.declared.kind.NoNamedKind.{NoNamedKind}
use Rattle.ir.specs.declared.kind.Kind.TheVariants.{Yield, Br, CondBr, If, Loop, Switch}

abbrev pub kind_number : Kind → ℕ
kind_number Yield = 1
kind_number Br = 2
kind_number CondBr = 3
kind_number If = 4
kind_number Loop = 5
kind_number Switch = 6

abbrev pub kind_numbered : ℕ → Option Kind
kind_numbered n =
    cond (n == 1) (Some Yield) (cond (n == 2) (Some Br) (cond (n == 3) (Some CondBr)
    (cond (n == 4) (Some If) (cond (n == 5) (Some Loop) (cond (n == 6) (Some Switch) None)))))

-- the result is the kind with this number, or says of the number that no kind with a name has it
abbrev pub KindNumbered : ℕ → Result Kind NoNamedKind → Type 0
KindNumbered n r = MatchResult r (λ kind. kind_numbered n ≡ Some kind) (λ e. (e.0 ≡ n) × (kind_numbered n ≡ None))
