use Rattle.std.proofs.Common.{◌≡◌, drop}
use Rattle.branches.specs.Branch.{types_check}
use Rattle.branches.proofs.checks.check_types.Given as goal

abbrev pub invariant-loop-j : goal.invariant-loop-j
invariant-loop-j l = types_check l.j (drop l.j l.part) (drop l.j l.args) ≡ types_check 0 l.part l.args
