use Rattle.std.proofs.Common.{◌≡◌, drop}
use Rattle.book.specs.Of.{model_of}
use Rattle.creating.proofs.Found.{found}
use Rattle.creating.proofs.checks.check_values.Given as goal

abbrev pub invariant-loop-v : goal.invariant-loop-v
invariant-loop-v l = found (model_of l.book) (drop l.v-index l.values) ≡ found (model_of l.book) l.values
