-- What verification says of an operation: accepted, or rejected with a fault.
use Rattle.std.specs.Prelude.{Ok}
use Rattle.kinds.specs.declared.fault.Rejection.{Rejection}
use Rattle.kinds.specs.First.{Check}

abbrev pub Verdict : Type 0
Verdict = Check Rejection

abbrev pub accepted : Verdict
accepted = Ok tt
