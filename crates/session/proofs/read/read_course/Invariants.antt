use Rattle.session.specs.Entered.{SoFar}
use Rattle.session.proofs.read.read_course.Given as goal

abbrev pub invariant-loop-before : goal.invariant-loop-before
invariant-loop-before l = SoFar l.course
