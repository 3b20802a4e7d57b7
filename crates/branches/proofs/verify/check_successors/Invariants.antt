use Rattle.std.proofs.Common.{◌≡◌, Ok}
use Rattle.kinds.specs.First.{first_of}
use Rattle.pages.specs.Seen.{seen}
use Rattle.branches.specs.Branch.{successor_check}
use Rattle.branches.proofs.verify.check_successors.Given as goal

abbrev pub invariant-loop-s : goal.invariant-loop-s
invariant-loop-s g l = first_of (successor_check (g.F.BranchOpInterface.branching l.fam) (seen l.page)) l.s ≡ Ok tt
