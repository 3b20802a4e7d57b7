use Rattle.std.proofs.Common.{◌≡◌, ◌==◌, drop}
use Rattle.std.specs.List.{find, enumerate_from}
use Rattle.uses.specs.Find.{find_in}
use Rattle.uses.proofs.one_use.find.Given as goal

-- what is left to look at decides
abbrev pub invariant-loop-k : goal.invariant-loop-k
invariant-loop-k g l = find (λ p. g.P.UsePlace.kind.uid p.1 == l.n) (enumerate_from l.k (drop l.k l.places)) ≡ find_in g.P.UsePlace.kind.uid l.n l.places
