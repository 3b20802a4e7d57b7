use Rattle.uses.proofs.Fills.{WroteRows, WrotePlaces}
use Rattle.uses.proofs.listing.fill.Given as goal

abbrev pub invariant-loop-i : goal.invariant-loop-i
invariant-loop-i g l = WroteRows g.P.UsePlace.kind l.x l.fn.out l.rows l.i l.n l.out

abbrev pub invariant-loop-p : goal.invariant-loop-p
invariant-loop-p g l = WrotePlaces g.P.UsePlace.kind l.x l.fn.out l.rows l.i l.places l.p-index l.n l.out
