use Rattle.std.proofs.Common.{◌≡◌, ◌+◌, ◌≤◌, length, drop, filter}
use Rattle.uses.proofs.listing.count_in.Given as goal

-- those counted and those to come are all
abbrev pub invariant-loop-p : goal.invariant-loop-p
invariant-loop-p g l =
    (l.n + length (filter (g.P.UsePlace.kind.test l.x) (drop l.p-index l.places)) ≡ length (filter (g.P.UsePlace.kind.test l.x) l.places)) × (l.n ≤ l.p-index)
