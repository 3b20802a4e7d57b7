use Rattle.std.proofs.Common.{length, ap, arith}
use Rattle.uses.proofs.Kept.{kept_yes, kept_no, kept_none}
use Rattle.uses.proofs.listing.count_in.Goals as goal
use Rattle.uses.proofs.listing.count_in.Goals.{then-holds, else-holds}

pub loop-p-preserved : goal.loop-p-preserved
loop-p-preserved g c =
    elim c.if-holds.branch [
      | then-holds w ↦ omega (arith, w.n-is, ap length (kept_yes (g.P.UsePlace.kind.test c.args.x) c.args.places.now c.loop-p.p-index c.p-item.result c.holds.result c.loop-p-test.true c.p-item.is c.holds.ensures w.if-holds.true))
      | else-holds w ↦ omega (arith, w.n-is, ap length (kept_no (g.P.UsePlace.kind.test c.args.x) c.args.places.now c.loop-p.p-index c.p-item.result c.holds.result c.loop-p-test.true c.p-item.is c.holds.ensures w.if-holds.false))
    ]

pub returns : goal.returns
returns g c = omega (arith, ap length (kept_none (g.P.UsePlace.kind.test c.args.x) c.args.places.now c.loop-p.p-index c.loop-p-test.false))
