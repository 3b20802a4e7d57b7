use Rattle.std.proofs.Common.{ap, ◌∙◌, arith}
use Rattle.ir.specs.Uses.{use_in}
use Rattle.uses.proofs.Fills.{row_start, row_end, room, place_yes, place_no, rows_end}
use Rattle.uses.proofs.listing.fill.Goals as goal
use Rattle.uses.proofs.listing.fill.Goals.{then-holds, else-holds}

pub loop-p-init : goal.loop-p-init
loop-p-init g c =
    row_start g.P.UsePlace.kind c.args.x c.args.out.now c.as_slice-rows.result.now
    c.loop-i.i c.of-places.result.now c.index-rows-i.result c.loop-i-test.true c.index-rows-i.is c.of-places.ensures c.loop-i.n c.loop-i.out c.loop-i.invariant

pub bounds-out-n : goal.bounds-out-n
bounds-out-n g c =
    room g.P.UsePlace.kind c.args.x c.args.out.now c.as_slice-rows.result.now
    c.loop-i.i c.of-places.result.now c.loop-p.p-index c.p-item.result c.loop-p-test.true c.p-item.is c.holds.result c.holds.ensures c.loop-p.n c.loop-p.out c.loop-p.invariant
    c.if-holds.true c.args.book.now c.as_slice-rows.ensures.value (omega (arith, c.requires))

pub loop-p-preserved : goal.loop-p-preserved
loop-p-preserved g c =
    elim c.if-holds.branch [
      | then-holds w ↦
          place_yes g.P.UsePlace.kind c.args.x c.args.out.now c.as_slice-rows.result.now
          c.loop-i.i c.of-places.result.now c.loop-p.p-index c.p-item.result c.loop-p-test.true c.p-item.is c.holds.result c.holds.ensures c.loop-p.n c.loop-p.out c.loop-p.invariant
          w.if-holds.true c.args.book.now c.as_slice-rows.ensures.value (omega (arith, c.requires)) c.if-holds.out c.if-holds.n w.new.result
          (w.new.ensures ∙ ap (λ n. use_in c.loop-i.i n) w.number.ensures) w.out-is w.n-is
      | else-holds w ↦
          place_no g.P.UsePlace.kind c.args.x c.args.out.now c.as_slice-rows.result.now
          c.loop-i.i c.of-places.result.now c.loop-p.p-index c.p-item.result c.loop-p-test.true c.p-item.is c.holds.result c.holds.ensures c.loop-p.n c.loop-p.out c.loop-p.invariant
          c.if-holds.out c.if-holds.n w.if-holds.false w.out-is w.n-is
    ]

pub loop-i-preserved : goal.loop-i-preserved
loop-i-preserved g c = row_end g.P.UsePlace.kind c.args.x c.args.out.now c.as_slice-rows.result.now c.loop-i.i c.of-places.result.now c.loop-p.p-index c.loop-p.n c.loop-p.out c.loop-p-test.false c.loop-p.invariant

pub returns : goal.returns
returns g c =
    let a = rows_end g.P.UsePlace.kind c.args.x c.args.out.now c.as_slice-rows.result.now c.loop-i.i c.loop-i-test.false c.args.book.now c.as_slice-rows.ensures.value c.loop-i.n c.loop-i.out c.loop-i.invariant in
    record { end = a.0; front = a.1; rest = c.loop-i.invariant.rest }
