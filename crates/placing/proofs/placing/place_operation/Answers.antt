use Rattle.placing.proofs.After.{op_room, op_holds, op_step}
use Rattle.placing.proofs.placing.place_operation.Goals as goal

pub add-requires : goal.add-requires
add-requires c = op_room c.args.book.now c.args.op c.args.b _ _ c.index_mut.ensures.value c.index_mut-2.ensures.value c.in_ok-check_place_operation.ensures.safe

pub invariant_of-book-2 : goal.invariant_of-book-2
invariant_of-book-2 c =
    let b = c.args.book.now in
    let s = c.in_ok-check_place_operation.ensures in
    let p = op_holds b c.args.op c.args.b _ _ c.index_mut.ensures.value c.index_mut-2.ensures.value s.safe c.stand_in.new.self c.add.new.self c.stand_in.ensures c.add.ensures.after s.value c.add.ensures.count in
    ((b.blocks.room, (b.blocks.all, tt)), (b.made, (p.0, (p.1, tt))))

pub returns : goal.returns
returns c =
    let s = c.in_ok-check_place_operation.ensures in
    let p = op_step c.args.book.now c.args.op c.args.b _ _ c.index_mut.ensures.value c.index_mut-2.ensures.value s.safe c.stand_in.new.self c.add.new.self c.stand_in.ensures c.add.ensures.after s.value in
    record { step = p.0; lasts = p.1 }
