use Rattle.placing.proofs.After.{block_room, block_holds, block_step}
use Rattle.placing.proofs.placing.place_block.Goals as goal

pub add-requires : goal.add-requires
add-requires c = block_room c.args.book.now c.args.b c.args.r _ _ c.index_mut.ensures.value c.index_mut-2.ensures.value c.in_ok-check_place_block.ensures.safe

pub invariant_of-book-2 : goal.invariant_of-book-2
invariant_of-book-2 c =
    let b = c.args.book.now in
    let s = c.in_ok-check_place_block.ensures in
    let p = block_holds b c.args.b c.args.r _ _ c.index_mut.ensures.value c.index_mut-2.ensures.value s.safe c.stand_in.new.self c.add.new.self c.stand_in.ensures.after c.add.ensures.after s.value c.stand_in.ensures.count c.add.ensures.count in
    ((b.regions.room, (b.regions.all, tt)), (b.made, (p.0, (p.1, tt))))

pub returns : goal.returns
returns c =
    let s = c.in_ok-check_place_block.ensures in
    let p = block_step c.args.book.now c.args.b c.args.r _ _ c.index_mut.ensures.value c.index_mut-2.ensures.value s.safe c.stand_in.new.self c.add.new.self c.stand_in.ensures.after c.add.ensures.after s.value in
    record { step = p.0; lasts = p.1 }
