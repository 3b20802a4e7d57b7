use Rattle.std.proofs.Common.{vec_items, sym, ap, ◌∙◌, subst, arith}
use Rattle.std.proofs.lemmas.List.Sums.{sum_by_push}
use Rattle.ir.specs.Limits.{limits}
use Rattle.model.specs.Steps.{block_check}
use Rattle.model.specs.Lasts.{Lasts}
use Rattle.model.proofs.Created.{sound_block_created, lasts_block_created}
use Rattle.rows.specs.Counts.{listed_ops, placed_blocks, op_count, block_standing}
use Rattle.rows.specs.Of.{block_model}
use Rattle.book.specs.Of.{model_of}
use Rattle.book.proofs.Sounds.{sound_of, sound_at}
use Rattle.creating.proofs.Taken.{granted, block_taken, row_added, rows_are}
use Rattle.creating.proofs.basic_block.new_block.Goals as goal

pub invariant_of-book-2 : goal.invariant_of-book-2
invariant_of-book-2 c =
    let b = c.args.book.now in
    let ts = c.args.arg_types.now in
    let s = c.in_ok-check_block.ensures in
    let a = c.add-at.ensures in
    let y = c.fill.new.self in
    let p = row_added (vec_items b.blocks.rows) _ a.rows.0 y _ _ a.rows.1 a.at b.blocks.rows.ok.0 in
    let l = ap listed_ops p ∙ sum_by_push op_count (vec_items b.blocks.rows) y in
    let q = ap placed_blocks p ∙ sum_by_push block_standing (vec_items b.blocks.rows) y in
    record {
      made = omega (arith, b.made, a.len, s.room.0);
      fit = (omega (arith, l, b.fit.0, c.fill.ensures.count), omega (arith, q, b.fit.1));
      sound = sound_at _ _ (block_taken b ts y _ p c.fill.ensures.after) (sound_block_created limits (model_of b) ts (sound_of b) s.value);
    }

pub returns : goal.returns
returns c =
    let b = c.args.book.now in
    let ts = c.args.arg_types.now in
    let ok = c.in_ok-check_block.ensures.value in
    let a = c.add-at.ensures in
    let p = row_added (vec_items b.blocks.rows) _ a.rows.0 c.fill.new.self _ _ a.rows.1 a.at b.blocks.rows.ok.0 in
    let e = block_taken b ts c.fill.new.self _ p c.fill.ensures.after in
    record {
      step = granted (block_check limits (model_of b) ts) tt _ _ (model_of b) _ c.add-at.result ok (a.at ∙ rows_are block_model b.blocks.rows) e;
      lasts = subst (Lasts (model_of b)) (sym e) (lasts_block_created limits (model_of b) ts ok);
    }
