use Rattle.std.proofs.Common.{◌≡◌, ◌+◌, length, None, Ok, vec_items, sym, ap, ◌∙◌, subst, arith}
use Rattle.std.proofs.lemmas.List.Sums.{sum_by_push}
use Rattle.std.proofs.lemmas.Result.{err_from_is_err_and}
use Rattle.ir.specs.Limits.{limits}
use Rattle.model.specs.Model.{OpM}
use Rattle.model.specs.Steps.{create_check}
use Rattle.model.specs.Lasts.{Lasts}
use Rattle.model.proofs.Created.{sound_created, lasts_created}
use Rattle.model.proofs.Made.{length_numbered}
use Rattle.rows.specs.Counts.{placed_ops, op_standing, standing}
use Rattle.rows.specs.Of.{op_model}
use Rattle.rows.specs.NewRow.{row_model}
use Rattle.book.specs.Of.{model_of}
use Rattle.book.proofs.Sounds.{sound_of, sound_at}
use Rattle.creating.specs.Places.{typed_place}
use Rattle.creating.proofs.Taken.{granted, refused, create_ok, op_taken, row_added, rows_are}
use Rattle.creating.proofs.operation.new_operation.Goals as goal

pub returns-in_err-check_operation-clause-step : goal.returns-in_err-check_operation-clause-step
returns-in_err-check_operation-clause-step c =
    let m = model_of c.args.book.now in
    let p = err_from_is_err_and c.from_residual.result c.from_residual.ensures.1 in
    rw (p.1, p.2) (refused (create_check limits m c.args.new.result_types.now c.args.new.operands.now c.args.new.successors.now c.args.new.num_regions) _ _ _ m c.in_err-check_operation.ensures.value)

pub invariant_of-book-2 : goal.invariant_of-book-2
invariant_of-book-2 c =
    let b = c.args.book.now in
    let m = model_of b in
    let s = c.in_ok-check_operation.ensures in
    let a = c.add-at.ensures in
    let g = c.add_regions.ensures in
    let y = c.fill.new.self in
    let p = row_added (vec_items b.ops.rows) _ a.rows.0 y _ _ a.rows.1 a.at b.ops.rows.ok.0 in
    let xs = c.fill_places.new.out in
    let ts = c.args.new.result_types.now in
    let vs = c.args.new.operands.now in
    let filled = c.fill.ensures ∙ ap (λ new. row_model new (record { value = b.next_value; block_use = b.next_use + length vs; region = c.num_regions.result })) c.with_operands.ensures in
    let ss = c.args.new.successors.now in
    let at = a.at ∙ rows_are op_model b.ops.rows in
    let z = ap (λ (o : OpM). standing o.parent) filled in
    let l = ap placed_ops p ∙ sum_by_push op_standing (vec_items b.ops.rows) y in
    let k : length vs ≡ length xs = sym (ap length c.fill_places.ensures ∙ length_numbered (typed_place m) m.uses vs) in
    let ok : Ok xs ≡ create_check limits m ts vs ss c.args.new.num_regions = ap Ok c.fill_places.ensures ∙ create_ok limits m ts vs ss c.args.new.num_regions s.value in
    let e = op_taken b xs (length vs) c.num_regions.result c.add-at.result k c.num_regions.ensures.rows at c.args.new.kind c.args.new.location None ts ss c.args.new.num_regions y _ _ p filled g.rows in
    record {
      made = omega (arith, b.made, a.len, s.few.0);
      fit = (omega (arith, l, z, b.fit.0), omega (arith, g.listed, b.fit.1));
      sound = sound_at _ _ e (sound_created limits m c.args.new.kind c.args.new.location None ts vs ss c.args.new.num_regions xs (sound_of b) ok);
    }

pub returns : goal.returns
returns c =
    let b = c.args.book.now in
    let m = model_of b in
    let xs = c.fill_places.new.out in
    let ts = c.args.new.result_types.now in
    let vs = c.args.new.operands.now in
    let filled = c.fill.ensures ∙ ap (λ new. row_model new (record { value = b.next_value; block_use = b.next_use + length vs; region = c.num_regions.result })) c.with_operands.ensures in
    let ss = c.args.new.successors.now in
    let a = c.add-at.ensures in
    let p = row_added (vec_items b.ops.rows) _ a.rows.0 c.fill.new.self _ _ a.rows.1 a.at b.ops.rows.ok.0 in
    let at = a.at ∙ rows_are op_model b.ops.rows in
    let k : length vs ≡ length xs = sym (ap length c.fill_places.ensures ∙ length_numbered (typed_place m) m.uses vs) in
    let ok : Ok xs ≡ create_check limits m ts vs ss c.args.new.num_regions = ap Ok c.fill_places.ensures ∙ create_ok limits m ts vs ss c.args.new.num_regions c.in_ok-check_operation.ensures.value in
    let e = op_taken b xs (length vs) c.num_regions.result c.add-at.result k c.num_regions.ensures.rows at c.args.new.kind c.args.new.location None ts ss c.args.new.num_regions c.fill.new.self _ _ p filled c.add_regions.ensures.rows in
    record {
      step = granted (create_check limits m ts vs ss c.args.new.num_regions) xs _ _ m _ c.add-at.result ok at e;
      lasts = subst (Lasts m) (sym e) (lasts_created limits m c.args.new.kind c.args.new.location None ts vs ss c.args.new.num_regions xs ok);
    }
