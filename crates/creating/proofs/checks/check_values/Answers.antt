use Rattle.std.proofs.Common.{sym, ◌∙◌}
use Rattle.std.proofs.lemmas.List.{at_drop_all}
use Rattle.std.proofs.lemmas.Result.{err_from_is_err_and}
use Rattle.ir.specs.declared.value.DefiningEntity.TheVariants.{Op}
use Rattle.book.specs.Of.{model_of}
use Rattle.creating.proofs.Found.{found, found_is, found_on, found_stops}
use Rattle.creating.proofs.checks.check_values.Goals as goal

pub returns-in_err-value_type : goal.returns-in_err-value_type
returns-in_err-value_type c =
    let m = model_of c.args.book.now in
    let p = err_from_is_err_and c.from_residual.result c.from_residual.ensures.1 in
    rw (p.1, p.2) (found_stops m c.args.values.now c.loop-v.v-index (record { val_uid = 0; defining_entity = Op 0 }) _ c.loop-v-test.true c.in_err-value_type.ensures ∙ (c.loop-v.invariant ∙ sym (found_is m m.uses c.args.values.now)))

pub loop-v-preserved : goal.loop-v-preserved
loop-v-preserved c = found_on (model_of c.args.book.now) c.args.values.now c.loop-v.v-index (record { val_uid = 0; defining_entity = Op 0 }) _ c.loop-v-test.true c.in_ok-value_type.ensures ∙ c.loop-v.invariant

pub returns : goal.returns
returns c =
    let m = model_of c.args.book.now in
    sym (at_drop_all (found m) c.args.values.now c.loop-v.v-index c.loop-v-test.false) ∙ (c.loop-v.invariant ∙ sym (found_is m m.uses c.args.values.now))
