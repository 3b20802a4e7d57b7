use Rattle.std.proofs.lemmas.Result.{err_from_is_err_and}
use Rattle.ir.specs.Limits.{limits}
use Rattle.book.specs.Of.{model_of}
use Rattle.calls.proofs.Refusals.{refusal_keeps}
use Rattle.session.proofs.enter.carry_out.Goals as goal

pub returns-in_err-apply : goal.returns-in_err-apply
returns-in_err-apply c =
    let p = err_from_is_err_and c.from_residual.result c.from_residual.ensures.1 in
    rw p.1 (refusal_keeps limits (model_of c.args.book.now) c.args.call.now _ (model_of c.apply.new.book) c.in_err-apply.ensures.step)
