use Rattle.std.proofs.Common.{◌≡◌, ◌+◌, ◌∙◌, rules}
use Rattle.rows.specs.Of.{op_model}
use Rattle.book.specs.Of.{model_of}
use Rattle.operands.proofs.Ends.{pop_is}
use Rattle.operands.proofs.edits.pop_operand.Goals as goal

pub returns-clause-step : goal.returns-clause-step
returns-clause-step c =
    let o = c.in_ok-op.field-0.now in
    let k : c.in_ok-last.last + 1 ≡ c.len-n.result = search rules in
    pop_is (model_of c.args.book.now) c.args.op c.in_ok-last.last c.len-n.result (op_model o) c.in_ok-op.ensures.value (c.len-n.ensures ∙ o.operands.ok.0) k ∙ c.remove_operand.ensures.step
