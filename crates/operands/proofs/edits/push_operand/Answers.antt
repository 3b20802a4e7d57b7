use Rattle.std.proofs.Common.{Ok, ◌∙◌}
use Rattle.ir.specs.Limits.{limits}
use Rattle.rows.specs.Of.{op_model}
use Rattle.book.specs.Of.{model_of}
use Rattle.operands.proofs.Ends.{push_from}
use Rattle.operands.proofs.edits.push_operand.Goals as goal

pub returns : goal.returns
returns c =
    let o = c.in_ok-op.field-0.now in
    let s = c.in_ok-made.ensures in
    record {
      step = push_from limits (model_of c.args.book.now) (model_of c.insert_operand.new.book) c.args.op c.len-index.result c.args.v (op_model o) (Ok c.in_ok-made.made) c.in_ok-op.ensures.value (c.len-index.ensures ∙ o.operands.ok.0) s.step;
      lasts = s.lasts;
    }
