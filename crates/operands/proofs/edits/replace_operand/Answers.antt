use Rattle.std.proofs.Common.{◌+◌, set}
use Rattle.ir.specs.Limits.{limits}
use Rattle.model.specs.Steps.{use_of}
use Rattle.model.proofs.Edited.{sound_replaced, lasts_replaced}
use Rattle.book.specs.Of.{model_of}
use Rattle.operands.proofs.Written.{written_holds, written_steps}
use Rattle.operands.proofs.edits.replace_operand.Goals as goal

pub invariant_of-book-2 : goal.invariant_of-book-2
invariant_of-book-2 c =
    let a = c.args in
    let b = a.book.now in
    let x = c.in_ok-x.x in
    let s = c.in_ok-x.ensures in
    let p = written_holds b a.op (b.next_use + 1) (λ x xs. set xs a.k x) _ x s.value _ c.replace.new.self c.index_mut.ensures.value c.replace.ensures s.safe.0.0 (sound_replaced limits (model_of b) a.op a.k a.v x) in
    record { made = b.made; fit = p.0; sound = p.1 }

pub returns : goal.returns
returns c =
    let a = c.args in
    let b = a.book.now in
    let x = c.in_ok-x.x in
    let p = written_steps b a.op (b.next_use + 1) (λ x xs. set xs a.k x) _ x c.in_ok-x.ensures.value _ c.replace.new.self c.index_mut.ensures.value c.replace.ensures (use_of a.op) (lasts_replaced limits (model_of b) a.op a.k a.v x) in
    record { step = rw c.new.ensures p.0; lasts = p.1 }
