use Rattle.std.specs.List.{remove}
use Rattle.ir.specs.Limits.{limits}
use Rattle.model.proofs.Edited.{sound_removed, lasts_removed}
use Rattle.book.specs.Of.{model_of}
use Rattle.operands.proofs.Written.{written_holds, written_steps}
use Rattle.operands.proofs.edits.remove_operand.Goals as goal

pub invariant_of-book : goal.invariant_of-book
invariant_of-book c =
    let a = c.args in
    let b = a.book.now in
    let x = c.in_ok-x.x in
    let s = c.in_ok-x.ensures in
    let p = written_holds b a.op b.next_use (λ _ xs. remove xs a.k) _ x s.value _ c.remove.new.self c.index_mut.ensures.value c.remove.ensures s.safe.0 (sound_removed limits (model_of b) a.op a.k x) in
    ((b.ops.room, (b.ops.all, tt)), (b.made, (p.0, (p.1, tt))))

pub returns : goal.returns
returns c =
    let a = c.args in
    let b = a.book.now in
    let x = c.in_ok-x.x in
    let p = written_steps b a.op b.next_use (λ _ xs. remove xs a.k) _ x c.in_ok-x.ensures.value _ c.remove.new.self c.index_mut.ensures.value c.remove.ensures (λ x. x.value) (lasts_removed (model_of b) a.op a.k x) in
    record { step = p.0; lasts = p.1 }
