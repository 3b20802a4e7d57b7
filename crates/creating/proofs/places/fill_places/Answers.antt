use Rattle.std.proofs.Common.{ℕ, ◌+◌, get_or, take, set, Option, unwrap_or, sym, ap, ◌∙◌, arith}
use Rattle.std.proofs.lemmas.List.{take_all, take_more_set}
use Rattle.ir.specs.declared.value.DefiningEntity.TheVariants.{Op}
use Rattle.ir.specs.declared.value.Operand.{Operand}
use Rattle.model.specs.Model.{numbered}
use Rattle.rows.proofs.Numbered.{numbered_step}
use Rattle.book.specs.Of.{model_of}
use Rattle.book.proofs.Sounds.{sound_of}
use Rattle.creating.specs.Places.{typed_place}
use Rattle.creating.proofs.places.fill_places.Goals as goal

pub overflow_add-out : goal.overflow_add-out
overflow_add-out c = omega (arith, (sound_of c.args.book.now).few_uses, c.requires.1, c.loop-i-test.true)

pub loop-i-preserved : goal.loop-i-preserved
loop-i-preserved c =
    let m = model_of c.args.book.now in
    let i = c.loop-i.i in
    let v = get_or c.args.values.now i (record { val_uid = 0; defining_entity = Op 0 }) in
    let x : Operand = record { value = v; use_uid = m.uses + i; ty = c.unwrap_or.result } in
    numbered_step (typed_place m) m.uses c.args.values.now i (record { val_uid = 0; defining_entity = Op 0 }) (m.uses + i) x (take i c.loop-i.out) (take (i + 1) (set c.loop-i.out i x)) c.loop-i-test.true c.loop-i.invariant (omega arith)
    (ap (λ (t : ℕ). record { value = v; use_uid = m.uses + i; ty = t }) (c.unwrap_or.ensures ∙ ap (λ (o : Option ℕ). unwrap_or o 0) c.type_of.ensures))
    (take_more_set c.loop-i.out i x (omega (arith, c.loop-i.auto.out, c.requires.0)))

pub returns : goal.returns
returns c =
    sym (take_all c.loop-i.i c.loop-i.out (omega (arith, c.loop-i.auto.out, c.requires.0, c.loop-i-test.false))) ∙ (c.loop-i.invariant ∙
    ap (numbered (typed_place (model_of c.args.book.now)) (model_of c.args.book.now).uses) (take_all c.loop-i.i c.args.values.now c.loop-i-test.false))
