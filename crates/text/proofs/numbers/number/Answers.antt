use Rattle.std.proofs.Common.{◌≡◌, Some, sym}
use Rattle.std.proofs.lemmas.Bool.{eqb-false}
use Rattle.text.specs.Numbers.{number_of}
use Rattle.text.proofs.Numerals.{read_whole, read_on, read_stop, read_end, number_bound}
use Rattle.text.proofs.numbers.number.Goals as goal

pub returns-in_err-n : goal.returns-in_err-n
returns-in_err-n c =
    let stop = read_stop _ _ _ _ c.loop-b-test.true c.in_err-n.ensures in
    let whole = read_whole c.args.most _ (eqb-false _ _ (sym c.if-is_empty.ensures)) in
    let value : c.from_residual.result ≡ number_of c.args.word.now c.args.most = cc in
    record { value = value; bound = number_bound c.args.word.now _ _ value }

pub loop-b-preserved : goal.loop-b-preserved
loop-b-preserved c = let on = read_on _ _ _ _ _ c.loop-b-test.true c.in_ok-n.ensures in cc

pub returns : goal.returns
returns c =
    let end = read_end c.args.most c.loop-b.n _ _ c.loop-b-test.false in
    let whole = read_whole c.args.most _ (eqb-false _ _ (sym c.if-is_empty.ensures)) in
    let value : Some c.loop-b.n ≡ number_of c.args.word.now c.args.most = cc in
    record { value = value; bound = number_bound c.args.word.now _ _ value }
