use Rattle.std.proofs.Common.{length, sym, refl, ap, arith}
use Rattle.text.specs.Reading.{first_of}
use Rattle.text.proofs.LineWords.{next_none, next_some, next_start}
use Rattle.text.proofs.reading.WordsIterator.next.Goals as goal

pub returns-in_err-span-clause-steps : goal.returns-in_err-span-clause-steps
returns-in_err-span-clause-steps c = rw c.from_residual.ensures (let none = next_none _ _ c.in_err-span.ensures in record { line = refl; takes = (none, none) })

pub returns-clause-steps : goal.returns-clause-steps
returns-clause-steps c =
    let next = c.in_ok-span.ensures in
    let first = next_some _ _ _ next in
    record {
      line = refl;
      takes = record {
        first = first;
        stands = record {
          forward = omega (arith, next.some);
          within = next.within;
          begins = next_start _ _ _ next;
          covers = sym (ap first_of first);
        };
      };
    }

pub returns-clause-goes : goal.returns-clause-goes
returns-clause-goes c =
    let fewer = ap length (next_some _ _ _ c.in_ok-span.ensures) in
    record { on = λ _. (tt, tt, omega (arith, fewer)); keeps = tt; rests = λ _. tt }
