use Rattle.std.proofs.Common.{◌+◌, sym, rules, arith}
use borrow.Author.Tests.{tests}
use Rattle.std.proofs.lemmas.List.{take_rest, take_all, drop_all}
use Rattle.std.proofs.lemmas.List.Sums.{prefix_len_is}
use Rattle.text.specs.Marks.{other_than}
use Rattle.text.proofs.marks.cut.Goals as goal

pub returns-then-at-word : goal.returns-then-at-word
returns-then-at-word c =
    let run = c.run-at.ensures in
    let at = prefix_len_is (other_than c.args.mark) c.args.word.now c.run-at.result 0 run.within (λ k h. search (rules, tests, run.all k h)) (λ h. search (rules, tests, run.stops h)) in
    record { front = rw at; back = rw (at, take_rest) }

pub returns-else-at-word : goal.returns-else-at-word
returns-else-at-word c =
    let word = c.args.word.now in
    let run = c.run-at.ensures in
    let at = prefix_len_is (other_than c.args.mark) word c.run-at.result 0 run.within (λ k h. search (rules, tests, run.all k h)) (λ h. absurd (omega arith)) in
    record { front = rw at (sym (take_all c.run-at.result word (omega arith))); back = rw at (sym (drop_all (c.run-at.result + 1) word (omega arith))) }
