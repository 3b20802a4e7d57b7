use Rattle.std.proofs.Common.{◌≡◌, drop}
use Rattle.text.proofs.Numerals.{read}
use Rattle.text.proofs.numbers.number.Given as goal

-- what is left of the word, read on from n, gives what the whole word gives
abbrev pub invariant-loop-b : goal.invariant-loop-b
invariant-loop-b l = read l.most l.n (drop l.b-index l.word) ≡ read l.most 0 l.word
