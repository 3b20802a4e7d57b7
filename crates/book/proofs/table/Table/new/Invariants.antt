use Rattle.std.proofs.Common.{◌≡◌, vec_len, vec_capacity}
use Rattle.book.proofs.table.Table.new.Given as goal

abbrev pub invariant-loop-i : goal.invariant-loop-i
invariant-loop-i g l = (vec_len l.spares ≡ l._i) × (vec_capacity l.spares ≡ vec_capacity l.initial.spares)
