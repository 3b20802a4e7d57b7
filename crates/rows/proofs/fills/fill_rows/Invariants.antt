use Rattle.std.proofs.Common.{◌≡◌, ◌+◌, vec_items, vec_len, vec_capacity}
use Rattle.std.specs.List.{range_with_len}
use Rattle.rows.proofs.fills.fill_rows.Given as goal

abbrev pub invariant-loop-i : goal.invariant-loop-i
invariant-loop-i l = (vec_items l.out ≡ range_with_len l.first (vec_len l.out)) × ((l.first + vec_len l.out ≡ l.i) × (vec_capacity l.out ≡ vec_capacity l.initial.out))
