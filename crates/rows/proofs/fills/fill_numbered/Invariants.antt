use Rattle.std.proofs.Common.{◌≡◌, take, vec_items, vec_len, vec_capacity}
use Rattle.model.specs.Model.{numbered}
use Rattle.rows.proofs.fills.fill_numbered.Given as goal

abbrev pub invariant-loop-i : goal.invariant-loop-i
invariant-loop-i g l =
    (vec_items l.out ≡ numbered g.T.Numbered.numbers l.first (take l.i l.from)) × ((vec_len l.out ≡ l.i) × (vec_capacity l.out ≡ vec_capacity l.initial.out))
