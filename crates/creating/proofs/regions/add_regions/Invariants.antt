use Rattle.std.proofs.Common.{◌≡◌, ◌+◌, ◌++◌, map, replicate, vec_items, vec_len}
use Rattle.rows.specs.Counts.{listed_blocks}
use Rattle.rows.specs.Of.{region_model}
use Rattle.model.specs.Model.{new_region}
use Rattle.creating.proofs.regions.add_regions.Given as goal

abbrev pub invariant-loop-i : goal.invariant-loop-i
invariant-loop-i l =
    (map region_model (vec_items l.regions.rows) ≡ map region_model (vec_items l.initial.regions.rows) ++ replicate l._i (new_region l.owner)) ×
    ((vec_len l.regions.rows ≡ vec_len l.initial.regions.rows + l._i) × (listed_blocks (vec_items l.regions.rows) ≡ listed_blocks (vec_items l.initial.regions.rows)))
