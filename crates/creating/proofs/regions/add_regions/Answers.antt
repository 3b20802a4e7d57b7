use Rattle.std.proofs.Common.{List, [], ◌∷◌, ◌++◌, map, replicate, vec_items, ap, ◌∙◌, append_assoc, arith}
use Rattle.std.proofs.lemmas.List.{map_push, replicate_more}
use Rattle.std.proofs.lemmas.List.Sums.{sum_by_push}
use Rattle.rows.specs.Counts.{listed_blocks, block_count}
use Rattle.rows.specs.Of.{region_model}
use Rattle.model.specs.Model.{RegionM, new_region}
use Rattle.creating.proofs.Taken.{row_added}
use Rattle.creating.proofs.regions.add_regions.Goals as goal

pub loop-i-preserved : goal.loop-i-preserved
loop-i-preserved c =
    let e = new_region c.args.owner in
    let y = c.fill.new.self in
    let a = c.add-at.ensures in
    let xs = vec_items c.loop-i.regions.rows in
    let p = row_added xs _ a.rows.0 y _ _ a.rows.1 a.at c.loop-i.regions.rows.ok.0 in
    let l = map region_model (vec_items c.args.regions.now.rows) in
    let i = c.loop-i._i in (
      ap (map region_model) p ∙ (map_push region_model xs y ∙
          (ap (λ (r : RegionM). map region_model xs ++ r ∷ []) c.fill.ensures.after ∙
          (ap (λ (k : List RegionM). k ++ e ∷ []) c.loop-i.invariant.0 ∙
          (append_assoc l (replicate i e) (e ∷ []) ∙ ap (λ (k : List RegionM). l ++ k) (replicate_more i e))))),
      (
        omega (arith, a.len, c.loop-i.invariant.1.0),
        ap listed_blocks p ∙ omega (arith, sum_by_push block_count xs y, c.fill.ensures.count, c.loop-i.invariant.1.1),
      ),
    )
