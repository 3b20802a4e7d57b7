use Rattle.std.proofs.Common.{rules, of_calls, ◌∙◌}
use Rattle.std.proofs.lemmas.Iterator.{YieldsList-from_slice, YieldsList-from_map}
use Rattle.std.proofs.lemmas.Iterator.Consumers.{sum_by_from_yields_List, fits_by_from_yields_list}
use Rattle.uses.proofs.Few.{found_in, found_all, found_fit}
use Rattle.uses.proofs.listing.count.Goals as goal

pub sum-requires : goal.sum-requires
sum-requires g c = record {
  can = search of_calls;
  finite = search of_calls;
  fits = fits_by_from_yields_list _ _ c.map.result _
      (YieldsList-from_map _ (found_in g.P.UsePlace.kind c.args.x) (YieldsList-from_slice c.as_slice-rows.result.now cc) c.map.ensures.closure (λ x r q k. search rules))
      (found_fit g.P.UsePlace.kind c.args.x c.args.book.now c.as_slice-rows.result.now c.as_slice-rows.ensures.value g.met.P.UsePlace.few);
}

pub returns : goal.returns
returns g c =
    sum_by_from_yields_List _ _ c.map.result _ c.sum.ensures.ran
    (YieldsList-from_map _ (found_in g.P.UsePlace.kind c.args.x) (YieldsList-from_slice c.as_slice-rows.result.now cc) c.map.ensures.closure (λ x r q k. search rules)) ∙
    found_all g.P.UsePlace.kind c.args.x c.args.book.now c.as_slice-rows.result.now c.as_slice-rows.ensures.value
