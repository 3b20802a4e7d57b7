use Rattle.std.proofs.Common.{rules, tests, ◌==◌, refl, ◌∙◌}
use Rattle.std.proofs.lemmas.Iterator.{YieldsList-from_slice}
use Rattle.std.proofs.lemmas.Iterator.Search.{find_from_yields_List}
use Rattle.model.specs.Model.{type_in}
use Rattle.rows.proofs.Scanned.{found_as, found_mapped}
use Rattle.rows.proofs.scan.find_type.Goals as goal

pub returns : goal.returns
returns c =
    let e = find_from_yields_List (λ d. d.val_uid == c.args.uid) _ _ c.find.result c.find.ensures.ran (YieldsList-from_slice c.args.definitions.now cc) (λ x b q k. search (rules, tests)) in
    found_mapped (λ d. d.ty) _ c.find.result c.map.result _ c.map.ensures.cases (λ d t k. search rules) e ∙ found_as (λ d. d.ty) (λ d. d.val_uid == c.args.uid) (type_in c.args.uid) refl (λ d ds. refl) c.args.definitions.now
