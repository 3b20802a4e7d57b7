use Rattle.std.proofs.Common.{rules, tests, refl, ◌∙◌}
use Rattle.std.proofs.lemmas.Iterator.{YieldsList-from_slice}
use Rattle.std.proofs.lemmas.Iterator.Search.{find_from_yields_List}
use Rattle.std.specs.Str.{bytes_eq}
use Rattle.text.specs.Names.{same_name}
use Rattle.rows.proofs.Scanned.{found_as, found_mapped}
use Rattle.session.specs.Names.{row_named}
use Rattle.session.proofs.names.Names.find.Goals as goal

pub returns : goal.returns
returns c =
    let e = find_from_yields_List (λ e. bytes_eq e.name c.args.name.now) _ _ c.find.result c.find.ensures.ran (YieldsList-from_slice c.args.self.now.entries.items cc) (λ x b q k. search (rules, tests, same_name)) in
    found_mapped (λ e. e.row) _ c.find.result c.map.result _ c.map.ensures.cases (λ e t k. search rules) e ∙ found_as (λ e. e.row) (λ e. bytes_eq e.name c.args.name.now) (row_named c.args.name.now) refl (λ e es. refl) c.args.self.now.entries.items
