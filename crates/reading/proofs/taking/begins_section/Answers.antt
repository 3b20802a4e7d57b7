use Rattle.std.proofs.Common.{◌≡◌, map, refl, ◌∙◌, rules}
use borrow.Author.Tests.{tests}
use Rattle.std.specs.Str.{bytes_eq}
use Rattle.std.proofs.lemmas.Iterator.{YieldsList-from_slice}
use Rattle.std.proofs.lemmas.Iterator.Search.{any_from_yields_List}
use Rattle.reading.proofs.Sections.{keys, any_key}
use Rattle.reading.proofs.taking.begins_section.Goals as goal

pub returns : goal.returns
returns c =
    let rest = c.iter.result.rest.now in
    let table : map (λ s. s.now) rest ≡ keys = search rules in
    any_from_yields_List (λ s. bytes_eq c.args.word.now s.now) _ _ _ c.any.ensures.ran (YieldsList-from_slice rest refl) (λ x b q k. search (rules, tests)) ∙ any_key (λ s. s.now) c.args.word.now rest table
