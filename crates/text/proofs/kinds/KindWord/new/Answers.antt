use Rattle.std.proofs.Common.{◌≡◌, map, sym, refl, ap, ◌∙◌, rules}
use borrow.Author.Tests.{tests}
use Rattle.std.specs.Str.{bytes_eq}
use Rattle.std.specs.Option.{option_map}
use Rattle.std.proofs.lemmas.Iterator.{YieldsList-from_slice}
use Rattle.std.proofs.lemmas.Iterator.Search.{find_from_yields_List}
use Rattle.text.specs.declared.kinds.KindWord.TheVariants.{Number}
use Rattle.text.proofs.KindNames.{names, kind_found}
use Rattle.text.proofs.kinds.KindWord.new.Goals as goal

pub returns-in-Some : goal.returns-in-Some
returns-in-Some c =
    let word = c.args.word.now in
    let rest = c.iter.result.rest.now in
    let table : map (λ p. (p.0.now, p.1)) rest ≡ names = search rules in
    let found = find_from_yields_List (λ p. bytes_eq word p.0.now) _ _ c.find.result c.find.ensures.ran (YieldsList-from_slice rest refl) (λ x b q k. search (rules, tests)) in
    kind_found (λ p. (p.0.now, p.1)) word rest _ table (ap (option_map (λ x. x.now)) (sym c.in-Some.is) ∙ found)

pub returns-in_err-number-in-None : goal.returns-in_err-number-in-None
returns-in_err-number-in-None c =
    let word = c.args.word.now in
    let rest = c.iter.result.rest.now in
    let table : map (λ p. (p.0.now, p.1)) rest ≡ names = search rules in
    let found = find_from_yields_List (λ p. bytes_eq word p.0.now) _ _ c.find.result c.find.ensures.ran (YieldsList-from_slice rest refl) (λ x b q k. search (rules, tests)) in
    let number = kind_found (λ p. (p.0.now, p.1)) word rest _ table (ap (option_map (λ x. x.now)) (sym c.in-None.is) ∙ found) in
    c.from_residual.ensures ∙ ap (option_map Number) c.in_err-number-in-None.ensures.value ∙ number
