use Rattle.std.proofs.Common.{◌≡◌, ℕ, Ok, refl, rules, tests, arith}
use Rattle.std.proofs.lemmas.Iterator.{cases_from_all, YieldsList-from_range}
use Rattle.book.specs.Of.{model_of}
use Rattle.kinds.specs.Verdict.{accepted}
use Rattle.branches.specs.Verdicts.{verdict_of}
use Rattle.branches.proofs.Ranges.{Decides-below}
use Rattle.branches.proofs.verify.all_accepted.Goals as goal

pub returns : goal.returns
returns g c =
    let P = λ (i : ℕ). verdict_of (g.F.BranchOpInterface.branching c.args.fam.now) (model_of c.args.book.now) i ≡ Ok accepted in
    rw (← c.num_ops.ensures.rows) (Decides-below P c.num_ops.result _ (cases_from_all _ _ _ P (λ i. P i → ⊥) c.all.ensures.ran (YieldsList-from_range 0 c.num_ops.result c.num_ops.result refl (omega arith)) (λ x q k. search (rules, tests)) (λ x q k. search (rules, tests))))
