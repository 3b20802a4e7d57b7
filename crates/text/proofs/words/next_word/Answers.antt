use Rattle.std.proofs.Common.{◌≡◌, ◌+◌, ◌-◌, ◌<◌, ◌≤◌, Bool, true, false, MatchOption, length, get_or, take, drop, refl, ⊎_elim, inl, inr, rules, arith}
use Rattle.std.specs.Bool.{then_some}
use Rattle.std.proofs.lemmas.Bool.{cases_lt, ltb-true, ltb-false}
use Rattle.text.proofs.Scans.{run_at, comment_sign}
use Rattle.text.specs.Words.{blank, in_word, NextWord, NoWord}
use Rattle.text.proofs.words.next_word.Goals as goal

by_test : {T : Type 0} (No : Type 0) (Yes : T → Type 0) (b : Bool) (x : T) → (b ≡ true → Yes x) → (b ≡ false → No) → MatchOption (then_some b x) No Yes
by_test No Yes true x word none = word refl
by_test No Yes false x word none = none refl

pub returns : goal.returns
returns c =
    let line = c.args.line.now in
    let start = c.args.from + c.run.result in
    let inside : c.args.from ≤ length line = search rules in
    let rest : c.in_ok-rest.rest.now ≡ take (length line - c.args.from) (drop c.args.from line) = search rules in
    let gap = run_at blank line _ c.args.from _ inside rest c.run.ensures.within c.run.ensures.all c.run.ensures.stops in
    let word = run_at in_word line _ start _ gap.within refl c.run-2.ensures.within c.run-2.ensures.all c.run-2.ensures.stops in
    rw c.then_some.ensures (by_test (NoWord line c.args.from) (NextWord line c.args.from) _ _
    (λ t. record { after = omega arith; skipped = gap.holds; some = ltb-true _ _ t; within = word.within; whole = word.holds; ends = word.stops })
    (λ t.
    let none : start + c.run-2.result ≡ start = omega (arith, ltb-false _ _ t) in
    let why = ⊎_elim (λ (h : start < length line). inr (comment_sign (get_or line start 0) (gap.stops h) (rw none at (word.stops (omega arith))))) (λ h. inl h) (cases_lt start (length line)) in
    (start, omega arith, gap.holds, why)))
