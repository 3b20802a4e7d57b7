-- How far a test holds in a line.
use Rattle.std.proofs.Common.{◌≡◌, ℕ, ◌+◌, ◌-◌, ◌<◌, ◌≤◌, Bool, true, false, List, length, get_or, drop, take, sym, ap, ◌∙◌, arith, length-drop, get_or-drop}
use Rattle.std.proofs.lemmas.List.{take_rest}
use Rattle.std.proofs.lemmas.Bool.Decides.{nat_tests}
use Rattle.text.specs.Words.{blank, in_word, Holds}

-- the bytes of a line from `low` on pass the test, this many and no more
pub record Run (test : ℕ → Bool) (line : List ℕ) (low size : ℕ) : Type 0 where
  pub within : low + size ≤ length line
  pub holds : Holds test line low (low + size)
  pub stops : low + size < length line → test (get_or line (low + size) 0) ≡ false

-- the same, as it is counted in the bytes from `low` on
pub run_at : (test : ℕ → Bool) (line rest : List ℕ) (low size : ℕ) → low ≤ length line → rest ≡ take (length line - low) (drop low line) → size ≤ length rest → ((k : ℕ) → k < size → true ≡ test (get_or rest k 0)) → (size < length rest → false ≡ test (get_or rest size 0)) → Run test line low size
run_at test line rest low size inside is_rest within all stops =
    let is_drop : rest ≡ drop low line = is_rest ∙ take_rest line low in
    let long : length rest ≡ length line - low = ap length is_drop ∙ length-drop low line in
    let at : (k : ℕ) → get_or rest k 0 ≡ get_or line (low + k) 0 = λ k. rw is_drop (get_or-drop low line k 0) in
    record {
      within = omega arith;
      holds = λ k after before. let here : low + (k - low) ≡ k = omega arith in rw (at (k - low), here) at (sym (all (k - low) (omega arith)));
      stops = λ h. rw (at size) at (sym (stops (omega arith)));
    }

-- neither a blank nor in a word
pub comment_sign : (b : ℕ) → blank b ≡ false → in_word b ≡ false → b ≡ 35
comment_sign b h k = grind (arith, nat_tests)
