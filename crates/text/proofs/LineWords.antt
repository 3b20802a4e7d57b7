-- The words of a line from a place on, by where the next word stands.
use Rattle.std.proofs.Common.{◌≡◌, ℕ, zero, suc, ◌+◌, ◌-◌, ◌<◌, ◌≤◌, Bool, true, false, eqb, List, [], ◌∷◌, ◌++◌, length, get_or, take, drop, sym, refl, ap, ◌∙◌, ⊎_elim, append_assoc, append-nil, add-zero, arith, length-drop, length-take-le, get_or-drop, drop-drop}
use Rattle.std.proofs.lemmas.List.{drop_all}
use Rattle.std.proofs.lemmas.Bool.{cases_lt}
use Rattle.std.proofs.lemmas.Bool.Decides.{nat_tests}
use Rattle.text.specs.Words.{blank, in_word, Holds, NextWord, NoWord, ended, words_after, words}
use Rattle.text.specs.declared.words.Span.{Span}

-- bytes of a word go on with the word that has begun
run : (n : ℕ) (bs word : List ℕ) → n ≤ length bs → ((k : ℕ) → k < n → in_word (get_or bs k 0) ≡ true) → words_after word bs ≡ words_after (word ++ take n bs) (drop n bs)
run zero bs word short all = rw (append-nil word) refl
run (suc n) [] word short all = absurd (omega arith)
run (suc n) (b ∷ bs) word short all =
    rw (all 0 (omega arith)) (run n bs (word ++ b ∷ []) (omega arith) (λ k h. all (suc k) (omega arith)) ∙ rw (append_assoc word (b ∷ []) (take n bs)) refl)

-- a word ends where the line does, at a blank or at a comment
stop : (bs word : List ℕ) → (0 < length bs → in_word (get_or bs 0 0) ≡ false) → words_after word bs ≡ ended word ++ words bs
stop [] word ends = sym (append-nil (ended word))
stop (b ∷ bs) word ends = rw (ends (omega arith)) refl

blank_apart : (b : ℕ) → blank b ≡ true → (in_word b ≡ false) × (eqb b 35 ≡ false)
blank_apart b h = (grind (arith, nat_tests), grind (arith, nat_tests))

skip : (n : ℕ) (bs : List ℕ) → n ≤ length bs → ((k : ℕ) → k < n → blank (get_or bs k 0) ≡ true) → words bs ≡ words (drop n bs)
skip zero bs short all = refl
skip (suc n) [] short all = absurd (omega arith)
skip (suc n) (b ∷ bs) short all =
    let apart = blank_apart b (all 0 (omega arith)) in
    rw (apart.0, apart.1) (skip n bs (omega arith) (λ k h. all (suc k) (omega arith)))

ended_some : (word : List ℕ) → 0 < length word → (rest : List (List ℕ)) → ended word ++ rest ≡ word ∷ rest
ended_some [] some rest = absurd (omega arith)
ended_some (b ∷ bs) some rest = refl

comment : (bs : List ℕ) → 0 < length bs → get_or bs 0 0 ≡ 35 → words bs ≡ []
comment [] some e = absurd (omega arith)
comment (b ∷ bs) some e = rw e refl

-- the same by places of a line
module _ (line : List ℕ) where
  -- the bytes from `low` up to `high`, seen from `low`
  from_low : (test : ℕ → Bool) (low high : ℕ) → Holds test line low high → (k : ℕ) → k < high - low → test (get_or (drop low line) k 0) ≡ true
  from_low test low high all k h = rw (get_or-drop low line k 0) (all (low + k) (omega arith) (omega arith))

  first_byte : (place : ℕ) → get_or (drop place line) 0 0 ≡ get_or line place 0
  first_byte place = get_or-drop place line 0 0 ∙ ap (λ k. get_or line k 0) (add-zero place)

  drop_to : (low high : ℕ) → low ≤ high → drop (high - low) (drop low line) ≡ drop high line
  drop_to low high h =
      let back : low + (high - low) ≡ high = omega arith in
      drop-drop (high - low) low line ∙ ap (λ k. drop k line) back

  skipped : (low high : ℕ) → low ≤ high → high ≤ length line → Holds blank line low high → words (drop low line) ≡ words (drop high line)
  skipped low high h within all =
      skip (high - low) (drop low line) (simp length-drop (omega arith)) (from_low blank low high all) ∙ ap words (drop_to low high h)

  at_end : (low stop : ℕ) → length line ≤ stop → Holds blank line low stop → words (drop low line) ≡ []
  at_end low stop past all =
      ⊎_elim
      (λ h. skipped low (length line) (omega arith) (omega arith) (λ k a b. all k a (omega arith)) ∙ rw (drop_all (length line) line (omega arith)) refl)
      (λ h. rw (drop_all low line h) refl)
      (cases_lt low (length line))

  pub next_none : (low : ℕ) → NoWord line low → words (drop low line) ≡ []
  next_none low (place, after, all, why) =
      ⊎_elim
      (λ past. at_end low place past all)
      (λ (hash : get_or line place 0 ≡ 35).
      ⊎_elim
      (λ (h : place < length line). skipped low place after (omega arith) all ∙ comment (drop place line) (simp length-drop (omega arith)) (first_byte place ∙ hash))
      (λ past. at_end low place past all)
      (cases_lt place (length line)))
      why

  pub next_start : (low : ℕ) (word : Span) → NextWord line low word → words (drop word.start line) ≡ words (drop low line)
  next_start low word next =
      sym (skipped low word.start next.after (omega (arith, next.some, next.within)) next.skipped)

  pub next_some : (low : ℕ) (word : Span) → NextWord line low word → words (drop low line) ≡ take (word.end - word.start) (drop word.start line) ∷ words (drop word.end line)
  next_some low word next =
      let size = word.end - word.start in
      let rest = drop word.start line in
      let short : size ≤ length rest = simp length-drop (omega (arith, next.within)) in
      let some : 0 < length (take size rest) = rw (length-take-le size rest short) (omega (arith, next.some)) in
      sym (next_start low word next)
      ∙ run size rest [] short (from_low in_word word.start word.end next.whole)
      ∙ ap (words_after (take size rest)) (drop_to word.start word.end (omega (arith, next.some)))
      ∙ stop (drop word.end line) (take size rest) (λ h. ap in_word (first_byte word.end) ∙ next.ends (omega (arith, simp length-drop at h)))
      ∙ ended_some (take size rest) some (words (drop word.end line))
