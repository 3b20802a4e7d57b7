-- Inserting, replacing, removing, pushing and popping an operand.
use Rattle.std.proofs.Common.{◌≡◌, ℕ, ◌+◌, ◌<◌, [], ◌∷◌, ◌++◌, length, set, Ok, sym, refl, subst, inl, inr, ⊎_elim, arith, length-set}
use Rattle.std.specs.List.{insert, remove}
use Rattle.std.proofs.lemmas.List.{length_push}
use Rattle.std.proofs.lemmas.List.Edits.{length-insert, length-remove}
use Rattle.ir.specs.Limits.{Limits}
use Rattle.ir.specs.declared.value.Value.{Value}
use Rattle.ir.specs.declared.value.Operand.{Operand}
use Rattle.model.specs.Model.{OpM, BookM, with_operands}
use Rattle.model.specs.Steps.{edited, insert_check, replace_check, remove_check, push_check, pop_check, all_but_last}
use Rattle.model.specs.Sound.{Sound}
use Rattle.model.specs.Lasts.{Lasts}
use Rattle.model.proofs.Nths.{nth_below, nth_push}
use Rattle.model.proofs.Moves.{up_from, down_from, nth_inserted, nth_removed, nth_set, nth_but_last, length_but_last}
use Rattle.model.proofs.Passed.{Fits, Editable, Insertable, Replaceable, insert_passed, replace_passed, remove_passed, push_passed, pop_passed}
use Rattle.model.proofs.Changed.{Change, keeps_operands, lasts_changed, sound_changed}

-- an operand that was made for the edit, put in at place k
put_in : (m : BookM) (x : Operand) → Fits m m.uses x → (k j : ℕ) (y : Operand) → (j ≡ k) × (y ≡ x) → (j ≡ k) × (m.uses < m.uses + 1) × Fits m m.uses y
put_in m x f k j y p = (p.0, omega arith, subst (Fits m m.uses) (sym p.1) f)

-- ---- at a place

module _ (m : BookM) (i k : ℕ) (x : Operand) where
  insertion : (L : Limits) → Editable m i x (Insertable L m k) → Change m i (m.uses + 1) (with_operands (λ xs. insert xs k x)) (up_from k) k
  insertion L p = record {
    row = p.row;
    here = p.here;
    rise = omega arith;
    from = λ j y e. ⊎_elim inl (λ q. inr (put_in m x p.fit k j y q)) (nth_inserted p.row.body.operands k x p.can.0 j y e);
  }

  replacement : (L : Limits) → Editable m i x (Replaceable L m k) → Change m i (m.uses + 1) (with_operands (λ xs. set xs k x)) (λ j. j) k
  replacement L p = record {
    row = p.row;
    here = p.here;
    rise = omega arith;
    from = λ j y e. ⊎_elim inl (λ q. inr (put_in m x p.fit k j y q)) (nth_set p.row.body.operands k x j y e);
  }

  removal : Ok x ≡ remove_check m i k → Change m i m.uses (with_operands (λ xs. remove xs k)) (down_from k) k
  removal h =
      let p = remove_passed m i k x h in record {
        row = p.0;
        here = p.1;
        rise = omega arith;
        from = λ j y e. inl (nth_removed p.0.body.operands k j y e);
      }

module _ (L : Limits) (m : BookM) (i k : ℕ) (v : Value) (x : Operand) where
  pub lasts_inserted : Ok x ≡ insert_check L m i k v → Lasts m (edited m i (m.uses + 1) (λ xs. insert xs k x))
  lasts_inserted h = lasts_changed m i _ _ (up_from k) k (keeps_operands (λ xs. insert xs k x)) (insertion m i k x L (insert_passed L m i k v x h))

  pub sound_inserted : Sound L m → Ok x ≡ insert_check L m i k v → Sound L (edited m i (m.uses + 1) (λ xs. insert xs k x))
  unfolding insertion
  sound_inserted s h =
      let p = insert_passed L m i k v x h in
      sound_changed m i _ _ (up_from k) k (keeps_operands (λ xs. insert xs k x)) (insertion m i k x L p) L s
      (rw (length-insert p.row.body.operands k x p.can.0) (omega (arith, p.can.1)))
      (omega (arith, p.can.2))

  pub lasts_replaced : Ok x ≡ replace_check L m i k v → Lasts m (edited m i (m.uses + 1) (λ xs. set xs k x))
  lasts_replaced h = lasts_changed m i _ _ (λ j. j) k (keeps_operands (λ xs. set xs k x)) (replacement m i k x L (replace_passed L m i k v x h))

  pub sound_replaced : Sound L m → Ok x ≡ replace_check L m i k v → Sound L (edited m i (m.uses + 1) (λ xs. set xs k x))
  unfolding replacement
  sound_replaced s h =
      let p = replace_passed L m i k v x h in
      sound_changed m i _ _ (λ j. j) k (keeps_operands (λ xs. set xs k x)) (replacement m i k x L p) L s
      (rw (length-set p.row.body.operands k x) (s.few i p.row p.here).operands)
      (omega (arith, p.can.1))

pub lasts_removed : (m : BookM) (i k : ℕ) (x : Operand) → Ok x ≡ remove_check m i k → Lasts m (edited m i m.uses (λ xs. remove xs k))
lasts_removed m i k x h = lasts_changed m i _ _ (down_from k) k (keeps_operands (λ xs. remove xs k)) (removal m i k x h)

pub sound_removed : (L : Limits) (m : BookM) (i k : ℕ) (x : Operand) → Sound L m → Ok x ≡ remove_check m i k → Sound L (edited m i m.uses (λ xs. remove xs k))
unfolding removal
sound_removed L m i k x s h =
    let p = remove_passed m i k x h in
    let f = (s.few i p.0 p.1).operands in
    let l = length-remove p.0.body.operands k (nth_below p.0.body.operands k x p.2) in
    sound_changed m i _ _ (down_from k) k (keeps_operands (λ xs. remove xs k)) (removal m i k x h) L s (omega arith) s.few_uses

-- ---- at the end

pushing : (m : BookM) (i : ℕ) (x : Operand) (P : OpM → Type 0) (p : Editable m i x P) → Change m i (m.uses + 1) (with_operands (λ xs. xs ++ x ∷ [])) (λ j. j) (length p.row.body.operands)
pushing m i x P p = record {
  row = p.row;
  here = p.here;
  rise = omega arith;
  from = λ j y e. ⊎_elim (λ q. inl (j, refl, q)) (λ q. inr (put_in m x p.fit (length p.row.body.operands) j y q)) (nth_push p.row.body.operands x j y e);
}

module _ (L : Limits) (m : BookM) (i : ℕ) (v : Value) (a : ℕ × Operand) where
  pub lasts_pushed : Ok a ≡ push_check L m i v → Lasts m (edited m i (m.uses + 1) (λ xs. xs ++ a.1 ∷ []))
  lasts_pushed h = lasts_changed m i _ _ (λ j. j) _ (keeps_operands (λ xs. xs ++ a.1 ∷ [])) (pushing m i a.1 _ (push_passed L m i v a h))

  pub sound_pushed : Sound L m → Ok a ≡ push_check L m i v → Sound L (edited m i (m.uses + 1) (λ xs. xs ++ a.1 ∷ []))
  unfolding pushing
  sound_pushed s h =
      let p = push_passed L m i v a h in
      sound_changed m i _ _ (λ j. j) _ (keeps_operands (λ xs. xs ++ a.1 ∷ [])) (pushing m i a.1 _ p) L s
      (rw (length_push p.row.body.operands a.1) (omega (arith, p.can.0)))
      (omega (arith, p.can.1))

popping : (m : BookM) (i : ℕ) (x : Operand) → Ok x ≡ pop_check m i → Change m i m.uses (with_operands all_but_last) (λ j. j) 0
popping m i x h =
    let p = pop_passed m i x h in record {
      row = p.0;
      here = p.1;
      rise = omega arith;
      from = λ j y e. inl (j, refl, nth_but_last p.0.body.operands j y e);
    }

pub lasts_popped : (m : BookM) (i : ℕ) (x : Operand) → Ok x ≡ pop_check m i → Lasts m (edited m i m.uses all_but_last)
lasts_popped m i x h = lasts_changed m i _ _ (λ j. j) 0 (keeps_operands all_but_last) (popping m i x h)

pub sound_popped : (L : Limits) (m : BookM) (i : ℕ) (x : Operand) → Sound L m → Ok x ≡ pop_check m i → Sound L (edited m i m.uses all_but_last)
unfolding popping
sound_popped L m i x s h =
    let p = pop_passed m i x h in
    let f = (s.few i p.0 p.1).operands in
    let l = length_but_last p.0.body.operands in
    sound_changed m i _ _ (λ j. j) 0 (keeps_operands all_but_last) (popping m i x h) L s (omega arith) s.few_uses
