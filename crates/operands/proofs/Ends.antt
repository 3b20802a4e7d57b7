-- A push is an insertion at the end, a pop the removal of the last.
use Rattle.std.proofs.Common.{◌≡◌, ℕ, zero, suc, ◌+◌, Bool, true, false, leb, List, [], ◌∷◌, ◌++◌, length, Some, Ok, Err, Result, sym, refl, ap, ◌∙◌, arith}
use Rattle.std.specs.List.{insert, remove, slice_get}
use Rattle.std.proofs.lemmas.List.{take_all, drop_all}
use Rattle.std.proofs.lemmas.Bool.{le-leb, false≢true}
use Rattle.ir.specs.Limits.{Limits}
use Rattle.ir.specs.declared.refusal.Refusal.{Refusal}
use Rattle.ir.specs.declared.refusal.Refusal.TheVariants.{NoRow, OutOfRange}
use Rattle.ir.specs.declared.value.Value.{Value}
use Rattle.ir.specs.declared.value.Operand.{Operand}
use Rattle.ir.specs.declared.value.Use.{Use}
use Rattle.ir.specs.declared.value.Pushed.{Pushed}
use Rattle.model.specs.Model.{OpM, BookM, with_operands}
use Rattle.model.specs.Checks.{and_then, demand, map_ok, edit, steps, op_row, place, operand}
use Rattle.model.specs.Steps.{edited, one_more_check, use_of, pushed, insert_step, push_step, remove_step, pop_step, last_of, all_but_last}
use Rattle.model.proofs.Passed.{was_some}

-- two changes that agree on the row that is there
edit_agree : {X : Type 0} (f g : X → X) (xs : List X) (i : ℕ) (x : X) → slice_get xs i ≡ Some x → f x ≡ g x → edit xs i f ≡ edit xs i g
edit_agree f g [] i x h e = refl
edit_agree f g (y ∷ ys) zero x h e = let w : y ≡ x = cc in ap (λ z. z ∷ ys) (ap f w ∙ e ∙ ap g (sym w))
edit_agree f g (y ∷ ys) (suc i) x h e = ap (λ zs. y ∷ zs) (edit_agree f g ys i x h e)

edited_agree : (m : BookM) (i n : ℕ) (f g : List Operand → List Operand) (o : OpM) → Ok o ≡ op_row m i → f o.body.operands ≡ g o.body.operands → edited m i n f ≡ edited m i n g
edited_agree m i n f g o h e =
    ap (λ (xs : List OpM). record { types = m.types; ops = xs; blocks = m.blocks; regions = m.regions; values = m.values; uses = n })
    (edit_agree (with_operands f) (with_operands g) m.ops i o (was_some (slice_get m.ops i) NoRow o h) (ap (λ xs. with_operands (λ _. xs) o) e))

-- ---- push

inserted_last : (xs : List Operand) (x : Operand) → xs ++ x ∷ [] ≡ insert xs (length xs) x
inserted_last xs x = let p = take_all (length xs) xs (omega arith) in let q = drop_all (length xs) xs (omega arith) in rw (p, q)

abbrev pushed_at : ℕ → Use Operand → Pushed
pushed_at k u = record { index = k; made = u }

push_ladder : (m : BookM) (i k : ℕ) (f g : Operand → BookM) → ((x : Operand) → f x ≡ g x) → (p : Result Operand Refusal) (t : Bool) (q : Result (Unit {0}) Refusal) → t ≡ true →
    steps (and_then p (λ x. map_ok (λ _. (k, x)) q)) (pushed i) (λ a. f a.1) m ≡
    (map_ok (pushed_at k) (steps (and_then p (λ x. and_then (demand t OutOfRange) (λ _. map_ok (λ _. x) q))) (use_of i) g m).0, (steps (and_then p (λ x. and_then (demand t OutOfRange) (λ _. map_ok (λ _. x) q))) (use_of i) g m).1)
push_ladder m i k f g e (Err r) t q h = refl
push_ladder m i k f g e (Ok x) false q h = absurd (false≢true h)
push_ladder m i k f g e (Ok x) true (Err r) h = refl
push_ladder m i k f g e (Ok x) true (Ok u) h = ap (λ n. (Ok (pushed_at k (use_of i x)), n)) (e x)

push_is : (L : Limits) (m : BookM) (i k : ℕ) (v : Value) (o : OpM) → Ok o ≡ op_row m i → k ≡ length o.body.operands →
    push_step L m i v ≡ (map_ok (pushed_at k) (insert_step L m i k v).0, (insert_step L m i k v).1)
push_is L m i k v o h e =
    let n = length o.body.operands in
    rw (e, ← h)
    (push_ladder m i n (λ x. edited m i (m.uses + 1) (λ xs. xs ++ x ∷ [])) (λ x. edited m i (m.uses + 1) (λ xs. insert xs n x))
    (λ x. edited_agree m i (m.uses + 1) _ _ o h (inserted_last o.body.operands x))
    (operand m m.uses v) (leb n n) (one_more_check L m o) (le-leb n n (omega arith)))

pub push_from : (L : Limits) (m n : BookM) (i k : ℕ) (v : Value) (o : OpM) (r : Result (Use Operand) Refusal) → Ok o ≡ op_row m i → k ≡ length o.body.operands → insert_step L m i k v ≡ (r, n) → push_step L m i v ≡ (map_ok (pushed_at k) r, n)
push_from L m n i k v o r h e s = push_is L m i k v o h e ∙ ap (λ p. (map_ok (pushed_at k) p.0, p.1)) s

-- ---- pop

last_is : (x : Operand) (xs : List Operand) → last_of (x ∷ xs) ≡ place (x ∷ xs) (length xs)
last_is x [] = refl
last_is x (y ∷ ys) = last_is y ys

removed_last : (x : Operand) (xs : List Operand) → all_but_last (x ∷ xs) ≡ remove (x ∷ xs) (length xs)
removed_last x [] = refl
removed_last x (y ∷ ys) = ap (λ zs. x ∷ zs) (removed_last y ys)

last_at : (xs : List Operand) (k : ℕ) → k + 1 ≡ length xs → (last_of xs ≡ place xs k) × (all_but_last xs ≡ remove xs k)
last_at [] k h = absurd (omega arith)
last_at (x ∷ xs) k h = let e : length xs ≡ k = omega arith in (last_is x xs ∙ ap (place (x ∷ xs)) e, removed_last x xs ∙ ap (remove (x ∷ xs)) e)

pub pop_is : (m : BookM) (i k n : ℕ) (o : OpM) → Ok o ≡ op_row m i → n ≡ length o.body.operands → k + 1 ≡ n → pop_step m i ≡ remove_step m i k
pop_is m i k n o h l z =
    let p = last_at o.body.operands k (z ∙ l) in
    rw (← h, p.0)
    (ap (λ (n : BookM). steps (place o.body.operands k) (λ x. x.value) (λ _. n) m)
    (edited_agree m i m.uses all_but_last (λ xs. remove xs k) o h p.1))
