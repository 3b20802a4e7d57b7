-- Values that are looked up one after another: what is found does not depend on the numbers of the uses to be made.
use Rattle.std.proofs.Common.{◌≡◌, ℕ, ◌+◌, ◌<◌, List, [], ◌∷◌, length, get_or, drop, Some, None, Ok, Err, Option, Result, unwrap_or, sym, refl, ap, ◌∙◌, arith}
use Rattle.std.specs.Option.{ok_or}
use Rattle.std.proofs.lemmas.List.{at_drop_more}
use Rattle.ir.specs.declared.refusal.Refusal.{Refusal}
use Rattle.ir.specs.declared.refusal.Refusal.TheVariants.{NoValue}
use Rattle.ir.specs.declared.value.Value.{Value}
use Rattle.ir.specs.declared.value.Operand.{Operand}
use Rattle.model.specs.Model.{BookM, numbered, type_of}
use Rattle.model.specs.Checks.{and_then, map_ok, value_type, operands_of}
use Rattle.creating.specs.Places.{typed_place}

abbrev pub found : BookM → List Value → Result (Unit {0}) Refusal
found m [] = Ok tt
found m (v ∷ vs) = and_then (value_type m v) (λ _. found m vs)

abbrev pub unit_of : {X : Type 0} → Result X Refusal → Result (Unit {0}) Refusal
unit_of r = map_ok (λ _. tt) r

one_more : {X : Type 0} (x : X) (r : Result (List X) Refusal) → unit_of (map_ok (λ xs. x ∷ xs) r) ≡ unit_of r
one_more x (Ok xs) = refl
one_more x (Err e) = refl

found_at : (n : ℕ) (v : Value) (rest : Result (List Operand) Refusal) (q : Result (Unit {0}) Refusal) → unit_of rest ≡ q → (r : Result ℕ Refusal) →
    unit_of (and_then (map_ok (λ t. record { value = v; use_uid = n; ty = t }) r) (λ (x : Operand). map_ok (λ xs. x ∷ xs) rest)) ≡ and_then r (λ _. q)
found_at n v rest q e (Ok t) = one_more (record { value = v; use_uid = n; ty = t }) rest ∙ e
found_at n v rest q e (Err x) = refl

pub found_is : (m : BookM) (n : ℕ) (vs : List Value) → unit_of (operands_of m n vs) ≡ found m vs
found_is m n [] = refl
found_is m n (v ∷ vs) = found_at n v (operands_of m (n + 1) vs) (found m vs) (found_is m (n + 1) vs) (value_type m v)

pub found_on : (m : BookM) (vs : List Value) (i : ℕ) (d : Value) (t : ℕ) → i < length vs → Ok t ≡ value_type m (get_or vs i d) → found m (drop (i + 1) vs) ≡ found m (drop i vs)
found_on m vs i d t h e = sym (at_drop_more (found m) vs i d h ∙ rw (sym e))

pub found_stops : (m : BookM) (vs : List Value) (i : ℕ) (d : Value) (x : Refusal) → i < length vs → Err x ≡ value_type m (get_or vs i d) → Err x ≡ found m (drop i vs)
found_stops m vs i d x h e = sym (at_drop_more (found m) vs i d h ∙ rw (sym e))

-- where all were found, their places are those that the model makes
places_at : (n : ℕ) (v : Value) (xs : List Operand) (rest : Result (List Operand) Refusal) (q : Result (Unit {0}) Refusal) → (Ok tt ≡ q → Ok xs ≡ rest) → (o : Option ℕ) → Ok tt ≡ and_then (ok_or o (NoValue v.val_uid)) (λ _. q) →
    Ok (record { value = v; use_uid = n; ty = unwrap_or o 0 } ∷ xs) ≡ and_then (map_ok (λ t. record { value = v; use_uid = n; ty = t }) (ok_or o (NoValue v.val_uid))) (λ (x : Operand). map_ok (λ xs. x ∷ xs) rest)
places_at n v xs rest q go (Some t) e = ap (map_ok (λ (ys : List Operand). record { value = v; use_uid = n; ty = t } ∷ ys)) (go e)
places_at n v xs rest q go None e = absurd (let z : ◌≡◌ {A = ℕ} 0 1 = cc in omega arith)

pub places_are : (m : BookM) (n : ℕ) (vs : List Value) → Ok tt ≡ unit_of (operands_of m n vs) → Ok (numbered (typed_place m) n vs) ≡ operands_of m n vs
places_are m n [] h = refl
places_are m n (v ∷ vs) h =
    places_at n v (numbered (typed_place m) (n + 1) vs) (operands_of m (n + 1) vs) (found m vs) (λ e. places_are m (n + 1) vs (e ∙ sym (found_is m (n + 1) vs))) (type_of m v) (h ∙ found_is m n (v ∷ vs))
