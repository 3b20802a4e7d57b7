-- What is known once the checks of a call have passed.
use Rattle.std.proofs.Common.{◌≡◌, ℕ, zero, suc, ◌+◌, ◌<◌, ◌≤◌, Bool, true, false, not, ltb, leb, List, [], ◌∷◌, length, is_some, Some, None, Ok, Err, Option, Result, sym, refl, ap, ◌∙◌, subst, arith}
use Rattle.std.specs.List.{slice_get}
use Rattle.std.specs.Option.{ok_or}
use Rattle.std.proofs.lemmas.Bool.{and_parts, ltb-true, leb-true, false≢true}
use Rattle.std.proofs.lemmas.Bool.Decides.{nat_tests}
use Rattle.ir.specs.Limits.{Limits}
use Rattle.ir.specs.declared.refusal.Refusal.{Refusal}
use Rattle.ir.specs.declared.refusal.Refusal.TheVariants.{NoRow, NoValue, OverCapacity, NoRowsLeft, OutOfRange, OperandsFull, AlreadyPlaced, UsesSpent}
use Rattle.ir.specs.declared.value.Value.{Value}
use Rattle.ir.specs.declared.value.Operand.{Operand}
use Rattle.model.specs.Model.{OpM, BlockM, RegionM, BookM, type_of}
use Rattle.model.specs.Checks.{and_then, demand, map_ok, every, op_row, block_row, region_row, value_type, operand, operands_of}
use Rattle.model.specs.Steps.{rows_check, few_check, room_check, create_check, block_check, place_op_check, place_block_check, one_more_check, insert_check, replace_check, remove_check, push_check, pop_check}
use Rattle.model.proofs.Nths.{none_some}

-- ---- one check

ok_err : {A : Type 0} {a : A} {e : Refusal} → ◌≡◌ {A = Result A Refusal} (Ok a) (Err e) → ⊥
ok_err {A} {a} {e} h = let z : ◌≡◌ {A = ℕ} 0 1 = cc in omega arith

-- a check and what follows it, to go on from
pub on_ok : {A B P : Type 0} (r : Result A Refusal) (f : A → Result B Refusal) (b : B) → Ok b ≡ and_then r f → ((a : A) → Ok a ≡ r → Ok b ≡ f a → P) → P
on_ok (Ok a) f b h go = go a refl h
on_ok (Err e) f b h go = absurd (ok_err h)

pub map_passed : {A B : Type 0} (f : A → B) (r : Result A Refusal) (b : B) → Ok b ≡ map_ok f r → (a : A) × (Ok a ≡ r) × (b ≡ f a)
map_passed f (Ok a) b h = (a, refl, cc)
map_passed f (Err e) b h = absurd (ok_err h)

pub demanded : (t : Bool) (e : Refusal) (u : Unit {0}) → Ok u ≡ demand t e → t ≡ true
demanded true e u h = refl
demanded false e u h = absurd (ok_err h)

pub was_some : {A : Type 0} (o : Option A) (e : Refusal) (a : A) → Ok a ≡ ok_or o e → o ≡ Some a
was_some (Some x) e a h = cc
was_some None e a h = absurd (ok_err h)

pub each_passed : {X : Type 0} (t : X → Bool) (xs : List X) → every t xs ≡ true → (k : ℕ) (x : X) → slice_get xs k ≡ Some x → t x ≡ true
each_passed t [] h k x e = absurd (none_some e)
each_passed t (y ∷ ys) h zero x e = cc (and_parts (t y) (every t ys) h).0
each_passed t (y ∷ ys) h (suc k) x e = each_passed t ys (and_parts (t y) (every t ys) h).1 k x e

each_below : (n : ℕ) (xs : List ℕ) → every (λ x. ltb x n) xs ≡ true → (k x : ℕ) → slice_get xs k ≡ Some x → x < n
each_below n xs h k x e = ltb-true x n (each_passed (λ y. ltb y n) xs h k x e)

absent : (o : Option ℕ) → not (is_some o) ≡ true → o ≡ None
absent None h = refl
absent (Some x) h = absurd (false≢true h)

-- ---- operand places

-- the operand place for a value that was found
pub record Fits (m : BookM) (n : ℕ) (x : Operand) : Type 0 where
  pub typed : type_of m x.value ≡ Some x.ty
  pub number : x.use_uid ≡ n

pub operand_passed : (m : BookM) (n : ℕ) (v : Value) (x : Operand) → Ok x ≡ operand m n v → Fits m n x
operand_passed m n v x h =
    let p = map_passed _ (value_type m v) x h in
    subst (Fits m n) (sym p.2) (record { typed = was_some (type_of m v) (NoValue v.val_uid) p.0 p.1; number = refl })

-- operand places with uses numbered from n on
pub operands_passed : (m : BookM) (n : ℕ) (vs : List Value) (xs : List Operand) → Ok xs ≡ operands_of m n vs → (length xs ≡ length vs) × ((k : ℕ) (x : Operand) → slice_get xs k ≡ Some x → Fits m (n + k) x)
operands_passed m n [] xs h =
    let e : xs ≡ [] = cc in
    (ap length e, λ k x f. absurd (none_some (subst (λ ys. slice_get ys k ≡ Some x) e f)))
operands_passed m n (v ∷ vs) xs h =
    on_ok (operand m n v) _ xs h (λ y a b.
    let p = map_passed (λ ys. y ∷ ys) (operands_of m (n + 1) vs) xs b in
    let r = operands_passed m (n + 1) vs p.0 p.1 in
    (ap length p.2 ∙ ap suc r.0, λ k x f. at y p.0 (operand_passed m n v y a) r.1 k x (subst (λ ys. slice_get ys k ≡ Some x) p.2 f)))
  where
    at : (y : Operand) (ys : List Operand) → Fits m n y → ((k : ℕ) (x : Operand) → slice_get ys k ≡ Some x → Fits m (n + 1 + k) x) → (k : ℕ) (x : Operand) → slice_get (y ∷ ys) k ≡ Some x → Fits m (n + k) x
    at y ys a r zero x e = let f : y ≡ x = cc in let z : n ≡ n + 0 = omega arith in subst (λ i. Fits m i x) z (subst (Fits m n) f a)
    at y ys a r (suc k) x e = let z : n + 1 + k ≡ n + suc k = omega arith in subst (λ i. Fits m i x) z (r k x e)

-- ---- creating

pub record Creatable (L : Limits) (m : BookM) (types : List ℕ) (blocks : List ℕ) (n : ℕ) (xs : List Operand) : Type 0 where
  pub typed : (k t : ℕ) → slice_get types k ≡ Some t → t < length m.types
  pub aimed : (k b : ℕ) → slice_get blocks k ≡ Some b → b < length m.blocks
  pub fit : (k : ℕ) (x : Operand) → slice_get xs k ≡ Some x → Fits m (m.uses + k) x
  pub results : length types ≤ L.results
  pub operands : length xs ≤ L.operands
  pub successors : length blocks ≤ L.successors
  pub op_regions : n ≤ L.op_regions
  pub operations : length m.ops < L.operations
  pub regions : length m.regions + n ≤ L.regions
  pub uses : m.uses + (length xs + length blocks) ≤ L.uses

rows_passed : (m : BookM) (types blocks : List ℕ) (u : Unit {0}) → Ok u ≡ rows_check m types blocks →
    ((k t : ℕ) → slice_get types k ≡ Some t → t < length m.types) × ((k b : ℕ) → slice_get blocks k ≡ Some b → b < length m.blocks)
rows_passed m types blocks u h =
    on_ok (demand (every (λ t. ltb t (length m.types)) types) NoRow) _ u h (λ v a b.
    (each_below (length m.types) types (demanded _ NoRow v a), each_below (length m.blocks) blocks (demanded _ NoRow u b)))

few_passed : (L : Limits) (t v b n : ℕ) (u : Unit {0}) → Ok u ≡ few_check L t v b n → (t ≤ L.results) × (v ≤ L.operands) × (b ≤ L.successors) × (n ≤ L.op_regions)
few_passed L t v b n u h = let e = demanded _ OverCapacity u h in (grind (arith, nat_tests), grind (arith, nat_tests), grind (arith, nat_tests), grind (arith, nat_tests))

room_passed : (L : Limits) (m : BookM) (k n : ℕ) (u : Unit {0}) → Ok u ≡ room_check L m k n → (length m.ops < L.operations) × (length m.regions + n ≤ L.regions) × (m.uses + k ≤ L.uses)
room_passed L m k n u h =
    on_ok (demand (ltb (length m.ops) L.operations) NoRowsLeft) _ u h (λ v a h1.
    on_ok (demand (leb (length m.regions + n) L.regions) NoRowsLeft) _ u h1 (λ w b c.
    (ltb-true _ _ (demanded _ NoRowsLeft v a), leb-true _ _ (demanded _ NoRowsLeft w b), leb-true _ _ (demanded _ UsesSpent u c))))

pub create_passed : (L : Limits) (m : BookM) (types : List ℕ) (values : List Value) (blocks : List ℕ) (n : ℕ) (xs : List Operand) → Ok xs ≡ create_check L m types values blocks n → Creatable L m types blocks n xs
create_passed L m types values blocks n xs h =
    on_ok (rows_check m types blocks) _ xs h (λ u a h1.
    on_ok (operands_of m m.uses values) _ xs h1 (λ ys b h2.
    on_ok (few_check L (length types) (length values) (length blocks) n) _ xs h2 (λ v c h3.
    let d = map_passed (λ _. ys) (room_check L m (length values + length blocks) n) xs h3 in
    subst (Creatable L m types blocks n) (sym d.2)
    (made ys (rows_passed m types blocks u a) (operands_passed m m.uses values ys b) (few_passed L _ _ _ n v c) (room_passed L m _ n d.0 d.1)))))
  where
    made : (ys : List Operand) →
        ((k t : ℕ) → slice_get types k ≡ Some t → t < length m.types) × ((k b : ℕ) → slice_get blocks k ≡ Some b → b < length m.blocks) →
        (length ys ≡ length values) × ((k : ℕ) (x : Operand) → slice_get ys k ≡ Some x → Fits m (m.uses + k) x) →
        (length types ≤ L.results) × (length values ≤ L.operands) × (length blocks ≤ L.successors) × (n ≤ L.op_regions) →
        (length m.ops < L.operations) × (length m.regions + n ≤ L.regions) × (m.uses + (length values + length blocks) ≤ L.uses) →
        Creatable L m types blocks n ys
    made ys a b c d = record {
      typed = a.0;
      aimed = a.1;
      fit = b.1;
      results = c.0;
      operands = omega arith;
      successors = c.2;
      op_regions = c.3;
      operations = d.0;
      regions = d.1;
      uses = omega arith;
    }

pub block_passed : (L : Limits) (m : BookM) (types : List ℕ) (u : Unit {0}) → Ok u ≡ block_check L m types →
    ((k t : ℕ) → slice_get types k ≡ Some t → t < length m.types) × (length types ≤ L.arguments) × (length m.blocks < L.blocks)
block_passed L m types u h =
    on_ok (demand (every (λ t. ltb t (length m.types)) types) NoRow) _ u h (λ v a h1.
    on_ok (demand (leb (length types) L.arguments) OverCapacity) _ u h1 (λ w b c.
    (each_below (length m.types) types (demanded _ NoRow v a), leb-true _ _ (demanded _ OverCapacity w b), ltb-true _ _ (demanded _ NoRowsLeft u c))))

-- ---- placing

pub place_op_passed : (m : BookM) (i b : ℕ) (u : Unit {0}) → Ok u ≡ place_op_check m i b →
    (o : OpM) × (x : BlockM) × (slice_get m.ops i ≡ Some o) × (slice_get m.blocks b ≡ Some x) × (o.parent ≡ None)
place_op_passed m i b u h =
    on_ok (op_row m i) _ u h (λ o p h1.
    on_ok (block_row m b) _ u h1 (λ x q c.
    (o, x, was_some _ NoRow o p, was_some _ NoRow x q, absent o.parent (demanded _ AlreadyPlaced u c))))

pub place_block_passed : (m : BookM) (b r : ℕ) (u : Unit {0}) → Ok u ≡ place_block_check m b r →
    (x : BlockM) × (y : RegionM) × (slice_get m.blocks b ≡ Some x) × (slice_get m.regions r ≡ Some y) × (x.parent ≡ None)
place_block_passed m b r u h =
    on_ok (block_row m b) _ u h (λ x p h1.
    on_ok (region_row m r) _ u h1 (λ y q c.
    (x, y, was_some _ NoRow x p, was_some _ NoRow y q, absent x.parent (demanded _ AlreadyPlaced u c))))

-- ---- edits

-- the row that is to be edited, and the operand place that is to be put in
pub record Editable (m : BookM) (i : ℕ) (x : Operand) (P : OpM → Type 0) : Type 0 where
  pub row : OpM
  pub here : slice_get m.ops i ≡ Some row
  pub fit : Fits m m.uses x
  pub can : P row

one_more_passed : (L : Limits) (m : BookM) (o : OpM) (u : Unit {0}) → Ok u ≡ one_more_check L m o → (length o.body.operands < L.operands) × (m.uses < L.uses)
one_more_passed L m o u h =
    on_ok (demand (ltb (length o.body.operands) L.operands) OperandsFull) _ u h (λ v a b.
    (ltb-true _ _ (demanded _ OperandsFull v a), ltb-true _ _ (demanded _ UsesSpent u b)))

abbrev pub Insertable : Limits → BookM → ℕ → OpM → Type 0
Insertable L m k o = (k ≤ length o.body.operands) × (length o.body.operands < L.operands) × (m.uses < L.uses)

pub insert_passed : (L : Limits) (m : BookM) (i k : ℕ) (v : Value) (x : Operand) → Ok x ≡ insert_check L m i k v → Editable m i x (Insertable L m k)
insert_passed L m i k v x h =
    on_ok (op_row m i) _ x h (λ o p h1.
    on_ok (operand m m.uses v) _ x h1 (λ y q h2.
    on_ok (demand (leb k (length o.body.operands)) OutOfRange) _ x h2 (λ u c h3.
    let d = map_passed (λ _. y) (one_more_check L m o) x h3 in
    let r = one_more_passed L m o d.0 d.1 in
    record {
      row = o;
      here = was_some _ NoRow o p;
      fit = subst (Fits m m.uses) (sym d.2) (operand_passed m m.uses v y q);
      can = (leb-true _ _ (demanded _ OutOfRange u c), r.0, r.1);
    })))

abbrev pub Replaceable : Limits → BookM → ℕ → OpM → Type 0
Replaceable L m k o = (k < length o.body.operands) × (m.uses < L.uses)

pub replace_passed : (L : Limits) (m : BookM) (i k : ℕ) (v : Value) (x : Operand) → Ok x ≡ replace_check L m i k v → Editable m i x (Replaceable L m k)
replace_passed L m i k v x h =
    on_ok (op_row m i) _ x h (λ o p h1.
    on_ok (operand m m.uses v) _ x h1 (λ y q h2.
    on_ok (demand (ltb k (length o.body.operands)) OutOfRange) _ x h2 (λ u c h3.
    let d = map_passed (λ _. y) (demand (ltb m.uses L.uses) UsesSpent) x h3 in
    record {
      row = o;
      here = was_some _ NoRow o p;
      fit = subst (Fits m m.uses) (sym d.2) (operand_passed m m.uses v y q);
      can = (ltb-true _ _ (demanded _ OutOfRange u c), ltb-true _ _ (demanded _ UsesSpent d.0 d.1));
    })))

pub remove_passed : (m : BookM) (i k : ℕ) (x : Operand) → Ok x ≡ remove_check m i k → (o : OpM) × (slice_get m.ops i ≡ Some o) × (slice_get o.body.operands k ≡ Some x)
remove_passed m i k x h = on_ok (op_row m i) _ x h (λ o p q. (o, was_some _ NoRow o p, was_some _ OutOfRange x q))

pub push_passed : (L : Limits) (m : BookM) (i : ℕ) (v : Value) (a : ℕ × Operand) → Ok a ≡ push_check L m i v → Editable m i a.1 (λ o. (length o.body.operands < L.operands) × (m.uses < L.uses))
push_passed L m i v a h =
    on_ok (op_row m i) _ a h (λ o p h1.
    on_ok (operand m m.uses v) _ a h1 (λ y q h2.
    let d = map_passed (λ _. (length o.body.operands, y)) (one_more_check L m o) a h2 in
    record {
      row = o;
      here = was_some _ NoRow o p;
      fit = subst (Fits m m.uses) (ap (λ (b : ℕ × Operand). b.1) (sym d.2)) (operand_passed m m.uses v y q);
      can = one_more_passed L m o d.0 d.1;
    }))

pub pop_passed : (m : BookM) (i : ℕ) (x : Operand) → Ok x ≡ pop_check m i → (o : OpM) × (slice_get m.ops i ≡ Some o)
pop_passed m i x h = on_ok (op_row m i) _ x h (λ o p _. (o, was_some _ NoRow o p))
