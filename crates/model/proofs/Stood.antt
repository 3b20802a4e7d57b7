-- What no call takes away, one row at a time, and what follows for the values of a book.
use Rattle.std.proofs.Common.{◌≡◌, ℕ, ◌<◌, ◌≤◌, ◌⊎◌, List, [], ◌++◌, length, Some, None, Option, sym, refl, ap, ◌∙◌, subst, inl, inr, ⊎_elim, arith}
use Rattle.std.specs.List.{slice_get}
use Rattle.std.proofs.lemmas.List.{append-nil, append_assoc}
use Rattle.std.proofs.lemmas.Bool.{cases_eq}
use Rattle.std.proofs.lemmas.Option.{slice_get_cases}
use Rattle.ir.specs.declared.value.DefiningEntity.{DefiningEntity}
use Rattle.ir.specs.declared.value.DefiningEntity.TheVariants.{Op, Block}
use Rattle.ir.specs.declared.value.Value.{Value}
use Rattle.model.specs.Model.{OpM, BlockM, RegionM, BookM, results_at, args_at, defined_by, type_in, type_of}
use Rattle.model.specs.Checks.{edit}
use Rattle.model.specs.Lasts.{Stays, Grown, OpLasts, BlockLasts, RegionLasts, Lasts}
use Rattle.model.proofs.Nths.{none_some, nth_below, nth_left, nth_edit_same, nth_edit_other}

pub stays_refl : (p : Option ℕ) → Stays p p
stays_refl None = tt
stays_refl (Some x) = refl

pub stays_trans : (p q r : Option ℕ) → Stays p q → Stays q r → Stays p r
stays_trans None q r a b = tt
stays_trans (Some x) q r a b = subst (λ z. Stays z r) a b

-- what stood nowhere may be placed
pub stays_none : (p q : Option ℕ) → p ≡ None → Stays p q
stays_none p q e = subst (λ z. Stays z q) (sym e) tt

pub grown_refl : (xs : List ℕ) → Grown xs xs
grown_refl xs = ([], sym (append-nil xs))

pub grown_trans : (xs ys zs : List ℕ) → Grown xs ys → Grown ys zs → Grown xs zs
grown_trans xs ys zs a b = (a.0 ++ b.0, b.1 ∙ ap (λ us. us ++ b.0) a.1 ∙ append_assoc xs a.0 b.0)

pub op_refl : (o : OpM) → OpLasts o o
op_refl o = record { kind = refl; location = refl; results = refl; successors = refl; regions = refl; parent = stays_refl o.parent }

pub op_trans : (o p q : OpM) → OpLasts o p → OpLasts p q → OpLasts o q
op_trans o p q a b = record {
  kind = b.kind ∙ a.kind;
  location = b.location ∙ a.location;
  results = b.results ∙ a.results;
  successors = b.successors ∙ a.successors;
  regions = b.regions ∙ a.regions;
  parent = stays_trans o.parent p.parent q.parent a.parent b.parent;
}

pub block_refl : (b : BlockM) → BlockLasts b b
block_refl b = record { args = refl; ops = grown_refl b.ops; parent = stays_refl b.parent }

pub block_trans : (x y z : BlockM) → BlockLasts x y → BlockLasts y z → BlockLasts x z
block_trans x y z a b = record {
  args = b.args ∙ a.args;
  ops = grown_trans x.ops y.ops z.ops a.ops b.ops;
  parent = stays_trans x.parent y.parent z.parent a.parent b.parent;
}

pub region_refl : (r : RegionM) → RegionLasts r r
region_refl r = record { owner = refl; blocks = grown_refl r.blocks }

pub region_trans : (x y z : RegionM) → RegionLasts x y → RegionLasts y z → RegionLasts x z
region_trans x y z a b = record { owner = b.owner ∙ a.owner; blocks = grown_trans x.blocks y.blocks z.blocks a.blocks b.blocks }

-- ---- a table of rows of which each lasts

abbrev pub RowsLast : {X : Type 0} → (X → X → Type 0) → List X → List X → Type 0
RowsLast {X} R xs ys = (i : ℕ) (x : X) → slice_get xs i ≡ Some x → (y : X) × (slice_get ys i ≡ Some y) × R x y

module _ {X : Type 0} (R : X → X → Type 0) (same : (x : X) → R x x) (xs : List X) where
  pub rows_same : RowsLast R xs xs
  rows_same i x e = (x, e, same x)

  pub rows_more : (ys : List X) → RowsLast R xs (xs ++ ys)
  rows_more ys i x e = (x, nth_left xs ys i x e, same x)

  pub rows_edit : (i : ℕ) (g : X → X) → ((x : X) → slice_get xs i ≡ Some x → R x (g x)) → RowsLast R xs (edit xs i g)
  rows_edit i g h j x e = ⊎_elim
      (λ z. let f : slice_get xs i ≡ Some x = cc in (g x, cc (nth_edit_same xs i g x f), h x f))
      (λ z. (x, nth_edit_other xs i j g z ∙ e, same x))
      (cases_eq j i)

pub rows_trans : {X : Type 0} (R : X → X → Type 0) (xs ys zs : List X) → ((x y z : X) → R x y → R y z → R x z) → RowsLast R xs ys → RowsLast R ys zs → RowsLast R xs zs
rows_trans R xs ys zs t a b i x e = let p = a i x e in let q = b i p.0 p.1 in (q.0, q.1, t x p.0 q.0 p.2 q.2)

pub rows_below : {X : Type 0} (R : X → X → Type 0) (xs ys : List X) → RowsLast R xs ys → (i : ℕ) → i < length xs → i < length ys
rows_below R xs ys a i h = ⊎_elim (λ p. let q = a i p.0 p.2 in nth_below ys i q.0 q.1) (λ p. absurd (omega arith)) (slice_get_cases xs i).1

-- ---- books

pub lasts_refl : (m : BookM) → Lasts m m
lasts_refl m = record {
  types = refl;
  ops = rows_same OpLasts op_refl m.ops;
  blocks = rows_same BlockLasts block_refl m.blocks;
  regions = rows_same RegionLasts region_refl m.regions;
  values_rise = omega arith;
  uses_rise = omega arith;
  values_new = λ e d h. inl h;
  uses_new = λ i x h. inl h;
  block_uses_new = λ i s h. inl h;
}

-- what is new in the third book was there in the second, and so in the first or new since
since : {A B : Type 0} (x y z : ℕ) → x ≤ y → B ⊎ (y ≤ z) → (B → A ⊎ (x ≤ z)) → A ⊎ (x ≤ z)
since x y z h b f = ⊎_elim f (λ l. inr (omega arith)) b

pub lasts_trans : (a b c : BookM) → Lasts a b → Lasts b c → Lasts a c
lasts_trans a b c l r = record {
  types = r.types ∙ l.types;
  ops = rows_trans OpLasts a.ops b.ops c.ops op_trans l.ops r.ops;
  blocks = rows_trans BlockLasts a.blocks b.blocks c.blocks block_trans l.blocks r.blocks;
  regions = rows_trans RegionLasts a.regions b.regions c.regions region_trans l.regions r.regions;
  values_rise = omega (arith, l.values_rise, r.values_rise);
  uses_rise = omega (arith, l.uses_rise, r.uses_rise);
  values_new = λ e d h. since a.values b.values d.val_uid l.values_rise (r.values_new e d h) (l.values_new e d);
  uses_new = λ i x h. since a.uses b.uses x.use_uid l.uses_rise (r.uses_new i x h) (l.uses_new i x);
  block_uses_new = λ i s h. since a.uses b.uses s.use_uid l.uses_rise (r.block_uses_new i s h) (l.block_uses_new i s);
}

-- ---- values

results_last : (o : Option OpM) (q : Option OpM) → ((x : OpM) → o ≡ Some x → (p : OpM) × (q ≡ Some p) × OpLasts x p) → (results_at q ≡ results_at o) ⊎ (results_at o ≡ [])
results_last None q h = inr refl
results_last (Some x) q h = let p = h x refl in inl (ap results_at p.1 ∙ p.2.results)

args_last : (o : Option BlockM) (q : Option BlockM) → ((x : BlockM) → o ≡ Some x → (p : BlockM) × (q ≡ Some p) × BlockLasts x p) → (args_at q ≡ args_at o) ⊎ (args_at o ≡ [])
args_last None q h = inr refl
args_last (Some x) q h = let p = h x refl in inl (ap args_at p.1 ∙ p.2.args)

-- a row that defines anything defines the same ever after
pub defined_lasts : (m n : BookM) → Lasts m n → (e : DefiningEntity) → (defined_by n e ≡ defined_by m e) ⊎ (defined_by m e ≡ [])
defined_lasts m n l (Op i) = results_last (slice_get m.ops i) (slice_get n.ops i) (l.ops i)
defined_lasts m n l (Block b) = args_last (slice_get m.blocks b) (slice_get n.blocks b) (l.blocks b)

-- a value keeps its type
pub type_lasts : (m n : BookM) → Lasts m n → (v : Value) (t : ℕ) → type_of m v ≡ Some t → type_of n v ≡ Some t
type_lasts m n l v t e = ⊎_elim
    (λ p. ap (type_in v.val_uid) p ∙ e)
    (λ p. absurd (none_some (subst (λ ds. type_in v.val_uid ds ≡ Some t) p e)))
    (defined_lasts m n l v.defining_entity)
