-- What no call takes away: from one book to a later one nothing is erased, nothing is placed a second time, and no number is given again.
use Rattle.std.specs.Prelude.{◌≡◌, ℕ, ◌≤◌, ◌⊎◌, List, ◌++◌, Some, None, Option}
use Rattle.std.specs.List.{slice_get}
use Rattle.ir.specs.declared.value.DefiningEntity.{DefiningEntity}
use Rattle.ir.specs.declared.value.Definition.{Definition}
use Rattle.ir.specs.declared.value.Operand.{Operand}
use Rattle.ir.specs.declared.value.Successor.{Successor}
use Rattle.model.specs.Model.{OpM, BlockM, RegionM, BookM, defined_by}

-- what stands somewhere stays there
abbrev pub Stays : Option ℕ → Option ℕ → Type 0
Stays None q = Unit {0}
Stays (Some p) q = q ≡ Some p

-- a list that grew at its end, if at all
abbrev pub Grown : List ℕ → List ℕ → Type 0
Grown xs ys = (zs : List ℕ) × (ys ≡ xs ++ zs)

-- a row of operation o that is now p: only operands and sizes may differ
pub record OpLasts (o p : OpM) : Type 0 where
  pub kind : p.body.kind ≡ o.body.kind
  pub location : p.body.location ≡ o.body.location
  pub results : p.body.results ≡ o.body.results
  pub successors : p.body.successors ≡ o.body.successors
  pub regions : p.body.regions ≡ o.body.regions
  pub parent : Stays o.parent p.parent

pub record BlockLasts (b c : BlockM) : Type 0 where
  pub args : c.args ≡ b.args
  pub ops : Grown b.ops c.ops
  pub parent : Stays b.parent c.parent

pub record RegionLasts (r s : RegionM) : Type 0 where
  pub owner : s.owner ≡ r.owner
  pub blocks : Grown r.blocks s.blocks

-- operation i holds the operand x at some place, or names the successor s
abbrev pub Holds : BookM → ℕ → Operand → Type 0
Holds m i x = (k : ℕ) × (o : OpM) × (slice_get m.ops i ≡ Some o) × (slice_get o.body.operands k ≡ Some x)

abbrev pub Names : BookM → ℕ → Successor → Type 0
Names m i s = (k : ℕ) × (o : OpM) × (slice_get m.ops i ≡ Some o) × (slice_get o.body.successors k ≡ Some s)

abbrev pub Defines : BookM → DefiningEntity → Definition → Type 0
Defines m e d = (k : ℕ) × (slice_get (defined_by m e) k ≡ Some d)

pub record Lasts (m n : BookM) : Type 0 where
  pub types : n.types ≡ m.types
  -- every row is still there
  pub ops : (i : ℕ) (o : OpM) → slice_get m.ops i ≡ Some o → (p : OpM) × (slice_get n.ops i ≡ Some p) × OpLasts o p
  pub blocks : (b : ℕ) (x : BlockM) → slice_get m.blocks b ≡ Some x → (y : BlockM) × (slice_get n.blocks b ≡ Some y) × BlockLasts x y
  pub regions : (r : ℕ) (x : RegionM) → slice_get m.regions r ≡ Some x → (y : RegionM) × (slice_get n.regions r ≡ Some y) × RegionLasts x y
  -- the counters never go back
  pub values_rise : m.values ≤ n.values
  pub uses_rise : m.uses ≤ n.uses
  -- a number that stands now stood at the same row before, for the same value or block, or was never given before
  pub values_new : (e : DefiningEntity) (d : Definition) → Defines n e d → Defines m e d ⊎ (m.values ≤ d.val_uid)
  pub uses_new : (i : ℕ) (x : Operand) → Holds n i x → Holds m i x ⊎ (m.uses ≤ x.use_uid)
  pub block_uses_new : (i : ℕ) (s : Successor) → Names n i s → Names m i s ⊎ (m.uses ≤ s.use_uid)
