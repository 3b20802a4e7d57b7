-- Where rows stand. A parent is read off the child's row; `Standing` says what it is: the one row that lists the child.
use Rattle.std.specs.Prelude.{◌≡◌, ℕ, List, Some, None, Ok, Err, Option, Result}
use Rattle.std.specs.List.{slice_get}
use Rattle.ir.specs.declared.refusal.Refusal.{Refusal}
use Rattle.model.specs.Model.{BookM}
use Rattle.model.specs.Checks.{and_then, map_ok, op_row, block_row, region_row}
use Rattle.model.specs.Sound.{regions_of, blocks_of, ops_of}

-- ---- what is read

-- on from a row that may stand nowhere
abbrev pub above : Option ℕ → (ℕ → Result (Option ℕ) Refusal) → Result (Option ℕ) Refusal
above None f = Ok None
above (Some p) f = f p

-- the operation that a region belongs to
abbrev pub region_parent_op : BookM → ℕ → Result ℕ Refusal
region_parent_op m r = map_ok (λ x. x.owner) (region_row m r)

-- the region in which a block stands, if it stands in one, and the operation of that region
abbrev pub block_parent_region : BookM → ℕ → Result (Option ℕ) Refusal
block_parent_region m b = map_ok (λ x. x.parent) (block_row m b)

abbrev pub block_parent_op : BookM → ℕ → Result (Option ℕ) Refusal
block_parent_op m b = and_then (block_parent_region m b) (λ p. above p (λ r. map_ok (λ i. Some i) (region_parent_op m r)))

-- the block in which an operation stands, if it stands in one, and what that block stands in
abbrev pub op_parent_block : BookM → ℕ → Result (Option ℕ) Refusal
op_parent_block m i = map_ok (λ o. o.parent) (op_row m i)

abbrev pub op_parent_region : BookM → ℕ → Result (Option ℕ) Refusal
op_parent_region m i = and_then (op_parent_block m i) (λ p. above p (block_parent_region m))

abbrev pub op_parent_op : BookM → ℕ → Result (Option ℕ) Refusal
op_parent_op m i = and_then (op_parent_block m i) (λ p. above p (block_parent_op m))

-- ---- what it means

-- row p of a table is there and lists row c
abbrev pub Lists : {X : Type 0} → (X → List ℕ) → List X → ℕ → ℕ → Type 0
Lists {X} list xs p c = (x : X) × (k : ℕ) × (slice_get xs p ≡ Some x) × (slice_get (list x) k ≡ Some c)

-- the region r belongs to the operation p
abbrev pub OpLists : BookM → ℕ → ℕ → Type 0
OpLists m p r = Lists regions_of m.ops p r

-- the block b stands in the region p
abbrev pub RegionLists : BookM → ℕ → ℕ → Type 0
RegionLists m p b = Lists blocks_of m.regions p b

-- the operation i stands in the block p
abbrev pub BlockLists : BookM → ℕ → ℕ → Type 0
BlockLists m p i = Lists ops_of m.blocks p i

-- the block b stands in a region of the operation p
abbrev pub OpHoldsBlock : BookM → ℕ → ℕ → Type 0
OpHoldsBlock m p b = (r : ℕ) × OpLists m p r × RegionLists m r b

-- the operation i stands in a block of the region p
abbrev pub RegionHolds : BookM → ℕ → ℕ → Type 0
RegionHolds m p i = (b : ℕ) × RegionLists m p b × BlockLists m b i

-- the operation i stands in a block of a region of the operation p
abbrev pub OpHolds : BookM → ℕ → ℕ → Type 0
OpHolds m p i = (b : ℕ) × OpHoldsBlock m p b × BlockLists m b i

-- p is the one row of which P holds
pub record Only (P : ℕ → Type 0) (p : ℕ) : Type 0 where
  pub holds : P p
  pub alone : (q : ℕ) → P q → q ≡ p

-- the answer names the one row of which P holds, and none where it holds of none
abbrev pub Names : (ℕ → Type 0) → Option ℕ → Type 0
Names P None = (q : ℕ) → P q → ⊥
Names P (Some p) = Only P p

-- where the row asked for is there, the call answers, and P holds of its answer; else it refuses as the look-up does
abbrev pub Found : {X Y : Type 0} → Result X Refusal → (Y → Type 0) → Result Y Refusal → Type 0
Found (Ok c) P (Ok a) = P a
Found (Ok c) P (Err e) = ⊥
Found (Err d) P r = r ≡ Err d

-- what the rows of a book say of where they stand
pub record Standing (m : BookM) : Type 0 where
  pub region_op : (c : ℕ) (r : Result (Option ℕ) Refusal) → r ≡ map_ok (λ p. Some p) (region_parent_op m c) → Found (region_row m c) (Names (λ p. OpLists m p c)) r
  pub block_region : (c : ℕ) (r : Result (Option ℕ) Refusal) → r ≡ block_parent_region m c → Found (block_row m c) (Names (λ p. RegionLists m p c)) r
  pub block_op : (c : ℕ) (r : Result (Option ℕ) Refusal) → r ≡ block_parent_op m c → Found (block_row m c) (Names (λ p. OpHoldsBlock m p c)) r
  pub op_block : (c : ℕ) (r : Result (Option ℕ) Refusal) → r ≡ op_parent_block m c → Found (op_row m c) (Names (λ p. BlockLists m p c)) r
  pub op_region : (c : ℕ) (r : Result (Option ℕ) Refusal) → r ≡ op_parent_region m c → Found (op_row m c) (Names (λ p. RegionHolds m p c)) r
  pub op_op : (c : ℕ) (r : Result (Option ℕ) Refusal) → r ≡ op_parent_op m c → Found (op_row m c) (Names (λ p. OpHolds m p c)) r
