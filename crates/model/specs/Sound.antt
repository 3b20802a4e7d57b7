-- What holds of every book, after any calls.
use Rattle.std.specs.Prelude.{◌≡◌, ℕ, ◌<◌, ◌≤◌, Bool, true, false, ◌||◌, List, [], ◌∷◌, map, length, Some, None, Option, ◌==◌, ◌≢◌}
use Rattle.std.specs.List.{slice_get}
use Rattle.ir.specs.Limits.{Limits}
use Rattle.ir.specs.Values.{same_entity}
use Rattle.ir.specs.declared.value.DefiningEntity.{DefiningEntity}
use Rattle.ir.specs.declared.value.Definition.{Definition}
use Rattle.ir.specs.declared.value.Operand.{Operand}
use Rattle.ir.specs.declared.value.Successor.{Successor}
use Rattle.model.specs.Model.{BodyM, OpM, BlockM, RegionM, BookM, defined_by, type_of}

abbrev pub is_in : ℕ → List ℕ → Bool
is_in x [] = false
is_in x (y ∷ ys) = y == x || is_in x ys

abbrev pub list_at : Option (List ℕ) → List ℕ
list_at None = []
list_at (Some xs) = xs

-- Rows that stand in lists of other rows (list p is what row p lists, parent c is where row c stands): what a list names
-- stands there, what stands somewhere is listed there, and no list names a row twice. So each row stands in one place at most.
pub record Nested (lists : List (List ℕ)) (parents : List (Option ℕ)) : Type 0 where
  pub stands : (p k c : ℕ) (xs : List ℕ) → slice_get lists p ≡ Some xs → slice_get xs k ≡ Some c → slice_get parents c ≡ Some (Some p)
  pub listed : (p c : ℕ) → slice_get parents c ≡ Some (Some p) → is_in c (list_at (slice_get lists p)) ≡ true
  pub once : (p k l c : ℕ) (xs : List ℕ) → slice_get lists p ≡ Some xs → slice_get xs k ≡ Some c → slice_get xs l ≡ Some c → k ≡ l

abbrev pub regions_of : OpM → List ℕ
regions_of o = o.body.regions

abbrev pub owner_of : RegionM → Option ℕ
owner_of r = Some r.owner

abbrev pub blocks_of : RegionM → List ℕ
blocks_of r = r.blocks

abbrev pub region_of : BlockM → Option ℕ
region_of b = b.parent

abbrev pub ops_of : BlockM → List ℕ
ops_of b = b.ops

abbrev pub block_of : OpM → Option ℕ
block_of o = o.parent

-- no more of each than one operation may have
pub record Few (L : Limits) (o : BodyM) : Type 0 where
  pub results : length o.results ≤ L.results
  pub operands : length o.operands ≤ L.operands
  pub successors : length o.successors ≤ L.successors
  pub regions : length o.regions ≤ L.op_regions

pub record Sound (L : Limits) (m : BookM) : Type 0 where
  -- an operand holds a value that its row defines, and has that value's type
  pub operands : (i k : ℕ) (o : OpM) (x : Operand) → slice_get m.ops i ≡ Some o → slice_get o.body.operands k ≡ Some x → type_of m x.value ≡ Some x.ty
  -- a successor names a block of the book
  pub successors : (i k : ℕ) (o : OpM) (s : Successor) → slice_get m.ops i ≡ Some o → slice_get o.body.successors k ≡ Some s → s.block < length m.blocks
  -- a value's type is a handle of the type list
  pub types : (e : DefiningEntity) (k : ℕ) (d : Definition) → slice_get (defined_by m e) k ≡ Some d → d.ty < length m.types
  -- value numbers were all given already, and none stands in two places
  pub value_given : (e : DefiningEntity) (k : ℕ) (d : Definition) → slice_get (defined_by m e) k ≡ Some d → d.val_uid < m.values
  pub value_once : (e f : DefiningEntity) (k l : ℕ) (c d : Definition) → slice_get (defined_by m e) k ≡ Some c → slice_get (defined_by m f) l ≡ Some d → c.val_uid ≡ d.val_uid → (same_entity e f ≡ true) × (k ≡ l)
  -- use numbers too, over operands and successors together
  pub use_given : (i k : ℕ) (o : OpM) (x : Operand) → slice_get m.ops i ≡ Some o → slice_get o.body.operands k ≡ Some x → x.use_uid < m.uses
  pub block_use_given : (i k : ℕ) (o : OpM) (s : Successor) → slice_get m.ops i ≡ Some o → slice_get o.body.successors k ≡ Some s → s.use_uid < m.uses
  pub use_once : (i j k l : ℕ) (o p : OpM) (x y : Operand) → slice_get m.ops i ≡ Some o → slice_get m.ops j ≡ Some p → slice_get o.body.operands k ≡ Some x → slice_get p.body.operands l ≡ Some y → x.use_uid ≡ y.use_uid → (i ≡ j) × (k ≡ l)
  pub block_use_once : (i j k l : ℕ) (o p : OpM) (s t : Successor) → slice_get m.ops i ≡ Some o → slice_get m.ops j ≡ Some p → slice_get o.body.successors k ≡ Some s → slice_get p.body.successors l ≡ Some t → s.use_uid ≡ t.use_uid → (i ≡ j) × (k ≡ l)
  pub uses_apart : (i j k l : ℕ) (o p : OpM) (x : Operand) (s : Successor) → slice_get m.ops i ≡ Some o → slice_get m.ops j ≡ Some p → slice_get o.body.operands k ≡ Some x → slice_get p.body.successors l ≡ Some s → x.use_uid ≢ s.use_uid
  -- regions belong to the operation that lists them; blocks and operations stand where they are listed
  pub regions : Nested (map regions_of m.ops) (map owner_of m.regions)
  pub blocks : Nested (map blocks_of m.regions) (map region_of m.blocks)
  pub ops : Nested (map ops_of m.blocks) (map block_of m.ops)
  -- nothing passes a limit
  pub few : (i : ℕ) (o : OpM) → slice_get m.ops i ≡ Some o → Few L o.body
  pub few_args : (b : ℕ) (x : BlockM) → slice_get m.blocks b ≡ Some x → length x.args ≤ L.arguments
  pub few_ops : length m.ops ≤ L.operations
  pub few_blocks : length m.blocks ≤ L.blocks
  pub few_regions : length m.regions ≤ L.regions
  pub few_uses : m.uses ≤ L.uses
