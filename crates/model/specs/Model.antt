-- The model book: records of plain lists. Rows are numbered from 0 in the order of their making; the M is for model.
use Rattle.std.specs.Prelude.{ℕ, ◌+◌, cond, List, [], ◌∷◌, ◌++◌, Some, None, Option, ◌==◌}
use Rattle.std.specs.List.{range_with_len, slice_get}
use Rattle.ir.specs.declared.location.Location.{Location}
use Rattle.ir.specs.declared.value.DefiningEntity.{DefiningEntity}
use Rattle.ir.specs.declared.value.DefiningEntity.TheVariants.{Op, Block}
use Rattle.ir.specs.declared.value.Value.{Value}
use Rattle.ir.specs.declared.value.Definition.{Definition}
use Rattle.ir.specs.declared.value.Operand.{Operand}
use Rattle.ir.specs.declared.value.Successor.{Successor}

-- all of an operation but where it stands; sizes are absent until they are set
pub record BodyM : Type 0 where
  pub kind : ℕ
  pub location : Location
  pub results : List Definition
  pub operands : List Operand
  pub successors : List Successor
  pub regions : List ℕ
  pub sizes : Option (List ℕ)

-- an operation, with the block that it is placed in
pub record OpM : Type 0 where
  pub body : BodyM
  pub parent : Option ℕ

-- a block, with the operations placed in it and the region that it is placed in
pub record BlockM : Type 0 where
  pub args : List Definition
  pub ops : List ℕ
  pub parent : Option ℕ

-- a region, with the operation that it belongs to and the blocks placed in it
pub record RegionM : Type 0 where
  pub owner : ℕ
  pub blocks : List ℕ

-- a book: the id of each type handle, the rows, and how many values and uses were made so far
pub record BookM : Type 0 where
  pub types : List ℕ
  pub ops : List OpM
  pub blocks : List BlockM
  pub regions : List RegionM
  pub values : ℕ
  pub uses : ℕ

-- the book right after its making
abbrev pub empty : List ℕ → BookM
empty ts = record { types = ts; ops = []; blocks = []; regions = []; values = 0; uses = 0 }

-- ---- what a row defines

abbrev pub results_at : Option OpM → List Definition
results_at None = []
results_at (Some o) = o.body.results

abbrev pub args_at : Option BlockM → List Definition
args_at None = []
args_at (Some b) = b.args

-- the values that a row defines: none where there is no such row
abbrev pub defined_by : BookM → DefiningEntity → List Definition
defined_by m (Op i) = results_at (slice_get m.ops i)
defined_by m (Block b) = args_at (slice_get m.blocks b)

-- the type of the value with number u, found by looking through what the row defines
abbrev pub type_in : ℕ → List Definition → Option ℕ
type_in u [] = None
type_in u (d ∷ ds) = cond (d.val_uid == u) (Some d.ty) (type_in u ds)

-- the type of a value, where its very row defines its number
abbrev pub type_of : BookM → Value → Option ℕ
type_of m v = type_in v.val_uid (defined_by m v.defining_entity)

-- ---- new rows

-- each element with a number of its own, from n on
abbrev pub numbered : {X Y : Type 0} → (ℕ → X → Y) → ℕ → List X → List Y
numbered f n [] = []
numbered f n (x ∷ xs) = f n x ∷ numbered f (n + 1) xs

abbrev pub definition : ℕ → ℕ → Definition
definition n t = record { val_uid = n; ty = t }

abbrev pub successor : ℕ → ℕ → Successor
successor n b = record { block = b; use_uid = n }

-- a new operation: results numbered from v on, the given operands, successors numbered from u on, n regions from row r on
abbrev pub new_op : ℕ → Location → Option (List ℕ) → List ℕ → List Operand → List ℕ → ℕ → ℕ → ℕ → ℕ → OpM
new_op kind loc sizes types operands blocks n v u r = record {
  body = record {
    kind = kind;
    location = loc;
    results = numbered definition v types;
    operands = operands;
    successors = numbered successor u blocks;
    regions = range_with_len r n;
    sizes = sizes;
  };
  parent = None;
}

-- a new block: arguments numbered from v on
abbrev pub new_block : List ℕ → ℕ → BlockM
new_block types v = record { args = numbered definition v types; ops = []; parent = None }

abbrev pub new_region : ℕ → RegionM
new_region owner = record { owner = owner; blocks = [] }

-- ---- changes of one row

abbrev pub with_operands : (List Operand → List Operand) → OpM → OpM
with_operands f o = record {
  body = record { kind = o.body.kind; location = o.body.location; results = o.body.results; operands = f o.body.operands; successors = o.body.successors; regions = o.body.regions; sizes = o.body.sizes };
  parent = o.parent;
}

abbrev pub op_in : ℕ → OpM → OpM
op_in b o = record { body = o.body; parent = Some b }

abbrev pub with_op : ℕ → BlockM → BlockM
with_op i b = record { args = b.args; ops = b.ops ++ i ∷ []; parent = b.parent }

abbrev pub block_in : ℕ → BlockM → BlockM
block_in r b = record { args = b.args; ops = b.ops; parent = Some r }

abbrev pub with_block : ℕ → RegionM → RegionM
with_block b r = record { owner = r.owner; blocks = r.blocks ++ b ∷ [] }
