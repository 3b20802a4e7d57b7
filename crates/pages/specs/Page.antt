-- The page of an operation: everything that its family and its verdict may look at, looked up in the model book. It has the operation's
-- kind, operands, sizes, successors with their arguments, results, and regions with their blocks in order, the blocks' arguments and,
-- in order, the operations directly in them with row, kind, operands and sizes. No location, no parent.
use Rattle.std.specs.Prelude.{◌≡◌, ℕ, ◌-◌, List, [], map, length, Some, None, Option}
use Rattle.std.specs.Option.{unwrap_or}
use Rattle.std.specs.List.{slice_get}
use Rattle.ir.specs.declared.location.Location.TheVariants.{Unknown}
use Rattle.ir.specs.declared.value.Definition.{Definition}
use Rattle.ir.specs.declared.value.Operand.{Operand}
use Rattle.ir.specs.declared.value.Successor.{Successor}
use Rattle.model.specs.Model.{OpM, BlockM, RegionM, BookM}

pub record SuccessorP : Type 0 where
  pub block : ℕ
  pub use_number : ℕ
  pub args : List Definition

pub record InnerP : Type 0 where
  pub row : ℕ
  pub kind : ℕ
  pub operands : List Operand
  pub sizes : Option (List ℕ)

pub record BlockP : Type 0 where
  pub row : ℕ
  pub args : List Definition
  pub ops : List InnerP

pub record RegionP : Type 0 where
  pub row : ℕ
  pub blocks : List BlockP

pub record Page : Type 0 where
  pub row : ℕ
  pub kind : ℕ
  pub operands : List Operand
  pub sizes : Option (List ℕ)
  pub successors : List SuccessorP
  pub results : List Definition
  pub regions : List RegionP

-- Rows by number. What is not in the book shows as a row that holds nothing; every row that a sound book names is in it.
abbrev pub no_op : OpM
no_op = record { body = record { kind = 0; location = Unknown; results = []; operands = []; successors = []; regions = []; sizes = None }; parent = None }

abbrev pub no_block : BlockM
no_block = record { args = []; ops = []; parent = None }

abbrev pub no_region : RegionM
no_region = record { owner = 0; blocks = [] }

abbrev pub op_at : BookM → ℕ → OpM
op_at m i = unwrap_or (slice_get m.ops i) no_op

abbrev pub block_at : BookM → ℕ → BlockM
block_at m b = unwrap_or (slice_get m.blocks b) no_block

abbrev pub region_at : BookM → ℕ → RegionM
region_at m r = unwrap_or (slice_get m.regions r) no_region

abbrev pub successor_page : BookM → Successor → SuccessorP
successor_page m s = record { block = s.block; use_number = s.use_uid; args = (block_at m s.block).args }

abbrev pub inner_page : BookM → ℕ → InnerP
inner_page m i = record { row = i; kind = (op_at m i).body.kind; operands = (op_at m i).body.operands; sizes = (op_at m i).body.sizes }

abbrev pub block_page : BookM → ℕ → BlockP
block_page m b = record { row = b; args = (block_at m b).args; ops = map (inner_page m) (block_at m b).ops }

abbrev pub region_page : BookM → ℕ → RegionP
region_page m r = record { row = r; blocks = map (block_page m) (region_at m r).blocks }

abbrev pub page : BookM → ℕ → Page
page m i = record {
  row = i;
  kind = (op_at m i).body.kind;
  operands = (op_at m i).body.operands;
  sizes = (op_at m i).body.sizes;
  successors = map (successor_page m) (op_at m i).body.successors;
  results = (op_at m i).body.results;
  regions = map (region_page m) (op_at m i).body.regions;
}

-- ---- parts of a page by number; past the last, a part that holds nothing

abbrev pub no_successor : SuccessorP
no_successor = record { block = 0; use_number = 0; args = [] }

abbrev pub successor_of : Page → ℕ → SuccessorP
successor_of p s = unwrap_or (slice_get p.successors s) no_successor

abbrev pub no_inner : InnerP
no_inner = record { row = 0; kind = 0; operands = []; sizes = None }

abbrev pub no_block_page : BlockP
no_block_page = record { row = 0; args = []; ops = [] }

abbrev pub no_region_page : RegionP
no_region_page = record { row = 0; blocks = [] }

abbrev pub region_of : Page → ℕ → RegionP
region_of p k = unwrap_or (slice_get p.regions k) no_region_page

-- block b of region k
abbrev pub block_of : Page → ℕ → ℕ → BlockP
block_of p k b = unwrap_or (slice_get (region_of p k).blocks b) no_block_page

-- the entry block of region k
abbrev pub entry_of : Page → ℕ → BlockP
entry_of p k = block_of p k 0

-- the last operation of a block
abbrev pub last_of : BlockP → Option InnerP
last_of b = slice_get b.ops (length b.ops - 1)

-- an operation that the page shows directly in one of the regions
abbrev pub InnerOn : Page → InnerP → Type 0
InnerOn p t = (k b j : ℕ) × (g : RegionP) × (x : BlockP) × (slice_get p.regions k ≡ Some g) × (slice_get g.blocks b ≡ Some x) × (slice_get x.ops j ≡ Some t)
