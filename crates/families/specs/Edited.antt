-- The page of an operation whose operands and sizes were changed. An operation may stand in a region of its own: it changes there too.
use Rattle.std.specs.Prelude.{ℕ, cond, List, map, Some, None, Option, ◌==◌, slice_index, slice_set}
use Rattle.std.specs.Option.{option_map}
use Rattle.ir.specs.declared.value.Operand.{Operand}
use Rattle.pages.specs.Page.{InnerP, BlockP, RegionP, Page}

abbrev pub inner_edited : ℕ → List Operand → Option (List ℕ) → InnerP → InnerP
inner_edited row os zs t = cond (t.row == row) (record { row = t.row; kind = t.kind; operands = os; sizes = zs }) t

abbrev pub block_edited : ℕ → List Operand → Option (List ℕ) → BlockP → BlockP
block_edited row os zs b = record { row = b.row; args = b.args; ops = map (inner_edited row os zs) b.ops }

abbrev pub region_edited : ℕ → List Operand → Option (List ℕ) → RegionP → RegionP
region_edited row os zs g = record { row = g.row; blocks = map (block_edited row os zs) g.blocks }

-- the page with the operands os and the sizes zs
abbrev pub edited : Page → List Operand → Option (List ℕ) → Page
edited p os zs = record {
  row = p.row;
  kind = p.kind;
  operands = os;
  sizes = zs;
  successors = p.successors;
  results = p.results;
  regions = map (region_edited p.row os zs) p.regions;
}

-- the sizes with that of segment g changed, where a segment is given
abbrev pub resized : (ℕ → ℕ) → Option ℕ → Option (List ℕ) → Option (List ℕ)
resized f None zs = zs
resized f (Some g) zs = option_map (λ (l : List ℕ). slice_set l g (f (slice_index l g))) zs
