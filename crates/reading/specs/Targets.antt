-- Where something is placed.
use Rattle.std.specs.Prelude.{ℕ, List, Some, None, Option}
use Rattle.std.specs.Option.{option_map}
use Rattle.text.specs.Indices.{indexed_of, shown as shown_indexed}
use Rattle.text.specs.Names.{name_of}
use Rattle.reading.specs.declared.target.Target.{Target}
use Rattle.reading.specs.declared.target.Target.TheVariants.{Block, Region}

-- a region, as it has an index, or else a block
abbrev pub target_of : List ℕ → Option Target
target_of w = elim (indexed_of w) [ Some region ↦ Some (Region region) | None ↦ option_map Block (name_of w) ]

-- how a target is written
abbrev pub shown : Target → List ℕ
shown (Block name) = name
shown (Region region) = shown_indexed region
