-- How many rows are listed, and how many stand somewhere: no more are listed than stand, which bounds every list.
use Rattle.std.specs.Prelude.{ℕ, List, Some, None, vec_len, sum_by, Option}
use Rattle.rows.specs.declared.operation.Operation.{Operation}
use Rattle.rows.specs.declared.basic_block.BasicBlock.{BasicBlock}
use Rattle.rows.specs.declared.region.Region.{Region}

abbrev pub standing : Option ℕ → ℕ
standing None = 0
standing (Some _) = 1

abbrev pub op_standing : Operation → ℕ
op_standing o = standing o.parent

abbrev pub block_standing : BasicBlock → ℕ
block_standing b = standing b.parent

abbrev pub op_count : BasicBlock → ℕ
op_count b = vec_len b.ops

abbrev pub block_count : Region → ℕ
block_count r = vec_len r.blocks

-- no more operations are listed in blocks than stand in one, nor blocks in regions than stand in one
abbrev pub listed_ops : List BasicBlock → ℕ
listed_ops bs = sum_by op_count bs

abbrev pub placed_ops : List Operation → ℕ
placed_ops os = sum_by op_standing os

abbrev pub listed_blocks : List Region → ℕ
listed_blocks rs = sum_by block_count rs

abbrev pub placed_blocks : List BasicBlock → ℕ
placed_blocks bs = sum_by block_standing bs
