-- How many region edges an operation may have, and how much one edge may name.
use Rattle.std.specs.Prelude.{ℕ}

pub record EdgeLimits : Type 0 where
  pub edges : ℕ
  -- of one edge
  pub flows : ℕ
  pub reads : ℕ

abbrev pub edge_limits : EdgeLimits
edge_limits = record { edges = 64; flows = 32; reads = 64 }
