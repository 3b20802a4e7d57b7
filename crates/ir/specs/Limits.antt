-- How much a book and its rows may hold. The definitions and laws speak of any set of limits; `limits` is the one shipped.
use Rattle.std.specs.Prelude.{ℕ}

pub record Limits : Type 0 where
  -- rows of a book, uses that it makes in its whole life, handles of its type list
  pub operations : ℕ
  pub blocks : ℕ
  pub regions : ℕ
  pub uses : ℕ
  pub types : ℕ
  -- of one operation
  pub operands : ℕ
  pub results : ℕ
  pub successors : ℕ
  pub op_regions : ℕ
  pub segments : ℕ
  -- a segment size that is handed in; one that stands may grow past it
  pub segment_size : ℕ
  -- of one block
  pub arguments : ℕ

abbrev pub limits : Limits
limits = record {
  operations = 256;
  blocks = 256;
  regions = 128;
  uses = 1000000;
  types = 256;
  operands = 32;
  results = 8;
  successors = 8;
  op_regions = 8;
  segments = 8;
  segment_size = 255;
  arguments = 16;
}
