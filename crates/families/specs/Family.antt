-- What a family of kinds means, as functions of kind and page, and the duties that it shows. Each law speaks of one page and its own kind,
-- so that two families can be joined by a split of kinds.
use Rattle.std.specs.Prelude.{◌≡◌, ℕ, ◌+◌, ◌-◌, ◌<◌, ◌≤◌, Bool, true, ◌⊎◌, List, length, take, Some, Ok, sum, Option, ◌≢◌, slice_index}
use Rattle.std.specs.List.{insert, remove}
use Rattle.ir.specs.Limits.{Limits}
use Rattle.ir.specs.declared.value.Operand.{Operand}
use Rattle.pages.specs.Page.{Page}
use Rattle.kinds.specs.declared.range.IndexRange.{IndexRange}
use Rattle.kinds.specs.Family.{Branching, Accepted}
use Rattle.families.specs.Edited.{edited, resized}

-- ---- segments

-- which kinds have their operands in segments, and how many segments such a kind has, where it is fixed
pub record Segmenting : Type 0 where
  pub segmented : ℕ → Bool
  pub expected : ℕ → Option ℕ

-- a fixed number of segments is at least one and no more than an operation may have
pub record SegmentLaws (L : Limits) (z : Segmenting) : Type 0 where
  pub counts : (k n : ℕ) → z.segmented k ≡ true → z.expected k ≡ Some n → (1 ≤ n) × (n ≤ L.segments)

-- ---- the segments of branches

-- the segment that the operands of a successor are, where they are one
abbrev pub Segments : Type 0
Segments = Page → ℕ → Option ℕ

-- the range is the segment g: sizes are set, there is such a size, and the range begins where the segments before it end
pub record IsSegment (p : Page) (r : IndexRange) (g : ℕ) : Type 0 where
  pub sizes : List ℕ
  pub set : p.sizes ≡ Some sizes
  pub there : g < length sizes
  pub start : r.start ≡ sum (take g sizes)
  pub end : r.end ≡ r.start + slice_index sizes g

-- the page with one operand more at the end of the range of s, through its segment where it has one
abbrev pub lengthened : Branching → Segments → Page → ℕ → Operand → Page
lengthened b g p s x = edited p (insert p.operands (b.range p s).end x) (resized (λ n. n + 1) (g p s) p.sizes)

-- the page without the operand k of the range of s, through its segment where it has one
abbrev pub shortened : Branching → Segments → Page → ℕ → ℕ → Page
shortened b g p s k = edited p (remove p.operands k) (resized (λ n. n - 1) (g p s) p.sizes)

-- a range that lies outside: it stays where it is, or moves as a whole
abbrev pub MovedUp : ℕ → IndexRange → IndexRange → Type 0
MovedUp k r q = ((r.end ≤ k) × (q.start ≡ r.start) × (q.end ≡ r.end)) ⊎ ((k ≤ r.start) × (q.start ≡ r.start + 1) × (q.end ≡ r.end + 1))

abbrev pub MovedDown : ℕ → IndexRange → IndexRange → Type 0
MovedDown k r q = ((r.end ≤ k) × (q.start ≡ r.start) × (q.end ≡ r.end)) ⊎ ((k < r.start) × (q.start + 1 ≡ r.start) × (q.end + 1 ≡ r.end))

-- from page p to page q the layout stays accepted, the range of s is longer by one, and the others only moved
pub record Longer (b : Branching) (p q : Page) (s : ℕ) : Type 0 where
  pub layout : b.layout q ≡ Ok tt
  pub start : (b.range q s).start ≡ (b.range p s).start
  pub end : (b.range q s).end ≡ (b.range p s).end + 1
  pub others : (t : ℕ) → t < length p.successors → (t ≢ s) → MovedUp (b.range p s).end (b.range p t) (b.range q t)

-- from page p to page q the layout stays accepted, the range of s is shorter by the operand k, and the others only moved
pub record Shorter (b : Branching) (p q : Page) (s k : ℕ) : Type 0 where
  pub layout : b.layout q ≡ Ok tt
  pub start : (b.range q s).start ≡ (b.range p s).start
  pub end : (b.range q s).end + 1 ≡ (b.range p s).end
  pub others : (t : ℕ) → t < length p.successors → (t ≢ s) → MovedDown k (b.range p t) (b.range q t)

-- what a branch shows of its segments, beside the laws of its ranges
pub record BranchSegmentLaws (b : Branching) (segment_of : Segments) : Type 0 where
  -- a segment that is given for a successor is there and is the successor's range
  pub segment : (p : Page) (s g : ℕ) → Accepted b p → s < length p.successors → segment_of p s ≡ Some g → IsSegment p (b.range p s) g
  -- inserting at a range's end lengthens that range; removing inside it shortens it; the others only move
  pub lengthens : (p : Page) (s : ℕ) (x : Operand) → Accepted b p → s < length p.successors → Longer b p (lengthened b segment_of p s x) s
  pub shortens : (p : Page) (s k : ℕ) → Accepted b p → s < length p.successors → (b.range p s).start ≤ k → k < (b.range p s).end → Shorter b p (shortened b segment_of p s k) s k

-- a branch for which a segment is given is of a segmented kind
pub record KindLaws (z : Segmenting) (b : Branching) (segment_of : Segments) : Type 0 where
  pub segmented : (p : Page) (s g : ℕ) → Accepted b p → s < length p.successors → segment_of p s ≡ Some g → z.segmented p.kind ≡ true
