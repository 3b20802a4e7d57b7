-- What a family of kinds means, as functions of kind and page, and what it shows.
use Rattle.std.specs.Prelude.{◌≡◌, ℕ, ◌<◌, ◌≤◌, Bool, true, ◌⊎◌, length, Ok, Result}
use Rattle.ir.specs.declared.refusal.LayoutCode.{LayoutCode}
use Rattle.kinds.specs.declared.range.IndexRange.{IndexRange}
use Rattle.pages.specs.Page.{Page}

-- which kinds are branches; whether a branch's layout is accepted, or the code; the operands that go to each successor
pub record Branching : Type 0 where
  pub branches : ℕ → Bool
  pub layout : Page → Result (Unit {0}) LayoutCode
  pub range : Page → ℕ → IndexRange

-- a branch whose layout is accepted
pub record Accepted (b : Branching) (p : Page) : Type 0 where
  pub branch : b.branches p.kind ≡ true
  pub layout : b.layout p ≡ Ok tt

-- successor s of a branch whose layout is accepted
pub record SuccessorThere (b : Branching) (p : Page) (s : ℕ) : Type 0 where
  pub accepted : Accepted b p
  pub there : s < length p.successors

-- every branch is a terminator; where a layout is accepted, ranges lie within the operands and do not overlap
pub record BranchLaws (terminates : ℕ → Bool) (b : Branching) : Type 0 where
  pub ends : (k : ℕ) → b.branches k ≡ true → terminates k ≡ true
  pub rises : (p : Page) (s : ℕ) → Accepted b p → s < length p.successors → (b.range p s).start ≤ (b.range p s).end
  pub within : (p : Page) (s : ℕ) → Accepted b p → s < length p.successors → (b.range p s).end ≤ length p.operands
  pub apart : (p : Page) (s t : ℕ) → Accepted b p → s < t → t < length p.successors → ((b.range p s).end ≤ (b.range p t).start) ⊎ ((b.range p t).end ≤ (b.range p s).start)
