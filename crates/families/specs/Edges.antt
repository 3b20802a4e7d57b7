-- The edges of a region kind: what a family says of them, and the duties that it shows.
use Rattle.std.specs.Prelude.{◌≡◌, ℕ, ◌<◌, ◌≤◌, Bool, true, ◌⊎◌, List, [], length, take, drop, Some, Ok, Result}
use Rattle.std.specs.Option.{unwrap_or}
use Rattle.std.specs.List.{slice_get}
use Rattle.ir.specs.Limits.{Limits}
use Rattle.families.specs.EdgeLimits.{EdgeLimits}
use Rattle.ir.specs.declared.value.Operand.{Operand}
use Rattle.ir.specs.declared.value.Use.{Use}
use Rattle.ir.specs.declared.value.Value.{Value}
use Rattle.model.specs.Model.{BookM, type_of}
use Rattle.model.specs.Sound.{Sound}
use Rattle.pages.specs.Page.{Page, InnerP, page, InnerOn}
use Rattle.ir.specs.declared.refusal.LayoutCode.{LayoutCode}
use Rattle.families.specs.declared.edge.RegionBranchPoint.{RegionBranchPoint}
use Rattle.families.specs.declared.edge.RegionBranchPoint.TheVariants.{Parent, Terminator}
use Rattle.families.specs.declared.edge.RegionSuccessor.{RegionSuccessor}
use Rattle.families.specs.declared.edge.RegionSuccessor.TheVariants.{Region, After}
use Rattle.families.specs.declared.edge.Flow.{Flow}
use Rattle.families.specs.declared.edge.EdgeEnds.{EdgeEnds}

-- an edge: where it leaves, where it leads, the operands that feed receivers on it, and the operands that are read on it
pub record Edge : Type 0 where
  pub from : RegionBranchPoint
  pub to : RegionSuccessor
  pub flows : List Flow
  pub reads : List (Use Operand)

-- an edge without its lists
abbrev pub ends_of : Edge → EdgeEnds
ends_of e = record { from = e.from; to = e.to; flows = length e.flows; reads = length e.reads }

-- past the last edge
abbrev pub no_edge : Edge
no_edge = record { from = Parent; to = After; flows = []; reads = [] }

abbrev pub edge_at : List Edge → ℕ → Edge
edge_at es i = unwrap_or (slice_get es i) no_edge

-- which kinds have region edges; whether such a layout is accepted, or the code; the edges
pub record Regional : Type 0 where
  pub has : ℕ → Bool
  pub layout : Page → Result (Unit {0}) LayoutCode
  pub edges : Page → List Edge

-- a region kind whose edge layout is accepted
pub record EdgesAccepted (r : Regional) (p : Page) : Type 0 where
  pub has : r.has p.kind ≡ true
  pub layout : r.layout p ≡ Ok tt

-- edge i of a region kind whose edge layout is accepted
pub record EdgeThere (r : Regional) (p : Page) (i : ℕ) : Type 0 where
  pub accepted : EdgesAccepted r p
  pub there : i < length (r.edges p)

abbrev pub edge_of : Regional → Page → ℕ → Edge
edge_of r p i = edge_at (r.edges p) i

-- the list was written to the front of what was there
pub record Written {X : Type 0} (xs old new : List X) : Type 0 where
  pub front : take (length xs) new ≡ xs
  pub rest : drop (length xs) new ≡ drop (length xs) old

-- the operands of the operation with this row, which the page shows: its own, or those of one directly in its regions
abbrev pub OperandsOn : Page → ℕ → List Operand → Type 0
OperandsOn p row os = ((p.row ≡ row) × (p.operands ≡ os)) ⊎ ((t : InnerP) × InnerOn p t × (t.row ≡ row) × (t.operands ≡ os))

-- the use belongs to the page: some operand place on it is this use
pub record UseOn (p : Page) (u : Use Operand) : Type 0 where
  pub operands : List Operand
  pub place : ℕ
  pub operand : Operand
  pub shown : OperandsOn p u.user_op operands
  pub there : slice_get operands place ≡ Some operand
  pub number : operand.use_uid ≡ u.use_uid

-- the value is defined in the book
abbrev pub ValueIn : BookM → Value → Type 0
ValueIn m v = (t : ℕ) × (type_of m v ≡ Some t)

abbrev pub PointIn : BookM → RegionBranchPoint → Type 0
PointIn m Parent = Unit {0}
PointIn m (Terminator t) = t < length m.ops

abbrev pub TargetIn : BookM → RegionSuccessor → Type 0
TargetIn m (Region r) = r < length m.regions
TargetIn m After = Unit {0}

-- an edge of operation i: few flows and reads, every use on the page, everything else that it names in the book
pub record EdgeIn (E : EdgeLimits) (m : BookM) (i : ℕ) (e : Edge) : Type 0 where
  pub few_flows : length e.flows ≤ E.flows
  pub few_reads : length e.reads ≤ E.reads
  pub from : PointIn m e.from
  pub to : TargetIn m e.to
  pub operands : (j : ℕ) (f : Flow) → slice_get e.flows j ≡ Some f → UseOn (page m i) f.operand
  pub receivers : (j : ℕ) (f : Flow) → slice_get e.flows j ≡ Some f → ValueIn m f.receiver
  pub reads : (j : ℕ) (u : Use Operand) → slice_get e.reads j ≡ Some u → UseOn (page m i) u

-- where an edge layout is accepted there are few edges, and in a sound book each of them is as `EdgeIn` says
pub record RegionLaws (L : Limits) (E : EdgeLimits) (r : Regional) : Type 0 where
  pub few : (p : Page) → EdgesAccepted r p → length (r.edges p) ≤ E.edges
  pub inside : (m : BookM) (i : ℕ) → Sound L m → i < length m.ops → EdgesAccepted r (page m i) → (k : ℕ) (e : Edge) → slice_get (r.edges (page m i)) k ≡ Some e → EdgeIn E m i e
