-- What verification says of a branch: the layout, then each successor in order, the count before each type; the first fault wins.
use Rattle.std.specs.Prelude.{ℕ, ◌+◌, cond, List, [], ◌∷◌, length, Ok, Err, ◌==◌}
use Rattle.std.specs.List.{between}
use Rattle.ir.specs.declared.value.Definition.{Definition}
use Rattle.ir.specs.declared.value.Operand.{Operand}
use Rattle.pages.specs.Page.{Page, successor_of}
use Rattle.ir.specs.declared.refusal.LayoutCode.{LayoutCode}
use Rattle.kinds.specs.declared.fault.Fault.{Fault}
use Rattle.kinds.specs.declared.fault.Fault.TheVariants.{Layout, SuccessorOperandsMismatch, SuccessorOperandTypeMismatch}
use Rattle.kinds.specs.First.{Check, both, first_of}
use Rattle.kinds.specs.Family.{Branching}

-- each operand against the argument that it goes to, from argument j on; the two lists are as long
abbrev pub types_check : ℕ → List Operand → List Definition → Check Fault
types_check j [] ds = Ok tt
types_check j (x ∷ xs) [] = Ok tt
types_check j (x ∷ xs) (d ∷ ds) = cond (x.ty == d.ty) (types_check (j + 1) xs ds) (Err (SuccessorOperandTypeMismatch j x.ty d.ty))

-- the operands of one successor against its block's arguments: the count, then each type
abbrev pub part_check : List Operand → List Definition → Check Fault
part_check xs ds = cond (length xs == length ds) (types_check 0 xs ds) (Err (SuccessorOperandsMismatch (length xs) (length ds)))

abbrev pub successor_check : Branching → Page → ℕ → Check Fault
successor_check b p s = part_check (between (b.range p s).start (b.range p s).end p.operands) (successor_of p s).args

-- each successor in order
abbrev pub successors_check : Branching → Page → Check Fault
successors_check b p = first_of (successor_check b p) (length p.successors)

abbrev pub layout_check : Check LayoutCode → Check Fault
layout_check (Ok _) = Ok tt
layout_check (Err code) = Err (Layout code)

abbrev pub branch_check : Branching → Page → Check Fault
branch_check b p = both (layout_check (b.layout p)) (successors_check b p)
