-- What the kinds of the timing family mean. Yield, br and cond_br end a block; br hands all its operands to its one successor.
use Rattle.std.specs.Prelude.{ℕ, Bool, cond, ◌||◌, length, Ok, Err, Result, ◌==◌}
use Rattle.pages.specs.Page.{Page}
use Rattle.ir.specs.declared.refusal.LayoutCode.{LayoutCode}
use Rattle.kinds.specs.Family.{Branching}
use Rattle.ir.specs.Kinds.{kind_number}
use Rattle.ir.specs.declared.kind.Kind.TheVariants.{Yield, Br, CondBr}
use Rattle.timing.specs.declared.family.LayoutFault.{LayoutFault}
use Rattle.timing.specs.declared.family.LayoutFault.TheVariants.{WrongCount, NoBlock, WrongOperands, WrongYield, TooManyEdges}

-- the number of each reason
abbrev pub code_number : LayoutFault → ℕ
code_number WrongCount = 1
code_number NoBlock = 2
code_number WrongOperands = 3
code_number WrongYield = 4
code_number TooManyEdges = 5

abbrev pub layout_code : LayoutFault → LayoutCode
layout_code fault = record { 0 = code_number fault }

abbrev pub terminates_in : ℕ → Bool
terminates_in k = k == kind_number Yield || (k == kind_number Br || k == kind_number CondBr)

-- one successor, else code 1
abbrev pub br_layout : Page → Result (Unit {0}) LayoutCode
br_layout p = cond (length p.successors == 1) (Ok tt) (Err (layout_code WrongCount))

abbrev pub branches_in : Branching
branches_in = record {
  branches = λ k. (k == kind_number Br);
  layout = br_layout;
  range = λ p s. record { start = 0; end = length p.operands };
}
