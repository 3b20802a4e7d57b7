-- What verification says of an operation of a book, and what an accepted branch does.
use Rattle.std.specs.Prelude.{◌≡◌, ℕ, ◌+◌, ◌<◌, cond, length, Some, None, Ok, Err, Option, Result}
use Rattle.std.specs.List.{slice_get}
use Rattle.ir.specs.declared.location.Location.{Location}
use Rattle.ir.specs.declared.refusal.Refusal.{Refusal}
use Rattle.ir.specs.declared.refusal.Refusal.TheVariants.{NoInterface}
use Rattle.ir.specs.declared.value.Definition.{Definition}
use Rattle.ir.specs.declared.value.Operand.{Operand}
use Rattle.ir.specs.declared.value.Successor.{Successor}
use Rattle.model.specs.Model.{OpM, BlockM, BookM, type_of}
use Rattle.model.specs.Checks.{and_then, demand, map_ok, op_row}
use Rattle.pages.specs.Page.{page}
use Rattle.kinds.specs.declared.fault.Fault.{Fault}
use Rattle.kinds.specs.First.{Check}
use Rattle.kinds.specs.Verdict.{Verdict, accepted}
use Rattle.kinds.specs.Family.{Branching}
use Rattle.branches.specs.Branch.{branch_check}

-- a fault is told with the operation and its location
abbrev pub judged : ℕ → Location → Check Fault → Verdict
judged i loc (Ok _) = accepted
judged i loc (Err f) = Err (record { op = i; location = loc; fault = f })

-- the verdict of the branch check, where the operation's kind is a branch: 1
abbrev pub branch_verdict_of : Branching → BookM → ℕ → Result (Option Verdict) Refusal
branch_verdict_of b m i = map_ok (λ o. cond (b.branches (page m i).kind) (Some (judged i o.body.location (branch_check b (page m i)))) None) (op_row m i)

-- the branch check of an operation: 1, 6
abbrev pub verify_branch_of : Branching → BookM → ℕ → Result Verdict Refusal
verify_branch_of b m i =
    and_then (op_row m i) (λ o.
    and_then (demand (b.branches (page m i).kind) NoInterface) (λ _.
    Ok (judged i o.body.location (branch_check b (page m i)))))

-- the verdict on an operation: the checks that its kind has, else accepted
abbrev pub verdict_of : Branching → BookM → ℕ → Result Verdict Refusal
verdict_of b m i = map_ok (λ o. cond (b.branches (page m i).kind) (judged i o.body.location (branch_check b (page m i))) accepted) (op_row m i)

-- every operation of the book is accepted
abbrev pub EveryAccepted : Branching → BookM → Type 0
EveryAccepted b m = (i : ℕ) → i < length m.ops → verdict_of b m i ≡ Ok accepted

-- Operation i hands each successor's block as many operands as the block has arguments, and each argument gets an operand place of the
-- operation, whose value is defined in the book with the argument's type.
pub record FeedsBlocks (b : Branching) (m : BookM) (i : ℕ) : Type 0 where
  pub count : (o : OpM) (k : ℕ) (s : Successor) (x : BlockM) → slice_get m.ops i ≡ Some o → slice_get o.body.successors k ≡ Some s → slice_get m.blocks s.block ≡ Some x →
      (b.range (page m i) k).start + length x.args ≡ (b.range (page m i) k).end
  pub each : (o : OpM) (k : ℕ) (s : Successor) (x : BlockM) (j : ℕ) (d : Definition) → slice_get m.ops i ≡ Some o → slice_get o.body.successors k ≡ Some s → slice_get m.blocks s.block ≡ Some x → slice_get x.args j ≡ Some d →
      (y : Operand) × (slice_get o.body.operands ((b.range (page m i) k).start + j) ≡ Some y) × (type_of m y.value ≡ Some d.ty)
