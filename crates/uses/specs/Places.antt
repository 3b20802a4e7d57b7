-- The places of an operation that use something: operands use values, successors use blocks. What they have in common is said
-- once, of a kind of places.
use Rattle.std.specs.Prelude.{ℕ, Bool, List, Result, nat_eq}
use Rattle.ir.specs.Uses.{use_in}
use Rattle.ir.specs.Values.{same_value}
use Rattle.ir.specs.declared.refusal.Refusal.{Refusal}
use Rattle.ir.specs.declared.value.Value.{Value}
use Rattle.ir.specs.declared.value.Operand.{Operand}
use Rattle.ir.specs.declared.value.Successor.{Successor}
use Rattle.ir.specs.declared.value.Use.{Use}
use Rattle.model.specs.Model.{OpM, BookM}
use Rattle.model.specs.Checks.{map_ok, block_row, value_type}
use Rattle.uses.specs.declared.error.UseError.{UseError}
use Rattle.uses.specs.declared.error.UseError.TheVariants.{OperandNotInUserOp, SuccessorNotInUserOp}

-- Of the places P, which use an H: those of an operation; the number of a place's use; what a place uses, and whether that is
-- x; whether x is there to be used; and how the call says that no place of an operation is a use
pub record PlaceKind (P H : Type 0) : Type 0 where
  pub places : OpM → List P
  pub uid : P → ℕ
  pub held : P → H
  pub test : H → P → Bool
  pub check : BookM → H → Result (Unit {0}) Refusal
  pub lost : UseError

-- the use that a place of operation i is
abbrev pub use_by : {P H : Type 0} → PlaceKind P H → ℕ → P → Use P
use_by kind i p = use_in i (kind.uid p)

abbrev pub operand_places : PlaceKind Operand Value
operand_places = record {
  places = λ o. o.body.operands;
  uid = λ x. x.use_uid;
  held = λ x. x.value;
  test = λ v x. same_value x.value v;
  check = λ m v. map_ok (λ _. tt) (value_type m v);
  lost = OperandNotInUserOp;
}

abbrev pub successor_places : PlaceKind Successor ℕ
successor_places = record {
  places = λ o. o.body.successors;
  uid = λ s. s.use_uid;
  held = λ s. s.block;
  test = λ b s. nat_eq s.block b;
  check = λ m b. map_ok (λ _. tt) (block_row m b);
  lost = SuccessorNotInUserOp;
}
