-- The number of each refusal, as a caller reads it.
use Rattle.std.specs.Prelude.{ℕ}
use Rattle.ir.specs.declared.refusal.Refusal.{Refusal}
use Rattle.ir.specs.declared.refusal.Refusal.TheVariants.{NoRow, NoValue, OverCapacity, RangeBackward, ChartRule, NoInterface, NoRowsLeft, NoSizes, Layout, OutOfRange, NothingToPop, PastOperands, OperandsFull, AlreadyPlaced, UsesSpent, ListTooShort}

abbrev pub number_of : Refusal → ℕ
number_of NoRow = 1
number_of (NoValue _) = 2
number_of OverCapacity = 3
number_of RangeBackward = 4
number_of ChartRule = 5
number_of NoInterface = 6
number_of NoRowsLeft = 7
number_of NoSizes = 8
number_of (Layout _) = 9
number_of OutOfRange = 10
number_of NothingToPop = 11
number_of PastOperands = 12
number_of OperandsFull = 13
number_of AlreadyPlaced = 14
number_of UsesSpent = 15
number_of ListTooShort = 16
