-- What each call makes of the model book: its checks in rising order of their numbers, then its answer and the book after it.
use Rattle.std.specs.Prelude.{ℕ, ◌+◌, not, ◌&&◌, List, [], ◌∷◌, ◌++◌, length, replicate, is_some, Ok, Err, Option, Result, nat_le, nat_lt, slice_set}
use Rattle.std.specs.List.{insert, remove}
use Rattle.ir.specs.Limits.{Limits}
use Rattle.ir.specs.Uses.{use_in}
use Rattle.ir.specs.declared.location.Location.{Location}
use Rattle.ir.specs.declared.refusal.Refusal.{Refusal}
use Rattle.ir.specs.declared.refusal.Refusal.TheVariants.{NoRow, OverCapacity, NoRowsLeft, OutOfRange, NothingToPop, OperandsFull, AlreadyPlaced, UsesSpent}
use Rattle.ir.specs.declared.value.Value.{Value}
use Rattle.ir.specs.declared.value.Operand.{Operand}
use Rattle.ir.specs.declared.value.Use.{Use}
use Rattle.ir.specs.declared.value.Pushed.{Pushed}
use Rattle.model.specs.Model.{OpM, BookM, new_op, new_block, new_region, with_operands, op_in, with_op, block_in, with_block}
use Rattle.model.specs.Checks.{and_then, demand, map_ok, every, edit, steps, op_row, block_row, region_row, place, operand, operands_of}

-- ---- making: 3

abbrev pub make_check : Limits → List ℕ → Result (Unit {0}) Refusal
make_check L types = demand (nat_le (length types) L.types) OverCapacity

-- ---- creating

-- types and successor blocks that are there: 1
abbrev pub rows_check : BookM → List ℕ → List ℕ → Result (Unit {0}) Refusal
rows_check m types blocks =
    and_then (demand (every (λ t. nat_lt t (length m.types)) types) NoRow) (λ _.
    demand (every (λ b. nat_lt b (length m.blocks)) blocks) NoRow)

-- no more of each than one operation may have: 3
abbrev pub few_check : Limits → ℕ → ℕ → ℕ → ℕ → Result (Unit {0}) Refusal
few_check L types values blocks n =
    demand (nat_le types L.results && nat_le values L.operands && nat_le blocks L.successors && nat_le n L.op_regions) OverCapacity

-- what is left of the book: 7, for the operation and its n regions; 15, for the uses
abbrev pub room_check : Limits → BookM → ℕ → ℕ → Result (Unit {0}) Refusal
room_check L m uses n =
    and_then (demand (nat_lt (length m.ops) L.operations) NoRowsLeft) (λ _.
    and_then (demand (nat_le (length m.regions + n) L.regions) NoRowsLeft) (λ _.
    demand (nat_le (m.uses + uses) L.uses) UsesSpent))

-- the operand places of a new operation: 1, 2, 3, 7, 15
abbrev pub create_check : Limits → BookM → List ℕ → List Value → List ℕ → ℕ → Result (List Operand) Refusal
create_check L m types values blocks n =
    and_then (rows_check m types blocks) (λ _.
    and_then (operands_of m m.uses values) (λ xs.
    and_then (few_check L (length types) (length values) (length blocks) n) (λ _.
    map_ok (λ _. xs) (room_check L m (length values + length blocks) n))))

-- the book with a new operation last; its results and uses take the next numbers, operands before successors
abbrev pub created : BookM → ℕ → Location → Option (List ℕ) → List ℕ → List Operand → List ℕ → ℕ → BookM
created m kind loc sizes types xs blocks n = record {
  types = m.types;
  ops = m.ops ++ new_op kind loc sizes types xs blocks n m.values (m.uses + length xs) (length m.regions) ∷ [];
  blocks = m.blocks;
  regions = m.regions ++ replicate n (new_region (length m.ops));
  values = m.values + length types;
  uses = m.uses + (length xs + length blocks);
}

abbrev pub create_step : Limits → BookM → ℕ → Location → Option (List ℕ) → List ℕ → List Value → List ℕ → ℕ → Result ℕ Refusal × BookM
create_step L m kind loc sizes types values blocks n =
    steps (create_check L m types values blocks n) (λ _. length m.ops) (λ xs. created m kind loc sizes types xs blocks n) m

-- 1, 3, 7
abbrev pub block_check : Limits → BookM → List ℕ → Result (Unit {0}) Refusal
block_check L m types =
    and_then (demand (every (λ t. nat_lt t (length m.types)) types) NoRow) (λ _.
    and_then (demand (nat_le (length types) L.arguments) OverCapacity) (λ _.
    demand (nat_lt (length m.blocks) L.blocks) NoRowsLeft))

abbrev pub block_created : BookM → List ℕ → BookM
block_created m types = record {
  types = m.types;
  ops = m.ops;
  blocks = m.blocks ++ new_block types m.values ∷ [];
  regions = m.regions;
  values = m.values + length types;
  uses = m.uses;
}

abbrev pub block_step : Limits → BookM → List ℕ → Result ℕ Refusal × BookM
block_step L m types = steps (block_check L m types) (λ _. length m.blocks) (λ _. block_created m types) m

-- ---- placing: 1, 14

abbrev pub place_op_check : BookM → ℕ → ℕ → Result (Unit {0}) Refusal
place_op_check m i b =
    and_then (op_row m i) (λ o.
    and_then (block_row m b) (λ _.
    demand (not (is_some o.parent)) AlreadyPlaced))

-- the operation i last in the block b
abbrev pub op_placed : BookM → ℕ → ℕ → BookM
op_placed m i b = record {
  types = m.types;
  ops = edit m.ops i (op_in b);
  blocks = edit m.blocks b (with_op i);
  regions = m.regions;
  values = m.values;
  uses = m.uses;
}

abbrev pub place_op_step : BookM → ℕ → ℕ → Result (Unit {0}) Refusal × BookM
place_op_step m i b = steps (place_op_check m i b) (λ u. u) (λ _. op_placed m i b) m

abbrev pub place_block_check : BookM → ℕ → ℕ → Result (Unit {0}) Refusal
place_block_check m b r =
    and_then (block_row m b) (λ x.
    and_then (region_row m r) (λ _.
    demand (not (is_some x.parent)) AlreadyPlaced))

-- the block b last in the region r
abbrev pub block_placed : BookM → ℕ → ℕ → BookM
block_placed m b r = record {
  types = m.types;
  ops = m.ops;
  blocks = edit m.blocks b (block_in r);
  regions = edit m.regions r (with_block b);
  values = m.values;
  uses = m.uses;
}

abbrev pub place_block_step : BookM → ℕ → ℕ → Result (Unit {0}) Refusal × BookM
place_block_step m b r = steps (place_block_check m b r) (λ u. u) (λ _. block_placed m b r) m

-- ---- edits of the operands of one operation

-- the book with the row i changed by g, and n uses made in all
abbrev pub changed : BookM → ℕ → ℕ → (OpM → OpM) → BookM
changed m i n g = record { types = m.types; ops = edit m.ops i g; blocks = m.blocks; regions = m.regions; values = m.values; uses = n }

-- the operands of the row i changed by f
abbrev pub edited : BookM → ℕ → ℕ → (List Operand → List Operand) → BookM
edited m i n f = changed m i n (with_operands f)

-- room for one operand more, 13, and for one use more, 15
abbrev pub one_more_check : Limits → BookM → OpM → Result (Unit {0}) Refusal
one_more_check L m o =
    and_then (demand (nat_lt (length o.body.operands) L.operands) OperandsFull) (λ _.
    demand (nat_lt m.uses L.uses) UsesSpent)

abbrev pub use_of : ℕ → Operand → Use Operand
use_of i x = use_in i x.use_uid

-- the operand place to be put in: 1, 2, 10, 13, 15
abbrev pub insert_check : Limits → BookM → ℕ → ℕ → Value → Result Operand Refusal
insert_check L m i k v =
    and_then (op_row m i) (λ o.
    and_then (operand m m.uses v) (λ x.
    and_then (demand (nat_le k (length o.body.operands)) OutOfRange) (λ _.
    map_ok (λ _. x) (one_more_check L m o))))

abbrev pub insert_step : Limits → BookM → ℕ → ℕ → Value → Result (Use Operand) Refusal × BookM
insert_step L m i k v = steps (insert_check L m i k v) (use_of i) (λ x. edited m i (m.uses + 1) (λ xs. insert xs k x)) m

-- the operand place to be put last, with its index: 1, 2, 13, 15
abbrev pub push_check : Limits → BookM → ℕ → Value → Result (ℕ × Operand) Refusal
push_check L m i v =
    and_then (op_row m i) (λ o.
    and_then (operand m m.uses v) (λ x.
    map_ok (λ _. (length o.body.operands, x)) (one_more_check L m o)))

abbrev pub pushed : ℕ → ℕ × Operand → Pushed
pushed i a = record { index = a.0; made = use_of i a.1 }

abbrev pub push_step : Limits → BookM → ℕ → Value → Result Pushed Refusal × BookM
push_step L m i v = steps (push_check L m i v) (pushed i) (λ a. edited m i (m.uses + 1) (λ xs. xs ++ a.1 ∷ [])) m

-- the operand place that takes the place of the operand k, with a new use number: 1, 2, 10, 15
abbrev pub replace_check : Limits → BookM → ℕ → ℕ → Value → Result Operand Refusal
replace_check L m i k v =
    and_then (op_row m i) (λ o.
    and_then (operand m m.uses v) (λ x.
    and_then (demand (nat_lt k (length o.body.operands)) OutOfRange) (λ _.
    map_ok (λ _. x) (demand (nat_lt m.uses L.uses) UsesSpent))))

abbrev pub replace_step : Limits → BookM → ℕ → ℕ → Value → Result (Use Operand) Refusal × BookM
replace_step L m i k v = steps (replace_check L m i k v) (use_of i) (λ x. edited m i (m.uses + 1) (λ xs. slice_set xs k x)) m

-- the operand place that is to go: 1, 10
abbrev pub remove_check : BookM → ℕ → ℕ → Result Operand Refusal
remove_check m i k = and_then (op_row m i) (λ o. place o.body.operands k)

abbrev pub remove_step : BookM → ℕ → ℕ → Result Value Refusal × BookM
remove_step m i k = steps (remove_check m i k) (λ x. x.value) (λ _. edited m i m.uses (λ xs. remove xs k)) m

-- the last operand place: 1, 11
abbrev pub last_of : List Operand → Result Operand Refusal
last_of [] = Err NothingToPop
last_of (x ∷ []) = Ok x
last_of (x ∷ y ∷ ys) = last_of (y ∷ ys)

abbrev pub all_but_last : List Operand → List Operand
all_but_last [] = []
all_but_last (x ∷ []) = []
all_but_last (x ∷ y ∷ ys) = x ∷ all_but_last (y ∷ ys)

abbrev pub pop_check : BookM → ℕ → Result Operand Refusal
pop_check m i = and_then (op_row m i) (λ o. last_of o.body.operands)

abbrev pub pop_step : BookM → ℕ → Result Value Refusal × BookM
pop_step m i = steps (pop_check m i) (λ x. x.value) (λ _. edited m i m.uses all_but_last) m
