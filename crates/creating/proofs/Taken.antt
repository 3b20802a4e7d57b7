-- A spare row taken into use: what the book then stands for.
use Rattle.std.proofs.Common.{◌≡◌, ℕ, ◌+◌, List, [], ◌∷◌, ◌++◌, map, length, set, replicate, Ok, Err, vec_items, vec_len, Vec, Global, Option, Result, sym, ap, ◌∙◌, ap₂, arith}
use Rattle.std.proofs.Math.Seq.{set-append_seam}
use Rattle.std.proofs.lemmas.List.{map_push, length-map}
use Rattle.ir.specs.Limits.{Limits}
use Rattle.ir.specs.declared.value.Value.{Value}
use Rattle.ir.specs.declared.location.Location.{Location}
use Rattle.ir.specs.declared.refusal.Refusal.{Refusal}
use Rattle.ir.specs.declared.value.Operand.{Operand}
use Rattle.model.specs.Model.{OpM, BlockM, RegionM, BookM, numbered, new_op, new_block, new_region}
use Rattle.model.specs.Checks.{steps, operands_of}
use Rattle.model.specs.Steps.{rows_check, few_check, room_check, create_check, created, block_created}
use Rattle.model.proofs.Passed.{on_ok, map_passed}
use Rattle.rows.specs.declared.operation.Operation.{Operation}
use Rattle.rows.specs.declared.basic_block.BasicBlock.{BasicBlock}
use Rattle.rows.specs.declared.region.Region.{Region}
use Rattle.rows.specs.Of.{op_model, block_model, region_model}
use Rattle.book.specs.declared.book.Book.{Book}
use Rattle.book.specs.Of.{model_of}
use Rattle.book.specs.Parts.{parts}
use Rattle.creating.specs.Places.{typed_place}
use Rattle.creating.proofs.Found.{unit_of, places_are}

-- a row added last and then written
pub row_added : {X : Type 0} (xs ys : List X) (row y : X) (at n : ℕ) → ys ≡ xs ++ row ∷ [] → at ≡ n → n ≡ length xs → set ys at y ≡ xs ++ y ∷ []
row_added xs ys row y at n e p l = rw (e, p ∙ l) (set-append_seam xs row [] y)

-- as many rows in the model as in the table
pub rows_are : {X Y : Type 0} (f : X → Y) (v : Vec X Global) → vec_len v ≡ length (map f (vec_items v))
rows_are f v = v.ok.0 ∙ sym (length-map (vec_items v) f)

-- a step whose checks passed
pub granted : {A B : Type 0} (r : Result A Refusal) (a : A) (answer : A → B) (after : A → BookM) (m n : BookM) (y : B) → Ok a ≡ r → y ≡ answer a → n ≡ after a → steps r answer after m ≡ (Ok y, n)
granted r a answer after m n y h p q = ap (λ x. steps x answer after m) (sym h) ∙ (ap (λ z. (Ok z, after a)) (sym p) ∙ ap (λ z. (Ok y, z)) (sym q))

pub block_taken : (b : Book) (ts : List ℕ) (y : BasicBlock) (ys : List BasicBlock) → ys ≡ vec_items b.blocks.rows ++ y ∷ [] → block_model y ≡ new_block ts b.next_value →
    parts (vec_items b.types) (vec_items b.ops.rows) ys (vec_items b.regions.rows) (b.next_value + length ts) b.next_use ≡ block_created (model_of b) ts
block_taken b ts y ys e f =
    let m = model_of b in
    ap (λ (xs : List BlockM). record { types = m.types; ops = m.ops; blocks = xs; regions = m.regions; values = m.values + length ts; uses = m.uses })
    (ap (map block_model) e ∙ (map_push block_model (vec_items b.blocks.rows) y ∙ ap (λ (x : BlockM). m.blocks ++ x ∷ []) f))

-- k operands, n regions from row r on, and the new row at `at`, as the code counts them
module _ (b : Book) (xs : List Operand) (k r at : ℕ) (operands : k ≡ length xs) (regions : r ≡ length (model_of b).regions) (ops : at ≡ length (model_of b).ops) where
  pub op_taken : (kind : ℕ) (loc : Location) (sizes : Option (List ℕ)) (ts : List ℕ) (ss : List ℕ) (n : ℕ) (y : Operation) (ys : List Operation) (rs : List Region) → ys ≡ vec_items b.ops.rows ++ y ∷ [] →
      op_model y ≡ new_op kind loc sizes ts xs ss n b.next_value (b.next_use + k) r → map region_model rs ≡ (model_of b).regions ++ replicate n (new_region at) →
      parts (vec_items b.types) ys (vec_items b.blocks.rows) rs (b.next_value + length ts) (b.next_use + (k + length ss)) ≡ created (model_of b) kind loc sizes ts xs ss n
  op_taken kind loc sizes ts ss n y ys rs e f g =
      let m = model_of b in
      let os : map op_model ys ≡ m.ops ++ new_op kind loc sizes ts xs ss n m.values (m.uses + length xs) (length m.regions) ∷ [] =
      ap (map op_model) e ∙ (map_push op_model (vec_items b.ops.rows) y ∙ (ap (λ (o : OpM). m.ops ++ o ∷ []) f ∙
      ap₂ (λ (u v : ℕ). m.ops ++ new_op kind loc sizes ts xs ss n m.values (m.uses + u) v ∷ []) operands regions)) in
      ap₂ (λ (p : List OpM) (q : List RegionM). record { types = m.types; ops = p; blocks = m.blocks; regions = q; values = m.values + length ts; uses = m.uses + (k + length ss) }) os (g ∙ ap (λ (i : ℕ). m.regions ++ replicate n (new_region i)) ops) ∙
      ap (λ (u : ℕ). record { types = m.types; ops = (created m kind loc sizes ts xs ss n).ops; blocks = m.blocks; regions = (created m kind loc sizes ts xs ss n).regions; values = m.values + length ts; uses = m.uses + (u + length ss) }) operands

-- a step whose checks did not pass
pub refused : {A B : Type 0} (r : Result A Refusal) (e : Refusal) (answer : A → B) (after : A → BookM) (m : BookM) → Err e ≡ unit_of r → steps r answer after m ≡ (Err e, m)
refused (Ok a) e answer after m h = absurd (let z : ◌≡◌ {A = ℕ} 0 1 = cc in omega arith)
refused (Err x) e answer after m h = let s : x ≡ e = cc in ap (λ (y : Refusal). (Err y, m)) s

-- the operand places that the checks found are those that were filled in
made_of : (L : Limits) (m : BookM) (ts : List ℕ) (vs : List Value) (ss : List ℕ) (n : ℕ) (xs : List Operand) → Ok xs ≡ create_check L m ts vs ss n → Ok xs ≡ operands_of m m.uses vs
made_of L m ts vs ss n xs h =
    on_ok (rows_check m ts ss) _ xs h (λ _ _ h1.
    on_ok (operands_of m m.uses vs) _ xs h1 (λ ys e h2.
    on_ok (few_check L (length ts) (length vs) (length ss) n) _ xs h2 (λ _ _ h3.
    ap Ok (map_passed (λ _. ys) (room_check L m (length vs + length ss) n) xs h3).2 ∙ e)))

pub create_ok : (L : Limits) (m : BookM) (ts : List ℕ) (vs : List Value) (ss : List ℕ) (n : ℕ) → Ok tt ≡ unit_of (create_check L m ts vs ss n) → Ok (numbered (typed_place m) m.uses vs) ≡ create_check L m ts vs ss n
create_ok L m ts vs ss n h =
    let p = map_passed (λ _. tt) (create_check L m ts vs ss n) tt h in
    let q = made_of L m ts vs ss n p.0 p.1 in
    places_are m m.uses vs (ap unit_of q) ∙ (sym q ∙ p.1)
