-- What an accepted branch does: each block gets what its arguments ask for.
use Rattle.std.proofs.Common.{◌≡◌, ℕ, zero, suc, ◌+◌, ◌<◌, ◌≤◌, Bool, true, false, cond, eqb, List, [], ◌∷◌, length, Some, None, Ok, Err, Option, Result, unwrap_or, sym, refl, ap, ◌∙◌, subst, arith, rules}
use Rattle.std.specs.List.{between, slice_get}
use Rattle.std.specs.Option.{ok_or}
use Rattle.std.proofs.lemmas.List.Edits.{length-between, get_or-between}
use Rattle.std.proofs.lemmas.Option.{slice_get-get_or, slice_get-map, slice_get_within, get_or_from_slice_get}
use Rattle.std.proofs.lemmas.Bool.{eqb-true}
use Rattle.ir.specs.Limits.{limits}
use Rattle.ir.specs.declared.refusal.Refusal.{Refusal}
use Rattle.ir.specs.declared.refusal.Refusal.TheVariants.{NoInterface}
use Rattle.ir.specs.declared.value.Definition.{Definition}
use Rattle.ir.specs.declared.value.Operand.{Operand}
use Rattle.ir.specs.declared.value.Successor.{Successor}
use Rattle.model.specs.Model.{OpM, BlockM, BookM, type_of}
use Rattle.model.specs.Checks.{map_ok, op_row}
use Rattle.model.specs.Sound.{Sound}
use Rattle.model.proofs.Nths.{none_some}
use Rattle.pages.specs.Page.{page, op_at, no_op, successor_of, successor_page}
use Rattle.ir.specs.declared.refusal.LayoutCode.{LayoutCode}
use Rattle.kinds.specs.declared.fault.Fault.{Fault}
use Rattle.kinds.specs.First.{Check}
use Rattle.kinds.specs.Verdict.{Verdict, accepted}
use Rattle.kinds.specs.Family.{Branching, BranchLaws, Accepted as LayoutAccepted}
use Rattle.kinds.proofs.Firsts.{both_passed, first_each}
use Rattle.branches.specs.Branch.{types_check, part_check, successor_check, successors_check, layout_check, branch_check}
use Rattle.branches.specs.Verdicts.{judged, branch_verdict_of, FeedsBlocks}

cond_passed : {E : Type 0} (t : Bool) (r : Check E) (e : E) → cond t r (Err e) ≡ Ok tt → (t ≡ true) × (r ≡ Ok tt)
cond_passed true r e h = (refl, h)
cond_passed false r e h = absurd (search rules)

-- types that were checked agree
types_each : (n : ℕ) (xs : List Operand) (ds : List Definition) (j : ℕ) (d : Definition) → types_check n xs ds ≡ Ok tt → length xs ≡ length ds → slice_get ds j ≡ Some d → (y : Operand) × (slice_get xs j ≡ Some y) × (y.ty ≡ d.ty)
types_each n xs [] j d h e a = absurd (none_some a)
types_each n [] (c ∷ ds) j d h e a = absurd (omega (arith, e))
types_each n (x ∷ xs) (c ∷ ds) zero d h e a = let s : c ≡ d = cc in (x, refl, eqb-true _ _ (cond_passed _ _ _ h).0 ∙ ap (λ (z : Definition). z.ty) s)
types_each n (x ∷ xs) (c ∷ ds) (suc j) d h e a = types_each (n + 1) xs ds j d (cond_passed (eqb x.ty c.ty) (types_check (n + 1) xs ds) _ h).1 (omega (arith, e)) a

-- the operands of a part, among all operands
nth_between : (xs : List Operand) (a b j : ℕ) (y : Operand) → b ≤ length xs → slice_get (between a b xs) j ≡ Some y → slice_get xs (a + j) ≡ Some y
nth_between xs a b j y l h =
    let n = length-between xs a b l in
    let k = slice_get_within (between a b xs) j y h in
    slice_get-get_or xs (a + j) y (omega arith) ∙ ap Some (sym (get_or-between xs a b j y (omega arith)) ∙ get_or_from_slice_get (between a b xs) j y y h)

module _ (t : ℕ → Bool) (b : Branching) (m : BookM) (i : ℕ) (laws : BranchLaws t b) (sound : Sound limits m) where
  module _ (branch : b.branches (page m i).kind ≡ true) (checked : branch_check b (page m i) ≡ Ok tt) where
    parts : (layout_check (b.layout (page m i)) ≡ Ok tt) × (successors_check b (page m i) ≡ Ok tt)
    parts = both_passed _ _ checked

    laid : (r : Check LayoutCode) → layout_check r ≡ Ok tt → r ≡ Ok tt
    laid (Ok tt) h = refl
    laid (Err c) h = absurd (search rules)

    layout : LayoutAccepted b (page m i)
    layout = record { branch = branch; layout = laid _ parts.0 }

    module _ (o : OpM) (k : ℕ) (s : Successor) (x : BlockM) (here : slice_get m.ops i ≡ Some o) (aim : slice_get o.body.successors k ≡ Some s) (there : slice_get m.blocks s.block ≡ Some x) where
      row : op_at m i ≡ o
      row = ap (λ r. unwrap_or r no_op) here

      aimed : slice_get (page m i).successors k ≡ Some (successor_page m s)
      aimed = slice_get-map (successor_page m) (op_at m i).body.successors k ∙ rw (row, aim)

      below : k < length (page m i).successors
      below = slice_get_within _ k _ aimed

      abbrev start : ℕ
      start = (b.range (page m i) k).start

      abbrev end : ℕ
      end = (b.range (page m i) k).end

      args : (successor_of (page m i) k).args ≡ x.args
      args = rw (aimed, there)

      part : part_check (between start end (op_at m i).body.operands) x.args ≡ Ok tt
      part = subst (λ ds. part_check (between start end (op_at m i).body.operands) ds ≡ Ok tt) args (first_each (successor_check b (page m i)) (length (page m i).successors) k parts.1 below)

      counted : length (between start end (op_at m i).body.operands) ≡ length x.args
      counted = eqb-true _ _ (cond_passed _ _ _ part).0

      within : end ≤ length (op_at m i).body.operands
      within = laws.within (page m i) k layout below

      fed_count : start + length x.args ≡ end
      fed_count = omega (arith, counted, length-between (op_at m i).body.operands start end within, laws.rises (page m i) k layout below)

      fed_each : (j : ℕ) (d : Definition) → slice_get x.args j ≡ Some d → (y : Operand) × (slice_get o.body.operands (start + j) ≡ Some y) × (type_of m y.value ≡ Some d.ty)
      fed_each j d a =
          let e = types_each 0 (between start end (op_at m i).body.operands) x.args j d (cond_passed _ _ _ part).1 counted a in
          let p : slice_get o.body.operands (start + j) ≡ Some e.0 = subst (λ (q : OpM). slice_get q.body.operands (start + j) ≡ Some e.0) row (nth_between (op_at m i).body.operands start end j e.0 within e.1) in
          (e.0, p, sound.operands i (start + j) o e.0 here p ∙ ap Some e.2)

    pub feeds : FeedsBlocks b m i
    feeds = record { count = fed_count; each = λ o k s x j d here aim there a. fed_each o k s x here aim there j d a }

  -- a verdict that accepts is that of a branch whose check passed
  passed : (r : Result OpM Refusal) (v : Option Verdict) (asked : Bool) (c : Check Fault) → Ok v ≡ map_ok (λ (o : OpM). cond asked (Some (judged i o.body.location c)) None) r → ok_or v NoInterface ≡ Ok accepted → (asked ≡ true) × (c ≡ Ok tt)
  passed (Err e) v asked c told a = absurd (search rules)
  passed (Ok o) v true (Ok tt) told a = (refl, refl)
  passed (Ok o) v true (Err f) told a = absurd (search rules)
  passed (Ok o) v false c told a = absurd (search rules)

  pub accepted_feeds : (v : Option Verdict) → Ok v ≡ branch_verdict_of b m i → ok_or v NoInterface ≡ Ok accepted → FeedsBlocks b m i
  accepted_feeds v told a = let p = passed (op_row m i) v _ _ told a in feeds p.0 p.1
