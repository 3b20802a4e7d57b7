-- A change of one operation's operands and sizes.
use Rattle.std.proofs.Common.{◌≡◌, ℕ, ◌<◌, ◌≤◌, cond, eqb, ◌⊎◌, List, [], length, Some, sym, refl, ap, ◌∙◌, subst, inl, inr, ⊎_elim, arith}
use Rattle.std.specs.List.{slice_get}
use Rattle.std.proofs.lemmas.Bool.{eq-eqb, ne_eqb, cond-true, cond-false}
use Rattle.ir.specs.Limits.{Limits}
use Rattle.ir.specs.declared.value.DefiningEntity.TheVariants.{Op, Block}
use Rattle.ir.specs.declared.value.Operand.{Operand}
use Rattle.model.specs.Model.{OpM, BookM, results_at, with_operands}
use Rattle.model.specs.Steps.{changed}
use Rattle.model.specs.Sound.{Few, Sound, regions_of, block_of}
use Rattle.model.specs.Lasts.{Stays, OpLasts, BlockLasts, RegionLasts, Lasts}
use Rattle.model.proofs.Nths.{some_is, nth_edit, nth_edit_at, length_edit, each_edit, map_edit_same}
use Rattle.model.proofs.Passed.{Fits}
use Rattle.model.proofs.Stood.{stays_refl, op_refl, block_refl, region_refl, rows_same, rows_edit}
use Rattle.model.proofs.Values.{ValuesMade, values_kept}
use Rattle.model.proofs.Uses.{UsesMade}
use Rattle.model.proofs.Turns.{AllNested, lasts_from, sound_from}

-- only operands and sizes may differ
pub record Keeps (g : OpM → OpM) : Type 0 where
  pub kind : (o : OpM) → (g o).body.kind ≡ o.body.kind
  pub location : (o : OpM) → (g o).body.location ≡ o.body.location
  pub results : (o : OpM) → (g o).body.results ≡ o.body.results
  pub successors : (o : OpM) → (g o).body.successors ≡ o.body.successors
  pub regions : (o : OpM) → (g o).body.regions ≡ o.body.regions
  pub parent : (o : OpM) → (g o).parent ≡ o.parent

pub keeps_operands : (f : List Operand → List Operand) → Keeps (with_operands f)
keeps_operands f = record { kind = λ _. refl; location = λ _. refl; results = λ _. refl; successors = λ _. refl; regions = λ _. refl; parent = λ _. refl }

-- Each operand of the row now stood in it before (that of place j is now at place t j),
-- but for one at the place new, which has the next use number; n uses are then made in all.
pub record Change (m : BookM) (i n : ℕ) (g : OpM → OpM) (t : ℕ → ℕ) (new : ℕ) : Type 0 where
  pub row : OpM
  pub here : slice_get m.ops i ≡ Some row
  pub rise : m.uses ≤ n
  pub from : (k : ℕ) (x : Operand) → slice_get (g row).body.operands k ≡ Some x → ((j : ℕ) × (k ≡ t j) × (slice_get row.body.operands j ≡ Some x)) ⊎ ((k ≡ new) × (m.uses < n) × Fits m m.uses x)

abbrev to : ℕ → (ℕ → ℕ) → ℕ → ℕ → ℕ
to i t r j = cond (eqb r i) (t j) j

abbrev New : ℕ → ℕ → ℕ → ℕ → ℕ ⊎ ℕ → ℕ → ℕ → Type 0
New i new m n (inl r) k u = (r ≡ i) × (k ≡ new) × (u ≡ m) × (m < n)
New i new m n (inr r) k u = ⊥

new_fresh : (i new m n : ℕ) (e : ℕ ⊎ ℕ) (k u : ℕ) → New i new m n e k u → (m ≤ u) × (u < n)
new_fresh i new m n (inl r) k u a = (omega arith, omega arith)
new_fresh i new m n (inr r) k u a = absurd a

new_once : (i new m n : ℕ) (e f : ℕ ⊎ ℕ) (k l u : ℕ) → New i new m n e k u → New i new m n f l u → (e ≡ f) × (k ≡ l)
new_once i new m n (inl r) (inl s) k l u a b = (ap inl (a.0 ∙ sym b.0), a.1 ∙ sym b.1)
new_once i new m n (inl r) (inr s) k l u a b = absurd b
new_once i new m n (inr r) f k l u a b = absurd a

module _ (m : BookM) (i n : ℕ) (g : OpM → OpM) (t : ℕ → ℕ) (new : ℕ) (keeps : Keeps g) (c : Change m i n g t new) where
  values : ValuesMade m (changed m i n g) (Op 0) []
  values = values_kept m (changed m i n g) refl refl
      (elim [ Op j ↦ nth_edit_at results_at g keeps.results m.ops i j | Block b ↦ refl ])

  uses : UsesMade m (changed m i n g) (to i t) (New i new m.uses n)
  uses = record {
    operand = λ r k x a. ⊎_elim
        (λ p. let z : p.0 ≡ c.row = some_is (ap (slice_get m.ops) (sym p.1) ∙ p.2) c.here in ⊎_elim
        (λ q. inl (q.0, q.1 ∙ sym (cond-true (eqb r i) (t q.0) q.0 (eq-eqb r i p.1)), (c.row, ap (slice_get m.ops) p.1 ∙ c.here, q.2)))
        (λ q. inr ((p.1, q.0, q.2.number, q.1), q.2.typed))
        (c.from k x (cc (p.3, z, a.2))))
        (λ p. inl (k, sym (cond-false (eqb r i) (t k) k (ne_eqb r i p.0)), (a.0, p.1, a.2)))
        (nth_edit m.ops i r g a.0 a.1);
    successor = λ r k s a. ⊎_elim
        (λ p. inl (p.0, p.2, cc (p.3, keeps.successors p.0, a.2)))
        (λ p. inl (a.0, p.1, a.2))
        (nth_edit m.ops i r g a.0 a.1);
    fresh = new_fresh i new m.uses n;
    once = new_once i new m.uses n;
    rise = c.rise;
  }

  pub lasts_changed : Lasts m (changed m i n g)
  lasts_changed =
      lasts_from m (changed m i n g) (Op 0) [] values (to i t) (New i new m.uses n) uses
      (rows_edit OpLasts op_refl m.ops i g (λ o e. record {
        kind = keeps.kind o;
        location = keeps.location o;
        results = keeps.results o;
        successors = keeps.successors o;
        regions = keeps.regions o;
        parent = subst (Stays o.parent) (sym (keeps.parent o)) (stays_refl o.parent);
      }))
      (rows_same BlockLasts block_refl m.blocks)
      (rows_same RegionLasts region_refl m.regions)

  nested : (L : Limits) → Sound L m → AllNested (changed m i n g)
  nested L s = record {
    regions = rw (map_edit_same regions_of g keeps.regions m.ops i) s.regions;
    blocks = s.blocks;
    ops = rw (map_edit_same block_of g keeps.parent m.ops i) s.ops;
  }

  row_few : (L : Limits) → Sound L m → length (g c.row).body.operands ≤ L.operands → (o : OpM) → slice_get m.ops i ≡ Some o → Few L (g o).body
  row_few L s w o e =
      let f = s.few i o e in record {
        results = subst (λ xs. length xs ≤ L.results) (sym (keeps.results o)) f.results;
        operands = subst (λ (p : OpM). length (g p).body.operands ≤ L.operands) (some_is c.here e) w;
        successors = subst (λ xs. length xs ≤ L.successors) (sym (keeps.successors o)) f.successors;
        regions = subst (λ xs. length xs ≤ L.op_regions) (sym (keeps.regions o)) f.regions;
      }

  pub sound_changed : (L : Limits) → Sound L m → length (g c.row).body.operands ≤ L.operands → n ≤ L.uses → Sound L (changed m i n g)
  sound_changed L s w u =
      sound_from m (changed m i n g) (Op 0) [] values (to i t) (New i new m.uses n) uses L s lasts_changed (nested L s)
      (record {
        few = each_edit (λ (o : OpM). Few L o.body) m.ops s.few i g (row_few L s w);
        few_args = s.few_args;
        few_ops = subst (λ k. k ≤ L.operations) (sym (length_edit m.ops i g)) s.few_ops;
        few_blocks = s.few_blocks;
        few_regions = s.few_regions;
        few_uses = u;
      })
