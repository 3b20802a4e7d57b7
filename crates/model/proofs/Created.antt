-- Creating a block or an operation.
use Rattle.std.proofs.Common.{◌≡◌, ℕ, ◌+◌, ◌<◌, ◌≤◌, ◌⊎◌, List, [], ◌∷◌, map, length, replicate, Some, Ok, Option, sym, refl, ap, ◌∙◌, subst, inl, inr, ⊎_elim, arith}
use Rattle.std.specs.List.{slice_get}
use Rattle.std.proofs.lemmas.List.{length_push, length-append, length-replicate, length-map, map_push, map-append}
use Rattle.std.proofs.lemmas.List.FromFn.{length-range_with_len}
use Rattle.ir.specs.Limits.{Limits}
use Rattle.ir.specs.declared.location.Location.{Location}
use Rattle.ir.specs.declared.value.DefiningEntity.TheVariants.{Op, Block}
use Rattle.ir.specs.declared.value.Value.{Value}
use Rattle.ir.specs.declared.value.Operand.{Operand}
use Rattle.ir.specs.declared.value.Successor.{Successor}
use Rattle.model.specs.Model.{OpM, BlockM, BookM, results_at, args_at, successor, new_op, new_block, new_region}
use Rattle.model.specs.Steps.{create_check, created, block_check, block_created}
use Rattle.model.specs.Sound.{Few, Sound, regions_of, owner_of, blocks_of, region_of, ops_of, block_of}
use Rattle.model.specs.Lasts.{OpLasts, BlockLasts, RegionLasts, Lasts}
use Rattle.model.proofs.Nths.{nth_below, nth_push, nth_push_at, each_push}
use Rattle.model.proofs.Made.{length_numbered, nth_numbered, map_replicate}
use Rattle.model.proofs.Nests.{nested_rows, nested_loose, nested_fresh}
use Rattle.model.proofs.Passed.{Creatable, create_passed, block_passed}
use Rattle.model.proofs.Stood.{op_refl, block_refl, region_refl, rows_same, rows_more}
use Rattle.model.proofs.Values.{ValuesMade}
use Rattle.model.proofs.Uses.{UsesMade, Never, stay, uses_kept}
use Rattle.model.proofs.Turns.{AllNested, lasts_from, sound_from}

-- ---- a block

module _ (m : BookM) (types : List ℕ) where
  block_values : ((k t : ℕ) → slice_get types k ≡ Some t → t < length m.types) → ValuesMade m (block_created m types) (Block (length m.blocks)) types
  block_values typed = record {
    types = refl;
    typed = typed;
    values = refl;
    lists = elim [
      | Op i ↦ inl refl
      | Block b ↦ ⊎_elim (λ p. inl (ap args_at p)) (λ p. inr (ap (λ c. Block c) p.0, ap args_at p.1)) (nth_push_at m.blocks (new_block types m.values) b)
    ];
  }

  block_uses : UsesMade m (block_created m types) stay Never
  block_uses = uses_kept m (block_created m types) refl (λ i o e. (o, e, refl))

  block_nested : (L : Limits) → Sound L m → AllNested (block_created m types)
  block_nested L s = record {
    regions = s.regions;
    blocks = rw map_push (nested_loose (map blocks_of m.regions) (map region_of m.blocks) s.blocks);
    ops = rw map_push (nested_rows (map ops_of m.blocks) (map block_of m.ops) s.ops 1);
  }

pub lasts_block_created : (L : Limits) (m : BookM) (types : List ℕ) → Ok tt ≡ block_check L m types → Lasts m (block_created m types)
lasts_block_created L m types h =
    lasts_from m (block_created m types) (Block (length m.blocks)) types (block_values m types (block_passed L m types tt h).0) stay Never (block_uses m types)
    (rows_same OpLasts op_refl m.ops)
    (rows_more BlockLasts block_refl m.blocks (new_block types m.values ∷ []))
    (rows_same RegionLasts region_refl m.regions)

pub sound_block_created : (L : Limits) (m : BookM) (types : List ℕ) → Sound L m → Ok tt ≡ block_check L m types → Sound L (block_created m types)
sound_block_created L m types s h =
    let p = block_passed L m types tt h in
    sound_from m (block_created m types) (Block (length m.blocks)) types (block_values m types p.0) stay Never (block_uses m types) L s
    (lasts_block_created L m types h) (block_nested m types L s)
    (record {
      few = s.few;
      few_args = each_push (λ (x : BlockM). length x.args ≤ L.arguments) m.blocks s.few_args (new_block types m.values) (rw length_numbered p.1);
      few_ops = s.few_ops;
      few_blocks = rw length_push (omega (arith, p.2));
      few_regions = s.few_regions;
      few_uses = s.few_uses;
    })

-- ---- an operation

-- the uses of the operation r: a operands numbered from c on, then b successors
abbrev NewUse : ℕ → ℕ → ℕ → ℕ → ℕ ⊎ ℕ → ℕ → ℕ → Type 0
NewUse r c a b (inl i) k u = (i ≡ r) × (u ≡ c + k) × (k < a)
NewUse r c a b (inr i) k u = (i ≡ r) × (u ≡ c + a + k) × (k < b)

new_fresh : (r c a b : ℕ) (e : ℕ ⊎ ℕ) (k u : ℕ) → NewUse r c a b e k u → (c ≤ u) × (u < c + (a + b))
new_fresh r c a b (inl i) k u h = (omega arith, omega arith)
new_fresh r c a b (inr i) k u h = (omega arith, omega arith)

new_once : (r c a b : ℕ) (e f : ℕ ⊎ ℕ) (k l u : ℕ) → NewUse r c a b e k u → NewUse r c a b f l u → (e ≡ f) × (k ≡ l)
new_once r c a b (inl i) (inl j) k l u h g = (ap inl (h.0 ∙ sym g.0), omega arith)
new_once r c a b (inl i) (inr j) k l u h g = absurd (omega arith)
new_once r c a b (inr i) (inl j) k l u h g = absurd (omega arith)
new_once r c a b (inr i) (inr j) k l u h g = (ap inr (h.0 ∙ sym g.0), omega arith)

module _ (L : Limits) (m : BookM) (kind : ℕ) (loc : Location) (sizes : Option (List ℕ)) (types : List ℕ) (xs : List Operand) (blocks : List ℕ) (n : ℕ) (c : Creatable L m types blocks n xs) where
  abbrev row : OpM
  row = new_op kind loc sizes types xs blocks n m.values (m.uses + length xs) (length m.regions)

  abbrev after : BookM
  after = created m kind loc sizes types xs blocks n

  op_values : ValuesMade m after (Op (length m.ops)) types
  op_values = record {
    types = refl;
    typed = c.typed;
    values = refl;
    lists = elim [
      | Op i ↦ ⊎_elim (λ p. inl (ap results_at p)) (λ p. inr (ap (λ j. Op j) p.0, ap results_at p.1)) (nth_push_at m.ops row i)
      | Block b ↦ inl refl
    ];
  }

  op_uses : UsesMade m after stay (NewUse (length m.ops) m.uses (length xs) (length blocks))
  op_uses = record {
    operand = λ i k x a. ⊎_elim
        (λ p. inl (k, refl, (a.0, p, a.2)))
        (λ p. let e : slice_get xs k ≡ Some x = subst (λ (o : OpM). slice_get o.body.operands k ≡ Some x) p.1 a.2 in
        let f = c.fit k x e in
        inr ((p.0, f.number, nth_below xs k x e), f.typed))
        (nth_push m.ops row i a.0 a.1);
    successor = λ i k s a. ⊎_elim
        (λ p. inl (a.0, p, a.2))
        (λ p. let q = nth_numbered successor (m.uses + length xs) blocks k s (subst (λ (o : OpM). slice_get o.body.successors k ≡ Some s) p.1 a.2) in
        inr (
          (p.0, ap (λ (t : Successor). t.use_uid) q.2, nth_below blocks k q.0 q.1),
          subst (λ b. b < length m.blocks) (ap (λ (t : Successor). t.block) (sym q.2)) (c.aimed k q.0 q.1),
        ))
        (nth_push m.ops row i a.0 a.1);
    fresh = new_fresh (length m.ops) m.uses (length xs) (length blocks);
    once = new_once (length m.ops) m.uses (length xs) (length blocks);
    rise = omega arith;
  }

  op_lasts : Lasts m after
  op_lasts =
      lasts_from m after (Op (length m.ops)) types op_values stay (NewUse (length m.ops) m.uses (length xs) (length blocks)) op_uses
      (rows_more OpLasts op_refl m.ops (row ∷ []))
      (rows_same BlockLasts block_refl m.blocks)
      (rows_more RegionLasts region_refl m.regions (replicate n (new_region (length m.ops))))

  op_nested : Sound L m → AllNested after
  op_nested s = record {
    regions = rw (map_push, map-append, map_replicate) (rw (length-map m.regions owner_of, length-map m.ops regions_of) at (nested_fresh (map regions_of m.ops) (map owner_of m.regions) s.regions n));
    blocks = rw (map-append, map_replicate) (nested_rows (map blocks_of m.regions) (map region_of m.blocks) s.blocks n);
    ops = rw map_push (nested_loose (map ops_of m.blocks) (map block_of m.ops) s.ops);
  }

  op_few : Few L row.body
  op_few = record {
    results = rw length_numbered c.results;
    operands = c.operands;
    successors = rw length_numbered c.successors;
    regions = rw length-range_with_len c.op_regions;
  }

  op_sound : Sound L m → Sound L after
  op_sound s =
      sound_from m after (Op (length m.ops)) types op_values stay (NewUse (length m.ops) m.uses (length xs) (length blocks)) op_uses L s op_lasts (op_nested s)
      (record {
        few = each_push (λ (o : OpM). Few L o.body) m.ops s.few row op_few;
        few_args = s.few_args;
        few_ops = rw length_push (omega (arith, c.operations));
        few_blocks = s.few_blocks;
        few_regions = rw (length-append, length-replicate) c.regions;
        few_uses = c.uses;
      })

pub lasts_created : (L : Limits) (m : BookM) (kind : ℕ) (loc : Location) (sizes : Option (List ℕ)) (types : List ℕ) (values : List Value) (blocks : List ℕ) (n : ℕ) (xs : List Operand) → Ok xs ≡ create_check L m types values blocks n → Lasts m (created m kind loc sizes types xs blocks n)
lasts_created L m kind loc sizes types values blocks n xs h = op_lasts L m kind loc sizes types xs blocks n (create_passed L m types values blocks n xs h)

pub sound_created : (L : Limits) (m : BookM) (kind : ℕ) (loc : Location) (sizes : Option (List ℕ)) (types : List ℕ) (values : List Value) (blocks : List ℕ) (n : ℕ) (xs : List Operand) → Sound L m → Ok xs ≡ create_check L m types values blocks n → Sound L (created m kind loc sizes types xs blocks n)
sound_created L m kind loc sizes types values blocks n xs s h = op_sound L m kind loc sizes types xs blocks n (create_passed L m types values blocks n xs h) s
