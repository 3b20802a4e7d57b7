-- The uses of a book after a call: each stood in its row before, or has a number that was not given before.
use Rattle.std.proofs.Common.{◌≡◌, ℕ, ◌<◌, ◌≤◌, ◌⊎◌, length, Some, sym, refl, ap, ◌∙◌, subst, inl, inr, ⊎_elim, arith}
use Rattle.std.specs.List.{slice_get}
use Rattle.ir.specs.Limits.{Limits}
use Rattle.ir.specs.declared.value.Operand.{Operand}
use Rattle.ir.specs.declared.value.Successor.{Successor}
use Rattle.model.specs.Model.{OpM, BookM, type_of}
use Rattle.model.specs.Sound.{Sound}
use Rattle.model.specs.Lasts.{Holds, Names, BlockLasts, Lasts}
use Rattle.model.proofs.Stood.{rows_below, type_lasts}

abbrev pub OperandAt : BookM → ℕ → ℕ → Operand → Type 0
OperandAt m i k x = (o : OpM) × (slice_get m.ops i ≡ Some o) × (slice_get o.body.operands k ≡ Some x)

abbrev pub SuccessorAt : BookM → ℕ → ℕ → Successor → Type 0
SuccessorAt m i k s = (o : OpM) × (slice_get m.ops i ≡ Some o) × (slice_get o.body.successors k ≡ Some s)

-- Use numbers stand in two lists of each operation i: its operands, inl i, and its successors, inr i.
-- The operand at place j of row i is now at place to i j; a new use with number u at place k of a list e is F e k u.
pub record UsesMade (m n : BookM) (to : ℕ → ℕ → ℕ) (F : ℕ ⊎ ℕ → ℕ → ℕ → Type 0) : Type 0 where
  pub operand : (i k : ℕ) (x : Operand) → OperandAt n i k x → ((j : ℕ) × (k ≡ to i j) × OperandAt m i j x) ⊎ (F (inl i) k x.use_uid × (type_of m x.value ≡ Some x.ty))
  pub successor : (i k : ℕ) (s : Successor) → SuccessorAt n i k s → SuccessorAt m i k s ⊎ (F (inr i) k s.use_uid × (s.block < length m.blocks))
  pub fresh : (e : ℕ ⊎ ℕ) (k u : ℕ) → F e k u → (m.uses ≤ u) × (u < n.uses)
  pub once : (e f : ℕ ⊎ ℕ) (k l u : ℕ) → F e k u → F f l u → (e ≡ f) × (k ≡ l)
  pub rise : m.uses ≤ n.uses

-- the use number u stands at place k of a list
abbrev UseAt : BookM → ℕ ⊎ ℕ → ℕ → ℕ → Type 0
UseAt m (inl i) k u = (x : Operand) × OperandAt m i k x × (x.use_uid ≡ u)
UseAt m (inr i) k u = (s : Successor) × SuccessorAt m i k s × (s.use_uid ≡ u)

module _ (L : Limits) (m : BookM) (s : Sound L m) where
  use_given : (e : ℕ ⊎ ℕ) (k u : ℕ) → UseAt m e k u → u < m.uses
  use_given (inl i) k u a = subst (λ v. v < m.uses) a.2 (s.use_given i k a.1.0 a.0 a.1.1 a.1.2)
  use_given (inr i) k u a = subst (λ v. v < m.uses) a.2 (s.block_use_given i k a.1.0 a.0 a.1.1 a.1.2)

  use_once : (e f : ℕ ⊎ ℕ) (k l u : ℕ) → UseAt m e k u → UseAt m f l u → (e ≡ f) × (k ≡ l)
  use_once (inl i) (inl j) k l u a b =
      let r = s.use_once i j k l a.1.0 b.1.0 a.0 b.0 a.1.1 b.1.1 a.1.2 b.1.2 (a.2 ∙ sym b.2) in (ap inl r.0, r.1)
  use_once (inl i) (inr j) k l u a b =
      absurd (s.uses_apart i j k l a.1.0 b.1.0 a.0 b.0 a.1.1 b.1.1 a.1.2 b.1.2 (a.2 ∙ sym b.2))
  use_once (inr i) (inl j) k l u a b =
      absurd (s.uses_apart j i l k b.1.0 a.1.0 b.0 a.0 b.1.1 a.1.1 b.1.2 a.1.2 (b.2 ∙ sym a.2))
  use_once (inr i) (inr j) k l u a b =
      let r = s.block_use_once i j k l a.1.0 b.1.0 a.0 b.0 a.1.1 b.1.1 a.1.2 b.1.2 (a.2 ∙ sym b.2) in (ap inr r.0, r.1)

abbrev moved : (ℕ → ℕ → ℕ) → ℕ ⊎ ℕ → ℕ → ℕ
moved to (inl i) j = to i j
moved to (inr i) j = j

module _ (m n : BookM) (to : ℕ → ℕ → ℕ) (F : ℕ ⊎ ℕ → ℕ → ℕ → Type 0) (h : UsesMade m n to F) where
  use_at : (e : ℕ ⊎ ℕ) (k u : ℕ) → UseAt n e k u → ((j : ℕ) × (k ≡ moved to e j) × UseAt m e j u) ⊎ F e k u
  use_at (inl i) k u a = ⊎_elim (λ p. inl (p.0, p.1, (a.0, p.2, a.2))) (λ p. inr (subst (F (inl i) k) a.2 p.0)) (h.operand i k a.0 a.1)
  use_at (inr i) k u a = ⊎_elim (λ p. inl (k, refl, (a.0, p, a.2))) (λ p. inr (subst (F (inr i) k) a.2 p.0)) (h.successor i k a.0 a.1)

  pub uses_new : (i : ℕ) (x : Operand) → Holds n i x → Holds m i x ⊎ (m.uses ≤ x.use_uid)
  uses_new i x a = ⊎_elim
      (λ p. inl (p.0, p.2.0, p.2.1, p.2.2))
      (λ p. inr (h.fresh (inl i) a.0 x.use_uid p.0).0)
      (h.operand i a.0 x (a.1, a.2, a.3))

  pub block_uses_new : (i : ℕ) (s : Successor) → Names n i s → Names m i s ⊎ (m.uses ≤ s.use_uid)
  block_uses_new i s a = ⊎_elim
      (λ p. inl (a.0, p.0, p.1, p.2))
      (λ p. inr (h.fresh (inr i) a.0 s.use_uid p.0).0)
      (h.successor i a.0 s (a.1, a.2, a.3))

  module _ (L : Limits) (s : Sound L m) where
    given : (e : ℕ ⊎ ℕ) (k u : ℕ) → UseAt n e k u → u < n.uses
    given e k u a = ⊎_elim (λ p. let g = use_given L m s e p.0 u p.2 in let r = h.rise in omega arith) (λ p. (h.fresh e k u p).1) (use_at e k u a)

    once : (e f : ℕ ⊎ ℕ) (k l u : ℕ) → UseAt n e k u → UseAt n f l u → (e ≡ f) × (k ≡ l)
    once e f k l u a b = ⊎_elim
        (λ p. ⊎_elim
        (λ q. let r = use_once L m s e f p.0 q.0 u p.2 q.2 in (r.0, cc (p.1, q.1, r.0, r.1)))
        (λ q. let g = use_given L m s e p.0 u p.2 in absurd (omega (arith, (h.fresh f l u q).0)))
        (use_at f l u b))
        (λ p. ⊎_elim
        (λ q. let g = use_given L m s f q.0 u q.2 in absurd (omega (arith, (h.fresh e k u p).0)))
        (h.once e f k l u p)
        (use_at f l u b))
        (use_at e k u a)

    pub uses_typed : Lasts m n → (i k : ℕ) (o : OpM) (x : Operand) → slice_get n.ops i ≡ Some o → slice_get o.body.operands k ≡ Some x → type_of n x.value ≡ Some x.ty
    uses_typed l i k o x e f = type_lasts m n l x.value x.ty (⊎_elim
        (λ p. s.operands i p.0 p.2.0 x p.2.1 p.2.2)
        (λ p. p.1)
        (h.operand i k x (o, e, f)))

    pub uses_aimed : Lasts m n → (i k : ℕ) (o : OpM) (x : Successor) → slice_get n.ops i ≡ Some o → slice_get o.body.successors k ≡ Some x → x.block < length n.blocks
    uses_aimed l i k o x e f = rows_below BlockLasts m.blocks n.blocks l.blocks x.block (⊎_elim
        (λ p. s.successors i k p.0 x p.1 p.2)
        (λ p. p.1)
        (h.successor i k x (o, e, f)))

    pub uses_given : (i k : ℕ) (o : OpM) (x : Operand) → slice_get n.ops i ≡ Some o → slice_get o.body.operands k ≡ Some x → x.use_uid < n.uses
    uses_given i k o x e f = given (inl i) k x.use_uid (x, (o, e, f), refl)

    pub block_uses_given : (i k : ℕ) (o : OpM) (x : Successor) → slice_get n.ops i ≡ Some o → slice_get o.body.successors k ≡ Some x → x.use_uid < n.uses
    block_uses_given i k o x e f = given (inr i) k x.use_uid (x, (o, e, f), refl)

    pub uses_once : (i j k l : ℕ) (o p : OpM) (x y : Operand) → slice_get n.ops i ≡ Some o → slice_get n.ops j ≡ Some p → slice_get o.body.operands k ≡ Some x → slice_get p.body.operands l ≡ Some y → x.use_uid ≡ y.use_uid → (i ≡ j) × (k ≡ l)
    uses_once i j k l o p x y a b c d z = let r = once (inl i) (inl j) k l y.use_uid (x, (o, a, c), z) (y, (p, b, d), refl) in (cc r.0, r.1)

    pub block_uses_once : (i j k l : ℕ) (o p : OpM) (x y : Successor) → slice_get n.ops i ≡ Some o → slice_get n.ops j ≡ Some p → slice_get o.body.successors k ≡ Some x → slice_get p.body.successors l ≡ Some y → x.use_uid ≡ y.use_uid → (i ≡ j) × (k ≡ l)
    block_uses_once i j k l o p x y a b c d z = let r = once (inr i) (inr j) k l y.use_uid (x, (o, a, c), z) (y, (p, b, d), refl) in (cc r.0, r.1)

    pub uses_apart : (i j k l : ℕ) (o p : OpM) (x : Operand) (y : Successor) → slice_get n.ops i ≡ Some o → slice_get n.ops j ≡ Some p → slice_get o.body.operands k ≡ Some x → slice_get p.body.successors l ≡ Some y → x.use_uid ≡ y.use_uid → ⊥
    uses_apart i j k l o p x y a b c d z =
        let r = once (inl i) (inr j) k l y.use_uid (x, (o, a, c), z) (y, (p, b, d), refl) in
        let w : ◌≡◌ {A = ℕ} 0 1 = cc r.0 in omega arith

-- ---- no use is made

abbrev pub Never : ℕ ⊎ ℕ → ℕ → ℕ → Type 0
Never e k u = ⊥

abbrev pub stay : ℕ → ℕ → ℕ
stay i j = j

-- every operation has the body that it had
pub uses_kept : (m n : BookM) → n.uses ≡ m.uses → ((i : ℕ) (o : OpM) → slice_get n.ops i ≡ Some o → (p : OpM) × (slice_get m.ops i ≡ Some p) × (p.body ≡ o.body)) → UsesMade m n stay Never
uses_kept m n u same = record {
  operand = λ i k x a. let p = same i a.0 a.1 in inl (k, refl, (p.0, p.1, cc (p.2, a.2)));
  successor = λ i k x a. let p = same i a.0 a.1 in inl (p.0, p.1, cc (p.2, a.2));
  fresh = λ e k u f. absurd f;
  once = λ e f k l u a. absurd a;
  rise = omega arith;
}
