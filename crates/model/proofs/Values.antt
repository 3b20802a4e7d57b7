-- The values of a book after a call that defines at most one list of them, at one row, with the next numbers.
use Rattle.std.proofs.Common.{◌≡◌, ℕ, ◌+◌, ◌<◌, ◌≤◌, true, ◌⊎◌, List, [], length, Some, sym, refl, ap, ◌∙◌, subst, inl, inr, ⊎_elim, arith}
use Rattle.std.specs.List.{slice_get}
use Rattle.std.proofs.lemmas.Bool.{eq-eqb}
use Rattle.ir.specs.Limits.{Limits}
use Rattle.ir.specs.Values.{same_entity}
use Rattle.ir.specs.declared.value.DefiningEntity.{DefiningEntity}
use Rattle.ir.specs.declared.value.DefiningEntity.TheVariants.{Op, Block}
use Rattle.ir.specs.declared.value.Definition.{Definition}
use Rattle.model.specs.Model.{BookM, defined_by, numbered, definition}
use Rattle.model.specs.Sound.{Sound}
use Rattle.model.specs.Lasts.{Defines}
use Rattle.model.proofs.Nths.{none_some, nth_below}
use Rattle.model.proofs.Made.{nth_numbered}

-- the row q now defines values of the types ts, every other row what it did
pub record ValuesMade (m n : BookM) (q : DefiningEntity) (ts : List ℕ) : Type 0 where
  pub types : n.types ≡ m.types
  pub typed : (k t : ℕ) → slice_get ts k ≡ Some t → t < length m.types
  pub values : n.values ≡ m.values + length ts
  pub lists : (e : DefiningEntity) → (defined_by n e ≡ defined_by m e) ⊎ ((e ≡ q) × (defined_by n e ≡ numbered definition m.values ts))

-- no value is made
pub values_kept : (m n : BookM) → n.types ≡ m.types → n.values ≡ m.values → ((e : DefiningEntity) → defined_by n e ≡ defined_by m e) → ValuesMade m n (Op 0) []
values_kept m n t v same = record { types = t; typed = λ k x e. absurd (none_some e); values = omega arith; lists = λ e. inl (same e) }

itself : (e f : DefiningEntity) → e ≡ f → same_entity e f ≡ true
itself e f p = subst (λ g. same_entity e g ≡ true) p (one e)
  where
    one : (e : DefiningEntity) → same_entity e e ≡ true
    one (Op i) = eq-eqb i i refl
    one (Block b) = eq-eqb b b refl

module _ (m n : BookM) (q : DefiningEntity) (ts : List ℕ) (h : ValuesMade m n q ts) where
  -- what is defined at a place was defined there, or is new
  value_at : (e : DefiningEntity) (k : ℕ) (d : Definition) → slice_get (defined_by n e) k ≡ Some d →
      (slice_get (defined_by m e) k ≡ Some d) ⊎ ((e ≡ q) × (d.val_uid ≡ m.values + k) × (k < length ts) × (d.ty < length m.types))
  value_at e k d f = ⊎_elim
      (λ p. inl (subst (λ ds. slice_get ds k ≡ Some d) p f))
      (λ p. let r = nth_numbered definition m.values ts k d (subst (λ ds. slice_get ds k ≡ Some d) p.1 f) in
      inr (
        p.0,
        ap (λ (x : Definition). x.val_uid) r.2,
        nth_below ts k r.0 r.1,
        subst (λ t. t < length m.types) (ap (λ (x : Definition). x.ty) (sym r.2)) (h.typed k r.0 r.1),
      ))
      (h.lists e)

  pub values_rise : m.values ≤ n.values
  values_rise = omega arith

  pub values_new : (e : DefiningEntity) (d : Definition) → Defines n e d → Defines m e d ⊎ (m.values ≤ d.val_uid)
  values_new e d f = ⊎_elim (λ p. inl (f.0, p)) (λ p. inr (omega arith)) (value_at e f.0 d f.1)

  module _ (L : Limits) (s : Sound L m) where
    pub values_typed : (e : DefiningEntity) (k : ℕ) (d : Definition) → slice_get (defined_by n e) k ≡ Some d → d.ty < length n.types
    values_typed e k d f = subst (λ ts. d.ty < length ts) (sym h.types) (⊎_elim (s.types e k d) (λ p. p.3) (value_at e k d f))

    pub values_given : (e : DefiningEntity) (k : ℕ) (d : Definition) → slice_get (defined_by n e) k ≡ Some d → d.val_uid < n.values
    values_given e k d f = ⊎_elim (λ p. let g = s.value_given e k d p in omega arith) (λ p. omega arith) (value_at e k d f)

    pub values_once : (e f : DefiningEntity) (k l : ℕ) (c d : Definition) → slice_get (defined_by n e) k ≡ Some c → slice_get (defined_by n f) l ≡ Some d → c.val_uid ≡ d.val_uid → (same_entity e f ≡ true) × (k ≡ l)
    values_once e f k l c d a b z = ⊎_elim
        (λ p. ⊎_elim
        (λ r. s.value_once e f k l c d p r z)
        (λ r. let g = s.value_given e k c p in absurd (omega arith))
        (value_at f l d b))
        (λ p. ⊎_elim
        (λ r. let g = s.value_given f l d r in absurd (omega arith))
        (λ r. (itself e f (p.0 ∙ sym r.0), omega arith))
        (value_at f l d b))
        (value_at e k c a)
