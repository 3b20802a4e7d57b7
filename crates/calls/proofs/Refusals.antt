-- A call that is refused changes nothing.
use Rattle.std.proofs.Common.{◌≡◌, ℕ, Ok, Err, Option, Result, sym, ap, arith}
use Rattle.ir.specs.Limits.{Limits}
use Rattle.ir.specs.declared.refusal.Refusal.{Refusal}
use Rattle.ir.specs.declared.value.DefiningEntity.{DefiningEntity}
use Rattle.model.specs.Model.{BookM}
use Rattle.model.specs.Checks.{steps}
use Rattle.calls.specs.Calls.{told, call_step}
use Rattle.calls.specs.declared.call.Call.{Call}
use Rattle.calls.specs.declared.call.Call.TheVariants as call

refused_steps : {A B : Type 0} (f : B → Option DefiningEntity) (r : Result A Refusal) (answer : A → B) (after : A → BookM) (m n : BookM) (e : Refusal) → told f (steps r answer after m) ≡ (Err e, n) → n ≡ m
refused_steps f (Ok a) answer after m n e h = absurd (let q : ◌≡◌ {A = Result (Option DefiningEntity) Refusal} (Ok (f (answer a))) (Err e) = ap (λ p. p.0) h in let z : ◌≡◌ {A = ℕ} 0 1 = cc in omega arith)
refused_steps f (Err x) answer after m n e h = sym (ap (λ p. p.1) h)

pub refusal_keeps : (L : Limits) (m : BookM) (c : Call) (e : Refusal) (n : BookM) → call_step L m c ≡ (Err e, n) → n ≡ m
refusal_keeps L m (call.NewOperation o) e n h = refused_steps _ _ _ _ m n e h
refusal_keeps L m (call.NewBlock types) e n h = refused_steps _ _ _ _ m n e h
refusal_keeps L m (call.PlaceOperation i b) e n h = refused_steps _ _ _ _ m n e h
refusal_keeps L m (call.PlaceBlock b r) e n h = refused_steps _ _ _ _ m n e h
