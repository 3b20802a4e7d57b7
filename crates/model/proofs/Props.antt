-- The records of Sound are propositions: two proofs of one are the same.
use Rattle.std.proofs.Common.{◌≡◌, ℕ, Bool, List, Option}
use mathlib.Core.HLevel.{×_prop, ⊥_prop}
use native.Mathlib.Bridge.{le_prop}
use denote.Struct.Props.{≡_prop}
use Rattle.std.specs.Coded.{coded_ℕ, coded_bool, coded_option}
use Rattle.ir.specs.Limits.{Limits}
use Rattle.model.specs.Model.{BodyM, BookM}
use Rattle.model.specs.Sound.{Nested, Few, Sound}

-- what makes one proof of the other
number : {x y : ℕ} → IsProp (x ≡ y)
number {x} {y} = ≡_prop coded_ℕ x y

test : {x y : Bool} → IsProp (x ≡ y)
test {x} {y} = ≡_prop coded_bool x y

found : {x y : Option ℕ} → IsProp (x ≡ y)
found {x} {y} = ≡_prop (coded_option coded_ℕ) x y

stood : {x y : Option (Option ℕ)} → IsProp (x ≡ y)
stood {x} {y} = ≡_prop (coded_option (coded_option coded_ℕ)) x y

pub nested_prop : (ls : List (List ℕ)) (ps : List (Option ℕ)) (a b : Nested ls ps) → a ≡ b
nested_prop ls ps a b =
    λ i. record {
      stands = λ p k c xs e f. stood (a.stands p k c xs e f) (b.stands p k c xs e f) i;
      listed = λ p c e. test (a.listed p c e) (b.listed p c e) i;
      once = λ p k l c xs e f g. number (a.once p k l c xs e f g) (b.once p k l c xs e f g) i;
    }

pub few_prop : (L : Limits) (o : BodyM) (a b : Few L o) → a ≡ b
few_prop L o a b =
    λ i. record {
      results = le_prop a.results b.results i;
      operands = le_prop a.operands b.operands i;
      successors = le_prop a.successors b.successors i;
      regions = le_prop a.regions b.regions i;
    }

pub sound_prop : (L : Limits) (m : BookM) (a b : Sound L m) → a ≡ b
sound_prop L m a b =
    λ i. record {
      operands = λ r k o x e f. found (a.operands r k o x e f) (b.operands r k o x e f) i;
      successors = λ r k o s e f. le_prop (a.successors r k o s e f) (b.successors r k o s e f) i;
      types = λ d k x e. le_prop (a.types d k x e) (b.types d k x e) i;
      value_given = λ d k x e. le_prop (a.value_given d k x e) (b.value_given d k x e) i;
      value_once = λ d e k l x y f g h. ×_prop test number (a.value_once d e k l x y f g h) (b.value_once d e k l x y f g h) i;
      use_given = λ r k o x e f. le_prop (a.use_given r k o x e f) (b.use_given r k o x e f) i;
      block_use_given = λ r k o s e f. le_prop (a.block_use_given r k o s e f) (b.block_use_given r k o s e f) i;
      use_once = λ r s k l o p x y e f g h j. ×_prop number number (a.use_once r s k l o p x y e f g h j) (b.use_once r s k l o p x y e f g h j) i;
      block_use_once = λ r s k l o p x y e f g h j. ×_prop number number (a.block_use_once r s k l o p x y e f g h j) (b.block_use_once r s k l o p x y e f g h j) i;
      uses_apart = λ r s k l o p x y e f g h j. ⊥_prop (a.uses_apart r s k l o p x y e f g h j) (b.uses_apart r s k l o p x y e f g h j) i;
      regions = nested_prop _ _ a.regions b.regions i;
      blocks = nested_prop _ _ a.blocks b.blocks i;
      ops = nested_prop _ _ a.ops b.ops i;
      few = λ r o e. few_prop L o.body (a.few r o e) (b.few r o e) i;
      few_args = λ r x e. le_prop (a.few_args r x e) (b.few_args r x e) i;
      few_ops = le_prop a.few_ops b.few_ops i;
      few_blocks = le_prop a.few_blocks b.few_blocks i;
      few_regions = le_prop a.few_regions b.few_regions i;
      few_uses = le_prop a.few_uses b.few_uses i;
    }
