-- Sizes that may be absent.
use Rattle.std.specs.Prelude.{Bool, true, false, Some, None, Option}

-- x, where the flag is set
abbrev pub where_set : {X : Type 0} → Bool → X → Option X
where_set true x = Some x
where_set false x = None
