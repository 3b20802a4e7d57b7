use Rattle.std.proofs.Common.{vec_items, rules}
use Rattle.ir.specs.Limits.{limits}
use Rattle.model.proofs.Empty.{sound_empty}
use Rattle.book.proofs.Sounds.{sound_at, empty_parts, empty_fits}
use Rattle.book.proofs.book.Book.new.Goals as goal

pub invariant_of-result : goal.invariant_of-result
invariant_of-result c =
    let p = c.in_ok-new.ensures in
    let q = c.in_ok-new-2.ensures in
    let r = c.in_ok-new-3.ensures in
    record {
      made = search rules;
      fit = empty_fits _ _ _ p q r;
      sound = sound_at _ _ (empty_parts (vec_items c.in_ok-types.types) _ _ _ p q r) (sound_empty limits (vec_items c.in_ok-types.types));
    }
