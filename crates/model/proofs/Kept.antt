-- Each step keeps a book sound and loses nothing, whether its checks pass or refuse.
use Rattle.std.proofs.Common.{◌≡◌, ℕ, List, Ok, Err, Option, Result, refl}
use Rattle.ir.specs.Limits.{Limits}
use Rattle.ir.specs.declared.location.Location.{Location}
use Rattle.ir.specs.declared.refusal.Refusal.{Refusal}
use Rattle.ir.specs.declared.value.Value.{Value}
use Rattle.model.specs.Model.{BookM}
use Rattle.model.specs.Checks.{steps}
use Rattle.model.specs.Steps.{create_check, create_step, block_check, block_step, place_op_check, place_op_step, place_block_check, place_block_step, insert_check, insert_step, replace_check, replace_step, remove_check, remove_step, push_check, push_step, pop_check, pop_step}
use Rattle.model.specs.Sound.{Sound}
use Rattle.model.specs.Lasts.{Lasts}
use Rattle.model.proofs.Stood.{lasts_refl}
use Rattle.model.proofs.Placed.{sound_op_placed, lasts_op_placed, sound_block_placed, lasts_block_placed}
use Rattle.model.proofs.Created.{sound_created, lasts_created, sound_block_created, lasts_block_created}
use Rattle.model.proofs.Edited.{sound_inserted, lasts_inserted, sound_replaced, lasts_replaced, sound_removed, lasts_removed, sound_pushed, lasts_pushed, sound_popped, lasts_popped}

kept : {A B : Type 0} (L : Limits) (m : BookM) (r : Result A Refusal) (answer : A → B) (after : A → BookM) → Sound L m → ((a : A) → Ok a ≡ r → Sound L (after a) × Lasts m (after a)) →
    Sound L (steps r answer after m).1 × Lasts m (steps r answer after m).1
kept L m (Ok a) answer after s h = h a refl
kept L m (Err e) answer after s h = (s, lasts_refl m)

pub kept_create : (L : Limits) (m : BookM) (kind : ℕ) (loc : Location) (sizes : Option (List ℕ)) (types : List ℕ) (values : List Value) (blocks : List ℕ) (n : ℕ) → Sound L m →
    Sound L (create_step L m kind loc sizes types values blocks n).1 × Lasts m (create_step L m kind loc sizes types values blocks n).1
kept_create L m kind loc sizes types values blocks n s =
    kept L m (create_check L m types values blocks n) _ _ s
    (λ xs h. (sound_created L m kind loc sizes types values blocks n xs s h, lasts_created L m kind loc sizes types values blocks n xs h))

pub kept_block : (L : Limits) (m : BookM) (types : List ℕ) → Sound L m → Sound L (block_step L m types).1 × Lasts m (block_step L m types).1
kept_block L m types s = kept L m (block_check L m types) _ _ s (λ _ h. (sound_block_created L m types s h, lasts_block_created L m types h))

pub kept_place_op : (L : Limits) (m : BookM) (i b : ℕ) → Sound L m → Sound L (place_op_step m i b).1 × Lasts m (place_op_step m i b).1
kept_place_op L m i b s = kept L m (place_op_check m i b) _ _ s (λ _ h. (sound_op_placed L m i b s h, lasts_op_placed m i b h))

pub kept_place_block : (L : Limits) (m : BookM) (b r : ℕ) → Sound L m → Sound L (place_block_step m b r).1 × Lasts m (place_block_step m b r).1
kept_place_block L m b r s = kept L m (place_block_check m b r) _ _ s (λ _ h. (sound_block_placed L m b r s h, lasts_block_placed m b r h))

pub kept_insert : (L : Limits) (m : BookM) (i k : ℕ) (v : Value) → Sound L m → Sound L (insert_step L m i k v).1 × Lasts m (insert_step L m i k v).1
kept_insert L m i k v s = kept L m (insert_check L m i k v) _ _ s (λ x h. (sound_inserted L m i k v x s h, lasts_inserted L m i k v x h))

pub kept_replace : (L : Limits) (m : BookM) (i k : ℕ) (v : Value) → Sound L m → Sound L (replace_step L m i k v).1 × Lasts m (replace_step L m i k v).1
kept_replace L m i k v s = kept L m (replace_check L m i k v) _ _ s (λ x h. (sound_replaced L m i k v x s h, lasts_replaced L m i k v x h))

pub kept_remove : (L : Limits) (m : BookM) (i k : ℕ) → Sound L m → Sound L (remove_step m i k).1 × Lasts m (remove_step m i k).1
kept_remove L m i k s = kept L m (remove_check m i k) _ _ s (λ x h. (sound_removed L m i k x s h, lasts_removed m i k x h))

pub kept_push : (L : Limits) (m : BookM) (i : ℕ) (v : Value) → Sound L m → Sound L (push_step L m i v).1 × Lasts m (push_step L m i v).1
kept_push L m i v s = kept L m (push_check L m i v) _ _ s (λ a h. (sound_pushed L m i v a s h, lasts_pushed L m i v a h))

pub kept_pop : (L : Limits) (m : BookM) (i : ℕ) → Sound L m → Sound L (pop_step m i).1 × Lasts m (pop_step m i).1
kept_pop L m i s = kept L m (pop_check m i) _ _ s (λ x h. (sound_popped L m i x s h, lasts_popped m i x h))
