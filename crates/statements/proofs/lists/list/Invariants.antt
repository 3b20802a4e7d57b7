use Rattle.std.proofs.Common.{length, vec_items}
use Rattle.text.specs.Reading.{left}
use Rattle.statements.proofs.Listing.{Sofar}
use Rattle.statements.proofs.lists.list.Given as goal

abbrev pub invariant-loop-word : goal.invariant-loop-word
invariant-loop-word g l = Sofar g.T.Item.said g.T.Item.EXPECTED l.initial.words (vec_items l.list) l.words

abbrev pub decreases-loop-word : goal.decreases-loop-word
decreases-loop-word g l = length (left l.words)
