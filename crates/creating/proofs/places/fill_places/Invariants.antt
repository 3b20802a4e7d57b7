use Rattle.std.proofs.Common.{◌≡◌, take}
use Rattle.model.specs.Model.{numbered}
use Rattle.book.specs.Of.{model_of}
use Rattle.creating.specs.Places.{typed_place}
use Rattle.creating.proofs.places.fill_places.Given as goal

abbrev pub invariant-loop-i : goal.invariant-loop-i
invariant-loop-i l = take l.i l.out ≡ numbered (typed_place (model_of l.book)) (model_of l.book).uses (take l.i l.values)
