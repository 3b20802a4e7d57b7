use Rattle.book.specs.Of.{model_of}
use Rattle.book.proofs.Sounds.{sound_of}
use Rattle.uses.proofs.Listed.{uses_are}
use Rattle.uses.proofs.listing.list.Goals as goal

pub returns-clause-are : goal.returns-clause-are
returns-clause-are g c =
    uses_are g.P.UsePlace.kind (model_of c.args.book.now) c.args.x g.met.P.UsePlace.decides
    (λ i j k l o p a b. g.met.P.UsePlace.once (model_of c.args.book.now) i j k l o p a b (sound_of c.args.book.now)) _ c.fill.ensures.front
