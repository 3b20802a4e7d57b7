use Rattle.ir.specs.Limits.{limits}
use Rattle.book.specs.Of.{model_of}
use Rattle.book.proofs.Sounds.{sound_of}
use Rattle.reads.proofs.Stands as stands
use Rattle.reads.proofs.standing.standing.Goals as goal

pub returns : goal.returns
returns c = stands.standing limits (model_of c.args.book.now) (sound_of c.args.book.now)
