use Rattle.book.proofs.Sounds.{sound_of}
use Rattle.book.proofs.book.Book.sound.Goals as goal

pub returns : goal.returns
returns c = sound_of c.args.self.now
