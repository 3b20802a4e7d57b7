use Rattle.std.proofs.Common.{ap, ◌++◌, length}
use Rattle.std.proofs.lemmas.List.{drop-replicate}
use Rattle.text.proofs.names.padded.Goals as goal

pub returns : goal.returns
returns c =
    let word = c.args.word.now in
    rw c.copy_from_slice.ensures.after (ap (λ rest. word ++ rest) (drop-replicate (length word) 32 0))
