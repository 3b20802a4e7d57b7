-- What is wrong with a line that could not be read.
use Rattle.reading.specs.declared.problem.ReadError.{ReadError}
use Rattle.reading.specs.declared.problem.ReadError.TheVariants as read
use Rattle.session.specs.declared.failure.Wrong.{Wrong}
use Rattle.session.specs.declared.failure.Wrong.TheVariants as wrong
use Rattle.session.specs.declared.trouble.Trouble.TheVariants as trouble

abbrev pub read_wrong : ReadError → Wrong
read_wrong (read.Malformed problem) = wrong.Malformed problem
read_wrong read.Memory = wrong.Trouble trouble.Memory
