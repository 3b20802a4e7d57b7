use Rattle.text.specs.Reading.{left}
use Rattle.statements.proofs.Whole.{whole_said}
use Rattle.statements.specs.Lines.{statement_said}
use Rattle.statements.proofs.line.read_line.Goals as goal

pub returns : goal.returns
returns c = rw (← c.new-words.ensures.left) (whole_said (left c.new-words.result) _ (statement_said c.in_ok-statement.field-0) c.in_ok-statement.ensures.gives)
