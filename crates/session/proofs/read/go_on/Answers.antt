use Rattle.book.specs.Of.{model_of}
use Rattle.session.proofs.Leading.{led_first, led_on, led_some}
use Rattle.session.proofs.read.go_on.Goals as goal

pub returns-in-None-Types : goal.returns-in-None-Types
returns-in-None-Types c = λ _. led_first _ c.begin.result c.begin.ensures

pub returns : goal.returns
returns c = λ h. led_on c.in-Some-default.course c.in_ok-enter-in-Some-default.field-0 (model_of c.enter.new.course.book) (led_some c.args.course c.in-Some-default.course c.in-Some-default.is-0 h) c.in_ok-enter-in-Some-default.ensures
