use Rattle.text.proofs.Texts.{name_utf8}
use Rattle.text.proofs.names.Name.as_str.Goals as goal

pub unreachable-requires : goal.unreachable-requires
unreachable-requires c = c.in_default.ensures.cases.0 (name_utf8 _ c.text.ensures.named)
