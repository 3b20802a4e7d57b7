use Rattle.std.proofs.Common.{sym, ◌∙◌}
use Rattle.branches.proofs.Fed.{accepted_feeds}
use Rattle.branches.proofs.verify.verify_branch.Goals as goal

pub returns-clause-feeds : goal.returns-clause-feeds
returns-clause-feeds g c a = accepted_feeds _ _ _ c.args.op c.shown_branches.ensures c.sound.ensures c.in_ok-branch_verdict.field-0 c.in_ok-branch_verdict.ensures (sym c.ok_or.ensures.value ∙ a)
