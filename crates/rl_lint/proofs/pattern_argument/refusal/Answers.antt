use Rattle.std.proofs.Common.{Some, ap, ◌∙◌, sym}
use Rattle.rl_lint.specs.Messages.{refused_at}
use Rattle.rl_lint.specs.Patterns.{refusal}
use Rattle.rl_lint.proofs.PatternLemmas.{message-asked}
use Rattle.rl_lint.proofs.pattern_argument.refusal.Goals as goal

pub returns-in-Syntax : goal.returns-in-Syntax
returns-in-Syntax c = message-asked c.refused_at.result (refusal c.args.error) _ (ap refusal c.in-Syntax.is) c.refused_at.ensures

pub returns-in-TooDeep : goal.returns-in-TooDeep
returns-in-TooDeep c = message-asked c.refused_at-in-TooDeep.result (refusal c.args.error) _ (ap refusal c.in-TooDeep.is) c.refused_at-in-TooDeep.ensures

pub returns-in-Outside : goal.returns-in-Outside
returns-in-Outside c =
    message-asked c.refused_at-in-Outside.result (refusal c.args.error) _
    (ap refusal c.in-Outside.is ∙ ap (λ cause. Some (refused_at cause c.in-Outside.place)) (sym c.feature_name.ensures)) c.refused_at-in-Outside.ensures
