use Rattle.rl_judge.proofs.Suggestions.{text_verdict}
use Rattle.rl_judge.proofs.suggestion.verdict_on_text.Goals as goal

pub returns-in-Ok : goal.returns-in-Ok
returns-in-Ok c =
    text_verdict c.args.flags c.args.options c.args.universe c.args.text.now c.in-Ok.pattern c.verdict_on.result c.in-Ok.ensures
    c.verdict_on.ensures.right
