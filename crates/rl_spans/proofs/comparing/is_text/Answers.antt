use Rattle.std.proofs.Common.{◌<◌, All, subst}
use Rattle.rl_spans.proofs.comparing.is_text.Goals as goal

pub returns : goal.returns
returns c = λ below. subst (λ n. All (λ x. x < n) c.args.codes.now) c.count.ensures (c.are_below.ensures.0 below)
