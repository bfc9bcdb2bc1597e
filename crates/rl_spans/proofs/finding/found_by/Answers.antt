use Rattle.std.proofs.Common.{◌∙◌}
use Rattle.rl_spans.proofs.SightLaws.{side-finds}
use Rattle.rl_spans.proofs.finding.found_by.Goals as goal

pub returns-in-Ok-clause-found : goal.returns-in-Ok-clause-found
returns-in-Ok-clause-found c =
    c.in-Ok.ensures.sight
    ∙ side-finds c.args.how c.args.pattern.now c.in_ok-side.side c.args.pattern.now.groups c.args.text.now c.args.advance c.args.from c.in_ok-side.ensures.matcher
