use Rattle.std.proofs.Common.{◌∙◌}
use Rattle.rl_spans.proofs.ShownLaws.{shown-none, shown-some}
use Rattle.rl_spans.proofs.shown.Words.shown.Goals as goal

pub returns-in-None-clause-shown : goal.returns-in-None-clause-shown
returns-in-None-clause-shown c = shown-none

pub returns-in-Some-clause-shown : goal.returns-in-Some-clause-shown
returns-in-Some-clause-shown c =
    shown-some c.in-Some.code c.contains.result c.contains-in-Some.result (c.contains.ensures ∙ c.requires.all c.in-Some.code)
    (c.contains-in-Some.ensures ∙ c.requires.ascii c.in-Some.code)
