use Rattle.std.proofs.Common.{subst}
use Rattle.rl_ask.specs.internal.Reads.{IsMarkedRead}
use Rattle.rl_ask.specs.Spans.{first_exceeds}
use Rattle.rl_ask.proofs.AnswerLemmas.{found-with}
use Rattle.rl_ask.proofs.spans.both_found.Goals as goal

pub returns-in-Exceeds : goal.returns-in-Exceeds
returns-in-Exceeds c =
    first_exceeds (subst (IsMarkedRead c.args.comparing.groups c.args.first.now) c.in-Exceeds.is c.in_ok-limit.ensures)

pub returns-in-Marked : goal.returns-in-Marked
returns-in-Marked c =
    found-with c.second_found-answer.result _ _ _ _ _ (subst (IsMarkedRead c.args.comparing.groups c.args.first.now) c.in-Marked.is c.in_ok-limit.ensures) c.second_found-answer.ensures
