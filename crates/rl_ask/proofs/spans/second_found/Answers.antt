use Rattle.std.proofs.Common.{subst}
use Rattle.rl_ask.specs.internal.Reads.{IsMarkedRead}
use Rattle.rl_ask.specs.Spans.{second_exceeds}
use Rattle.rl_ask.proofs.AnswerLemmas.{decided-with}
use Rattle.rl_ask.proofs.spans.second_found.Goals as goal

pub returns-in-Exceeds : goal.returns-in-Exceeds
returns-in-Exceeds c =
    second_exceeds (subst (IsMarkedRead c.args.comparing.groups c.args.second.now) c.in-Exceeds.is c.in_ok-limit.ensures)

pub returns-in-Marked : goal.returns-in-Marked
returns-in-Marked c =
    decided-with c.decided-answer.result _ _ _ _ _ (subst (IsMarkedRead c.args.comparing.groups c.args.second.now) c.in-Marked.is c.in_ok-limit.ensures) c.decided-answer.ensures
