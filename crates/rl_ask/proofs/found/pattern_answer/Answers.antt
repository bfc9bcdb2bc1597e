use Rattle.std.proofs.Common.{◌≡◌, ℕ, List, Bool, true, subst, ap, IfOk, Result, Ok, Err}
use Rattle.rl_ask.specs.internal.Reads.{IsMarkedRead}
use Rattle.rl_ask.specs.Finds.{exceeds}
use Rattle.rl_ask.proofs.FoundLemmas.{runs-so}
use Rattle.rl_ask.proofs.found.pattern_answer.Goals as goal

pub returns-in-Exceeds : goal.returns-in-Exceeds
returns-in-Exceeds c =
    exceeds (subst (IsMarkedRead true c.args.pattern.now) c.in-Exceeds.is c.in_ok-limit.ensures)

pub returns : goal.returns
returns c =
    runs-so c.marked_answer-answer.result c.args.asking.mode c.args.asking.advance c.args.asking.from c.args.pattern.now _ _ _ c.in_ok-text.ensures
    (subst (IsMarkedRead true c.args.pattern.now) c.in-Marked.is c.in_ok-limit.ensures) c.marked_answer-answer.ensures
