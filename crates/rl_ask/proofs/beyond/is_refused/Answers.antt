use Rattle.std.proofs.Common.{subst}
use Rattle.rl_ask.specs.internal.Reads.{IsPatternRead}
use Rattle.rl_ask.proofs.beyond.is_refused.Goals as goal

pub returns-in-Refused-clause-yes : goal.returns-in-Refused-clause-yes
returns-in-Refused-clause-yes c =
    λ _. (c.in-Refused.field-0, subst (IsPatternRead c.args.grammar c.args.terms c.args.word.now) c.in-Refused.is c.in_ok-read_pattern.ensures)

pub returns-in-Read-clause-no : goal.returns-in-Read-clause-no
returns-in-Read-clause-no c =
    λ _. (c.in-Read.pattern, subst (IsPatternRead c.args.grammar c.args.terms c.args.word.now) c.in-Read.is c.in_ok-read_pattern.ensures)
