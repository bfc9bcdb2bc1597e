use Rattle.std.proofs.Common.{subst}
use Rattle.rl_ask.specs.declared.grammar.Grammar.TheVariants.{Profile}
use Rattle.rl_ask.specs.internal.Reads.{IsPatternRead}
use Rattle.rl_ask.specs.Patterns.{refused}
use Rattle.rl_ask.proofs.AnswerLemmas.{read-so}
use Rattle.std.specs.Str.{chars}
use Rattle.rl_ask.specs.Suggestions.{IsSuggested}
use Rattle.rl_ask.proofs.suggest.suggest_answer.Goals as goal

pub returns-in-Refused : goal.returns-in-Refused
returns-in-Refused c =
    refused (subst (IsPatternRead Profile c.args.terms c.args.pattern.now) c.in-Refused.is c.in_ok-fault.ensures)

pub returns-in-Read : goal.returns-in-Read
returns-in-Read c =
    read-so c.pattern_answer-answer.result Profile c.args.terms c.args.pattern.now (IsSuggested c.args.terms.flags (chars c.args.pattern.now) c.args.pairs) _ (subst (IsPatternRead Profile c.args.terms c.args.pattern.now) c.in-Read.is c.in_ok-fault.ensures) c.pattern_answer-answer.ensures
