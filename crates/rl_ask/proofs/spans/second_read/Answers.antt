use Rattle.rl_ask.specs.Grammars.{grammar_of_finds}
use Rattle.rl_ask.specs.Patterns.{second_refused}
use Rattle.rl_ask.proofs.AnswerLemmas.{read-in, second-so}
use Rattle.rl_ask.specs.Spans.{AreFound}
use Rattle.rl_ask.proofs.spans.second_read.Goals as goal

pub returns-in-Refused : goal.returns-in-Refused
returns-in-Refused c =
    second_refused (read-in c.grammar_of_finds.result grammar_of_finds c.args.terms c.args.second.now _ _ c.grammar_of_finds.ensures c.in-Refused.is c.in_ok-fault.ensures)

pub returns-in-Read : goal.returns-in-Read
returns-in-Read c =
    second-so c.both_found-answer.result grammar_of_finds c.args.terms c.args.second.now (AreFound c.args.comparing.how c.args.comparing.groups c.args.first.now) _ (read-in c.grammar_of_finds.result grammar_of_finds c.args.terms c.args.second.now _ _ c.grammar_of_finds.ensures c.in-Read.is c.in_ok-fault.ensures) c.both_found-answer.ensures
