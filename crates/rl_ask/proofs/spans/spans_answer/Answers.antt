use Rattle.rl_ask.specs.Grammars.{grammar_of_finds}
use Rattle.rl_ask.specs.Patterns.{first_refused}
use Rattle.rl_ask.proofs.AnswerLemmas.{first-so, read-in}
use Rattle.rl_ask.specs.Spans.{AreFound}
use Rattle.rl_ask.proofs.spans.spans_answer.Goals as goal

pub returns-in-Refused : goal.returns-in-Refused
returns-in-Refused c =
    first_refused (read-in c.grammar_of_finds.result grammar_of_finds c.args.terms c.args.first.now _ _ c.grammar_of_finds.ensures c.in-Refused.is c.in_ok-fault.ensures)

pub returns-in-Read : goal.returns-in-Read
returns-in-Read c =
    first-so c.second_read-answer.result grammar_of_finds c.args.terms c.args.first.now c.args.second.now (AreFound c.args.comparing.how c.args.comparing.groups) _ (read-in c.grammar_of_finds.result grammar_of_finds c.args.terms c.args.first.now _ _ c.grammar_of_finds.ensures c.in-Read.is c.in_ok-fault.ensures) c.second_read-answer.ensures
