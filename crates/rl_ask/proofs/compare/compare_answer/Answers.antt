use Rattle.rl_ask.specs.Grammars.{grammar_in}
use Rattle.rl_ask.specs.Patterns.{first_refused}
use Rattle.rl_ask.proofs.AnswerLemmas.{first-so, read-in, universe-read}
use Rattle.rl_ask.specs.Comparisons.{AreCompared}
use Rattle.rl_ask.proofs.compare.compare_answer.Goals as goal

pub returns-in-Refused : goal.returns-in-Refused
returns-in-Refused c =
    first_refused (read-in c.grammar_in.result (grammar_in c.args.mode) c.args.terms c.args.first.now _ _ c.grammar_in.ensures c.in-Refused.is c.in_ok-fault.ensures)

pub returns-in-Read : goal.returns-in-Read
returns-in-Read c =
    first-so c.second_compared-answer.result (grammar_in c.args.mode) c.args.terms c.args.first.now c.args.second.now (AreCompared c.args.mode c.args.limit) _ (read-in c.grammar_in.result (grammar_in c.args.mode) c.args.terms c.args.first.now _ _ c.grammar_in.ensures c.in-Read.is c.in_ok-fault.ensures) c.second_compared-answer.ensures

pub second_compared-answer-requires-clause-universe : goal.second_compared-answer-requires-clause-universe
second_compared-answer-requires-clause-universe c =
    universe-read (grammar_in c.args.mode) c.args.terms c.args.first.now _
    (read-in c.grammar_in.result (grammar_in c.args.mode) c.args.terms c.args.first.now _ _ c.grammar_in.ensures c.in-Read.is c.in_ok-fault.ensures)
