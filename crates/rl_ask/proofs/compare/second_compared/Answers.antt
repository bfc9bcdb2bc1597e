use Rattle.std.proofs.Common.{◌∙◌, sym}
use Rattle.rl_ask.specs.Grammars.{grammar_in}
use Rattle.rl_ask.specs.Patterns.{second_refused}
use Rattle.rl_ask.proofs.AnswerLemmas.{read-in, second-so, universe-read}
use Rattle.rl_ask.specs.Comparisons.{AreCompared}
use Rattle.rl_ask.proofs.compare.second_compared.Goals as goal

pub returns-in-Refused : goal.returns-in-Refused
returns-in-Refused c =
    second_refused (read-in c.grammar_in.result (grammar_in c.args.mode) c.args.terms c.args.second.now _ _ c.grammar_in.ensures c.in-Refused.is c.in_ok-fault.ensures)

pub returns-in-Read : goal.returns-in-Read
returns-in-Read c =
    second-so c.both_compared-answer.result (grammar_in c.args.mode) c.args.terms c.args.second.now (AreCompared c.args.mode c.args.limit c.args.first.now) _ (read-in c.grammar_in.result (grammar_in c.args.mode) c.args.terms c.args.second.now _ _ c.grammar_in.ensures c.in-Read.is c.in_ok-fault.ensures) c.both_compared-answer.ensures

pub both_compared-answer-requires-clause-universe : goal.both_compared-answer-requires-clause-universe
both_compared-answer-requires-clause-universe c =
    universe-read (grammar_in c.args.mode) c.args.terms c.args.second.now _
    (read-in c.grammar_in.result (grammar_in c.args.mode) c.args.terms c.args.second.now _ _ c.grammar_in.ensures c.in-Read.is c.in_ok-fault.ensures) ∙ sym c.requires.universe
