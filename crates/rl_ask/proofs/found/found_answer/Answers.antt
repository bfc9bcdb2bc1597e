use Rattle.rl_ask.specs.Grammars.{grammar_of_finds}
use Rattle.rl_ask.specs.Patterns.{refused}
use Rattle.rl_ask.proofs.AnswerLemmas.{read-in, read-so}
use Rattle.std.specs.Str.{chars}
use Rattle.rl_ask.specs.Finds.{IsFoundOn}
use Rattle.rl_ask.proofs.found.found_answer.Goals as goal

pub returns-in-Refused : goal.returns-in-Refused
returns-in-Refused c =
    refused (read-in c.grammar_of_finds.result grammar_of_finds c.args.terms c.args.pattern.now _ _ c.grammar_of_finds.ensures c.in-Refused.is c.in_ok-fault.ensures)

pub returns-in-Read : goal.returns-in-Read
returns-in-Read c =
    read-so c.pattern_answer-answer.result grammar_of_finds c.args.terms c.args.pattern.now (IsFoundOn c.args.asking.mode (chars c.args.text.now) c.args.asking.advance c.args.asking.from) _ (read-in c.grammar_of_finds.result grammar_of_finds c.args.terms c.args.pattern.now _ _ c.grammar_of_finds.ensures c.in-Read.is c.in_ok-fault.ensures) c.pattern_answer-answer.ensures
