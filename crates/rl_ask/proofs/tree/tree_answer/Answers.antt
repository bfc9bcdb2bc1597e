use Rattle.rl_ask.specs.Grammars.{grammar_in}
use Rattle.rl_syntax.specs.declared.re.Mode.TheVariants.{Search}
use Rattle.rl_ask.specs.Patterns.{refused}
use Rattle.rl_ask.proofs.AnswerLemmas.{read-in, read-so}
use Rattle.rl_ask.specs.Trees.{IsTree}
use Rattle.rl_ask.proofs.tree.tree_answer.Goals as goal

pub returns-in-Refused : goal.returns-in-Refused
returns-in-Refused c =
    refused (read-in c.grammar_in.result (grammar_in Search) c.args.terms c.args.pattern.now _ _ c.grammar_in.ensures c.in-Refused.is c.in_ok-fault.ensures)

pub returns-in-Read : goal.returns-in-Read
returns-in-Read c =
    read-so c.pattern_answer-answer.result (grammar_in Search) c.args.terms c.args.pattern.now IsTree _ (read-in c.grammar_in.result (grammar_in Search) c.args.terms c.args.pattern.now _ _ c.grammar_in.ensures c.in-Read.is c.in_ok-fault.ensures) c.pattern_answer-answer.ensures
