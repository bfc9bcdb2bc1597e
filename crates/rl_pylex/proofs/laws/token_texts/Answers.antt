-- The law follows from the facts about pieces and about the search for closing quotes.
use Rattle.rl_pylex.proofs.TokenFacts.{IsInOrder-tokens}
use Rattle.rl_pylex.proofs.LiteralFacts.{IsLiteral-token}
use Rattle.rl_pylex.proofs.Alone.{literal_alone}
use Rattle.rl_pylex.proofs.laws.token_texts.Goals as goal

pub returns : goal.returns
returns c =
    record { in_order = IsInOrder-tokens; literals = IsLiteral-token; alone = literal_alone }
