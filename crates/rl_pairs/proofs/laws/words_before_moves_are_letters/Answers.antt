use Rattle.rl_pairs.proofs.CostLaws.{letters_before}
use Rattle.rl_pairs.proofs.laws.words_before_moves_are_letters.Goals as goal

pub returns : goal.returns
returns c = letters_before
