use Rattle.rl_reach.proofs.Growth.{behind}
use Rattle.rl_reach.proofs.laws.search_is_a_match_behind_each_character.Goals as goal

pub returns : goal.returns
returns c = behind
