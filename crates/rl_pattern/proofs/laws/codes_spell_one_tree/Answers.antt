use Rattle.rl_pattern.proofs.Reading.{one_is_spelled}
use Rattle.rl_pattern.proofs.laws.codes_spell_one_tree.Goals as goal

pub returns : goal.returns
returns c = one_is_spelled
