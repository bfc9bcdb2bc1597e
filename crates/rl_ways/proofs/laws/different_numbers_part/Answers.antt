use Rattle.rl_ways.proofs.TextLaws.{text_ways-part}
use Rattle.rl_ways.proofs.laws.different_numbers_part.Goals as goal

pub returns : goal.returns
returns c = text_ways-part
