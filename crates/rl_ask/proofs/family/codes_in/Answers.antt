use Rattle.std.proofs.Common.{◌∙◌}
use Rattle.rl_ask.proofs.FamilyLemmas.{none-seen}
use Rattle.rl_ask.proofs.family.codes_in.Goals as goal

pub returns-in-None : goal.returns-in-None
returns-in-None c = c.new.ensures ∙ none-seen c.as_str.result _ c.in-None.is c.as_str.ensures
