use Rattle.rl_prio.proofs.LengthLemmas.{first-short, after-short, longest-short}
use Rattle.rl_prio.proofs.WholeLemmas.{moves-short}
use Rattle.rl_prio.proofs.laws.item_lists_are_short.Goals as goal

pub returns-clause-entered : goal.returns-clause-entered
returns-clause-entered c = first-short

pub returns-clause-later : goal.returns-clause-later
returns-clause-later c = after-short

pub returns-clause-longest : goal.returns-clause-longest
returns-clause-longest c = longest-short

pub returns-clause-moves : goal.returns-clause-moves
returns-clause-moves c = moves-short
