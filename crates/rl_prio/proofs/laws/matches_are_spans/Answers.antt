use Rattle.rl_prio.proofs.MatchLemmas.{matched_to_end, matched_to_some}
use Rattle.rl_prio.proofs.laws.matches_are_spans.Goals as goal

pub returns-clause-to_end : goal.returns-clause-to_end
returns-clause-to_end c = matched_to_end

pub returns-clause-to_some : goal.returns-clause-to_some
returns-clause-to_some c = matched_to_some
