use Rattle.rl_ranges.proofs.SetLemmas.{ComeInOrder-from_Above}
use Rattle.rl_ranges.proofs.code_set.CodeSet.merged.Goals as goal

pub either-requires-clause-left : goal.either-requires-clause-left
either-requires-clause-left c = ComeInOrder-from_Above 0 _ c.as_ranges.ensures.sorted

pub either-requires-clause-right : goal.either-requires-clause-right
either-requires-clause-right c = ComeInOrder-from_Above 0 _ c.as_ranges-2.ensures.sorted
