-- The count is that of the entries so far.
use Rattle.std.proofs.Common.{◌≡◌, take}
use Rattle.std.specs.List.{count_by}
use Rattle.rl_report.specs.Findings.{is_finding}
use Rattle.rl_report.proofs.counts.findings.Given as goal

abbrev pub invariant-loop-entry : goal.invariant-loop-entry
invariant-loop-entry l = l.count ≡ count_by (is_finding l.max_degree) (take l.entry-index l.entries)
