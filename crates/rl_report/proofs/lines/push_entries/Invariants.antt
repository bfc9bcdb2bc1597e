-- The lines of the entries so far are appended to what was there.
use Rattle.std.proofs.Common.{◌≡◌, ◌++◌, take}
use Rattle.std.specs.List.{flat_map}
use Rattle.rl_report.specs.Layouts.{entry_lines}
use Rattle.rl_report.proofs.lines.push_entries.Given as goal

abbrev pub invariant-loop-entry : goal.invariant-loop-entry
invariant-loop-entry l =
    l.out.items ≡ l.initial.out.items ++ flat_map (entry_lines l.terms.max_pairs l.terms.report) (take l.entry-index l.entries)
