-- The lines of the marks so far are appended to what was there.
use Rattle.std.proofs.Common.{◌≡◌, ◌++◌, take}
use Rattle.std.specs.List.{flat_map}
use Rattle.rl_report.specs.Layouts.{mark_line}
use Rattle.rl_report.proofs.lines.push_mark_list.Given as goal

abbrev pub invariant-loop-mark : goal.invariant-loop-mark
invariant-loop-mark l = l.out.items ≡ l.initial.out.items ++ flat_map (mark_line l.word) (take l.mark-index l.marks)
