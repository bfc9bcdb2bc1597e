-- The marks are those of the parts so far.
use Rattle.std.proofs.Common.{◌≡◌, map}
use Rattle.rl_report.specs.Places.{IsAt}
use Rattle.rl_judge.specs.RightEntries.{mark_of}
use Rattle.rl_judge.proofs.places.mark_list.Given as goal

abbrev pub invariant-loop-part : goal.invariant-loop-part
invariant-loop-part l = record {
  marks : l.marks ≡ map (mark_of l.source) l.yielded;
  at : IsAt l.source l.cursor;
}
