use Rattle.std.proofs.Common.{◌≡◌, length}
use Rattle.rl_marks.specs.Marked.{marked_of}
use Rattle.rl_marks.specs.Hits.{is_hit_from}
use Rattle.rl_marks.specs.internal.Threads.{first_ended, walks}
use Rattle.rl_marks.proofs.ThreadLaws.{or_else}
use Rattle.rl_spans.specs.internal.Hits.{ended_of, found_at}
use Rattle.rl_spans.proofs.StateLaws.{AreInside}
use Rattle.rl_spans.proofs.running.found_from.Given as goal

abbrev pub invariant-loop-index : goal.invariant-loop-index
invariant-loop-index l = record {
  found : or_else (first_ended (is_hit_from l.side.ending l.advance l.text l.start) (walks (marked_of l.side.tree) l.text l.threads l.index)) (ended_of l.found)
      ≡ found_at l.side l.text l.advance l.start;
  inside : AreInside (length l.side.rows) l.threads;
}
