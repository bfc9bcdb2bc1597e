-- Replies to the lines that were read were written, and what is left of the input comes next. The count of faults didn't fall.
use Rattle.std.proofs.Common.{◌≤◌}
use Rattle.std.specs.Io.KnownBytes.{Appends}
use Rattle.rl_ask.specs.Lines.{Replies}
use Rattle.rl_asked.specs.Words.{Text}
use Rattle.rl_ask.proofs.replies.reply_all.Given as goal

abbrev pub invariant-loop : goal.invariant-loop
invariant-loop g l =
    (output : Text) × Replies (g.R.Read.remaining l.initial.input) (g.R.Read.remaining l.input) output × Appends (g.O.Sink.bytes l.initial.out) (g.O.Sink.bytes l.out) output
    × (g.O.Sink.fault_count l.initial.out ≤ g.O.Sink.fault_count l.out)
