use Rattle.std.proofs.Common.{slice_index, arith}
use Rattle.rl_graph.specs.Parts.{cycle_of}
use Rattle.rl_numbers.proofs.RowLoops.{never-both}
use Rattle.rl_numbers.proofs.StartLaws.{starts-push, starts-pass, starts-row}
use Rattle.rl_numbers.proofs.starts.add_starts.Goals as goal
use Rattle.rl_numbers.proofs.starts.add_starts.Goals.{then-is_start+in_ok-push, else-is_start}

pub loop-q-preserved : goal.loop-q-preserved
loop-q-preserved c =
    let n = c.args.states in
    let ranks = c.args.ranks.now in
    let cycles = c.args.components.now in
    elim c.if-is_start.branch [
      | then-is_start+in_ok-push w ↦
          rw w.starts-is (starts-push n (slice_index ranks) (cycle_of cycles) c.args.r c.loop-q.q w.code_of.result c.loop-q.starts.items w.push.new.self.items c.requires.r_in c.loop-q-test.true
          (c.is_start.ensures.0 w.if-is_start.true) w.code_of.ensures w.in_ok-push.ensures.items c.loop-q.invariant)
      | else-is_start w ↦
          rw w.starts-is (starts-pass n (slice_index ranks) (cycle_of cycles) c.args.r c.loop-q.q c.loop-q.starts.items (λ is. never-both c.is_start.result w.if-is_start.false (c.is_start.ensures.1 is)) c.loop-q.invariant)
    ]

pub returns : goal.returns
returns c = starts-row c.args.states (slice_index c.args.ranks.now) (cycle_of c.args.components.now) c.args.r c.loop-q.q c.loop-q.starts.items (omega (arith, c.loop-q-test.false)) c.loop-q.invariant
