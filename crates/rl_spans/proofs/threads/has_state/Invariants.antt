use Rattle.std.proofs.Common.{◌≡◌}
use Rattle.std.proofs.Math.ListN.{drop}
use Rattle.rl_spans.specs.internal.Among.{is_among}
use Rattle.rl_spans.proofs.threads.has_state.Given as goal

abbrev pub invariant-loop-thread : goal.invariant-loop-thread
invariant-loop-thread l = is_among l.state (drop l.thread-index l.threads) ≡ is_among l.state l.threads
