use Rattle.std.proofs.Common.{◌≡◌}
use Rattle.std.proofs.Math.ListN.{drop}
use Rattle.rl_marks.specs.internal.Threads.{named}
use Rattle.rl_spans.specs.internal.Names.{place_named}
use Rattle.rl_spans.proofs.naming.are_threads_named.Given as goal

abbrev pub invariant-loop-index : goal.invariant-loop-index
invariant-loop-index l = named (place_named l.names) (drop l.index l.threads) ≡ drop l.index l.wanted → named (place_named l.names) l.threads ≡ l.wanted
