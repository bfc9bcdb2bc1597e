use Rattle.std.proofs.Common.{◌≡◌, ◌++◌}
use Rattle.std.proofs.Math.ListN.{drop}
use Rattle.rl_spans.specs.internal.Shown.{shown_spread}
use Rattle.rl_spans.proofs.threads.spread_of.Given as goal

abbrev pub invariant-loop-thread : goal.invariant-loop-thread
invariant-loop-thread l =
    l.list ++ shown_spread l.rows l.before l.next l.place (drop l.thread-index l.threads) ≡ shown_spread l.rows l.before l.next l.place l.threads
