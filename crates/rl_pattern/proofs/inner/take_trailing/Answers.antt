-- Removing one anchor, and none.
use Rattle.std.proofs.Common.{◌≡◌, ◌≢◌, ◌<◌, true, length, rules, arith, map, reverse, sym, ap, ◌∙◌}
use Rattle.rl_pattern.specs.Found.{is_some_trail, no_trail, trailing_run}
use Rattle.rl_pattern.specs.internal.Views.{node_of}
use Rattle.rl_pattern.specs.internal.Judged.{trail_at, both_trails}
use Rattle.rl_pattern.proofs.Anchors.{trailing_off, run_more, trail_stands, some_trail, trailing_kept, run_ended}
use Rattle.rl_pattern.proofs.inner.take_trailing.Goals as goal

pub loop-last-preserved : goal.loop-last-preserved
loop-last-preserved c =
    let some : c.loop-last.last ≢ no_trail = search rules in
    let trail : is_some_trail c.loop-last.last ≡ true = some_trail c.loop-last.last some in
    let stands : 0 < length c.loop-last.items.items = trail_stands node_of c.loop-last.items.items c.loop-last.last c.loop-last.invariant.last trail in
    let full : 0 < c.loop-last.items.len = omega (arith, stands, c.loop-last.items.ok) in
    record {
      last = c.last_trail-last-in-loop-last.ensures ∙ ap (λ ps. trail_at (reverse (map node_of ps))) c.as_slice-in-loop-last.ensures.value;
      rest = trailing_off node_of c.loop-last.items.items c.pop.new.self.items c.pop.result c.loop-last.last c.loop-last.invariant.last trail c.pop.ensures.items ∙ c.loop-last.invariant.rest;
      run =
          ap (λ r. both_trails r (trailing_run (reverse (map node_of c.pop.new.self.items)))) c.both_trails-run.ensures
          ∙ run_more node_of c.loop-last.items.items c.pop.new.self.items c.pop.result c.loop-last.run c.loop-last.last (c.pop.ensures.variant.1 full) c.loop-last.invariant.last trail c.pop.ensures.items
          ∙ c.loop-last.invariant.run;
    }

pub returns-clause-rest : goal.returns-clause-rest
returns-clause-rest c =
    let none : c.loop-last.last ≡ no_trail = search rules in
    trailing_kept (reverse (map node_of c.loop-last.items.items)) (sym c.loop-last.invariant.last ∙ none) ∙ c.loop-last.invariant.rest

pub returns-clause-run : goal.returns-clause-run
returns-clause-run c =
    let none : c.loop-last.last ≡ no_trail = search rules in
    run_ended c.loop-last.run (reverse (map node_of c.loop-last.items.items)) (sym c.loop-last.invariant.last ∙ none) ∙ c.loop-last.invariant.run
