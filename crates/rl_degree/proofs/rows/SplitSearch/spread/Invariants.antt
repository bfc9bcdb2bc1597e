use Rattle.std.proofs.Common.{ℕ, ◌+◌, ◌*◌, ◌<◌, get_or}
use Rattle.rl_graph.specs.Paths.{Has}
use Rattle.rl_degree.specs.internal.Rows.{field_of, search_state_of, IsFurther, IsMet}
use Rattle.rl_degree.proofs.rows.SplitSearch.spread.Given as goal

abbrev pub invariant-loop-place : goal.invariant-loop-place
invariant-loop-place l = record {
  further : IsFurther (field_of l.g l.table l.part) l.found (search_state_of l.initial.self) (search_state_of l.self);
  met : (i : ℕ) → i < l.place → (y : ℕ) → Has y l.seconds → IsMet (field_of l.g l.table l.part) l.image (search_state_of l.self) (get_or l.firsts i 0 * l.table.inner.states + y);
}
