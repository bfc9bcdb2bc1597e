use Rattle.std.proofs.Common.{ℕ, ◌+◌, ◌*◌, ◌<◌, get_or}
use Rattle.rl_degree.specs.internal.Rows.{field_of, search_state_of, IsFurther, IsMet}
use Rattle.rl_degree.proofs.rows.SplitSearch.spread_from.Given as goal

abbrev pub invariant-loop-place : goal.invariant-loop-place
invariant-loop-place l = record {
  further : IsFurther (field_of l.g l.table l.part) l.found (search_state_of l.initial.self) (search_state_of l.self);
  met : (j : ℕ) → j < l.place → IsMet (field_of l.g l.table l.part) l.image (search_state_of l.self) (l.first * l.table.inner.states + get_or l.seconds j 0);
}
