use Rattle.std.proofs.Common.{◌≡◌, length}
use Rattle.rl_degree.specs.internal.Rows.{field_of, search_state_of, IsFurther, IsFollowedUpTo}
use Rattle.rl_degree.proofs.rows.SplitSearch.follow.Given as goal

abbrev pub invariant-loop-letter : goal.invariant-loop-letter
invariant-loop-letter l = record {
  further : IsFurther (field_of l.g l.table l.part) l.found (search_state_of l.initial.self) (search_state_of l.self);
  followed : IsFollowedUpTo (field_of l.g l.table l.part) l.found l.letter (search_state_of l.self);
  wide : length l.image ≡ length l.initial.image;
}
