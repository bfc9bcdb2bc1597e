-- When two matchers have found the same on a text, if what they found is given as the ends of their walks. An end is a
-- position at which the tree has ended, with what is known of the groups there (`caps`): in `held` the last span of each group
-- that was closed, and in `last` the group that was closed last.
use Rattle.std.specs.Prelude.{◌≡◌, ℕ, Option, None, Some}
use Rattle.rl_marks.specs.internal.Caps.{span_of_group}
use Rattle.rl_marks.specs.internal.Walk.{Ended}

-- Holds if both ends are at the same position, each group has the same last span in both or none in both, and the same group
-- was closed last.
pub record LikeEnds (x y : Ended) : Type 0 where
  pub same_place : x.place ≡ y.place
  pub same_spans : (n : ℕ) → span_of_group n x.caps.held ≡ span_of_group n y.caps.held
  pub same_last : x.caps.last ≡ y.caps.last

-- Holds if both are `None`, or if both are ends that are the same by `LikeEnds`.
abbrev pub LikeEnded : Option Ended → Option Ended → Type 0
LikeEnded None None = Unit {0}
LikeEnded (Some x) (Some y) = LikeEnds x y
LikeEnded None (Some y) = ⊥
LikeEnded (Some x) None = ⊥
