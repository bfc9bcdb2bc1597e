-- The state of a tree in memory, and the exact effect of its calls. The map of a tree of files is the list of its nodes, which
-- are paths with what is there. The trail is the list of the calls on the tree so far, in order, except those that ran out of
-- memory.
use Rattle.std.specs.Prelude.{◌≡◌, ℕ, ◌+◌, Bool, true, false, ◌||◌, not, List, ◌++◌, length, count_by, Result, IsErr, IsErrOf, ◌==◌}
use Rattle.std.specs.List.{list_any}
use Rattle.rl_source.specs.Revealed.{Revealed}
use Rattle.rl_source.specs.declared.nodes.Node.{Node}
use Rattle.rl_source.specs.declared.nodes.Call.{Call}
use Rattle.rl_source.specs.declared.trees.TreeError.{TreeError}
use Rattle.rl_source.specs.declared.trees.TreeError.TheVariants as error

-- The state of a tree in memory.
pub record MemTreeState : Type 0 where
  -- The map, in which each path occurs once
  pub nodes : List Node
  -- The numbers, from 1, of the calls that were chosen to fail
  pub failing : List ℕ
  -- The calls so far, in order, except those that ran out of memory
  pub trail : List Call

-- What the tree reveals to contracts: its map and its trail.
abbrev pub revealed_by : MemTreeState → Revealed
revealed_by t = record { nodes = t.nodes; trail = t.trail }

-- The number of calls in the trail that failed.
abbrev pub failed_calls : MemTreeState → ℕ
failed_calls t = count_by (λ c. c.failed) t.trail

-- Whether the next call was chosen to fail, whatever it asks. The number of the next call is one more than the length of the
-- trail.
abbrev pub call_fails : MemTreeState → Bool
call_fails t = list_any (λ n. n == length t.trail + 1) t.failing

-- The state after these calls have been added at the end of the trail.
abbrev pub after_call : MemTreeState → List Call → MemTreeState
after_call t calls = record t { trail = t.trail ++ calls }

-- Holds if the result is an error whenever the call was chosen to fail or the map has no answer (`has_answer` is false), and
-- is `Failed` only then. Any call may run out of memory.
pub record FailsExactly {A : Type 0} (t : MemTreeState) (has_answer : Bool) (result : Result A TreeError) : Type 0 where
  pub fails : call_fails t ≡ true → IsErr result
  pub unknown : has_answer ≡ false → IsErr result
  pub only : IsErrOf result error.Failed → (call_fails t || not has_answer) ≡ true
