-- What a tree of files reveals to contracts: its map and its trail. The map of a tree of files is the list of its nodes, which
-- are paths with what is there. The trail is the list of the calls on the tree so far, in order, except those that ran out of
-- memory.
use Rattle.std.specs.Prelude.{List, ◌++◌, Option, Some, None}
use Rattle.rl_source.specs.declared.nodes.Node.{Node}
use Rattle.rl_source.specs.declared.nodes.Call.{Call}

-- What a tree reveals: its map and its trail.
pub record Revealed : Type 0 where
  -- The map. If several nodes have the same path, the first counts
  pub nodes : List Node
  -- The calls so far that returned `Ok` or `Failed`, in order
  pub trail : List Call

-- What a tree reveals after these calls: the same map, and the trail with these calls added at its end. A tree that reveals
-- nothing still reveals nothing.
abbrev pub after : List Call → Option Revealed → Option Revealed
after calls None = None
after calls (Some t) = Some (record t { trail = t.trail ++ calls })

-- What a tree reveals if it keeps its map and its trail to itself: `None`, whatever its state is.
abbrev pub reveals_nothing : {T : Type 0} → T → Option Revealed
reveals_nothing tree = None
