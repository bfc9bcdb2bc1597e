-- Where the nodes and the places of a tree come from.
use Rattle.std.specs.Prelude.{◌≡◌, List}
use Rattle.rl_ways.specs.declared.origin.Origin.{Origin}
use Rattle.rl_why.specs.declared.shown.Sources.{Sources}
use Rattle.rl_why.specs.Shown.{readers}

-- Holds if the nodes have the origins, and the places those of the nodes that read.
pub record IsSource (nodes : List Origin) (s : Sources) : Type 0 where
  pub same_nodes : s.nodes ≡ nodes
  pub same_places : s.places ≡ readers nodes
