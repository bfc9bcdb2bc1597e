use Rattle.std.proofs.Common.{subst}
use Rattle.rl_graph.specs.Graph.{Graph, edges_of}
use Rattle.rl_graph.specs.Parts.{IsParts}
use Rattle.rl_cert.proofs.making.made.Goals as goal

pub made_by-requires-clause-stands : goal.made_by-requires-clause-stands
made_by-requires-clause-stands c = c.requires.stands

pub made_by-requires-clause-led : goal.made_by-requires-clause-led
made_by-requires-clause-led c = c.requires.led

pub made_by-requires-clause-parts : goal.made_by-requires-clause-parts
made_by-requires-clause-parts c = subst (λ (x : Graph). IsParts (edges_of x) x.states c.in_ok-components.components) c.graph.ensures c.in_ok-components.ensures

pub returns-clause-made : goal.returns-clause-made
returns-clause-made c = c.made_by.ensures.made

pub returns-clause-told : goal.returns-clause-told
returns-clause-told c = c.made_by.ensures.told

pub returns-clause-too_large : goal.returns-clause-too_large
returns-clause-too_large c = c.made_by.ensures.too_large
