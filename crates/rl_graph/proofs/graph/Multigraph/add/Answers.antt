use Rattle.std.proofs.Common.{◌≡◌}
use Rattle.rl_graph.specs.Graph.{Graph}
use Rattle.rl_graph.proofs.GraphLaws.{whole-pushed, added-pushed}
use Rattle.rl_graph.proofs.graph.Multigraph.add.Goals as goal

pub invariant_of-self : goal.invariant_of-self
invariant_of-self c =
    let g : Graph = record { states = c.self.inside.states; letters = c.self.inside.letters; rows = c.self.inside.rows } in
    let v : g ≡ c.args.self.now = c.self.view_is in
    let a = rw (← v) at c.requires.from_in in
    let b = rw (← v) at c.requires.letter_in in
    let d = rw (← v) at c.requires.to_in in
    let r = rw (← v) at c.requires.room in
    whole-pushed g c.args.from c.args.letter c.args.to c.push_at.result c.push_at.new.self c.self.invariant a b d r c.push_at.ensures.pushed c.push_at.ensures.unchanged

pub returns-clause-added : goal.returns-clause-added
returns-clause-added c =
    let g : Graph = record { states = c.self.inside.states; letters = c.self.inside.letters; rows = c.self.inside.rows } in
    let v : g ≡ c.args.self.now = c.self.view_is in
    let a = rw (← v) at c.requires.from_in in
    let b = rw (← v) at c.requires.letter_in in
    rw (← v) (added-pushed g c.args.from c.args.letter c.args.to c.push_at.result c.push_at.new.self c.self.invariant a b c.push_at.ensures.pushed)
