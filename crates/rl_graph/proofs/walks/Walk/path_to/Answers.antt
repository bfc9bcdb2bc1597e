use Rattle.std.proofs.Common.{◌≡◌, ◌∙◌, arith}
use Rattle.std.proofs.lemmas.List.{get_or_read}
use Rattle.rl_graph.specs.internal.Nodes.{steps_of, node_of, root_node}
use Rattle.rl_graph.proofs.WalkLaws.{way-more, way-to}
use Rattle.rl_graph.proofs.walks.Walk.path_to.Goals as goal

pub loop-at-preserved : goal.loop-at-preserved
loop-at-preserved c =
    let s = steps_of c.args.self.now in
    let i = c.loop-at.invariant in
    let x : c.index-node.result.now ≡ node_of s c.loop-at.at = get_or_read s.nodes c.loop-at.at c.index-node.result.now i.0 c.index-node.ensures (root_node 0) in
    way-more s c.loop-at.at c.args.place c.index-node.result.now c.loop-at.numbers.items c.loop-at.letters.items c.push-in-loop-at.new.self.items c.push.new.self.items c.requires.rooted c.loop-at-test.true x i c.in_ok-push-2.ensures.items c.in_ok-push.ensures.items

pub returns : goal.returns
returns c =
    way-to (steps_of c.args.self.now) c.loop-at.at c.args.place c.loop-at.numbers.items c.loop-at.letters.items c.from_vec-2.result c.from_vec.result (omega arith) c.loop-at.invariant (c.from_vec-2.ensures ∙ c.reverse-2.ensures.items) (c.from_vec.ensures ∙ c.reverse.ensures.items)
