use Rattle.std.proofs.Common.{◌≡◌, ◌<◌, ◌+◌, length, slice_get, Some, sym, subst, ap, ◌∙◌, arith}
use Rattle.std.proofs.lemmas.List.{get_or_read}
use Rattle.rl_graph.specs.declared.walks.Node.{Node}
use Rattle.rl_graph.specs.internal.Nodes.{steps_of, node_of, root_node, IsReached}
use Rattle.rl_graph.proofs.Sums.{get_or-at}
use Rattle.rl_graph.proofs.WalkLaws.{reach_one, next-letter, Extends-trans}
use Rattle.rl_graph.proofs.walks.Walk.expand_on.Goals as goal

pub loop-number-preserved : goal.loop-number-preserved
loop-number-preserved g c =
    let next = g.M.NextStates.next c.args.m.now in
    let n = g.M.NextStates.size c.args.m.now in
    let start = steps_of c.args.self.now in
    let s = steps_of c.loop-number.self in
    let u = steps_of c.reach.new.self in
    let k = c.args.place in
    let l = c.args.letter in
    let e = c.loop-number.number in
    let m = c.target-state.result in
    let i = c.loop-number.invariant in
    let x : c.index-node.result.now ≡ node_of start k = get_or_read start.nodes k c.index-node.result.now c.requires.place_in c.index-node.ensures (root_node 0) in
    let y : c.index-node.result.now ≡ node_of s k = x ∙ sym (i.extends.same k c.requires.place_in) in
    let row = next c.index-node.result.now.state l in
    let lt : e < length row = omega (arith, c.count-number-end.ensures) in
    let here : slice_get row e ≡ Some m = get_or-at row e 0 lt ∙ ap Some (sym c.target-state.ensures.target) in
    let here_now = subst (λ (z : Node). slice_get (next z.state l) e ≡ Some m) y here in
    let r = subst (λ (z : Node). let z2 : Node = record { state = m; parent = k; letter = l; number = e; depth = z.depth + 1 } in IsReached z2 s u) y c.in_ok-reach.ensures in
    let f = reach_one next n s u k l e m i.walk i.stands (omega (arith, c.requires.place_in, i.extends.longer)) here_now c.target-state.ensures.inside r in
    record { walk = f.walk; stands = f.stands; extends = Extends-trans start s u i.extends f.extends }

pub returns : goal.returns
returns g c =
    let next = g.M.NextStates.next c.args.m.now in
    let start = steps_of c.args.self.now in
    let s = steps_of c.loop-number.self in
    let i = c.loop-number.invariant in
    let x : c.index-node.result.now ≡ node_of start c.args.place = get_or_read start.nodes c.args.place c.index-node.result.now c.requires.place_in c.index-node.ensures (root_node 0) in
    let y : c.index-node.result.now ≡ node_of s c.args.place = x ∙ sym (i.extends.same c.args.place c.requires.place_in) in
    record {
      walk = i.walk;
      stands = next-letter next s c.args.place c.args.letter c.loop-number.number i.stands (omega (arith, c.count-number-end.ensures, ap (λ (z : Node). length (next z.state c.args.letter)) y));
      extends = i.extends;
    }
