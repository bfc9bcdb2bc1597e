use Rattle.std.proofs.Common.{ℕ, ◌≡◌, ◌≢◌, ◌<◌, ◌≤◌, ◌+◌, length, sym, subst, ap, ◌∙◌, arith}
use Rattle.std.proofs.lemmas.List.{get_or_read}
use Rattle.rl_graph.specs.declared.walks.Node.{Node}
use Rattle.rl_graph.specs.Walks.{IsShortest, NoPath}
use Rattle.rl_graph.specs.internal.Nodes.{Steps}
use Rattle.rl_graph.specs.internal.Nodes.{steps_of, start_steps, node_of, root_node, IsWalk, IsAt}
use Rattle.rl_graph.proofs.WalkLaws.{started_walk, started_at, answer-found, found-none, missed-more, missed-kept, few-nodes}
use Rattle.rl_graph.proofs.walks.shortest.Goals as goal
use Rattle.rl_graph.proofs.walks.shortest.Goals.{else-place-least-via-then-place-least+else-index-to, else-place-least-via-else-place-least}

pub loop-place-init : goal.loop-place-init
loop-place-init g c =
    let next = g.M.NextStates.next c.args.m.now in
    let n = g.M.NextStates.size c.args.m.now in
    let e : steps_of c.in_ok-walk.walk ≡ start_steps n c.args.from c.args.least =
    c.in_ok-walk.ensures ∙ ap (λ (z : ℕ). start_steps z c.args.from c.args.least) c.states.ensures.number in (
      subst (IsWalk next n) (sym e) (started_walk next n c.args.from c.args.least c.requires.from_in c.requires.least_in),
      subst (IsAt next 0 0 0) (sym e) (started_at next n c.args.from c.args.least),
      (λ j a lt. absurd (omega arith)),
      ap (λ (z : Steps). z.least) e,
      ap (λ (z : Steps). (node_of z 0).state) e,
      omega arith,
    )

pub returns-then-index-to-clause-found : goal.returns-then-index-to-clause-found
returns-then-index-to-clause-found g c =
    let next = g.M.NextStates.next c.args.m.now in
    let n = g.M.NextStates.size c.args.m.now in
    let s = steps_of c.loop-place.walk in
    let k = c.loop-place.place in
    let i = c.loop-place.invariant in
    let lt : k < length s.nodes = omega (arith, c.len.ensures) in
    let x : c.index.result.now ≡ node_of s k = get_or_read s.nodes k c.index.result.now lt c.index.ensures (root_node 0) in
    let e : (node_of s k).state ≡ c.args.to = ap (λ (z : Node). z.state) (sym x) ∙ c.if-index-to.true in
    let f = answer-found next n s k c.args.to c.in_ok-path.path.moves c.in_ok-path.path.word i.0 i.1 i.2 (omega (arith, i.3, c.if-place-least.true)) lt e c.in_ok-path.ensures in
    subst (λ (z : ℕ). IsShortest next c.args.least z c.args.to c.in_ok-path.path.moves c.in_ok-path.path.word) i.4
    (subst (λ (z : ℕ). IsShortest next z (node_of s 0).state c.args.to c.in_ok-path.path.moves c.in_ok-path.path.word) i.3 f)

pub loop-place-smaller : goal.loop-place-smaller
loop-place-smaller g c =
    let s = steps_of c.loop-place.walk in
    omega (arith, c.len.ensures, few-nodes (g.M.NextStates.next c.args.m.now) (g.M.NextStates.size c.args.m.now) s c.loop-place.invariant.0)

pub loop-place-preserved : goal.loop-place-preserved
loop-place-preserved g c =
    let s = steps_of c.loop-place.walk in
    let u = steps_of c.expand.new.self in
    let k = c.loop-place.place in
    let i = c.loop-place.invariant in
    let f = c.in_ok-expand.ensures in
    let lt : k < length s.nodes = omega (arith, c.len.ensures) in
    let here : s.least ≤ k → (node_of s k).state ≢ c.args.to =
    elim c.else-place-least.branch [
      | else-place-least-via-then-place-least+else-index-to w ↦ λ a e.
          w.if-index-to.false (ap (λ (z : Node). z.state) (get_or_read s.nodes k w.index.result.now lt w.index.ensures (root_node 0)) ∙ e)
      | else-place-least-via-else-place-least w ↦ λ a e. absurd (omega (arith, w.if-place-least.false, i.3))
    ] in (
      f.walk,
      f.stands,
      missed-kept s u (k + 1) c.args.to f.extends (omega arith) (missed-more s k c.args.to i.2 here),
      f.extends.least ∙ i.3,
      ap (λ (z : Node). z.state) (f.extends.same 0 i.0.some) ∙ i.4,
      omega (arith, f.extends.longer),
    )

pub returns-clause-none : goal.returns-clause-none
returns-clause-none g c =
    let next = g.M.NextStates.next c.args.m.now in
    let n = g.M.NextStates.size c.args.m.now in
    let s = steps_of c.loop-place.walk in
    let k = c.loop-place.place in
    let i = c.loop-place.invariant in
    let f = found-none next n s k c.args.to i.0 i.1 i.2 (omega (arith, c.len.ensures)) in
    subst (λ (z : ℕ). NoPath next c.args.least z c.args.to) i.4 (subst (λ (z : ℕ). NoPath next z (node_of s 0).state c.args.to) i.3 f)
