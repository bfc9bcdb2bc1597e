use Rattle.std.proofs.Common.{Some, sym, ap, ◌∙◌}
use Rattle.std.specs.Prelude.{bytes_eq, option_map}
use Rattle.rl_source.proofs.Found.{found_here, found_none}
use Rattle.rl_source.proofs.node_map.found_at.Goals as goal

pub returns-then-eq : goal.returns-then-eq
returns-then-eq c =
    let path = c.args.path.now in
    let test = ap (λ n. bytes_eq n.path path) (sym c.node-item.is) ∙ ap (λ t. bytes_eq t path) (sym c.as_str.ensures) ∙ sym c.eq.ensures in
    sym (ap (option_map (λ n. n.held))
    (found_here (λ n. bytes_eq n.path path) c.args.nodes.now c.loop-node.node-index c.node-item.result c.loop-node-test.true c.loop-node.invariant (test ∙ c.if-eq.true)
    ∙ ap Some (sym c.node-item.is)))

pub loop-node-preserved : goal.loop-node-preserved
loop-node-preserved c =
    let path = c.args.path.now in
    let test = ap (λ n. bytes_eq n.path path) (sym c.node-item.is) ∙ ap (λ t. bytes_eq t path) (sym c.as_str.ensures) ∙ sym c.eq.ensures in
    found_none (λ n. bytes_eq n.path path) c.args.nodes.now c.loop-node.node-index c.node-item.result c.loop-node-test.true c.loop-node.invariant (test ∙ c.if-eq.false)
