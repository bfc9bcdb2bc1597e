use Rattle.rl_pairs.specs.PairTable.{moves_in, pair_in}
use Rattle.rl_cert.proofs.MadeLaws.{twin-made}
use Rattle.rl_cert.proofs.making.exponential.Goals as goal

pub returns-clause-made : goal.returns-clause-made
returns-clause-made c =
    let g = c.args.g.now in
    λ q field within. twin-made q c.args.a.now (moves_in g) (pair_in g) g.graph.states field within c.in_ok-family.family _ c.args.twin.now.state c.in_ok-family.ensures.0 c.in_ok-family.ensures.1 c.requires.state_in
    c.in_ok-family.ensures.2 c.in_ok-family.ensures.3 c.in_ok-anchors.ensures

pub twin_family-requires-clause-stands : goal.twin_family-requires-clause-stands
twin_family-requires-clause-stands c = c.requires.stands

pub twin_family-requires-clause-led : goal.twin_family-requires-clause-led
twin_family-requires-clause-led c = c.requires.led

pub twin_family-requires-clause-state_in : goal.twin_family-requires-clause-state_in
twin_family-requires-clause-state_in c = c.requires.state_in

pub twin_family-requires-clause-twin : goal.twin_family-requires-clause-twin
twin_family-requires-clause-twin c = c.requires.twin
