use Rattle.rl_pairs.specs.PairTable.{moves_in, pair_in}
use Rattle.rl_cert.proofs.MadeLaws.{flat-made}
use Rattle.rl_cert.proofs.making.flat.Goals as goal

pub returns : goal.returns
returns c =
    let g = c.args.g.now in
    λ q field within. flat-made q c.args.a.now (moves_in g) (pair_in g) g.graph.states field within c.in_ok-family.family c.requires.no_cycle c.in_ok-family.ensures.heads c.in_ok-family.ensures.pumps
