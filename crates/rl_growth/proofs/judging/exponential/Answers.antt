use Rattle.rl_pairs.specs.PairTable.{moves_in, pair_in}
use Rattle.rl_growth.proofs.FamilyLaws.{twin_letters}
use Rattle.rl_growth.proofs.VerdictLaws.{twin_right}
use Rattle.rl_growth.proofs.DegreeLaws.{twin_class}
use Rattle.rl_growth.proofs.judging.exponential.Goals as goal

pub family_of-requires-clause-heads : goal.family_of-requires-clause-heads
family_of-requires-clause-heads c =
    let g = c.args.g.now in
    (twin_letters c.args.a.now (moves_in g) (pair_in g) g.graph.states _ _ _ c.requires.stands c.requires.led.graph (c.in_ok-words.ensures c.args.a.now c.requires.led)).0

pub family_of-requires-clause-pumps : goal.family_of-requires-clause-pumps
family_of-requires-clause-pumps c =
    let g = c.args.g.now in
    (twin_letters c.args.a.now (moves_in g) (pair_in g) g.graph.states _ _ _ c.requires.stands c.requires.led.graph (c.in_ok-words.ensures c.args.a.now c.requires.led)).1

pub returns-clause-right : goal.returns-clause-right
returns-clause-right c =
    let g = c.args.g.now in
    λ q machine within. twin_right q c.args.a.now (moves_in g) (pair_in g) g.graph.states machine c.requires.stands.2 c.requires.led.graph c.requires.led.numbered within c.in_ok-family_of.field-0 c.args.twin.now.state c.in_ok-words.words.heads c.in_ok-words.words.pumps (c.in_ok-words.ensures c.args.a.now c.requires.led) c.in_ok-family_of.ensures

pub returns-clause-class : goal.returns-clause-class
returns-clause-class c =
    let t = c.args.twin.now in
    twin_class (moves_in c.args.g.now) t.state t.word t.first t.second c.requires.twin
