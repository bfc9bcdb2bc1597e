use Rattle.std.proofs.lemmas.Result.{IfOk-weaker}
use Rattle.rl_pairs.specs.Families.{Spells}
use Rattle.rl_pairs.specs.PairTable.{moves_in, pair_in}
use Rattle.rl_growth.proofs.FamilyLaws.{twin_letters}
use Rattle.rl_cert.proofs.making.twin_family.Goals as goal

pub family_of-family-requires-clause-heads : goal.family_of-family-requires-clause-heads
family_of-family-requires-clause-heads c =
    let g = c.args.g.now in
    (twin_letters c.args.a.now (moves_in g) (pair_in g) g.graph.states _ _ _ c.requires.stands c.requires.led.graph (c.in_ok-words.ensures c.args.a.now c.requires.led)).0

pub family_of-family-requires-clause-pumps : goal.family_of-family-requires-clause-pumps
family_of-family-requires-clause-pumps c =
    let g = c.args.g.now in
    (twin_letters c.args.a.now (moves_in g) (pair_in g) g.graph.states _ _ _ c.requires.stands c.requires.led.graph (c.in_ok-words.ensures c.args.a.now c.requires.led)).1

pub returns : goal.returns
returns c =
    let words = c.in_ok-words.words in
    IfOk-weaker c.family_of-family.result (λ f. Spells c.args.a.now f words.heads words.pumps) _ (λ f spells. (words.heads, words.pumps, c.in_ok-words.ensures c.args.a.now c.requires.led, spells)) c.family_of-family.ensures
