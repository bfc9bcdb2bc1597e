use Rattle.std.proofs.Common.{◌≡◌, ◌∙◌, get_or, [], ap}
use Rattle.std.proofs.lemmas.List.{get_or_default}
use Rattle.rl_syntax.specs.Tree.{tree_of}
use Rattle.rl_pairs.specs.PairTable.{moves_in, pair_in}
use Rattle.rl_growth.proofs.FamilyLaws.{twin_letters}
use Rattle.rl_growth.proofs.VerdictLaws.{twin_right}
use Rattle.rl_why.proofs.ExplainLaws.{stands-some, first-letters, first-text, twin-reading}
use Rattle.rl_why.proofs.explaining.exponential.Goals as goal

pub family_of-requires-clause-heads : goal.family_of-requires-clause-heads
family_of-requires-clause-heads c =
    let g = c.args.g.now in
    let s = c.requires.setting in
    (twin_letters c.args.a.now (moves_in g) (pair_in g) g.graph.states _ _ _ (stands-some (tree_of c.args.tree.now) c.args.a.now g s) s.led.graph (c.in_ok-words.ensures.words c.args.a.now s.led)).0

pub family_of-requires-clause-pumps : goal.family_of-requires-clause-pumps
family_of-requires-clause-pumps c =
    let g = c.args.g.now in
    let s = c.requires.setting in
    (twin_letters c.args.a.now (moves_in g) (pair_in g) g.graph.states _ _ _ (stands-some (tree_of c.args.tree.now) c.args.a.now g s) s.led.graph (c.in_ok-words.ensures.words c.args.a.now s.led)).1

pub twin_reading-requires-clause-letters : goal.twin_reading-requires-clause-letters
twin_reading-requires-clause-letters c =
    let g = c.args.g.now in
    let s = c.requires.setting in
    first-letters c.args.a.now c.in_ok-words.words.pumps c.args.twin.now.word
    (twin_letters c.args.a.now (moves_in g) (pair_in g) g.graph.states _ _ _ (stands-some (tree_of c.args.tree.now) c.args.a.now g s) s.led.graph (c.in_ok-words.ensures.words c.args.a.now s.led)).1
    c.in_ok-words.ensures.pumps

pub returns-clause-right : goal.returns-clause-right
returns-clause-right c =
    let g = c.args.g.now in
    let s = c.requires.setting in
    λ q machine within. twin_right q c.args.a.now (moves_in g) (pair_in g) g.graph.states machine s.whole s.led.graph s.led.numbered within c.in_ok-family.family c.args.twin.now.state c.in_ok-words.words.heads c.in_ok-words.words.pumps (c.in_ok-words.ensures.words c.args.a.now s.led) c.in_ok-family.ensures

pub returns-clause-reading : goal.returns-clause-reading
returns-clause-reading c =
    let s = c.requires.setting in
    let text : c.as_slice-text.result.now ≡ get_or c.in_ok-family.family.pumps 0 [] =
    c.as_slice-text.ensures ∙ c.index-as_slice-0.is ∙ ap (λ l. get_or l 0 c.index-as_slice-0.result) c.as_slice.ensures
    ∙ get_or_default c.in_ok-family.family.pumps 0 c.index-as_slice-0.result []
    (first-text c.args.a.now c.in_ok-family.family.pumps c.in_ok-words.words.pumps c.args.twin.now.word [] c.in_ok-family.ensures.pump_samples c.in_ok-words.ensures.pumps).0 in
    twin-reading (tree_of c.args.tree.now) c.args.a.now c.args.g.now s c.args.sources.now.nodes c.in_ok-family.family c.args.twin.now.state c.in_ok-words.words.heads c.in_ok-words.words.pumps
    c.as_slice-text.result.now c.in_ok-reading.reading c.requires.state_in (c.in_ok-words.ensures.words c.args.a.now s.led) c.in_ok-family.ensures text c.in_ok-reading.ensures
