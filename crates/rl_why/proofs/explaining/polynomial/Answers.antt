use Rattle.std.proofs.Common.{◌+◌, ◌<◌, List, length, subst, sym, ap, arith}
use Rattle.rl_syntax.specs.Tree.{tree_of}
use Rattle.rl_degree.specs.declared.chains.Split.{Split}
use Rattle.rl_pairs.specs.PairTable.{moves_in, pair_in}
use Rattle.rl_growth.specs.FamilyWords.{AreLetters, IsChainWords}
use Rattle.rl_growth.specs.Routes.{IsRoute}
use Rattle.rl_growth.proofs.LongestLaws.{longest_of}
use Rattle.rl_growth.proofs.FamilyLaws.{chain_letters}
use Rattle.rl_growth.proofs.VerdictLaws.{flat_right, chain_right, chain_fits}
use Rattle.rl_why.proofs.ExplainLaws.{stands-some, chain-reading}
use Rattle.rl_why.proofs.explaining.polynomial.Goals as goal

pub returns-in-None-clause-right : goal.returns-in-None-clause-right
returns-in-None-clause-right c =
    let g = c.args.g.now in
    let s = c.requires.setting in
    let longest = longest_of c.args.a.now g c.graph.result.now c.in_ok-chain.chain c.graph.ensures s.led c.in_ok-chain.ensures.links c.in_ok-chain.ensures.states c.in_ok-chain.ensures.longest c.in_ok-chain.ensures.ranks c.in_ok-chain.ensures.no_cycle in
    let none = rw c.in-None.is at longest.no_cycle in
    λ q machine within. flat_right q c.args.a.now (moves_in g) (pair_in g) g.graph.states machine s.whole s.led.graph s.led.numbered within c.in_ok-flat-in-None.field-0 c.in_ok-flat-in-None.ensures.heads c.in_ok-flat-in-None.ensures.pumps none

pub chain_words-requires-clause-route : goal.chain_words-requires-clause-route
chain_words-requires-clause-route c =
    let g = c.args.g.now in
    let s = c.requires.setting in
    let longest = longest_of c.args.a.now g c.graph.result.now c.in_ok-chain.chain c.graph.ensures s.led c.in_ok-chain.ensures.links c.in_ok-chain.ensures.states c.in_ok-chain.ensures.longest c.in_ok-chain.ensures.ranks c.in_ok-chain.ensures.no_cycle in
    subst (IsRoute (moves_in g) g.graph.states) (sym c.as_slice-splits.ensures) longest.route

pub family_of-requires-clause-heads : goal.family_of-requires-clause-heads
family_of-requires-clause-heads c =
    let g = c.args.g.now in
    let s = c.requires.setting in
    (chain_letters c.args.a.now (moves_in g) (pair_in g) g.graph.states _ _ _ _ (stands-some (tree_of c.args.tree.now) c.args.a.now g s) s.led.graph (c.in_ok-words-in-Some.ensures c.args.a.now s.led)).0

pub family_of-requires-clause-pumps : goal.family_of-requires-clause-pumps
family_of-requires-clause-pumps c =
    let g = c.args.g.now in
    let s = c.requires.setting in
    (chain_letters c.args.a.now (moves_in g) (pair_in g) g.graph.states _ _ _ _ (stands-some (tree_of c.args.tree.now) c.args.a.now g s) s.led.graph (c.in_ok-words-in-Some.ensures c.args.a.now s.led)).1

pub overflow_cast-power : goal.overflow_cast-power
overflow_cast-power c =
    let g = c.args.g.now in
    let s = c.requires.setting in
    let fits = chain_fits c.args.a.now (moves_in g) (pair_in g) g.graph.states _ _ _ _ (stands-some (tree_of c.args.tree.now) c.args.a.now g s) s.led.graph c.requires.no_twin (c.in_ok-words-in-Some.ensures c.args.a.now s.led) in
    omega (arith, fits, s.led.few, ap length c.as_slice-splits.ensures)

pub overflow_add-power : goal.overflow_add-power
overflow_add-power c =
    let g = c.args.g.now in
    let s = c.requires.setting in
    let fits = chain_fits c.args.a.now (moves_in g) (pair_in g) g.graph.states _ _ _ _ (stands-some (tree_of c.args.tree.now) c.args.a.now g s) s.led.graph c.requires.no_twin (c.in_ok-words-in-Some.ensures c.args.a.now s.led) in
    omega (arith, fits, s.led.few, ap length c.as_slice-splits.ensures)

pub chain_reading-requires-clause-route : goal.chain_reading-requires-clause-route
chain_reading-requires-clause-route c =
    let g = c.args.g.now in
    let s = c.requires.setting in
    let longest = longest_of c.args.a.now g c.graph.result.now c.in_ok-chain.chain c.graph.ensures s.led c.in_ok-chain.ensures.links c.in_ok-chain.ensures.states c.in_ok-chain.ensures.longest c.in_ok-chain.ensures.ranks c.in_ok-chain.ensures.no_cycle in
    subst (IsRoute (moves_in g) g.graph.states) (sym c.as_slice-splits.ensures) longest.route

pub chain_reading-requires-clause-letters : goal.chain_reading-requires-clause-letters
chain_reading-requires-clause-letters c =
    let g = c.args.g.now in
    let s = c.requires.setting in
    subst (AreLetters c.args.a.now) (sym c.as_slice.ensures)
    (chain_letters c.args.a.now (moves_in g) (pair_in g) g.graph.states _ _ _ _ (stands-some (tree_of c.args.tree.now) c.args.a.now g s) s.led.graph (c.in_ok-words-in-Some.ensures c.args.a.now s.led)).1

pub returns-clause-right : goal.returns-clause-right
returns-clause-right c =
    let g = c.args.g.now in
    let s = c.requires.setting in
    let longest = longest_of c.args.a.now g c.graph.result.now c.in_ok-chain.chain c.graph.ensures s.led c.in_ok-chain.ensures.links c.in_ok-chain.ensures.states c.in_ok-chain.ensures.longest c.in_ok-chain.ensures.ranks c.in_ok-chain.ensures.no_cycle in
    let words = subst (λ (l : List Split). IsChainWords c.args.a.now (moves_in g) (pair_in g) l c.in-Some.cycle.state c.in_ok-words-in-Some.words.heads c.in_ok-words-in-Some.words.pumps) c.as_slice-splits.ensures (c.in_ok-words-in-Some.ensures c.args.a.now s.led) in
    λ q machine within. chain_right q c.args.a.now (moves_in g) (pair_in g) g.graph.states machine s.whole s.led.graph s.led.numbered within c.in_ok-family-in-Some.family c.in_ok-chain.chain.links c.in-Some.cycle.state (length c.as_slice-splits.result.now + 1) c.in_ok-words-in-Some.words.heads c.in_ok-words-in-Some.words.pumps c.in_ok-chain.chain.ranks
    words c.in_ok-family-in-Some.ensures c.requires.no_twin longest.longest longest.long longest.ranked (omega (arith, ap length c.as_slice-splits.ensures))

pub returns-clause-reading : goal.returns-clause-reading
returns-clause-reading c =
    let g = c.args.g.now in
    let s = c.requires.setting in
    let splits = c.as_slice-splits.result.now in
    let count = length splits in
    let longest = longest_of c.args.a.now g c.graph.result.now c.in_ok-chain.chain c.graph.ensures s.led c.in_ok-chain.ensures.links c.in_ok-chain.ensures.states c.in_ok-chain.ensures.longest c.in_ok-chain.ensures.ranks c.in_ok-chain.ensures.no_cycle in
    let route : IsRoute (moves_in g) g.graph.states splits = subst (IsRoute (moves_in g) g.graph.states) (sym c.as_slice-splits.ensures) longest.route in
    let cycle_in : c.in-Some.cycle.state < g.graph.states = subst (λ h. c.in-Some.cycle.state < h.states) c.graph.ensures (rw c.in-Some.is at c.in_ok-chain.ensures.cycle).state_in in
    chain-reading (tree_of c.args.tree.now) c.args.a.now g s c.args.sources.now.nodes (count + 1) count c.in_ok-family-in-Some.family splits c.in-Some.cycle.state c.in_ok-words-in-Some.words.heads c.in_ok-words-in-Some.words.pumps
    c.as_slice-in-Some.result.now c.in_ok-reading-in-Some.reading route cycle_in (c.in_ok-words-in-Some.ensures c.args.a.now s.led) c.in_ok-family-in-Some.ensures (omega arith)
    c.as_slice-in-Some.ensures c.in_ok-reading-in-Some.ensures
