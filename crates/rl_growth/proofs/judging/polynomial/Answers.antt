use Rattle.std.proofs.Common.{◌+◌, List, length, subst, sym, ap, arith}
use Rattle.rl_degree.specs.declared.chains.Split.{Split}
use Rattle.rl_pairs.specs.PairTable.{moves_in, pair_in}
use Rattle.rl_growth.specs.FamilyWords.{IsChainWords}
use Rattle.rl_growth.specs.Routes.{IsRoute}
use Rattle.rl_growth.proofs.LongestLaws.{longest_of}
use Rattle.rl_growth.proofs.FamilyLaws.{chain_letters}
use Rattle.rl_growth.proofs.VerdictLaws.{flat_right, chain_right, chain_fits}
use Rattle.rl_growth.proofs.DegreeLaws.{chain_degree}
use Rattle.rl_growth.proofs.judging.polynomial.Goals as goal

pub returns-in-None-clause-right : goal.returns-in-None-clause-right
returns-in-None-clause-right c =
    let g = c.args.g.now in
    let longest = longest_of c.args.a.now g c.graph.result.now c.in_ok-chain.chain c.graph.ensures c.requires.led c.in_ok-chain.ensures.links c.in_ok-chain.ensures.states c.in_ok-chain.ensures.longest c.in_ok-chain.ensures.ranks c.in_ok-chain.ensures.no_cycle in
    let none = rw c.in-None.is at longest.no_cycle in
    λ q machine within. flat_right q c.args.a.now (moves_in g) (pair_in g) g.graph.states machine c.requires.stands.2 c.requires.led.graph c.requires.led.numbered within c.in_ok-flat-in-None.field-0 c.in_ok-flat-in-None.ensures.heads c.in_ok-flat-in-None.ensures.pumps none

pub chain_words-requires-clause-route : goal.chain_words-requires-clause-route
chain_words-requires-clause-route c =
    let g = c.args.g.now in
    let longest = longest_of c.args.a.now g c.graph.result.now c.in_ok-chain.chain c.graph.ensures c.requires.led c.in_ok-chain.ensures.links c.in_ok-chain.ensures.states c.in_ok-chain.ensures.longest c.in_ok-chain.ensures.ranks c.in_ok-chain.ensures.no_cycle in
    subst (IsRoute (moves_in g) g.graph.states) (sym c.as_slice.ensures) longest.route

pub family_of-requires-clause-heads : goal.family_of-requires-clause-heads
family_of-requires-clause-heads c =
    let g = c.args.g.now in
    (chain_letters c.args.a.now (moves_in g) (pair_in g) g.graph.states _ _ _ _ c.requires.stands c.requires.led.graph (c.in_ok-words-in-Some.ensures c.args.a.now c.requires.led)).0

pub family_of-requires-clause-pumps : goal.family_of-requires-clause-pumps
family_of-requires-clause-pumps c =
    let g = c.args.g.now in
    (chain_letters c.args.a.now (moves_in g) (pair_in g) g.graph.states _ _ _ _ c.requires.stands c.requires.led.graph (c.in_ok-words-in-Some.ensures c.args.a.now c.requires.led)).1

pub overflow_cast-power : goal.overflow_cast-power
overflow_cast-power c =
    let g = c.args.g.now in
    let fits = chain_fits c.args.a.now (moves_in g) (pair_in g) g.graph.states _ _ _ _ c.requires.stands c.requires.led.graph c.requires.no_twin (c.in_ok-words-in-Some.ensures c.args.a.now c.requires.led) in
    omega (arith, fits, c.requires.led.few, c.len.ensures, ap length c.as_slice.ensures)

pub overflow_add-power : goal.overflow_add-power
overflow_add-power c =
    let g = c.args.g.now in
    let fits = chain_fits c.args.a.now (moves_in g) (pair_in g) g.graph.states _ _ _ _ c.requires.stands c.requires.led.graph c.requires.no_twin (c.in_ok-words-in-Some.ensures c.args.a.now c.requires.led) in
    omega (arith, fits, c.requires.led.few, c.len.ensures, ap length c.as_slice.ensures)

pub returns-clause-right : goal.returns-clause-right
returns-clause-right c =
    let g = c.args.g.now in
    let longest = longest_of c.args.a.now g c.graph.result.now c.in_ok-chain.chain c.graph.ensures c.requires.led c.in_ok-chain.ensures.links c.in_ok-chain.ensures.states c.in_ok-chain.ensures.longest c.in_ok-chain.ensures.ranks c.in_ok-chain.ensures.no_cycle in
    let words = subst (λ (l : List Split). IsChainWords c.args.a.now (moves_in g) (pair_in g) l c.in-Some.cycle.state c.in_ok-words-in-Some.words.heads c.in_ok-words-in-Some.words.pumps) c.as_slice.ensures (c.in_ok-words-in-Some.ensures c.args.a.now c.requires.led) in
    λ q machine within. chain_right q c.args.a.now (moves_in g) (pair_in g) g.graph.states machine c.requires.stands.2 c.requires.led.graph c.requires.led.numbered within c.in_ok-family_of-in-Some.field-0 c.in_ok-chain.chain.links c.in-Some.cycle.state (c.len.result + 1) c.in_ok-words-in-Some.words.heads c.in_ok-words-in-Some.words.pumps c.in_ok-chain.chain.ranks
    words c.in_ok-family_of-in-Some.ensures c.requires.no_twin longest.longest longest.long longest.ranked (omega (arith, c.len.ensures))

pub returns-clause-class : goal.returns-clause-class
returns-clause-class c =
    let g = c.args.g.now in
    let longest = longest_of c.args.a.now g c.graph.result.now c.in_ok-chain.chain c.graph.ensures c.requires.led c.in_ok-chain.ensures.links c.in_ok-chain.ensures.states c.in_ok-chain.ensures.longest c.in_ok-chain.ensures.ranks c.in_ok-chain.ensures.no_cycle in
    let words = subst (λ (l : List Split). IsChainWords c.args.a.now (moves_in g) (pair_in g) l c.in-Some.cycle.state c.in_ok-words-in-Some.words.heads c.in_ok-words-in-Some.words.pumps) c.as_slice.ensures (c.in_ok-words-in-Some.ensures c.args.a.now c.requires.led) in
    chain_degree c.args.a.now (moves_in g) (pair_in g) g.graph.states c.in_ok-chain.chain.links c.in-Some.cycle.state (c.len.result + 1) c.in_ok-words-in-Some.words.heads c.in_ok-words-in-Some.words.pumps c.requires.led.graph.some words c.requires.no_twin longest.longest (omega (arith, c.len.ensures))
