use Rattle.std.proofs.Common.{◌≡◌, ◌∙◌, ◌<◌, ◌≤◌, length, get_or, All, [], sym, ap, ap₂, subst, arith}
use Rattle.std.proofs.lemmas.List.{drop_all, get_or_default}
use Rattle.rl_graph.specs.Paths.{paths}
use Rattle.rl_graph.proofs.Sums.{at-short}
use Rattle.rl_syntax.specs.Tree.{tree_of}
use Rattle.rl_prio.specs.Automaton.{letters_count}
use Rattle.rl_pairs.specs.PairTable.{moves_in}
use Rattle.rl_pairs.specs.Families.{spelled}
use Rattle.rl_growth.specs.Routes.{split_at, state_after}
use Rattle.rl_why.specs.Loops.{loop_of}
use Rattle.rl_why.specs.Readings.{AreSplitWays}
use Rattle.rl_why.specs.internal.Settings.{place_of, from_at}
use Rattle.rl_why.proofs.ChainLaws.{words-many, texts-many, pumped, after-in, cycle-some, cycle-there, cycle-letters, cycle-text}
use Rattle.rl_why.proofs.HeadLaws.{from-split, from-last}
use Rattle.rl_why.proofs.ReadingLaws.{cycle-shown}
use Rattle.rl_why.proofs.reading.chain_reading.Goals as goal

pub split_readings-requires-clause-many : goal.split_readings-requires-clause-many
split_readings-requires-clause-many c = omega (arith, texts-many c.args.a.now c.args.g.now c.args.splits.now c.args.alone c.requires.words.0 c.args.words.now c.args.pumps.now c.requires.route c.requires.words.1 c.requires.letters c.requires.texts)

pub split_readings-requires-clause-splits : goal.split_readings-requires-clause-splits
split_readings-requires-clause-splits c = pumped c.args.a.now c.args.g.now c.args.splits.now c.args.alone c.requires.words.0 c.args.words.now c.args.pumps.now c.requires.route c.requires.words.1 c.requires.letters c.requires.texts

pub bounds-words-splits : goal.bounds-words-splits
bounds-words-splits c = omega (arith, words-many c.args.a.now c.args.g.now c.args.splits.now c.args.alone c.requires.words.0 c.args.words.now c.args.pumps.now c.requires.route c.requires.words.1 c.requires.letters c.requires.texts)

pub bounds-pumps-splits : goal.bounds-pumps-splits
bounds-pumps-splits c = omega (arith, texts-many c.args.a.now c.args.g.now c.args.splits.now c.args.alone c.requires.words.0 c.args.words.now c.args.pumps.now c.requires.route c.requires.words.1 c.requires.letters c.requires.texts)

pub way_along-requires-clause-from_in : goal.way_along-requires-clause-from_in
way_along-requires-clause-from_in c =
    let splits = c.args.splits.now in
    let state = c.loop-split.state in
    let ended : state ≡ state_after splits c.args.alone = sym (ap (λ l. state_after l state) (drop_all c.loop-split.split-index splits c.loop-split-test.false)) ∙ c.loop-split.invariant in
    subst (λ q. q < c.args.g.now.graph.states) (sym ended) (after-in c.args.a.now c.args.g.now c.args.splits.now c.args.alone c.requires.words.0 c.args.words.now c.args.pumps.now c.requires.route c.requires.words.1 c.requires.letters c.requires.texts c.requires.alone_in)

pub way_along-requires-clause-to_in : goal.way_along-requires-clause-to_in
way_along-requires-clause-to_in c =
    let splits = c.args.splits.now in
    let state = c.loop-split.state in
    let ended : state ≡ state_after splits c.args.alone = sym (ap (λ l. state_after l state) (drop_all c.loop-split.split-index splits c.loop-split-test.false)) ∙ c.loop-split.invariant in
    subst (λ q. q < c.args.g.now.graph.states) (sym ended) (after-in c.args.a.now c.args.g.now c.args.splits.now c.args.alone c.requires.words.0 c.args.words.now c.args.pumps.now c.requires.route c.requires.words.1 c.requires.letters c.requires.texts c.requires.alone_in)

pub way_along-requires-clause-some : goal.way_along-requires-clause-some
way_along-requires-clause-some c =
    let word : c.as_slice-word.result.now ≡ get_or c.args.words.now (length c.args.splits.now) [] =
    c.as_slice-word.ensures ∙ c.index-words-splits.is ∙ get_or_default c.args.words.now (length c.args.splits.now) c.index-words-splits.result [] (omega (arith, words-many c.args.a.now c.args.g.now c.args.splits.now c.args.alone c.requires.words.0 c.args.words.now c.args.pumps.now c.requires.route c.requires.words.1 c.requires.letters c.requires.texts)) in
    omega (arith, ap length word, cycle-some c.args.a.now c.args.g.now c.args.splits.now c.args.alone c.requires.words.0 c.args.words.now c.args.pumps.now c.requires.route c.requires.words.1 c.requires.letters c.requires.texts)

pub way_along-requires-clause-before : goal.way_along-requires-clause-before
way_along-requires-clause-before c =
    let splits = c.args.splits.now in
    let state = c.loop-split.state in
    let ended : state ≡ state_after splits c.args.alone = sym (ap (λ l. state_after l state) (drop_all c.loop-split.split-index splits c.loop-split-test.false)) ∙ c.loop-split.invariant in
    let word : c.as_slice-word.result.now ≡ get_or c.args.words.now (length c.args.splits.now) [] =
    c.as_slice-word.ensures ∙ c.index-words-splits.is ∙ get_or_default c.args.words.now (length c.args.splits.now) c.index-words-splits.result [] (omega (arith, words-many c.args.a.now c.args.g.now c.args.splits.now c.args.alone c.requires.words.0 c.args.words.now c.args.pumps.now c.requires.route c.requires.words.1 c.requires.letters c.requires.texts)) in
    subst (λ y. 1 ≤ paths (moves_in c.args.g.now) state state y) (sym word) (cycle-there c.args.a.now c.args.g.now c.args.splits.now c.args.alone c.requires.words.0 c.args.words.now c.args.pumps.now c.requires.route c.requires.words.1 c.requires.letters c.requires.texts state ended)

pub way_along-requires-clause-over : goal.way_along-requires-clause-over
way_along-requires-clause-over c =
    let splits = c.args.splits.now in
    let state = c.loop-split.state in
    let ended : state ≡ state_after splits c.args.alone = sym (ap (λ l. state_after l state) (drop_all c.loop-split.split-index splits c.loop-split-test.false)) ∙ c.loop-split.invariant in
    let word : c.as_slice-word.result.now ≡ get_or c.args.words.now (length c.args.splits.now) [] =
    c.as_slice-word.ensures ∙ c.index-words-splits.is ∙ get_or_default c.args.words.now (length c.args.splits.now) c.index-words-splits.result [] (omega (arith, words-many c.args.a.now c.args.g.now c.args.splits.now c.args.alone c.requires.words.0 c.args.words.now c.args.pumps.now c.requires.route c.requires.words.1 c.requires.letters c.requires.texts)) in
    subst (λ y. 1 ≤ paths (moves_in c.args.g.now) state state y) (sym word) (cycle-there c.args.a.now c.args.g.now c.args.splits.now c.args.alone c.requires.words.0 c.args.words.now c.args.pumps.now c.requires.route c.requires.words.1 c.requires.letters c.requires.texts state ended)

pub way_along-requires-clause-behind : goal.way_along-requires-clause-behind
way_along-requires-clause-behind c =
    let splits = c.args.splits.now in
    let state = c.loop-split.state in
    let ended : state ≡ state_after splits c.args.alone = sym (ap (λ l. state_after l state) (drop_all c.loop-split.split-index splits c.loop-split-test.false)) ∙ c.loop-split.invariant in
    let word : c.as_slice-word.result.now ≡ get_or c.args.words.now (length c.args.splits.now) [] =
    c.as_slice-word.ensures ∙ c.index-words-splits.is ∙ get_or_default c.args.words.now (length c.args.splits.now) c.index-words-splits.result [] (omega (arith, words-many c.args.a.now c.args.g.now c.args.splits.now c.args.alone c.requires.words.0 c.args.words.now c.args.pumps.now c.requires.route c.requires.words.1 c.requires.letters c.requires.texts)) in
    subst (λ y. 1 ≤ paths (moves_in c.args.g.now) state state y) (sym word) (cycle-there c.args.a.now c.args.g.now c.args.splits.now c.args.alone c.requires.words.0 c.args.words.now c.args.pumps.now c.requires.route c.requires.words.1 c.requires.letters c.requires.texts state ended)

pub way_along-requires-clause-letters : goal.way_along-requires-clause-letters
way_along-requires-clause-letters c =
    let word : c.as_slice-word.result.now ≡ get_or c.args.words.now (length c.args.splits.now) [] =
    c.as_slice-word.ensures ∙ c.index-words-splits.is ∙ get_or_default c.args.words.now (length c.args.splits.now) c.index-words-splits.result [] (omega (arith, words-many c.args.a.now c.args.g.now c.args.splits.now c.args.alone c.requires.words.0 c.args.words.now c.args.pumps.now c.requires.route c.requires.words.1 c.requires.letters c.requires.texts)) in
    subst (All (λ letter. letter < letters_count c.args.a.now)) (sym word) (cycle-letters c.args.a.now c.args.g.now c.args.splits.now c.args.alone c.requires.words.0 c.args.words.now c.args.pumps.now c.requires.route c.requires.words.1 c.requires.letters c.requires.texts)

pub way_along-requires-clause-text : goal.way_along-requires-clause-text
way_along-requires-clause-text c =
    let word : c.as_slice-word.result.now ≡ get_or c.args.words.now (length c.args.splits.now) [] =
    c.as_slice-word.ensures ∙ c.index-words-splits.is ∙ get_or_default c.args.words.now (length c.args.splits.now) c.index-words-splits.result [] (omega (arith, words-many c.args.a.now c.args.g.now c.args.splits.now c.args.alone c.requires.words.0 c.args.words.now c.args.pumps.now c.requires.route c.requires.words.1 c.requires.letters c.requires.texts)) in
    let text : c.as_slice-text.result.now ≡ get_or c.args.pumps.now (length c.args.splits.now) [] =
    c.as_slice-text.ensures ∙ c.index-pumps-splits.is ∙ get_or_default c.args.pumps.now (length c.args.splits.now) c.index-pumps-splits.result [] (omega (arith, texts-many c.args.a.now c.args.g.now c.args.splits.now c.args.alone c.requires.words.0 c.args.words.now c.args.pumps.now c.requires.route c.requires.words.1 c.requires.letters c.requires.texts)) in
    text ∙ cycle-text c.args.a.now c.args.g.now c.args.splits.now c.args.alone c.requires.words.0 c.args.words.now c.args.pumps.now c.requires.route c.requires.words.1 c.requires.letters c.requires.texts ∙ ap (spelled c.args.a.now) (sym word)

pub returns : goal.returns
returns c =
    let text : c.as_slice-text.result.now ≡ get_or c.args.pumps.now (length c.args.splits.now) [] =
    c.as_slice-text.ensures ∙ c.index-pumps-splits.is ∙ get_or_default c.args.pumps.now (length c.args.splits.now) c.index-pumps-splits.result [] (omega (arith, texts-many c.args.a.now c.args.g.now c.args.splits.now c.args.alone c.requires.words.0 c.args.words.now c.args.pumps.now c.requires.route c.requires.words.1 c.requires.letters c.requires.texts)) in
    let t = tree_of c.args.tree.now in
    let nodes = c.args.sources.now.nodes in
    let a = c.args.a.now in
    let g = c.args.g.now in
    let splits = c.args.splits.now in
    let alone = c.args.alone in
    let heads = c.requires.words.0 in
    let words = c.args.words.now in
    let pumps = c.args.pumps.now in
    let w = c.requires.words.1 in
    let count = c.in_ok-readings.ensures.count in
    let state = c.loop-split.state in
    let ended : state ≡ state_after splits alone = sym (ap (λ l. state_after l state) (drop_all c.loop-split.split-index splits c.loop-split-test.false)) ∙ c.loop-split.invariant in
    let word : c.as_slice-word.result.now ≡ get_or words (length splits) [] =
    c.as_slice-word.ensures ∙ c.index-words-splits.is ∙ get_or_default words (length splits) c.index-words-splits.result [] (omega (arith, words-many a g splits alone heads words pumps c.requires.route w c.requires.letters c.requires.texts)) in
    let there : state ≡ from_at splits alone (length c.in_ok-readings.readings) = ended ∙ sym (from-last splits alone (length c.in_ok-readings.readings) count) in
    let state_in = subst (λ q. q < g.graph.states) (sym ended) (after-in a g splits alone heads words pumps c.requires.route w c.requires.letters c.requires.texts c.requires.alone_in) in
    record {
      count = omega (arith, count, texts-many a g splits alone heads words pumps c.requires.route w c.requires.letters c.requires.texts);
      splits = λ k r e.
          subst (λ q. AreSplitWays t nodes (get_or pumps k []) (place_of t a g q) (place_of t a g (split_at splits k).to) r)
          (sym (from-split splits alone k (omega (arith, count, at-short c.in_ok-readings.readings k r e)))) (c.in_ok-readings.ensures.right k r e);
      cycle = cycle-shown t a g c.requires.setting nodes state (from_at splits alone (length c.in_ok-readings.readings)) c.as_slice-word.result.now c.as_slice-text.result.now _ c.in_ok-way.way c.in_ok-cycle.cycle state_in
          (omega (arith, ap length word, cycle-some a g splits alone heads words pumps c.requires.route w c.requires.letters c.requires.texts))
          (text ∙ cycle-text a g splits alone heads words pumps c.requires.route w c.requires.letters c.requires.texts ∙ ap (spelled a) (sym word))
          c.in_ok-way.ensures (c.in_ok-cycle.ensures ∙ ap₂ (loop_of t) c.as_slice.ensures c.as_slice-2.ensures) (text ∙ ap (λ k. get_or pumps k []) (sym count)) there;
    }
