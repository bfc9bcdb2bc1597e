use Rattle.std.proofs.Common.{◌≡◌, ℕ, List, sym, ◌∙◌, ap₂, subst}
use Rattle.std.proofs.lemmas.Bool.{both_ways}
use Rattle.rl_graph.specs.Graph.{edges_of}
use Rattle.rl_kernel.specs.Seats.{seats_of}
use Rattle.rl_kernel.specs.Members.{is_member}
use Rattle.rl_degree.specs.internal.Pairs.{is_wanted}
use Rattle.rl_degree.specs.internal.Reached.{reaches as has_reached}
use Rattle.rl_degree.specs.internal.Splits.{HasSplit}
use Rattle.rl_degree.proofs.SearchLaws.{split-reaches, not-there, at-places, split-wanted, second}
use Rattle.rl_degree.proofs.searches.pair_for.Goals as goal

pub returns-then-not-reaches-clause-none : goal.returns-then-not-reaches-clause-none
returns-then-not-reaches-clause-none c =
    let t = c.args.table.now in
    λ split. both_ways (has_reached t.components t.reached.items c.args.from c.args.to) (sym c.reaches.ensures ∙ c.if-not-reaches.true)
    (split-reaches c.args.g.now t c.requires.table.whole c.requires.table c.args.from c.args.to c.requires.from_in c.requires.to_in split)

pub returns-in-None-clause-none : goal.returns-in-None-clause-none
returns-in-None-clause-none c =
    let s = seats_of c.args.table.now.kernel in
    λ split. both_ways (is_member s.states s.places c.args.from) c.in-None.ensures
    (not-there c.args.g.now c.args.table.now c.requires.table.whole c.requires.table c.requires.no_twin c.args.from c.args.to c.requires.from_in c.requires.to_in split).0

pub returns-in-None-place_of-clause-none : goal.returns-in-None-place_of-clause-none
returns-in-None-place_of-clause-none c =
    let s = seats_of c.args.table.now.kernel in
    λ split. both_ways (is_member s.states s.places c.args.to) c.in-None-place_of.ensures
    (not-there c.args.g.now c.args.table.now c.requires.table.whole c.requires.table c.requires.no_twin c.args.from c.args.to c.requires.from_in c.requires.to_in split).1

pub returns-then-wanted-clause-pair : goal.returns-then-wanted-clause-pair
returns-then-wanted-clause-pair c =
    let g = c.args.g.now in
    let t = c.args.table.now in
    let n : c.from-count.result ≡ t.inner.states = c.from-count.ensures ∙ c.states.ensures.number in
    let at = at-places g t c.requires.table.whole c.requires.table c.args.from c.args.to c.in-Some.place c.in-Some-place_of.place c.from-count.result c.pair_of-pair.result n c.pair_of-pair.ensures c.in-Some.ensures c.in-Some-place_of.ensures in
    let w = c.wanted.ensures ∙ ap₂ (λ (l : List ℕ) (z : ℕ). is_wanted l t.parts z c.pair_of-pair.result) c.deref.ensures.value n in
    record {
      within = at.within;
      wanted = sym w ∙ c.if-wanted.true;
      from = at.from;
      to = at.to;
    }

pub returns-else-wanted-clause-none : goal.returns-else-wanted-clause-none
returns-else-wanted-clause-none c =
    let g = c.args.g.now in
    let t = c.args.table.now in
    let x = c.pair_of-pair.result in
    let n : c.from-count.result ≡ t.inner.states = c.from-count.ensures ∙ c.states.ensures.number in
    let at = at-places g t c.requires.table.whole c.requires.table c.args.from c.args.to c.in-Some.place c.in-Some-place_of.place c.from-count.result x n c.pair_of-pair.ensures c.in-Some.ensures c.in-Some-place_of.ensures in
    let w = c.wanted.ensures ∙ ap₂ (λ (l : List ℕ) (z : ℕ). is_wanted l t.parts z x) c.deref.ensures.value n in
    let whole = c.requires.table.whole in
    λ split. both_ways (is_wanted t.kernel.levels.items t.parts t.inner.states x) (sym w ∙ c.if-wanted.false)
    (split-wanted g t whole c.requires.table c.requires.no_twin x at.within
    (subst (λ (z : ℕ). HasSplit (edges_of g) z (second g t whole c.requires.table x)) (sym at.from) (subst (λ (z : ℕ). HasSplit (edges_of g) c.args.from z) (sym at.to) split)))
