use Rattle.std.proofs.Common.{ℕ, ◌≡◌, ◌<◌, [], false, length, refl, inl, get_or, ◌∙◌, ap, subst, arith, sym}
use Rattle.std.proofs.lemmas.List.{get_or_read, length-replicate}
use Rattle.rl_graph.specs.Graph.{edges_of}
use Rattle.rl_graph.specs.Twins.{IsSplit}
use Rattle.rl_graph.specs.Parts.{number_of}
use Rattle.rl_degree.specs.internal.Reached.{IsHopeless}
use Rattle.rl_degree.specs.internal.Splits.{HasSplit}
use Rattle.rl_degree.specs.internal.Pairs.{lists_of}
use Rattle.rl_degree.specs.internal.Rows.{SearchState, field_of, search_state_of, word_at, behind, IsSearching}
use Rattle.rl_degree.proofs.SearchLaws.{for-behind, hopeless-there, search-start, search-further, search-found, search-word, search-none}
use Rattle.rl_degree.proofs.searches.search_for.Goals as goal

pub loop-found-init : goal.loop-found-init
loop-found-init c =
    let g = c.args.g.now in
    let t = c.args.table.now in
    let x = c.args.pair in
    let places = (lists_of t.placed).places in
    let at : c.index.result.now ≡ get_or places x 0 =
    get_or_read places x c.index.result.now (omega (arith, c.requires.pair.within, c.requires.table.placed.size)) c.index.ensures 0 in
    let k = number_of t.components c.args.to in
    let small : c.of.result < length t.hopeless.items = omega (arith, c.of.ensures, c.requires.table.components.below c.args.to c.requires.to_in, c.requires.table.hopeless.size) in
    let row : c.index-hopeless.result.now ≡ get_or t.hopeless.items k [] =
    get_or_read t.hopeless.items c.of.result c.index-hopeless.result.now small c.index-hopeless.ensures [] ∙ ap (λ z. get_or t.hopeless.items z []) c.of.ensures in
    let hopeless = subst (IsHopeless g.states t.components t.reached.items k) (sym row) (hopeless-there g t c.requires.table.whole c.requires.table c.args.from c.args.to x c.requires.pair) in
    let s = search-start g t c.requires.table.whole c.requires.table c.args.keeps c.index-hopeless.result.now x c.of-part.result _ c.index.result.now c.args.from c.args.to (search_state_of c.in_ok-search.search) c.requires.from_in c.requires.to_in hopeless c.requires.pair
    c.of-part.ensures at (ap length c.members_of-pairs.ensures) c.in_ok-search.ensures in
    record {
      searching = s.0;
      asked = s.1;
      keeps = ap (λ (z : SearchState). z.keeps) c.in_ok-search.ensures;
      from = ap (λ (z : SearchState). z.from) c.in_ok-search.ensures;
      to = ap (λ (z : SearchState). z.to) c.in_ok-search.ensures;
      wide = ap length c.in_ok-image.ensures ∙ (length-replicate c.states-states.result false ∙ c.states-states.ensures.number);
    }

pub is_goal-requires : goal.is_goal-requires
is_goal-requires c =
    let f = c.in-Some.found in
    let s = search_state_of c.next.new.self in
    let d = field_of c.args.g.now c.args.table.now c.of-part.result in
    let h : IsSearching d (behind f s) = subst (IsSearching d) c.in-Some.ensures.found c.loop-found.invariant.searching in
    omega (arith, sym (ap (λ (z : SearchState). z.to) c.in-Some.ensures.found) ∙ c.loop-found.invariant.to, c.requires.to_in, (h.found f (inl refl)).wide)

pub returns-then-is_goal-clause-steps : goal.returns-then-is_goal-clause-steps
returns-then-is_goal-clause-steps c =
    let d = field_of c.args.g.now c.args.table.now c.of-part.result in
    let h : IsSearching d (behind c.in-Some.found (search_state_of c.next.new.self)) = subst (IsSearching d) c.in-Some.ensures.found c.loop-found.invariant.searching in
    record { rooted = h.rooted; step_in = (h.found c.in-Some.found (inl refl)).step_in }

pub returns-then-is_goal-clause-word : goal.returns-then-is_goal-clause-word
returns-then-is_goal-clause-word c =
    let g = c.args.g.now in
    let t = c.args.table.now in
    let f = c.in-Some.found in
    let part = c.of-part.result in
    let s = search_state_of c.next.new.self in
    let d = field_of g t part in
    let i = c.loop-found.invariant in
    let e = c.in-Some.ensures.found in
    let h : IsSearching d (behind f s) = subst (IsSearching d) e i.searching in
    let is = for-behind g t c.args.pair part s (search_state_of c.loop-found.search) f e i.asked in
    let yes = c.is_goal.ensures.yes c.if-is_goal.true in
    let from : s.from ≡ c.args.from = sym (ap (λ (z : SearchState). z.from) e) ∙ i.from in
    let to : s.to ≡ c.args.to = sym (ap (λ (z : SearchState). z.to) e) ∙ i.to in
    λ keeps. subst (λ (z : ℕ). IsSplit (edges_of g) z c.args.to (word_at s.steps f.step)) from (subst (λ (z : ℕ). IsSplit (edges_of g) s.from z (word_at s.steps f.step)) to
    (search-word g t c.requires.table.whole c.requires.table c.args.pair part s f (word_at s.steps f.step) is h yes.0 yes.1
    (sym (ap (λ (z : SearchState). z.keeps) e) ∙ (i.keeps ∙ keeps)) refl))

pub returns-then-is_goal-clause-found : goal.returns-then-is_goal-clause-found
returns-then-is_goal-clause-found c =
    let g = c.args.g.now in
    let t = c.args.table.now in
    let f = c.in-Some.found in
    let part = c.of-part.result in
    let s = search_state_of c.next.new.self in
    let d = field_of g t part in
    let i = c.loop-found.invariant in
    let e = c.in-Some.ensures.found in
    let h : IsSearching d (behind f s) = subst (IsSearching d) e i.searching in
    let is = for-behind g t c.args.pair part s (search_state_of c.loop-found.search) f e i.asked in
    let yes = c.is_goal.ensures.yes c.if-is_goal.true in
    let from : s.from ≡ c.args.from = sym (ap (λ (z : SearchState). z.from) e) ∙ i.from in
    let to : s.to ≡ c.args.to = sym (ap (λ (z : SearchState). z.to) e) ∙ i.to in
    subst (λ (z : ℕ). HasSplit (edges_of g) z c.args.to) from (subst (λ (z : ℕ). HasSplit (edges_of g) s.from z) to
    ((h.found f (inl refl)).word, search-found g t c.requires.table.whole c.requires.table c.args.pair part s f is h yes.0 yes.1))

pub loop-found-preserved-in_ok-follow : goal.loop-found-preserved-in_ok-follow
loop-found-preserved-in_ok-follow c =
    let g = c.args.g.now in
    let t = c.args.table.now in
    let f = c.in-Some.found in
    let part = c.of-part.result in
    let s = search_state_of c.next.new.self in
    let i = c.loop-found.invariant in
    let e = c.in-Some.ensures.found in
    let is = for-behind g t c.args.pair part s (search_state_of c.loop-found.search) f e i.asked in
    let o = c.in_ok-follow.ensures in
    let both = search-further g t c.requires.table.whole c.requires.table c.args.pair part s (search_state_of c.follow.new.self) f is o.further o.followed (c.is_goal.ensures.no c.if-is_goal.false) in
    record {
      searching = both.0;
      asked = both.1;
      keeps = o.further.keeps ∙ (sym (ap (λ (z : SearchState). z.keeps) e) ∙ i.keeps);
      from = o.further.from ∙ (sym (ap (λ (z : SearchState). z.from) e) ∙ i.from);
      to = o.further.to ∙ (sym (ap (λ (z : SearchState). z.to) e) ∙ i.to);
      wide = c.follow.ensures.same_width ∙ i.wide;
    }

pub loop-found-preserved : goal.loop-found-preserved
loop-found-preserved c =
    let g = c.args.g.now in
    let t = c.args.table.now in
    let f = c.in-Some.found in
    let part = c.of-part.result in
    let s = search_state_of c.next.new.self in
    let i = c.loop-found.invariant in
    let e = c.in-Some.ensures.found in
    let is = for-behind g t c.args.pair part s (search_state_of c.loop-found.search) f e i.asked in
    let o = c.in_ok-follow.ensures in
    let both = search-further g t c.requires.table.whole c.requires.table c.args.pair part s (search_state_of c.follow.new.self) f is o.further o.followed (c.is_goal.ensures.no c.if-is_goal.false) in
    record {
      searching = both.0;
      asked = both.1;
      keeps = o.further.keeps ∙ (sym (ap (λ (z : SearchState). z.keeps) e) ∙ i.keeps);
      from = o.further.from ∙ (sym (ap (λ (z : SearchState). z.from) e) ∙ i.from);
      to = o.further.to ∙ (sym (ap (λ (z : SearchState). z.to) e) ∙ i.to);
      wide = c.follow.ensures.same_width ∙ i.wide;
    }

pub returns-clause-none : goal.returns-clause-none
returns-clause-none c =
    let g = c.args.g.now in
    let i = c.loop-found.invariant in
    let s = search_state_of c.loop-found.search in
    λ split. search-none g c.args.table.now c.requires.table.whole c.requires.table c.requires.no_twin c.args.pair c.of-part.result s i.asked i.searching c.in_default.ensures.none
    (subst (λ (z : ℕ). HasSplit (edges_of g) z s.to) (sym i.from) (subst (λ (z : ℕ). HasSplit (edges_of g) c.args.from z) (sym i.to) split))

pub index-requires : goal.index-requires
index-requires c = omega (arith, c.requires.pair.within, c.requires.table.placed.size, c.args.table.now.placed.places.ok.0)

pub members_of-pairs-requires : goal.members_of-pairs-requires
members_of-pairs-requires c = omega (arith, c.of-part.ensures, c.requires.table.parts.below c.args.pair c.requires.pair.within, c.requires.table.placed.numbered)

pub follow-requires-clause-part_in : goal.follow-requires-clause-part_in
follow-requires-clause-part_in c = omega (arith, c.of-part.ensures, c.requires.table.parts.below c.args.pair c.requires.pair.within)

pub follow-requires-clause-searching : goal.follow-requires-clause-searching
follow-requires-clause-searching c =
    subst (IsSearching (field_of c.args.g.now c.args.table.now c.of-part.result)) c.in-Some.ensures.found c.loop-found.invariant.searching

pub new-requires-clause-from_in : goal.new-requires-clause-from_in
new-requires-clause-from_in c =
    let g = c.args.g.now in
    let t = c.args.table.now in
    let k = number_of t.components c.args.to in
    let small : c.of.result < length t.hopeless.items = omega (arith, c.of.ensures, c.requires.table.components.below c.args.to c.requires.to_in, c.requires.table.hopeless.size) in
    let row : c.index-hopeless.result.now ≡ get_or t.hopeless.items k [] =
    get_or_read t.hopeless.items c.of.result c.index-hopeless.result.now small c.index-hopeless.ensures [] ∙ ap (λ z. get_or t.hopeless.items z []) c.of.ensures in
    omega (arith, ap length row, (hopeless-there g t c.requires.table.whole c.requires.table c.args.from c.args.to c.args.pair c.requires.pair).wide, c.requires.from_in)

pub index-hopeless-requires : goal.index-hopeless-requires
index-hopeless-requires c =
    omega (arith, c.of.ensures, c.requires.table.components.below c.args.to c.requires.to_in, c.requires.table.hopeless.size, c.args.table.now.hopeless.ok.0)
