-- Lemmas on looking at the images of one set, and on the notes that are made in the end.
use Rattle.std.proofs.lemmas.Bool.{true≢false}
use Rattle.std.proofs.Common.{◌≡◌, ℕ, ◌+◌, ◌<◌, ◌≤◌, true, false, List, [], ◌∷◌, ◌++◌, length, get_or, Option, Some, None, is_some, IfNone, refl, sym, ap, ◌∙◌, subst, arith}
use Rattle.rl_prio.specs.Automaton.{Automaton, IsAutomaton, letters_count, accepting_state}
use Rattle.rl_sets.specs.declared.life.Route.{Route}
use Rattle.rl_sets.specs.declared.life.Route.TheVariants.{On}
use Rattle.rl_sets.specs.declared.rests.Way.{Way}
use Rattle.rl_sets.specs.Live.{holds, image, IsLive}
use Rattle.rl_sets.specs.Rests.{IsGrown, IsOver, HasRoute}
use Rattle.rl_sets.specs.Walk.{Walk, set_at, IsMadeFor}
use Rattle.rl_sets.specs.internal.Search.{Found, number_at, way_at, found_set, IsSearch, IsLookedAt, IsImageAt, GoesOn}
use Rattle.rl_sets.proofs.GrowthLemmas.{IsGrown-same, IsGrown-trans, IsOver-grown, set-kept}
use Rattle.rl_sets.proofs.LiveLemmas.{end-refused, refuses-image}
use Rattle.rl_sets.proofs.RouteLemmas.{HasRoute-more, HasRoute-end}
use Rattle.rl_sets.proofs.SearchLemmas.{all-looked, IsSearch-grown, IsLookedAt-grown, Extends-refl, Extends-trans}

-- Two searches, one after another.
module _ (a : Automaton) (old w new : Walk) (f g h : Found) (s : IsSearch a old f) (x : GoesOn a old w f g) (grown : IsGrown a (found_set old f 0) old.sets w.sets) where
  pub root-kept : found_set w g 0 ≡ found_set old f 0
  root-kept = ap (set_at w) (x.extends.same 0 s.some) ∙ set-kept (number_at f 0) grown (s.within 0 s.some)

  pub grown-on : IsGrown a (found_set w g 0) w.sets new.sets → IsGrown a (found_set old f 0) old.sets new.sets
  grown-on more = IsGrown-trans a (found_set old f 0) old.sets w.sets new.sets grown (subst (λ (r : List ℕ). IsGrown a r w.sets new.sets) root-kept more)

  pub over-on : w.limit ≡ old.limit → IsOver a (found_set w g 0) w.sets w.limit → IsOver a (found_set old f 0) old.sets old.limit
  over-on e over =
      subst (IsOver a (found_set old f 0) old.sets) e (IsOver-grown a (found_set old f 0) old.sets w.sets w.limit grown (subst (λ (r : List ℕ). IsOver a r w.sets w.limit) root-kept over))

  pub goes-on : GoesOn a w new g h → GoesOn a old new f h
  goes-on y = record { search = y.search; extends = Extends-trans f g h x.extends y.extends }

-- The state of the search while the images of the set at a place are looked at, before the letter `c`.
pub record IsExpanding (a : Automaton) (old new : Walk) (f g : Found) (place c : ℕ) : Type 0 where
  pub made : IsMadeFor new a
  pub limit : new.limit ≡ old.limit
  pub grown : IsGrown a (found_set old f 0) old.sets new.sets
  pub goes : GoesOn a old new f g
  pub looked : IsLookedAt a new g place c
  pub ended : holds (image a (found_set new g place) (letters_count a)) (accepting_state a) ≡ true

pub expanding-start : (a : Automaton) (old w : Walk) (f : Found) (place after : ℕ) → IsSearch a old f → IsLookedAt a old f place 0 → IsMadeFor w a → w.limit ≡ old.limit → IsGrown a (found_set old f 0) old.sets w.sets → IsImageAt a w f place (letters_count a) after → holds (set_at w after) (accepting_state a) ≡ true → IsExpanding a old w f f place 0
expanding-start a old w f place after s looked made limit grown at e = record {
  made = made;
  limit = limit;
  grown = grown;
  goes = record { search = IsSearch-grown a (found_set old f 0) old w f s grown; extends = Extends-refl f };
  looked = IsLookedAt-grown a (found_set old f 0) old w f s grown place 0 looked;
  ended = ap (λ x. holds x (accepting_state a)) (sym at.is) ∙ e;
}

pub expanding-more : (a : Automaton) (old w new : Walk) (f g h : Found) (place c : ℕ) → place < length f.numbers → IsSearch a old f → IsExpanding a old w f g place c → IsMadeFor new a → new.limit ≡ w.limit → IsGrown a (found_set w g 0) w.sets new.sets → GoesOn a w new g h → IsLookedAt a new h place (c + 1) → IsExpanding a old new f h place (c + 1)
expanding-more a old w new f g h place c in' s x made limit grown goes looked =
    let there : place < length g.numbers = omega (arith, x.goes.extends.longer) in
    let same : found_set new h place ≡ found_set w g place = ap (set_at new) (goes.extends.same place there) ∙ set-kept (number_at g place) grown (x.goes.search.within place there) in
    record {
      made = made;
      limit = limit ∙ x.limit;
      grown = grown-on a old w new f g h s x.goes x.grown grown;
      goes = goes-on a old w new f g h s x.goes x.grown goes;
      looked = looked;
      ended = ap (λ (y : List ℕ). holds (image a y (letters_count a)) (accepting_state a)) same ∙ x.ended;
    }

-- The end letter is refused.
pub route-at-end : (a : Automaton) (old w : Walk) (f : Found) (place after : ℕ) → IsAutomaton a → place < length f.numbers → IsSearch a old f → IsMadeFor w a → IsGrown a (found_set old f 0) old.sets w.sets → IsImageAt a w f place (letters_count a) after → holds (set_at w after) (accepting_state a) ≡ false → HasRoute a w.kept.routes (found_set w f place) 0
route-at-end a old w f place after is in' s made grown at e =
    let free = (IsSearch-grown a (found_set old f 0) old w f s grown).free place in' in
    HasRoute-end a w.kept.routes (found_set w f place) made.first_route (end-refused a is (found_set w f place) free (ap (λ x. holds x (accepting_state a)) (sym at.is) ∙ e))

-- The route of a set gives one for the set whose image it is.
pub route-back : (a : Automaton) (w : Walk) (f : Found) (at : ℕ) (routes : List Route) (route : ℕ) → IsAutomaton a → IsSearch a w f → 0 < at → at < length f.numbers → HasRoute a routes (found_set w f at) route
    → HasRoute a (routes ++ On (way_at f at).letter route ∷ []) (found_set w f (way_at f at).parent) (length routes)
route-back a w f at routes route is s some in' h =
    let step = s.steps at some in' in
    HasRoute-more a routes (found_set w f (way_at f at).parent) (way_at f at).letter route step.small (subst (λ (x : List ℕ). HasRoute a routes x route) step.image_is h) (λ word.
    refuses-image a is (found_set w f (way_at f at).parent) (way_at f at).letter word (s.free (way_at f at).parent (omega (arith, step.earlier))))

pub none-at : {T : Type 0} (o : Option T) (P : Type 0) → is_some o ≡ false → IfNone o P → P
none-at None P e h = h
none-at (Some x) P e h = absurd (true≢false e)

pub some-at : {T : Type 0} (o : Option T) (P : Type 0) → is_some o ≡ true → IfNone o P
some-at None P e = absurd (true≢false (sym e))
some-at (Some x) P e = tt

-- A found set on a walk with the same sets.
pub number-set : (old w : Walk) (f : Found) (at n : ℕ) → w.sets ≡ old.sets → n ≡ number_at f at → set_at w n ≡ found_set old f at
number-set old w f at n same e = ap (λ (l : List (List ℕ)). get_or l n []) same ∙ ap (set_at old) e

pub note-dead : (a : Automaton) (old w : Walk) (f : Found) (k at n : ℕ) → IsAutomaton a → IsSearch a old f → length f.numbers ≤ k → IsLookedAt a old f k 0 → at < length f.numbers → w.sets ≡ old.sets → n ≡ number_at f at → IsLive a (set_at w n) → ⊥
note-dead a old w f k at n is s all looked in' same e live = all-looked a old f k is s all looked at in' (subst (IsLive a) (number-set old w f at n same e) live)

pub note-live : (a : Automaton) (old w : Walk) (f : Found) (at n route : ℕ) → w.sets ≡ old.sets → n ≡ number_at f at → HasRoute a w.kept.routes (found_set old f at) route → HasRoute a w.kept.routes (set_at w n) route
note-live a old w f at n route same e h = subst (λ (s : List ℕ). HasRoute a w.kept.routes s route) (sym (number-set old w f at n same e)) h

pub trace-step : (a : Automaton) (old noted put : Walk) (f : Found) (at route number : ℕ) (way : Way) → IsAutomaton a → IsSearch a old f → 0 < at → at < length f.numbers → way ≡ way_at f at → HasRoute a old.kept.routes (found_set old f at) route
    → noted.kept.routes ≡ old.kept.routes → put.kept.routes ≡ noted.kept.routes ++ On way.letter route ∷ [] → number ≡ length noted.kept.routes → HasRoute a put.kept.routes (found_set old f (way_at f at).parent) number
trace-step a old noted put f at route number way is s some in' e h same routes long =
    let from = found_set old f (way_at f at).parent in
    let there = route-back a old f at noted.kept.routes route is s some in' (subst (λ (l : List Route). HasRoute a l (found_set old f at) route) (sym same) h) in
    let at_way = subst (λ (x : Way). HasRoute a (noted.kept.routes ++ On x.letter route ∷ []) from (length noted.kept.routes)) (sym e) there in
    subst (λ (l : List Route). HasRoute a l from number) (sym routes) (subst (HasRoute a (noted.kept.routes ++ On way.letter route ∷ []) from) (sym long) at_way)

-- ---- the way back from a set with a route to the first one
-- a walk with the same sets has a route for the set at a place
pub record IsTracing (a : Automaton) (old w : Walk) (f : Found) (at route : ℕ) : Type 0 where
  pub made : IsMadeFor w a
  pub limit : w.limit ≡ old.limit
  pub sets : w.sets ≡ old.sets
  pub within : at < length f.numbers
  pub route_there : HasRoute a w.kept.routes (found_set old f at) route

pub tracing-search : {a : Automaton} {old w : Walk} {f : Found} {at route : ℕ} → IsTracing a old w f at route → IsSearch a old f → IsSearch a w f
tracing-search {a} {old} {w} {f} t s = IsSearch-grown a (found_set old f 0) old w f s (IsGrown-same a (found_set old f 0) old.sets w.sets t.sets)

pub tracing-route : {a : Automaton} {old w : Walk} {f : Found} {at route : ℕ} (k : ℕ) → IsTracing a old w f at route → at ≡ k → HasRoute a w.kept.routes (found_set w f k) route
tracing-route {a} {old} {w} {f} {at} {route} k t e =
    subst (λ (i : ℕ). HasRoute a w.kept.routes (found_set w f i) route) e
    (subst (λ (s : List ℕ). HasRoute a w.kept.routes s route) (sym (number-set old w f at (number_at f at) t.sets refl)) t.route_there)

pub tracing-more : {a : Automaton} {old w : Walk} {f : Found} {at route : ℕ} (new : Walk) (number : ℕ) (way : Way) → IsTracing a old w f at route → IsSearch a old f → 0 < at → way ≡ way_at f at → IsMadeFor new a → new.limit ≡ w.limit → new.sets ≡ w.sets
    → HasRoute a new.kept.routes (found_set w f (way_at f at).parent) number → IsTracing a old new f way.parent number
tracing-more {a} {old} {w} {f} {at} new number way t s some e made limit sets h =
    let parent = (way_at f at).parent in
    let earlier : parent < at = (s.steps at some t.within).earlier in
    subst (λ (x : Way). IsTracing a old new f x.parent number) (sym e) (record {
      made = made;
      limit = limit ∙ t.limit;
      sets = sets ∙ t.sets;
      within = omega (arith, earlier, t.within);
      route_there = subst (λ (x : List ℕ). HasRoute a new.kept.routes x number) (number-set old w f parent (number_at f parent) t.sets refl) h;
    })
