-- Lemmas on looking at one image.
use Rattle.std.proofs.Common.{◌≡◌, ℕ, ◌+◌, ◌<◌, true, false, nat_eq, List, [], ◌∷◌, ◌++◌, length, get_or, refl, sym, ap, ◌∙◌, subst, inl, inr, arith}
use Rattle.std.specs.List.{list_any}
use Rattle.std.proofs.lemmas.Bool.{eqb-true}
use Rattle.std.proofs.lemmas.List.{length_push, get_or_default, get_or_push}
use Rattle.std.proofs.lemmas.List.Folds.{Any-from_list_any}
use Rattle.rl_prio.specs.Automaton.{Automaton, IsAutomaton, letters_count, accepting_state}
use Rattle.rl_sets.specs.declared.life.Life.TheVariants.{Unknown, Live, Dead}
use Rattle.rl_sets.specs.declared.life.Route.{Route}
use Rattle.rl_sets.specs.declared.life.Route.TheVariants.{On}
use Rattle.rl_sets.specs.declared.rests.Way.{Way}
use Rattle.rl_sets.specs.Live.{holds, image, IsLive}
use Rattle.rl_sets.specs.Rests.{IsGrown, HasRoute, IsLife}
use Rattle.rl_sets.specs.Walk.{Walk, set_at, IsMadeFor}
use Rattle.rl_sets.specs.internal.Search.{Found, number_at, found_set, IsSearch, IsLookedAt, IsAdded, Extends, IsImageAt, GoesOn}
use Rattle.rl_sets.proofs.GrowthLemmas.{IsGrown-same, IsGrown-trans}
use Rattle.rl_sets.proofs.LiveLemmas.{accepting-dead, refuses-image}
use Rattle.rl_sets.proofs.RouteLemmas.{HasRoute-more}
use Rattle.rl_sets.proofs.SearchLemmas.{IsSearch-grown, IsLookedAt-grown, IsSearch-pushed, IsLookedAt-extends, IsLookedAt-letter, Extends-refl, Extends-pushed, pushed}

pub place_of : (xs : List ℕ) (n : ℕ) → list_any (nat_eq n) xs ≡ true → (j : ℕ) × (j < length xs) × (get_or xs j 0 ≡ n)
place_of xs n e =
    let h = Any-from_list_any (nat_eq n) xs e in
    (h.0, h.2, get_or_default xs h.0 0 h.1 h.2 ∙ h.3 ∙ sym (eqb-true n h.1 h.4))

-- A found set stays if the sets of the walk stay.
pub GoesOn-same : (a : Automaton) (from : List ℕ) (old new : Walk) (f : Found) → IsSearch a old f → IsGrown a from old.sets new.sets → GoesOn a old new f f
GoesOn-same a from old new f s g = record { search = IsSearch-grown a from old new f s g; extends = Extends-refl f }

pub grown-again : (a : Automaton) (from : List ℕ) (old mid new : List (List ℕ)) → IsGrown a from old mid → new ≡ mid → IsGrown a from old new
grown-again a from old mid new g e = IsGrown-trans a from old mid new g (IsGrown-same a from mid new e)

module _ (a : Automaton) (from : List ℕ) (old w : Walk) (f : Found) (place letter n : ℕ) (s : IsSearch a old f) (g : IsGrown a from old.sets w.sets) (looked : IsLookedAt a old f place letter) (in' : place < length f.numbers) (small : letter < letters_count a)
    (at : IsImageAt a w f place letter n) where
  -- The image refuses no rest.
  pub looked-dead : (IsLive a (set_at w n) → ⊥) → IsLookedAt a w f place (letter + 1)
  looked-dead dead =
      IsLookedAt-letter a w f place letter (IsLookedAt-grown a from old w f s g place letter looked) (inr (λ live. dead (subst (IsLive a) (sym at.is) live)))

  -- The image holds the accepting state.
  pub looked-accepting : holds (set_at w n) (accepting_state a) ≡ true → IsLookedAt a w f place (letter + 1)
  looked-accepting e = looked-dead (accepting-dead a (set_at w n) e)

  -- The image has a route.
  pub route-through : (new : Walk) (r route : ℕ) → IsAutomaton a → HasRoute a w.kept.routes (set_at w n) r → new.sets ≡ w.sets → new.kept.routes ≡ w.kept.routes ++ On letter r ∷ [] → route ≡ length w.kept.routes → HasRoute a new.kept.routes (found_set new f place) route
  route-through new r route is h same routes number =
      let free = (IsSearch-grown a from old w f s g).free place in' in
      let there = HasRoute-more a w.kept.routes (found_set w f place) letter r small (subst (λ (x : List ℕ). HasRoute a w.kept.routes x r) at.is h) (λ word. refuses-image a is (found_set w f place) letter word free) in
      subst (λ (x : List (List ℕ)). HasRoute a new.kept.routes (get_or x (number_at f place) []) route) (sym same)
      (subst (λ (x : List Route). HasRoute a x (found_set w f place) route) (sym routes) (subst (HasRoute a (w.kept.routes ++ On letter r ∷ []) (found_set w f place)) (sym number) there))

  -- The image is found.
  module _ (new : Found) (free : holds (set_at w n) (accepting_state a) ≡ false) (added : IsAdded n (record { parent = place; letter = letter }) f new) where
    way : Way
    way = record { parent = place; letter = letter }

    pub added-goes-on : GoesOn a old w f new
    unfolding way
    added-goes-on =
        let here = IsSearch-grown a from old w f s g in
        elim added [
          | inl same ↦ subst (GoesOn a old w f) (sym same.1) (record { search = here; extends = Extends-refl f })
          | inr more ↦
              subst (GoesOn a old w f) (sym more.1) (record { search = IsSearch-pushed a w f n (record { parent = place; letter = letter }) here in' small at free; extends = Extends-pushed f n (record { parent = place; letter = letter }) })
        ]

    pub added-looked : IsLookedAt a w new place (letter + 1)
    added-looked =
        let there = IsLookedAt-grown a from old w f s g place letter looked in
        elim added [
          | inl same ↦
              let p = place_of f.numbers n same.0 in
              subst (λ (x : Found). IsLookedAt a w x place (letter + 1)) (sym same.1) (IsLookedAt-letter a w f place letter there (inl (p.0, p.1, ap (set_at w) p.2 ∙ at.is)))
          | inr more ↦
              let x : Extends f (pushed f n (record { parent = place; letter = letter })) = Extends-pushed f n (record { parent = place; letter = letter }) in
              let last : number_at (pushed f n (record { parent = place; letter = letter })) (length f.numbers) ≡ n = get_or_push f.numbers n 0 (length f.numbers) refl in
              subst (λ (y : Found). IsLookedAt a w y place (letter + 1)) (sym more.1)
              (IsLookedAt-letter a w (pushed f n (record { parent = place; letter = letter })) place letter (IsLookedAt-extends a w f (pushed f n (record { parent = place; letter = letter })) place letter in' x there)
              (inl (length f.numbers, omega (arith, length_push f.numbers n), ap (set_at w) last ∙ at.is ∙ ap (λ (m : ℕ). image a (set_at w m) letter) (sym (x.same place in')))))
        ]

-- What is noted of a set.
pub life-dead : (a : Automaton) (w : Walk) (n : ℕ) → IsMadeFor w a → n < length w.sets → get_or w.kept.lives n Unknown ≡ Dead → IsLive a (set_at w n) → ⊥
life-dead a w n made lt e = subst (IsLife a w.kept.routes (set_at w n)) e (made.lives n lt)

pub life-live : (a : Automaton) (w : Walk) (n r : ℕ) → IsMadeFor w a → n < length w.sets → get_or w.kept.lives n Unknown ≡ Live r → HasRoute a w.kept.routes (set_at w n) r
life-live a w n r made lt e = subst (IsLife a w.kept.routes (set_at w n)) e (made.lives n lt)
