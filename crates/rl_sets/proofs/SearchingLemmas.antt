-- Lemmas on the whole search from one set.
use Rattle.std.proofs.Common.{◌≡◌, ℕ, ◌+◌, ◌<◌, ◌≤◌, false, eqb, List, [], ◌∷◌, length, refl, sym, ap, ◌∙◌, subst, inl, arith}
use Rattle.std.specs.List.{IsDistinct}
use Rattle.std.proofs.lemmas.Map.Steps.{length-le_from_distinct_below}
use Rattle.rl_prio.specs.Automaton.{Automaton, IsAutomaton, accepting_state}
use Rattle.rl_sets.specs.Live.{holds, IsLive}
use Rattle.rl_sets.specs.Rests.{IsGrown, IsOver}
use Rattle.rl_sets.specs.Walk.{Walk, set_at, IsMadeFor}
use Rattle.rl_sets.specs.internal.Search.{Found, number_at, found_set, root_way, IsSearch, IsLookedAt, GoesOn}
use Rattle.rl_sets.proofs.GrowthLemmas.{IsGrown-same, IsGrown-trans, IsOver-grown, set-kept}
use Rattle.rl_sets.proofs.SearchLemmas.{IsSearch-start, IsLookedAt-start, all-looked}
use Rattle.rl_sets.proofs.VisitLemmas.{place_of}

-- The state of the search from a set, before the set at the place `k`.
pub record IsSearching (a : Automaton) (old w : Walk) (set : ℕ) (f : Found) (k : ℕ) : Type 0 where
  pub made : IsMadeFor w a
  pub limit : w.limit ≡ old.limit
  pub grown : IsGrown a (set_at old set) old.sets w.sets
  pub search : IsSearch a w f
  pub looked : IsLookedAt a w f k 0
  pub root : found_set w f 0 ≡ set_at old set

pub searching-start : (a : Automaton) (old : Walk) (set : ℕ) (f : Found) → IsMadeFor old a → set < length old.sets → holds (set_at old set) (accepting_state a) ≡ false → f ≡ record { numbers = set ∷ []; ways = root_way ∷ [] } → IsSearching a old old set f 0
searching-start a old set f made in' free e =
    subst (λ (x : Found). IsSearching a old old set x 0) (sym e) (record {
      made = made;
      limit = refl;
      grown = IsGrown-same a (set_at old set) old.sets old.sets refl;
      search = IsSearch-start a old set in' free;
      looked = IsLookedAt-start a old (record { numbers = set ∷ []; ways = root_way ∷ [] });
      root = refl;
    })

module _ (a : Automaton) (old w new : Walk) (set : ℕ) (f : Found) (k : ℕ) (s : IsSearching a old w set f k) where
  pub searching-grown : IsGrown a (found_set w f 0) w.sets new.sets → IsGrown a (set_at old set) old.sets new.sets
  searching-grown g = IsGrown-trans a (set_at old set) old.sets w.sets new.sets s.grown (subst (λ (r : List ℕ). IsGrown a r w.sets new.sets) s.root g)

  pub searching-over : IsOver a (found_set w f 0) w.sets w.limit → IsOver a (set_at old set) old.sets old.limit
  searching-over over =
      subst (IsOver a (set_at old set) old.sets) s.limit (IsOver-grown a (set_at old set) old.sets w.sets w.limit s.grown (subst (λ (r : List ℕ). IsOver a r w.sets w.limit) s.root over))

  pub root-again : (h : Found) → IsGrown a (found_set w f 0) w.sets new.sets → GoesOn a w new f h → found_set new h 0 ≡ set_at old set
  root-again h g goes = ap (set_at new) (goes.extends.same 0 s.search.some) ∙ set-kept (number_at f 0) g (s.search.within 0 s.search.some) ∙ s.root

  pub searching-more : (h : Found) → IsMadeFor new a → new.limit ≡ w.limit → IsGrown a (found_set w f 0) w.sets new.sets → GoesOn a w new f h → IsLookedAt a new h (k + 1) 0 → IsSearching a old new set h (k + 1)
  searching-more h made limit g goes looked = record {
    made = made;
    limit = limit ∙ s.limit;
    grown = searching-grown g;
    search = goes.search;
    looked = looked;
    root = root-again h g goes;
  }

  -- The found sets are different ones of the walk.
  pub searching-few : IsDistinct eqb f.numbers → length f.numbers ≤ old.limit
  searching-few apart =
      omega (arith, length-le_from_distinct_below f.numbers (length w.sets) apart (λ q e. let p = place_of f.numbers q e in subst (λ (n : ℕ). n < length w.sets) p.2 (s.search.within p.0 p.1)), s.made.few, s.limit)

  pub searching-done : length f.numbers ≤ k → IsLookedAt a w f (length f.numbers) 0
  searching-done all = record {
    ended = λ i less lt. s.looked.ended i (omega arith) lt;
    covered = λ i l past lt small. s.looked.covered i l (inl (omega arith)) lt small;
  }

  pub searching-dead : IsAutomaton a → length f.numbers ≤ k → IsLive a (set_at old set) → ⊥
  searching-dead is all live = all-looked a w f k is s.search all s.looked 0 s.search.some (subst (IsLive a) (sym s.root) live)
