-- Laws of the walks of a search.
use Rattle.std.proofs.Common.{◌≡◌, ◌∙◌, ℕ, ◌+◌, ◌<◌, ◌≤◌, ◌⊎◌, inl, inr, List, [], ◌∷◌, ◌++◌, length, get_or, Contains, false, eqb, refl, sym, ap, subst, arith}
use Rattle.std.proofs.lemmas.Bool.{or_from, ne_eqb}
use Rattle.std.proofs.lemmas.List.{length_push, get_or_append_left}
use Rattle.std.proofs.lemmas.List.Elements.{Contains-append_left, Contains-get_or}
use Rattle.std.proofs.lemmas.Option.{slice_get_within, get_or_from_slice_get}
use Rattle.rl_syntax.specs.declared.limits.TheConstants.{MOST_SET_PAIRS}
use Rattle.rl_prio.specs.Automaton.{Automaton, accepting_state}
use Rattle.rl_sets.specs.Live.{holds}
use Rattle.rl_sets.specs.Walk.{Walk, set_at, set_of, IsMadeFor}
use Rattle.rl_sets.proofs.SetLemmas.{filter_gap, filter_next}
use Rattle.rl_equiv.specs.internal.Searching.{Gets}
use Rattle.rl_equiv.specs.Sides.{IsSide}

-- The set of the start.
pub start-set : (a : Automaton) → 3 ≤ a.states → set_of a (0 ∷ []) ≡ 0 ∷ []
start-set a three =
    filter_gap (holds (0 ∷ [])) 1 a.states (omega arith) (λ k le lt. or_from (eqb 0 k) false (ne_eqb 0 k (λ e. omega arith)) refl)
    ∙ filter_next (holds (0 ∷ [])) 0 0 (omega arith) (λ k le lt. absurd (omega arith)) refl

module _ (a : Automaton) (old new : Walk) (set : List ℕ) (n : ℕ) (g : Gets a old new set n) where
  pub gets-within : n < length new.sets
  gets-within = slice_get_within new.sets n set g.listed.stands

  pub gets-set : set_at new n ≡ set
  gets-set = get_or_from_slice_get new.sets n set [] g.listed.stands

  pub gets-contains : Contains new.sets set
  gets-contains = subst (Contains new.sets) gets-set (Contains-get_or new.sets n [] gets-within)

  pub gets-longer : length old.sets ≤ length new.sets
  gets-longer = by g.listed.grown
    where
      by : (new.sets ≡ old.sets) ⊎ ((Contains old.sets set → ⊥) × (new.sets ≡ old.sets ++ set ∷ [])) → length old.sets ≤ length new.sets
      by (inl e) = omega (arith, ap length e)
      by (inr m) = omega (arith, ap length m.1, length_push old.sets set)

  pub gets-few : length new.sets ≤ length old.sets + 1
  gets-few = by g.listed.grown
    where
      by : (new.sets ≡ old.sets) ⊎ ((Contains old.sets set → ⊥) × (new.sets ≡ old.sets ++ set ∷ [])) → length new.sets ≤ length old.sets + 1
      by (inl e) = omega (arith, ap length e)
      by (inr m) = omega (arith, ap length m.1, length_push old.sets set)

  pub gets-same : (k : ℕ) → k < length old.sets → set_at new k ≡ set_at old k
  gets-same k lt = by g.listed.grown
    where
      by : (new.sets ≡ old.sets) ⊎ ((Contains old.sets set → ⊥) × (new.sets ≡ old.sets ++ set ∷ [])) → set_at new k ≡ set_at old k
      by (inl e) = ap (λ (l : List (List ℕ)). get_or l k []) e
      by (inr m) = ap (λ (l : List (List ℕ)). get_or l k []) m.1 ∙ get_or_append_left old.sets (set ∷ []) [] k lt

  pub gets-keeps : (s : List ℕ) → Contains old.sets s → Contains new.sets s
  gets-keeps s c = by g.listed.grown
    where
      by : (new.sets ≡ old.sets) ⊎ ((Contains old.sets set → ⊥) × (new.sets ≡ old.sets ++ set ∷ [])) → Contains new.sets s
      by (inl e) = subst (λ (l : List (List ℕ)). Contains l s) (sym e) c
      by (inr m) = subst (λ (l : List (List ℕ)). Contains l s) (sym m.1) (Contains-append_left old.sets (set ∷ []) s c)

  -- If the number was there before, so was the set.
  pub gets-old : n < length old.sets → new.sets ≡ old.sets
  gets-old lt = by g.listed.grown
    where
      by : (new.sets ≡ old.sets) ⊎ ((Contains old.sets set → ⊥) × (new.sets ≡ old.sets ++ set ∷ [])) → new.sets ≡ old.sets
      by (inl e) = e
      by (inr m) = absurd (m.0 (subst (Contains old.sets) (sym (gets-same n lt) ∙ gets-set) (Contains-get_or old.sets n [] lt)))

-- A walk that begins with the two sets that the end letter may lead to.
pub side-begun : (a : Automaton) (w x y : Walk) (k l : ℕ) → w.sets ≡ [] → w.limit ≡ 60000 → Gets a w x (set_of a []) k → Gets a x y (set_of a (accepting_state a ∷ [])) l → IsSide a MOST_SET_PAIRS 0 y
side-begun a w x y k l none is g h = record {
  made = h.made;
  limit_is = h.limit_is ∙ g.limit_is ∙ is;
  room = omega (arith, ap length none, gets-few a w x (set_of a []) k g, gets-few a x y (set_of a (accepting_state a ∷ [])) l h);
  has_none = gets-keeps a x y (set_of a (accepting_state a ∷ [])) l h (set_of a []) (gets-contains a w x (set_of a []) k g);
  has_end = gets-contains a x y (set_of a (accepting_state a ∷ [])) l h;
}

-- One more set pair is found, and the walk has gained at most one set.
pub side-gets : (a : Automaton) (limit count more : ℕ) (old new : Walk) (set : List ℕ) (n : ℕ) → more ≡ count + 1 → IsSide a limit count old → Gets a old new set n → IsSide a limit more new
side-gets a limit count more old new set n e side g = record {
  made = g.made;
  limit_is = g.limit_is ∙ side.limit_is;
  room = omega (arith, gets-few a old new set n g, side.room, e);
  has_none = gets-keeps a old new set n g (set_of a []) side.has_none;
  has_end = gets-keeps a old new set n g (set_of a (accepting_state a ∷ [])) side.has_end;
}

-- No set pair is found, and the walk has the same sets as before.
pub side-stays : (a : Automaton) (limit count : ℕ) (old new : Walk) (set : List ℕ) (n : ℕ) → new.sets ≡ old.sets → IsSide a limit count old → Gets a old new set n → IsSide a limit count new
side-stays a limit count old new set n e side g = record {
  made = g.made;
  limit_is = g.limit_is ∙ side.limit_is;
  room = omega (arith, ap length e, side.room);
  has_none = gets-keeps a old new set n g (set_of a []) side.has_none;
  has_end = gets-keeps a old new set n g (set_of a (accepting_state a ∷ [])) side.has_end;
}

-- A side with room for more set pairs has room for fewer.
pub side-lower : (a : Automaton) (limit most count : ℕ) (w : Walk) → limit ≤ most → IsSide a most count w → IsSide a limit count w
side-lower a limit most count w low side = record {
  made = side.made;
  limit_is = side.limit_is;
  room = omega (arith, low, side.room);
  has_none = side.has_none;
  has_end = side.has_end;
}

-- A side whose walk has the same sets as before.
pub side-same : (a : Automaton) (limit count : ℕ) (v w : Walk) → IsSide a limit count v → IsMadeFor w a → w.limit ≡ v.limit → w.sets ≡ v.sets → IsSide a limit count w
side-same a limit count v w side made e f = record {
  made = made;
  limit_is = e ∙ side.limit_is;
  room = omega (arith, ap length f, side.room);
  has_none = subst (λ (l : List (List ℕ)). Contains l (set_of a [])) (sym f) side.has_none;
  has_end = subst (λ (l : List (List ℕ)). Contains l (set_of a (accepting_state a ∷ []))) (sym f) side.has_end;
}

-- A side may be kept.
pub side-kept : (a : Automaton) (limit count : ℕ) (w : Walk) → IsSide a limit count w → IsSide a 0 1 w
side-kept a limit count w side = record {
  made = side.made;
  limit_is = side.limit_is;
  room = omega (arith, side.made.few, side.limit_is);
  has_none = side.has_none;
  has_end = side.has_end;
}
