-- Lemmas on routes, and on what is known of sets.
use Rattle.std.proofs.Common.{◌≡◌, ℕ, ◌<◌, ◌≤◌, true, List, [], ◌∷◌, ◌++◌, length, get_or, set, slice_get, Some, refl, sym, ap, ◌∙◌, subst, inl, inr}
use Rattle.std.proofs.lemmas.Bool.{cases_eq}
use Rattle.std.proofs.lemmas.List.{get_or-set_same, get_or-set_other}
use Rattle.std.proofs.lemmas.Option.{slice_get_within}
use Rattle.rl_prio.specs.Automaton.{Automaton, letters_count}
use Rattle.rl_sets.specs.declared.life.Life.{Life}
use Rattle.rl_sets.specs.declared.life.Life.TheVariants.{Unknown, Live, Dead}
use Rattle.rl_sets.specs.declared.life.Route.{Route}
use Rattle.rl_sets.specs.declared.life.Route.TheVariants.{End, On}
use Rattle.rl_sets.specs.Live.{image, refuses}
use Rattle.rl_sets.specs.Rests.{Routed, last, more, HasRoute, IsLife}
use Rattle.rl_sets.proofs.WalkLemmas.{get_kept}
use Rattle.rl_sets.specs.Walk.{Walk, set_at, IsMadeFor}

-- The word of a route at the end, and of one that goes on.
pub at-end : {end : ℕ} {routes : List Route} {r : ℕ} {word : List ℕ} → Routed end routes r word → slice_get routes r ≡ Some End → word ≡ end ∷ []
at-end (last e) at = refl
at-end (more letter e lt rest) at = cc

pub record GoesOn (end : ℕ) (routes : List Route) (r letter next : ℕ) (word : List ℕ) : Type 0 where
  pub rest : List ℕ
  pub is : word ≡ letter ∷ rest
  pub less : next < r
  pub routed : Routed end routes next rest

pub at-on : {end : ℕ} {routes : List Route} {r : ℕ} {word : List ℕ} (letter next : ℕ) → Routed end routes r word → slice_get routes r ≡ Some (On letter next) → GoesOn end routes r letter next word
at-on letter next (last e) at = cc
at-on {end} {routes} {r} letter next (more {next = n} {word = w} l e lt rest) at =
    let same : Some (On l n) ≡ Some (On letter next) = sym e ∙ at in
    let same_letter : l ≡ letter = cc in
    let same_next : n ≡ next = cc in
    record {
      rest = w;
      is = ap (λ k. k ∷ w) same_letter;
      less = subst (λ k. k < r) same_next lt;
      routed = subst (λ k. Routed end routes k w) same_next rest;
    }

pub routed-within : {end : ℕ} {routes : List Route} {r : ℕ} {word : List ℕ} → Routed end routes r word → r < length routes
routed-within {routes = routes} {r = r} (last e) = slice_get_within routes r End e
routed-within {routes = routes} {r = r} (more {next = n} letter e lt rest) = slice_get_within routes r (On letter n) e

-- A route stays when others are appended.
get_last : {X : Type 0} (xs : List X) (x : X) → slice_get (xs ++ x ∷ []) (length xs) ≡ Some x
get_last [] x = refl
get_last (y ∷ xs) x = get_last xs x

routed-kept : {end : ℕ} {routes : List Route} {r : ℕ} {word : List ℕ} (others : List Route) → Routed end routes r word → Routed end (routes ++ others) r word
routed-kept {routes = routes} {r = r} others (last e) = last (get_kept routes others r End e)
routed-kept {routes = routes} {r = r} others (more {next = n} letter e lt rest) = more letter (get_kept routes others r (On letter n) e) lt (routed-kept others rest)

pub HasRoute-kept : (a : Automaton) (routes others : List Route) (set : List ℕ) (r : ℕ) → HasRoute a routes set r → HasRoute a (routes ++ others) set r
HasRoute-kept a routes others set r h = (h.0, routed-kept others h.1, h.2, h.3)

pub IsLife-kept : (a : Automaton) (routes others : List Route) (set : List ℕ) (life : Life) → IsLife a routes set life → IsLife a (routes ++ others) set life
IsLife-kept a routes others set Unknown h = h
IsLife-kept a routes others set (Live r) h = HasRoute-kept a routes others set r h
IsLife-kept a routes others set Dead h = h

-- The walk with one more route.
pub IsMadeFor-route : (w : Walk) (a : Automaton) (x : Route) → IsMadeFor w a → IsMadeFor (record { sets = w.sets; limit = w.limit; kept = record { states = w.kept.states; split = w.kept.split; images = w.kept.images; routes = w.kept.routes ++ x ∷ []; lives = w.kept.lives } }) a
IsMadeFor-route w a x made = record {
  sets = made.sets;
  apart = made.apart;
  few = made.few;
  low = made.low;
  states = made.states;
  split = made.split;
  few_images = made.few_images;
  images = made.images;
  first_route = get_kept w.kept.routes (x ∷ []) 0 End made.first_route;
  few_lives = made.few_lives;
  lives = λ n lt. IsLife-kept a w.kept.routes (x ∷ []) (set_at w n) (get_or w.kept.lives n Unknown) (made.lives n lt);
}

-- The walk with other notes.
pub IsMadeFor-lives : (w : Walk) (a : Automaton) (lives : List Life) → IsMadeFor w a → length lives ≤ length w.sets → ((n : ℕ) → n < length w.sets → IsLife a w.kept.routes (set_at w n) (get_or lives n Unknown)) → IsMadeFor (record { sets = w.sets; limit = w.limit; kept = record { states = w.kept.states; split = w.kept.split; images = w.kept.images; routes = w.kept.routes; lives = lives } }) a
IsMadeFor-lives w a lives made few each = record {
  sets = made.sets;
  apart = made.apart;
  few = made.few;
  low = made.low;
  states = made.states;
  split = made.split;
  few_images = made.few_images;
  images = made.images;
  first_route = made.first_route;
  few_lives = few;
  lives = each;
}

-- One more note.
pub lives-noted : (w : Walk) (a : Automaton) (longer : List Life) (k : ℕ) (life : Life) → IsMadeFor w a → ((n : ℕ) → get_or longer n Unknown ≡ get_or w.kept.lives n Unknown) → k < length longer → IsLife a w.kept.routes (set_at w k) life → (n : ℕ) → n < length w.sets → IsLife a w.kept.routes (set_at w n) (get_or (set longer k life) n Unknown)
lives-noted w a longer k life made same lt is n below =
    elim (cases_eq n k) [
      | inl here ↦
          subst (λ (m : ℕ). IsLife a w.kept.routes (set_at w m) (get_or (set longer k life) m Unknown)) (sym here) (subst (IsLife a w.kept.routes (set_at w k)) (sym (get_or-set_same longer k life Unknown lt)) is)
      | inr other ↦ subst (IsLife a w.kept.routes (set_at w n)) (sym (get_or-set_other longer k n life Unknown other ∙ same n)) (made.lives n below)
    ]

-- A route through a letter.
pub HasRoute-more : (a : Automaton) (routes : List Route) (set : List ℕ) (letter next : ℕ) → letter < letters_count a → HasRoute a routes (image a set letter) next → ((word : List ℕ) → refuses a set (letter ∷ word) ≡ refuses a (image a set letter) word)
    → HasRoute a (routes ++ On letter next ∷ []) set (length routes)
HasRoute-more a routes set letter next small h back = (
  letter ∷ h.0,
  more letter (get_last routes (On letter next)) (routed-within h.1) (routed-kept (On letter next ∷ []) h.1),
  inr (small, h.2),
  back h.0 ∙ h.3,
)

pub HasRoute-end : (a : Automaton) (routes : List Route) (set : List ℕ) → slice_get routes 0 ≡ Some End → refuses a set (letters_count a ∷ []) ≡ true → HasRoute a routes set 0
HasRoute-end a routes set first refused = (letters_count a ∷ [], last first, inl (refl, refl), refused)
