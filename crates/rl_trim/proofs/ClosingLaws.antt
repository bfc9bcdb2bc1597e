-- Laws of the sets that are reached from the start.
use Rattle.std.proofs.Common.{◌≡◌, ◌∙◌, ℕ, ◌+◌, ◌<◌, ◌≤◌, ◌⊎◌, inl, inr, List, [], ◌∷◌, ◌++◌, length, Contains, sym, ap, subst, arith}
use Rattle.std.proofs.lemmas.Bool.{cases_lt}
use Rattle.std.proofs.lemmas.List.{length_push}
use Rattle.rl_prio.specs.Automaton.{Automaton, letters_count}
use Rattle.rl_sets.specs.Live.{image}
use Rattle.rl_sets.specs.Walk.{Walk, set_at, set_of, IsMadeFor, IsListed}
use Rattle.rl_equiv.proofs.SideLaws.{start-set}
use Rattle.rl_trim.specs.Reached.{HasImage, IsClosedTo}
use Rattle.rl_trim.specs.internal.Quick.{IsGrown, IsNumbered}
use Rattle.rl_trim.proofs.SetLaws.{numbered}

-- The start alone.
pub begun : (a : Automaton) (v w : Walk) (n : ℕ) → 3 ≤ a.states → v.sets ≡ [] → IsMadeFor w a → n < length w.sets → IsListed v.sets w.sets (set_of a (0 ∷ [])) n → IsClosedTo a w 0 (length w.sets)
begun a v w n three none made inside listed = record {
  made = made;
  some = omega (arith, inside);
  reached = omega arith;
  few = omega arith;
  start = ap (set_at w) first ∙ (numbered a v w (set_of a (0 ∷ [])) n made inside (omega (arith, ap length none)) listed).is ∙ start-set a three;
  images = λ k letter lt small. absurd (omega arith);
}
  where
    few-sets : (w.sets ≡ v.sets) ⊎ ((Contains v.sets (set_of a (0 ∷ [])) → ⊥) × (w.sets ≡ v.sets ++ set_of a (0 ∷ []) ∷ [])) → length w.sets ≤ 1
    few-sets (inl e) = omega (arith, ap length e, ap length none)
    few-sets (inr m) = omega (arith, ap length m.1, ap length none, length_push v.sets (set_of a (0 ∷ [])))

    first : 0 ≡ n
    first = omega (arith, inside, few-sets listed.grown)

-- The image of a set is that set's in the walk that has grown.
pub image-grown : (a : Automaton) (v w : Walk) (count most k letter : ℕ) → IsGrown a v w → count ≤ length v.sets → count ≤ most → k < length v.sets → HasImage a v count k letter → HasImage a w most k letter
image-grown a v w count most k letter g few more lt h = record {
  number = h.number;
  inside = omega (arith, h.inside);
  is = g.same h.number (omega (arith, h.inside)) ∙ h.is ∙ ap (λ (s : List ℕ). image a s letter) (sym (g.same k lt));
}

pub closed-grown : (a : Automaton) (v w : Walk) (done count most : ℕ) → IsGrown a v w → count ≤ most → most ≤ length w.sets → IsClosedTo a v done count → IsClosedTo a w done most
closed-grown a v w done count most g more few c = record {
  made = g.made;
  some = omega (arith, c.some);
  reached = omega (arith, c.reached);
  few = few;
  start = g.same 0 (omega (arith, c.some, c.few)) ∙ c.start;
  images = λ k letter lt small. image-grown a v w count most k letter g c.few more (omega (arith, c.reached, c.few)) (c.images k letter lt small);
}

-- The walk has grown, and the first sets are as closed as they were.
pub closed-stays : (a : Automaton) (v w : Walk) (done count : ℕ) → IsGrown a v w → IsClosedTo a v done count → IsClosedTo a w done count
closed-stays a v w done count g c = closed-grown a v w done count count g (omega arith) (omega (arith, c.few, g.longer)) c

pub closed-longer : (a : Automaton) (v w : Walk) (done : ℕ) → IsGrown a v w → IsClosedTo a v done (length v.sets) → IsClosedTo a w done (length w.sets)
closed-longer a v w done g c = closed-grown a v w done (length v.sets) (length w.sets) g g.longer (omega arith) c

pub stored-begun : (a : Automaton) (w : Walk) (done count : ℕ) → IsClosedTo a w done count → IsClosedTo a w 0 (length w.sets)
stored-begun a w done count c = record {
  made = c.made;
  some = omega (arith, c.some, c.few);
  reached = omega arith;
  few = omega arith;
  start = c.start;
  images = λ k letter lt small. absurd (omega arith);
}

-- The image of a set that a walk was given.
pub image-found : (a : Automaton) (v w : Walk) (k letter n : ℕ) → k < length v.sets → IsNumbered a v w (image a (set_at v k) letter) n → HasImage a w (length w.sets) k letter
image-found a v w k letter n lt is = record {
  number = n;
  inside = is.inside;
  is = is.is ∙ ap (λ (s : List ℕ). image a s letter) (sym (is.grown.same k lt));
}

-- The images of one set on the first letters.
pub record IsExpanding (a : Automaton) (w : Walk) (set letters : ℕ) : Type 0 where
  pub closed : IsClosedTo a w set (length w.sets)
  pub inside : set < length w.sets
  pub images : (letter : ℕ) → letter < letters → HasImage a w (length w.sets) set letter

pub expanding-start : (a : Automaton) (w : Walk) (set : ℕ) → IsClosedTo a w set (length w.sets) → set < length w.sets → IsExpanding a w set 0
expanding-start a w set c lt = record { closed = c; inside = lt; images = λ letter small. absurd (omega arith) }

pub expanding-more : (a : Automaton) (v w : Walk) (set letters : ℕ) → IsGrown a v w → HasImage a w (length w.sets) set letters → IsExpanding a v set letters → IsExpanding a w set (letters + 1)
expanding-more a v w set letters g here e = record {
  closed = closed-longer a v w set g e.closed;
  inside = omega (arith, e.inside, g.longer);
  images = λ letter small. by letter small (cases_lt letter letters);
}
  where
    by : (letter : ℕ) → letter < letters + 1 → (letter < letters) ⊎ (letters ≤ letter) → HasImage a w (length w.sets) set letter
    by letter small (inl less) = image-grown a v w (length v.sets) (length w.sets) set letter g (omega arith) g.longer e.inside (e.images letter less)
    by letter small (inr more) = let same : letters ≡ letter = omega arith in subst (HasImage a w (length w.sets) set) same here

pub expanding-done : (a : Automaton) (w : Walk) (set letters : ℕ) → letters ≡ letters_count a → IsExpanding a w set letters → IsClosedTo a w (set + 1) (length w.sets)
expanding-done a w set letters all e = record {
  made = e.closed.made;
  some = e.closed.some;
  reached = omega (arith, e.inside);
  few = omega arith;
  start = e.closed.start;
  images = λ k letter lt small. by k letter lt small (cases_lt k set);
}
  where
    by : (k letter : ℕ) → k < set + 1 → letter < letters_count a → (k < set) ⊎ (set ≤ k) → HasImage a w (length w.sets) k letter
    by k letter lt small (inl less) = e.closed.images k letter less small
    by k letter lt small (inr more) = let same : set ≡ k = omega arith in subst (λ (n : ℕ). HasImage a w (length w.sets) n letter) same (e.images letter (omega (arith, all)))
