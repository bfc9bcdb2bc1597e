-- Laws of the numbers of sets without the states that aren't kept.
use Rattle.std.proofs.Common.{◌≡◌, ◌∙◌, ℕ, ◌<◌, ◌⊎◌, inl, inr, List, [], length, get_or, Bool, Option, None, Some, sym, ap, subst, arith}
use Rattle.std.proofs.lemmas.Option.{none-some}
use Rattle.rl_prio.specs.Automaton.{Automaton}
use Rattle.rl_sets.specs.Walk.{Walk, set_at, IsMadeFor}
use Rattle.rl_trim.specs.declared.branch.Trims.{Trims}
use Rattle.rl_trim.specs.internal.Trims.{trimmed}
use Rattle.rl_trim.specs.internal.Quick.{IsGrown, IsNumbered, IsTrim, AreTrims}
use Rattle.rl_trim.proofs.SetLaws.{numbered-here}

pub trims-none : (keep : List Bool) (w : Walk) (t : Trims) → t.numbers.items ≡ [] → AreTrims keep w t
trims-none keep w t e k n is = absurd (none-some n (sym (ap (λ (l : List (Option ℕ)). get_or l k None) e) ∙ is))

pub trims-grown : (a : Automaton) (keep : List Bool) (v w : Walk) (t : Trims) → IsGrown a v w → AreTrims keep v t → AreTrims keep w t
trims-grown a keep v w t g are k n e =
    let here = are k n e in
    record {
      set_in = omega (arith, here.set_in, g.longer);
      inside = omega (arith, here.inside, g.longer);
      is = g.same n here.inside ∙ here.is ∙ ap (trimmed keep) (sym (g.same k here.set_in));
    }

-- A number that was noted.
pub trims-known : (a : Automaton) (keep : List Bool) (w : Walk) (t : Trims) (set n : ℕ) → IsMadeFor w a → get_or t.numbers.items set None ≡ Some n → AreTrims keep w t → IsNumbered a w w (trimmed keep (set_at w set)) n
trims-known a keep w t set n made e are = let here = are set n e in numbered-here a w (trimmed keep (set_at w set)) n made here.inside here.is

-- One more number.
pub trims-noted : (a : Automaton) (keep : List Bool) (v w : Walk) (t more : Trims) (set number : ℕ) → set < length v.sets → IsNumbered a v w (trimmed keep (set_at v set)) number
    → ((k n : ℕ) → get_or more.numbers.items k None ≡ Some n → (get_or t.numbers.items k None ≡ Some n) ⊎ ((k ≡ set) × (n ≡ number))) → AreTrims keep v t → AreTrims keep w more
trims-noted a keep v w t more set number lt new step are k n e = by (step k n e)
  where
    last : IsTrim keep w set number
    last = record {
      set_in = omega (arith, lt, new.grown.longer);
      inside = new.inside;
      is = new.is ∙ ap (trimmed keep) (sym (new.grown.same set lt));
    }

    by : (get_or t.numbers.items k None ≡ Some n) ⊎ ((k ≡ set) × (n ≡ number)) → IsTrim keep w k n
    by (inl before) = trims-grown a keep v w t new.grown are k n before
    by (inr here) = subst (λ (m : ℕ). IsTrim keep w k m) (sym here.1) (subst (λ (j : ℕ). IsTrim keep w j number) (sym here.0) last)
