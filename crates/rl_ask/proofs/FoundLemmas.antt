-- A search from a position on, one position after the other.
use Rattle.std.proofs.Common.{◌≡◌, ◌∙◌, ℕ, zero, suc, ◌+◌, ◌-◌, ◌<◌, ◌≤◌, Bool, true, false, List, length, Option, None, Some, Result, Ok, Err, IfOk, ap, refl, sym, subst, arith, option_map, is_some}
use Rattle.rl_marks.specs.Finds.{Found}
use Rattle.rl_marks.specs.Hits.{Matcher, match_at}
use Rattle.rl_marks.specs.Searches.{Match, begun, search_from, sought}
use Rattle.rl_marks.specs.declared.pattern.MarkedPattern.{MarkedPattern}
use Rattle.rl_spans.specs.Limits.{IsCauseAlone}
use Rattle.rl_spans.specs.declared.error.SpansError.{SpansError}
use Rattle.rl_spans.specs.declared.error.SpansError.TheVariants as error
use Rattle.rl_syntax.specs.declared.pattern.Pattern.{Pattern}
use Rattle.rl_syntax.specs.declared.re.Mode.{Mode}
use Rattle.rl_ask.specs.Finds.{ExceedsAlone, IsFoundOn, IsSight, runs}
use Rattle.rl_ask.specs.Patterns.{IsMarkedAs}
use Rattle.rl_ask.specs.declared.answer.Answer.{Answer}
use Rattle.rl_ask.specs.declared.answer.Limit.{Limit}
use Rattle.rl_ask.specs.declared.answer.Limit.TheVariants as limit
use Rattle.rl_ask.specs.internal.Limits.{limit_named}

module _ {S : Type 0} (f : Match → S) where
  none-there : (i : ℕ) (x : Option Found) (other : Option Match) → option_map f (begun i x None) ≡ None → begun i x other ≡ other
  none-there i None other e = refl
  none-there i (Some x) other e = let never : Some (f (record { start = i; found = x })) ≡ None = e in cc

  some-there : (i : ℕ) (x : Option Found) (other : Option Match) → is_some (option_map f (begun i x None)) ≡ true → begun i x None ≡ begun i x other
  some-there i None other e = let never : false ≡ true = e in cc
  some-there i (Some x) other e = refl

  more : (m : Matcher) (w : List ℕ) (advance : Bool) (i n : ℕ) → length w - i ≡ suc n → search_from m w advance i ≡ begun i (match_at m w advance i) (sought m w n false (suc i))
  more m w advance i n e = ap (λ k. sought m w k advance i) e

  rest : (m : Matcher) (w : List ℕ) (i n : ℕ) → length w - (i + 1) ≡ n → sought m w n false (suc i) ≡ search_from m w false (i + 1)
  rest m w i n e = let same : suc i ≡ i + 1 = omega arith in subst (λ j. sought m w n false j ≡ search_from m w false (i + 1)) (sym same) (ap (λ k. sought m w k false (i + 1)) (sym e))

  is-none : (o : Option S) → is_some o ≡ false → o ≡ None
  is-none None e = refl
  is-none (Some x) e = let never : true ≡ false = e in cc

  pub search-later : (m : Matcher) (w : List ℕ) (advance : Bool) (i : ℕ) (o : Option S) → i < length w → o ≡ option_map f (begun i (match_at m w advance i) None)
      → is_some o ≡ false → search_from m w advance i ≡ search_from m w false (i + 1)
  search-later m w advance i o h e none =
      let n = length w - (i + 1) in
      let left : length w - i ≡ suc n = omega arith in
      more m w advance i n left ∙ none-there i (match_at m w advance i) (sought m w n false (suc i)) (sym e ∙ is-none o none) ∙ rest m w i n refl

  pub search-here : (m : Matcher) (w : List ℕ) (advance : Bool) (i : ℕ) (o : Option S) → i < length w → o ≡ option_map f (begun i (match_at m w advance i) None)
      → is_some o ≡ true → o ≡ option_map f (search_from m w advance i)
  search-here m w advance i o h e some =
      let n = length w - (i + 1) in
      let left : length w - i ≡ suc n = omega arith in
      e ∙ ap (option_map f) (some-there i (match_at m w advance i) (sought m w n false (suc i)) (subst (λ x. is_some x ≡ true) e some) ∙ sym (more m w advance i n left))

  pub search-end : (m : Matcher) (w : List ℕ) (advance : Bool) (i : ℕ) → length w ≤ i → search_from m w advance i ≡ begun i (match_at m w advance i) None
  search-end m w advance i h = let none : length w - i ≡ 0 = omega arith in ap (λ k. sought m w k advance i) none

-- The limit that the error of a run names.
pub alone-named : (m : MarkedPattern) (w : List ℕ) (e : SpansError) (l : Limit) → limit_named e ≡ Some l → IsCauseAlone m w e → ExceedsAlone m w l
alone-named m w error.Size l e h = absurd h
alone-named m w error.Letters l e h = absurd h
alone-named m w error.Moves l e h = let same : limit.Moves ≡ l = cc in subst (ExceedsAlone m w) same h
alone-named m w error.Text l e h = let never : None ≡ Some l = e in cc
alone-named m w error.OutOfMemory l e h = let never : None ≡ Some l = e in cc

-- What is found for a pattern with its groups, on a text that is that of the question.
pub runs-so : {E : Type 0} (r : Result Answer E) (mode : Mode) (advance : Bool) (i : ℕ) (p : Pattern) (m : MarkedPattern) (v w : List ℕ) → v ≡ w
    → IsMarkedAs true p m → IfOk r (IsSight mode m v advance i) → IfOk r (IsFoundOn mode w advance i p)
runs-so (Ok found) mode advance i p m v w same is h = runs is (subst (λ u. IsSight mode m u advance i found) same h)
runs-so (Err e) mode advance i p m v w same is h = tt

pub none-of : {S : Type 0} (o : Option S) → ((x : S) → o ≡ Some x → ⊥) → is_some o ≡ false
none-of None h = refl
none-of (Some x) h = absurd (h x refl)
