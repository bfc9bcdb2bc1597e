-- What the machine reads to the end, step by step.
use Rattle.std.proofs.Common.{◌≡◌, ℕ, zero, suc, Bool, true, false, List, [], ◌∷◌, Option, Some, None, refl, sym, ap, ◌∙◌, ◌==◌, drop, slice_get, true≢false}
use Rattle.std.proofs.lemmas.Bool.{ne_eqb}
use Rattle.std.proofs.lemmas.Option.{same_Some}
use Rattle.rl_pattern.specs.Tree.{glyph, SyntaxNode, Count, greedy, Escaped}
use Rattle.rl_pattern.specs.Codes.{sign, TokenClass}
use Rattle.rl_pattern.specs.Grammar.{At}
use Rattle.rl_pattern.specs.internal.Machine.{State, Base, at, between, line, in_braces, counted, in_escape, in_class, set_open, InEscape, Set, escape_rest, no_count, put_repeat, put_leaf, step_at, observe, by_sign}

drop_some : (w : List ℕ) (i c : ℕ) → slice_get w i ≡ Some c → drop i w ≡ c ∷ drop (suc i) w
drop_some [] i c h = absurd (cc h)
drop_some (x ∷ w) zero c h = ap (λ y. y ∷ w) (same_Some x c h)
drop_some (x ∷ w) (suc i) c h = drop_some w i c h

drop_none : (w : List ℕ) (i : ℕ) → slice_get w i ≡ None → drop i w ≡ []
drop_none [] zero h = refl
drop_none [] (suc i) h = refl
drop_none (x ∷ w) zero h = absurd (cc h)
drop_none (x ∷ w) (suc i) h = drop_none w i h

-- A code for which a test fails isn't one for which it holds.
pub differs : (f : ℕ → Bool) (k c : ℕ) → f k ≡ false → f c ≡ true → (c == k) ≡ false
differs f k c no_k yes_c = ne_eqb c k (λ e. true≢false (sym yes_c ∙ ap f e ∙ no_k))

-- A question whose answer doesn't depend on whether something pending is settled by the end or by the next code.
pub record Fair {X : Type 0} (ask : ℕ → State → Option X) : Type 0 where
  pub at_line : (k : ℕ) (b : Base) → ask k (at b line) ≡ ask k (at b between)
  pub at_braces : (k : ℕ) (b : Base) (a : ℕ) (t : List ℕ) → ask k (at b (in_braces a t)) ≡ ask k (at (no_count b a t) between)
  pub at_counted : (k : ℕ) (b : Base) (a : ℕ) (p : SyntaxNode) (q : ℕ) (n : Count) → ask k (at b (counted a p q n)) ≡ ask k (at (put_repeat b a p q k n greedy) between)
  pub at_escape : (k : ℕ) (b : Base) (a : ℕ) (x : InEscape) (e : Escaped) → escape_rest x ≡ Some e → ask k (at b (in_escape a x)) ≡ ask k (at (put_leaf b a k (glyph e)) between)
  pub at_open : (k : ℕ) (b : Base) (a : ℕ) → ask k (at b (set_open a)) ≡ None
  pub at_class : (k : ℕ) (b : Base) (a : ℕ) (inverse : Bool) (s : Set) → ask k (at b (in_class a inverse s)) ≡ None

module _ (text : Bool) (w : List ℕ) {X : Type 0} (ask : ℕ → State → Option X) where
  -- What is read from `i` on.
  unfoldable pub reads_from : ℕ → State → Option X
  reads_from i s = observe text ask i (Some s) (drop i w)

  pub goes_to : (i c : ℕ) (s r : State) → At text w i c → step_at text i s c ≡ Some r → reads_from i s ≡ reads_from (suc i) r
  unfolding reads_from
  goes_to i c s r h e = ap (observe text ask i (Some s)) (drop_some w i c h) ∙ ap (λ o. observe text ask (suc i) o (drop (suc i) w)) e

  pub same_step : (i c : ℕ) (s r : State) → At text w i c → step_at text i s c ≡ step_at text i r c → reads_from i s ≡ reads_from i r
  unfolding reads_from
  same_step i c s r h e =
      ap (observe text ask i (Some s)) (drop_some w i c h) ∙ ap (λ o. observe text ask (suc i) o (drop (suc i) w)) e ∙ sym (ap (observe text ask i (Some r)) (drop_some w i c h))

  pub same_end : (i : ℕ) (s r : State) → slice_get w i ≡ None → ask i s ≡ ask i r → reads_from i s ≡ reads_from i r
  unfolding reads_from
  same_end i s r h e =
      ap (observe text ask i (Some s)) (drop_none w i h) ∙ e ∙ sym (ap (observe text ask i (Some r)) (drop_none w i h))

  -- Two states that do the same with whatever comes next, including the end.
  pub alike : (i : ℕ) (s r : State) → ask i s ≡ ask i r → ((c : ℕ) → At text w i c → reads_from i s ≡ reads_from i r) → reads_from i s ≡ reads_from i r
  alike i s r e f = go (slice_get w i) refl
    where
      go : (o : Option ℕ) → slice_get w i ≡ o → reads_from i s ≡ reads_from i r
      go None h = same_end i s r h e
      go (Some c) h = f c h

  pub alike_steps : (i : ℕ) (s r : State) → ask i s ≡ ask i r → ((c : ℕ) → At text w i c → step_at text i s c ≡ step_at text i r c) → reads_from i s ≡ reads_from i r
  alike_steps i s r e f = alike i s r e (λ c h. same_step i c s r h (f c h))

  pub sign_goes : (i c : ℕ) (b : Base) (g : TokenClass) (r : State) → At text w i c → sign c ≡ g → by_sign i b c g ≡ Some r → reads_from i (at b between) ≡ reads_from (suc i) r
  sign_goes i c b g r h e st = goes_to i c (at b between) r h (ap (by_sign i b c) e ∙ st)

-- Two codes at the same position.
pub same_code : (w : List ℕ) (i c d : ℕ) → slice_get w i ≡ Some c → slice_get w i ≡ Some d → c ≡ d
same_code w i c d h k = same_Some c d (sym h ∙ k)
