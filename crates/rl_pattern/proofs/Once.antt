-- Codes are read in only one way.
use Rattle.std.proofs.Common.{◌≡◌, ◌⊎◌, ℕ, ◌<◌, ◌≤◌, List, length, Some, None, Result, Ok, Err, refl, sym, ap, ◌∙◌, arith}
use Rattle.std.proofs.lemmas.Bool.{cases_order}
use Rattle.std.proofs.lemmas.Option.{same_Some, none-some}
use mathlib.Core.Logic.{inl, inr, ⊎_elim}
use Rattle.rl_ranges.specs.declared.universe.Universe.{Universe}
use Rattle.rl_syntax.specs.declared.feature.Feature.{Feature}
use Rattle.rl_syntax.specs.declared.pattern.Pattern.{Pattern}
use Rattle.rl_pattern.specs.declared.faults.Fault.{Fault}
use Rattle.rl_pattern.specs.declared.flags.Flags.{Flags}
use Rattle.rl_pattern.specs.declared.parsing.PatError.{PatError}
use Rattle.rl_pattern.specs.declared.parsing.PatError.TheVariants as error
use Rattle.rl_pattern.specs.Tree.{Whole}
use Rattle.rl_pattern.specs.Found.{inner, fault, refused}
use Rattle.rl_pattern.specs.Shape.{shape}
use Rattle.rl_pattern.specs.Parsed.{is_text, IsAsked, IsRead, IsSpelled, IsOutside, IsMisspelled, IsTooDeep, IsRefused, IsParsed}
use Rattle.rl_pattern.specs.SameAnswer.{IsSamePattern, IsSameAnswer}
use Rattle.rl_pattern.proofs.Reading.{one_is_spelled}

module _ (flags : Flags) (u : Universe) (w : List ℕ) where
  same_tree : (p q : Whole) → IsRead flags u w p → IsRead flags u w q → p ≡ q
  same_tree p q h k = one_is_spelled flags (is_text u) w p q h.spelled k.spelled

  same_pattern : (found new : Pattern) (p q : Whole) → IsSpelled flags u w found p → IsSpelled flags u w new q → IsSamePattern found new
  same_pattern found new p q h k =
      let e = same_tree p q h.read k.read in
      record {
        body = h.pattern.body ∙ ap (λ t. shape u (inner t).body) e ∙ sym k.pattern.body;
        leading = h.pattern.leading ∙ ap (λ t. (inner t).leading) e ∙ sym k.pattern.leading;
        trailing = h.pattern.trailing ∙ ap (λ t. (inner t).trail) e ∙ sym k.pattern.trailing;
        universe = h.pattern.universe ∙ sym k.pattern.universe;
      }

  -- If something in a tree is refused, it can't be that nothing is.
  not_both : (p q : Whole) (f : Fault) → IsRead flags u w p → IsRead flags u w q → refused flags (is_text u) p ≡ None → refused flags (is_text u) q ≡ Some f → ⊥
  not_both p q f h k none some = none-some f (sym none ∙ ap (refused flags (is_text u)) (same_tree p q h k) ∙ some)

  not_refused : (p : ℕ) (f : Feature) → IsAsked flags u w → IsRefused flags u w p f → ⊥
  not_refused p f h k = none-some f (sym h.allowed ∙ k.refused)

  not_long : IsAsked flags u w → 10000 < length w → ⊥
  not_long h l = omega (arith, h.short, l)

  same_place : (p q : ℕ) (f g : Feature) → p ≡ q → f ≡ g → error.Outside p f ≡ error.Outside q g
  same_place p q f g e d = ap (λ n. error.Outside n f) e ∙ ap (error.Outside q) d

  same_refusal : (p q : ℕ) (f g : Feature) → IsRefused flags u w p f → IsRefused flags u w q g → error.Outside p f ≡ error.Outside q g
  same_refusal p q f g h k = same_place p q f g (h.place ∙ sym k.place) (same_Some f g (sym h.refused ∙ k.refused))

  same_fault : (p q : ℕ) (f g : Feature) (t r : Whole) → IsOutside flags u w p f t → IsOutside flags u w q g r → error.Outside p f ≡ error.Outside q g
  same_fault p q f g t r h k =
      let e = same_Some (fault p f) (fault q g) (sym h.first ∙ ap (refused flags (is_text u)) (same_tree t r h.read k.read) ∙ k.first) in
      same_place p q f g (ap (λ x. x.place) e) (ap (λ x. x.what) e)

  same_depth : (p q : ℕ) → IsTooDeep flags u w p → IsTooDeep flags u w q → error.TooDeep p ≡ error.TooDeep q
  same_depth p q h k = ap error.TooDeep (⊎_elim (λ (e : p ≡ q). e) (λ (d : (p < q) ⊎ (q < p)). ⊎_elim (λ (l : p < q). absurd (k.first p l h.deep)) (λ (l : q < p). absurd (h.first q l k.deep)) d) (cases_order p q))

  same_length : (m n : ℕ) → IsMisspelled flags u w m → IsMisspelled flags u w n → error.Syntax m ≡ error.Syntax n
  same_length m n h k =
      ap error.Syntax (⊎_elim (λ (e : m ≡ n). e) (λ (d : (m < n) ⊎ (n < m)). ⊎_elim (λ (l : m < n). absurd (h.viable.longest n l k.viable.within k.viable.begins)) (λ (l : n < m). absurd (k.viable.longest m l h.viable.within h.viable.begins)) d) (cases_order m n))

  abbrev Once : Result Pattern PatError → Result Pattern PatError → Type 0
  Once r s = (r ≡ Err error.OutOfMemory) ⊎ ((s ≡ Err error.OutOfMemory) ⊎ IsSameAnswer r s)

  outside_once : (p q : ℕ) (f g : Feature) → IsParsed flags u w (Err (error.Outside p f)) → IsParsed flags u w (Err (error.Outside q g)) → error.Outside p f ≡ error.Outside q g
  outside_once p q f g (inl h) (inl k) = same_refusal p q f g h k
  outside_once p q f g (inl h) (inr (t, k)) = absurd (not_refused p f k.read.asked h)
  outside_once p q f g (inr (t, h)) (inl k) = absurd (not_refused q g h.read.asked k)
  outside_once p q f g (inr (t, h)) (inr (r, k)) = same_fault p q f g t r h k

  -- If the codes are too many or the flags refused, nothing is read.
  short_of : (p : ℕ) (f : Feature) → IsParsed flags u w (Err (error.Outside p f)) → length w ≤ 10000
  short_of p f (inl h) = h.short
  short_of p f (inr (t, h)) = h.read.asked.short

  outside_asked : {X : Type 0} (p : ℕ) (f : Feature) → IsParsed flags u w (Err (error.Outside p f)) → IsAsked flags u w → ((t : Whole) → IsOutside flags u w p f t → X) → X
  outside_asked p f (inl h) a g = absurd (not_refused p f a h)
  outside_asked p f (inr (t, h)) a g = g t h

  pub parsed_once : (r s : Result Pattern PatError) → IsParsed flags u w r → IsParsed flags u w s → Once r s
  parsed_once (Err error.OutOfMemory) s h k = inl refl
  parsed_once (Ok p) (Ok q) (t, h) (r, k) = inr (inr (same_pattern p q t r h k))
  parsed_once (Ok p) (Err error.OutOfMemory) h k = inr (inl refl)
  parsed_once (Ok p) (Err error.TooLong) (t, h) k = absurd (not_long h.read.asked k)
  parsed_once (Ok p) (Err (error.Outside q g)) (t, h) k = outside_asked q g k h.read.asked (λ r o. absurd (not_both t r (fault q g) h.read o.read h.allowed o.first))
  parsed_once (Ok p) (Err (error.TooDeep q)) (t, h) k = absurd (h.read.shallow q k.deep)
  parsed_once (Ok p) (Err (error.Syntax n)) (t, h) k = absurd (k.none t h.read.spelled)
  parsed_once (Err error.TooLong) (Ok q) h (r, k) = absurd (not_long k.read.asked h)
  parsed_once (Err error.TooLong) (Err error.OutOfMemory) h k = inr (inl refl)
  parsed_once (Err error.TooLong) (Err error.TooLong) h k = inr (inr refl)
  parsed_once (Err error.TooLong) (Err (error.Outside q g)) h k = let l = short_of q g k in absurd (omega (arith, h, l))
  parsed_once (Err error.TooLong) (Err (error.TooDeep q)) h k = absurd (not_long k.asked h)
  parsed_once (Err error.TooLong) (Err (error.Syntax n)) h k = absurd (not_long k.asked h)
  parsed_once (Err (error.Outside p f)) (Ok q) h (r, k) = outside_asked p f h k.read.asked (λ t o. absurd (not_both r t (fault p f) k.read o.read k.allowed o.first))
  parsed_once (Err (error.Outside p f)) (Err error.OutOfMemory) h k = inr (inl refl)
  parsed_once (Err (error.Outside p f)) (Err error.TooLong) h k = let l = short_of p f h in absurd (omega (arith, k, l))
  parsed_once (Err (error.Outside p f)) (Err (error.Outside q g)) h k = inr (inr (outside_once p q f g h k))
  parsed_once (Err (error.Outside p f)) (Err (error.TooDeep q)) h k = outside_asked p f h k.asked (λ t o. absurd (o.read.shallow q k.deep))
  parsed_once (Err (error.Outside p f)) (Err (error.Syntax n)) h k = outside_asked p f h k.asked (λ t o. absurd (k.none t o.read.spelled))
  parsed_once (Err (error.TooDeep p)) (Ok q) h (r, k) = absurd (k.read.shallow p h.deep)
  parsed_once (Err (error.TooDeep p)) (Err error.OutOfMemory) h k = inr (inl refl)
  parsed_once (Err (error.TooDeep p)) (Err error.TooLong) h k = absurd (not_long h.asked k)
  parsed_once (Err (error.TooDeep p)) (Err (error.Outside q g)) h k = outside_asked q g k h.asked (λ t o. absurd (o.read.shallow p h.deep))
  parsed_once (Err (error.TooDeep p)) (Err (error.TooDeep q)) h k = inr (inr (same_depth p q h k))
  parsed_once (Err (error.TooDeep p)) (Err (error.Syntax n)) h k = absurd (k.shallow p h.deep)
  parsed_once (Err (error.Syntax n)) (Ok q) h (r, k) = absurd (h.none r k.read.spelled)
  parsed_once (Err (error.Syntax n)) (Err error.OutOfMemory) h k = inr (inl refl)
  parsed_once (Err (error.Syntax n)) (Err error.TooLong) h k = absurd (not_long h.asked k)
  parsed_once (Err (error.Syntax n)) (Err (error.Outside q g)) h k = outside_asked q g k h.asked (λ t o. absurd (h.none t o.read.spelled))
  parsed_once (Err (error.Syntax n)) (Err (error.TooDeep q)) h k = absurd (h.shallow q k.deep)
  parsed_once (Err (error.Syntax n)) (Err (error.Syntax m)) h k = inr (inr (same_length n m h k))
