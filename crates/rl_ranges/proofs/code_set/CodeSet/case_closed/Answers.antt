use Rattle.std.proofs.Common.{List, ap, ap₂, arith, inl, inr, le_refl, length, lit≤, subst, sym, ℕ, ◌<◌, ◌||◌, ◌∙◌, ◌≡◌, ◌≤◌}
use Rattle.std.proofs.lemmas.Bool.{or_cases}
use Rattle.rl_ranges.proofs.CaseLemmas.{kin_complete, kin_inside, kin_sound}
use Rattle.rl_ranges.proofs.SetLemmas.{Above-at, ComeInOrder-from_Above, has-at, within-true}
use Rattle.rl_ranges.specs.Building.{range_at}
use Rattle.rl_ranges.specs.internal.Ordering.{ComeInOrder}
use Rattle.rl_ranges.specs.Codes.{Above, IsInside, has}
use Rattle.rl_ranges.specs.internal.Images.{has_kin}
use Rattle.rl_ranges.specs.Named.{goes_by_ascii}
use Rattle.rl_ranges.specs.Text.{code_count}
use Rattle.rl_ranges.specs.declared.universe.Universe.{Universe}
use Rattle.rl_ranges.specs.declared.universe.Universe.TheVariants.{Bytes, Str}
use Rattle.rl_ranges.proofs.code_set.CodeSet.case_closed.Goals as goal

-- The last code of a range is in the universe.
last_small : (u : Universe) (ranges held : List (ℕ × ℕ)) (k : ℕ) → Above 0 ranges → IsInside u held → ranges ≡ held → k < length ranges → (range_at ranges k).1 < 4294967295
last_small u ranges held k sorted inside same lt =
    let r = range_at ranges k in
    let filled = Above-at 0 ranges k sorted lt in
    let last = has-at ranges k r.1 lt (within-true r.0 r.1 r.1 filled.1 (le_refl _)) in
    omega (arith, inside r.1 (ap (λ l. has l r.1) (sym same) ∙ last), codes_few u)
  where
    codes_few : (v : Universe) → code_count v ≤ 1114112
    codes_few Str = le_refl _
    codes_few Bytes = lit≤ tt

pub kin-requires : goal.kin-requires
kin-requires c = λ k lt.
    last_small c.args.universe c.as_ranges.result.now c.args.self.now k c.as_ranges.ensures.sorted c.requires c.as_ranges.ensures.value lt

pub either-requires-clause-left : goal.either-requires-clause-left
either-requires-clause-left c = ComeInOrder-from_Above 0 _ c.as_ranges-2.ensures.sorted

pub either-requires-clause-right : goal.either-requires-clause-right
either-requires-clause-right c = subst ComeInOrder (sym c.deref.ensures.value) (ComeInOrder-from_Above 0 _ c.in_ok-others.ensures.sorted)

pub returns-clause-members : goal.returns-clause-members
returns-clause-members c = λ x.
    let ascii = goes_by_ascii c.args.ascii c.args.universe in
    let self = c.args.self.now in
    let is : has c.in_ok-closed.closed x ≡ (has self x || has_kin ascii self x) =
    ap (λ l. has l x) c.in_ok-closed.ensures ∙ c.in_ok-ranges.ensures.members x
    ∙ ap₂ ◌||◌ (ap (λ l. has l x) c.as_ranges-2.ensures.value)
    (ap (λ l. has l x) c.deref.ensures.value ∙ c.in_ok-others.ensures.members x ∙ ap₂ (λ a l. has_kin a l x) c.goes_by_ascii.ensures c.as_ranges.ensures.value) in
    (λ held. kin_sound ascii self x (sym is ∙ held), λ from. is ∙ kin_complete ascii self x from)

pub returns-clause-inside : goal.returns-clause-inside
returns-clause-inside c = λ x held.
    let ascii = goes_by_ascii c.args.ascii c.args.universe in
    let self = c.args.self.now in
    let is : has c.in_ok-closed.closed x ≡ (has self x || has_kin ascii self x) =
    ap (λ l. has l x) c.in_ok-closed.ensures ∙ c.in_ok-ranges.ensures.members x
    ∙ ap₂ ◌||◌ (ap (λ l. has l x) c.as_ranges-2.ensures.value)
    (ap (λ l. has l x) c.deref.ensures.value ∙ c.in_ok-others.ensures.members x ∙ ap₂ (λ a l. has_kin a l x) c.goes_by_ascii.ensures c.as_ranges.ensures.value) in
    elim (or_cases (has self x) (has_kin ascii self x) (sym is ∙ held)) [
      | inl here ↦ c.requires x here
      | inr other ↦ kin_inside c.args.ascii c.args.universe self x other
    ]
