use Rattle.std.proofs.Common.{Bool, ap, arith, false, length, max, refl, subst, sym, true, ℕ, ◌-◌, ◌||◌, ◌∙◌, ◌≡◌, ◌≤◌}
use Rattle.std.proofs.lemmas.List.{nil_from_length}
use Rattle.rl_ranges.proofs.SetLemmas.{Above-parts, Above-push, free_from, free_from-nil, free_from-push, front_last, front_new, has-push, last_first_or-push, within_tells}
use Rattle.rl_ranges.specs.internal.Ordering.{last_first_or}
use Rattle.rl_ranges.specs.Codes.{Above, has, is_between}
use Rattle.rl_ranges.proofs.ranges.append.Goals.{else-len-gt0, then-len-gt0+else-saturating_sub-le1}
use Rattle.rl_ranges.proofs.ranges.append.Goals as goal

-- Two ranges that touch hold the same codes as the range that covers both.
hull : (b : Bool) (a e first last m c : ℕ) → a ≤ first → first - e ≤ 1 → a ≤ e → first ≤ last → m ≡ max e last → (b || is_between a m c) ≡ ((b || is_between a e c) || is_between first last c)
hull true a e first last m c p q s t is = refl
hull false a e first last m c p q s t is = grind (arith, within_tells a m c, within_tells a e c, within_tells first last c)

pub returns-then-saturating_sub-le1-clause-sorted : goal.returns-then-saturating_sub-le1-clause-sorted
returns-then-saturating_sub-le1-clause-sorted c =
    let v = c.args.ranges.now in
    let len : c.len-len.result ≡ length v.items = c.len-len.ensures ∙ v.ok.0 in
    let old = front_last v.items _ _ len c.if-len-gt0.true c.index.ensures in
    let parts = Above-parts 0 _ _ (subst (Above 0) old c.requires.sorted) in
    subst (Above 0) (sym (front_new v.items _ (c.index.result.now.0, c.max.result) len c.if-len-gt0.true))
    (Above-push 0 _ _ parts.0 parts.1 (omega (arith, c.max.ensures, parts.2)))

pub returns-then-saturating_sub-le1-clause-members : goal.returns-then-saturating_sub-le1-clause-members
returns-then-saturating_sub-le1-clause-members c =
    let v = c.args.ranges.now in
    let len : c.len-len.result ≡ length v.items = c.len-len.ensures ∙ v.ok.0 in
    let old = front_last v.items _ _ len c.if-len-gt0.true c.index.ensures in
    let parts = Above-parts 0 _ _ (subst (Above 0) old c.requires.sorted) in
    let start = ap (last_first_or 0) old ∙ last_first_or-push 0 _ _ in
    λ x. ap (λ l. has l x) (front_new v.items _ _ len c.if-len-gt0.true) ∙ has-push _ _ x
    ∙ hull _ c.index.result.now.0 c.index.result.now.1 c.args.first c.args.last _ x (omega arith) (omega arith) parts.2 c.requires.filled c.max.ensures
    ∙ ap (λ b. b || is_between c.args.first c.args.last x) (sym (ap (λ l. has l x) old ∙ has-push _ _ x))

pub returns-then-saturating_sub-le1-clause-begins : goal.returns-then-saturating_sub-le1-clause-begins
returns-then-saturating_sub-le1-clause-begins c =
    let v = c.args.ranges.now in
    let len : c.len-len.result ≡ length v.items = c.len-len.ensures ∙ v.ok.0 in
    let old = ap (last_first_or 0) (front_last v.items _ _ len c.if-len-gt0.true c.index.ensures)
    ∙ last_first_or-push 0 _ _ in
    let new = ap (last_first_or 0) (front_new v.items _ (c.index.result.now.0, c.max.result) len c.if-len-gt0.true)
    ∙ last_first_or-push 0 _ _ in
    omega arith

pub returns-clause-sorted : goal.returns-clause-sorted
returns-clause-sorted c =
    let v = c.args.ranges.now in
    let len : c.len-len.result ≡ length v.items = c.len-len.ensures ∙ v.ok.0 in
    let free : free_from 0 v.items ≤ c.args.first = elim c.if-len-gt0.branch [
      | then-len-gt0+else-saturating_sub-le1 w ↦ omega (
        arith,
        ap (free_from 0) (front_last v.items _ _ len w.if-len-gt0.true w.index.ensures) ∙ free_from-push 0 _ _,
      )
      | else-len-gt0 w ↦ omega (arith, ap (free_from 0) (nil_from_length v.items (omega arith)) ∙ free_from-nil 0)
    ] in
    subst (Above 0) (sym c.in_ok-push.ensures.items) (Above-push 0 _ _ c.requires.sorted free c.requires.filled)

pub returns-clause-members : goal.returns-clause-members
returns-clause-members c = λ x. ap (λ l. has l x) c.in_ok-push.ensures.items ∙ has-push _ _ x

pub returns-clause-begins : goal.returns-clause-begins
returns-clause-begins c = omega (arith, ap (last_first_or 0) c.in_ok-push.ensures.items ∙ last_first_or-push 0 _ _)
