use Rattle.std.proofs.Common.{Global, Vec, ap, arith, inl, inr, length, ltb, not, subst, sym, take, ℕ, ◌&&◌, ◌+◌, ◌-◌, ◌<◌, ◌||◌, ◌∙◌}
use Rattle.std.proofs.lemmas.Bool.{and_left, false≢true, le-ltb, lt-ltb, or_cases}
use Rattle.std.proofs.lemmas.List.{take_all}
use Rattle.rl_ranges.proofs.SetLemmas.{Above-at, Above-gap, gap_added, has-at, has-more, has-nil, last_first_or-nil, last_gap_added, or-false, within-true, within_tells}
use Rattle.rl_ranges.specs.Building.{range_at}
use Rattle.rl_ranges.specs.internal.Ordering.{last_first_or}
use Rattle.rl_ranges.specs.Codes.{Above, has, is_between}
use Rattle.rl_ranges.proofs.ranges.gaps.Goals.{else-next-count, else-next-first, then-next-count+in_ok-append-2, then-next-first+in_ok-append}
use Rattle.rl_ranges.proofs.ranges.gaps.Goals as goal

pub loop-first-init : goal.loop-first-init
loop-first-init c = record {
  sorted = subst (Above 0) (sym c.new-ranges.ensures.items) tt;
  begins = omega (arith, ap (last_first_or 0) c.new-ranges.ensures.items ∙ last_first_or-nil 0);
  next_in = omega arith;
  behind = λ x held. absurd (false≢true (sym (has-nil x) ∙ held));
  below = λ _. omega arith;
  members = λ x. ap (λ l. has l x) c.new-ranges.ensures.items ∙ has-nil x ∙ sym (and_left _ _ (le-ltb x 0 (omega arith)));
}

pub overflow_add-next : goal.overflow_add-next
overflow_add-next c =
    let held = c.args.held.now in
    let i = c.loop-first.first-index in
    let r = range_at held i in
    let filled = Above-at 0 held i c.requires.held c.loop-first-test.true in
    let last_in = c.requires.inside r.1 (has-at held i r.1 c.loop-first-test.true (within-true r.0 r.1 r.1 filled.1 (omega arith))) in
    omega arith

pub loop-first-preserved : goal.loop-first-preserved
loop-first-preserved c =
    let held = c.args.held.now in
    let i = c.loop-first.first-index in
    let r = range_at held i in
    let i_in : i < length held = c.loop-first-test.true in
    let inv = c.loop-first.invariant in
    let filled = Above-at 0 held i c.requires.held i_in in
    let last_in = c.requires.inside r.1 (has-at held i r.1 i_in (within-true r.0 r.1 r.1 filled.1 (omega arith))) in
    let below = inv.below i_in in
    record {
      sorted = elim c.if-next-first.branch [
        | then-next-first+in_ok-append w ↦ subst (λ (v : Vec (ℕ × ℕ) Global). Above 0 v.items) (sym w.ranges-is) w.in_ok-append.ensures.sorted
        | else-next-first w ↦ subst (λ (v : Vec (ℕ × ℕ) Global). Above 0 v.items) (sym w.ranges-is) inv.sorted
      ];
      begins = elim c.if-next-first.branch [
        | then-next-first+in_ok-append w ↦ omega (arith, w.in_ok-append.ensures.begins, ap (λ (v : Vec (ℕ × ℕ) Global). last_first_or 0 v.items) w.ranges-is)
        | else-next-first w ↦ omega (arith, inv.begins, ap (λ (v : Vec (ℕ × ℕ) Global). last_first_or 0 v.items) w.ranges-is)
      ];
      next_in = omega arith;
      behind = λ x h.
          elim (or_cases _ _ (sym (has-more held i x i_in) ∙ h)) [
            | inl before ↦ omega (arith, inv.behind x before)
            | inr here ↦ grind (arith, within_tells r.0 r.1 x)
          ];
      below = λ h. omega (arith, Above-gap 0 held i (i + 1) c.requires.held (omega arith) h);
      members = λ x. (elim c.if-next-first.branch [
        | then-next-first+in_ok-append w ↦ ap (λ (v : Vec (ℕ × ℕ) Global). has v.items x) w.ranges-is ∙ w.in_ok-append.ensures.members x
            ∙ ap (λ b. has c.loop-first.ranges.items x || b) (sym (ap (λ b. b && is_between c.loop-first.next (r.0 - 1) x) (lt-ltb _ _ w.if-next-first.true)))
        | else-next-first w ↦ ap (λ (v : Vec (ℕ × ℕ) Global). has v.items x) w.ranges-is ∙ sym (ap (λ b. has c.loop-first.ranges.items x || b) (and_left _ _ (le-ltb _ _ w.if-next-first.false)) ∙ or-false _)
      ]) ∙ gap_added c.loop-first.next r.0 r.1 x (has c.loop-first.ranges.items x) (has (take i held) x) below filled.1 (inv.members x) (inv.behind x)
          ∙ ap (λ b. ltb x (r.1 + 1) && not b) (sym (has-more held i x i_in));
    }

pub returns-clause-members : goal.returns-clause-members
returns-clause-members c = λ x.
    let held = c.args.held.now in
    let inv = c.loop-first.invariant in
    let all = take_all _ held c.loop-first-test.false in
    (elim c.if-next-count.branch [
      | then-next-count+in_ok-append-2 w ↦ ap (λ (v : Vec (ℕ × ℕ) Global). has v.items x) w.ranges-is ∙ w.in_ok-append-2.ensures.members x
          ∙ ap (λ b. has c.loop-first.ranges.items x || b) (sym (ap (λ b. b && is_between c.loop-first.next (c.args.count - 1) x) (lt-ltb _ _ w.if-next-count.true)))
      | else-next-count w ↦ ap (λ (v : Vec (ℕ × ℕ) Global). has v.items x) w.ranges-is ∙ sym (ap (λ b. has c.loop-first.ranges.items x || b) (and_left _ _ (le-ltb _ _ w.if-next-count.false)) ∙ or-false _)
    ]) ∙ last_gap_added c.loop-first.next c.args.count x (has c.loop-first.ranges.items x) (has (take c.loop-first.first-index held) x) inv.next_in (inv.members x) (inv.behind x)
    ∙ ap (λ l. ltb x c.args.count && not (has l x)) all
