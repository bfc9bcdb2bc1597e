use Rattle.std.proofs.Common.{Global, Vec, ap, ap₂, arith, drop, false, length, subst, sym, ℕ, ◌&&◌, ◌+◌, ◌<◌, ◌||◌, ◌∙◌, ◌≡◌}
use Rattle.std.proofs.lemmas.Bool.{and_left, and_right}
use Rattle.std.proofs.lemmas.List.{drop_all}
use Rattle.rl_ranges.proofs.SetLemmas.{Above-at, Above-gap, has-nil, last_first_or-nil, left_passes, or-false, right_passes, within-empty}
use Rattle.rl_ranges.specs.Building.{range_at}
use Rattle.rl_ranges.specs.internal.Ordering.{last_first_or}
use Rattle.rl_ranges.specs.Codes.{Above, has, is_between}
use Rattle.rl_ranges.proofs.ranges.both.Goals.{else-first-last, else-loop-i-test, then-first-last+in_ok-append, then-loop-i-test+else-j-right}
use Rattle.rl_ranges.proofs.ranges.both.Goals as goal

pub loop-i-init : goal.loop-i-init
loop-i-init c =
    let start = ap (last_first_or 0) c.new-ranges.ensures.items ∙ last_first_or-nil 0 in
    record {
      left_in = omega arith;
      right_in = omega arith;
      sorted = subst (Above 0) (sym c.new-ranges.ensures.items) tt;
      begins = λ _ _. omega arith;
      members = λ x. sym (ap (λ l. has l x || (has c.args.left.now x && has c.args.right.now x)) c.new-ranges.ensures.items ∙ ap (λ b. b || (has c.args.left.now x && has c.args.right.now x)) (has-nil x));
    }

pub loop-i-preserved-then-left-i : goal.loop-i-preserved-then-left-i
loop-i-preserved-then-left-i c =
    let left = c.args.left.now in
    let right = c.args.right.now in
    let i = c.loop-i.i in
    let j = c.loop-i.j in
    let a = range_at left i in
    let e = range_at right j in
    let inv = c.loop-i.invariant in
    let i_in : i < length left = omega arith in
    let j_in : j < length right = omega arith in
    record {
      left_in = omega arith;
      right_in = inv.right_in;
      sorted = elim c.if-first-last.branch [
        | then-first-last+in_ok-append w ↦ subst (λ (v : Vec (ℕ × ℕ) Global). Above 0 v.items) (sym w.ranges-is) w.in_ok-append.ensures.sorted
        | else-first-last w ↦ subst (λ (v : Vec (ℕ × ℕ) Global). Above 0 v.items) (sym w.ranges-is) inv.sorted
      ];
      begins = λ h k.
          let gap = Above-gap 0 left i (i + 1) c.requires.left (omega arith) h in
          let filled = Above-at 0 left i c.requires.left i_in in
          elim c.if-first-last.branch [
            | then-first-last+in_ok-append w ↦ omega (arith, w.in_ok-append.ensures.begins, ap (λ (v : Vec (ℕ × ℕ) Global). last_first_or 0 v.items) w.ranges-is, c.max-first.ensures)
            | else-first-last w ↦ omega (arith, inv.begins i_in j_in, ap (λ (v : Vec (ℕ × ℕ) Global). last_first_or 0 v.items) w.ranges-is)
          ];
      members = λ x. inv.members x ∙ left_passes left right c.loop-i.ranges.items c.if-first-last.ranges.items i j x c.requires.right i_in j_in c.if-left-i.true (elim c.if-first-last.branch [
        | then-first-last+in_ok-append w ↦ ap (λ (v : Vec (ℕ × ℕ) Global). has v.items x) w.ranges-is ∙ w.in_ok-append.ensures.members x ∙ ap₂ (λ m n. has c.loop-i.ranges.items x || is_between m n x) c.max-first.ensures c.min-last.ensures
        | else-first-last w ↦ ap (λ (v : Vec (ℕ × ℕ) Global). has v.items x) w.ranges-is ∙ within-empty _ _ x _ (omega arith)
      ]);
    }

pub loop-i-preserved : goal.loop-i-preserved
loop-i-preserved c =
    let left = c.args.left.now in
    let right = c.args.right.now in
    let i = c.loop-i.i in
    let j = c.loop-i.j in
    let a = range_at left i in
    let e = range_at right j in
    let inv = c.loop-i.invariant in
    let i_in : i < length left = omega arith in
    let j_in : j < length right = omega arith in
    record {
      left_in = inv.left_in;
      right_in = omega arith;
      sorted = elim c.if-first-last.branch [
        | then-first-last+in_ok-append w ↦ subst (λ (v : Vec (ℕ × ℕ) Global). Above 0 v.items) (sym w.ranges-is) w.in_ok-append.ensures.sorted
        | else-first-last w ↦ subst (λ (v : Vec (ℕ × ℕ) Global). Above 0 v.items) (sym w.ranges-is) inv.sorted
      ];
      begins = λ h k.
          let gap = Above-gap 0 right j (j + 1) c.requires.right (omega arith) k in
          let filled = Above-at 0 right j c.requires.right j_in in
          elim c.if-first-last.branch [
            | then-first-last+in_ok-append w ↦ omega (arith, w.in_ok-append.ensures.begins, ap (λ (v : Vec (ℕ × ℕ) Global). last_first_or 0 v.items) w.ranges-is, c.max-first.ensures)
            | else-first-last w ↦ omega (arith, inv.begins i_in j_in, ap (λ (v : Vec (ℕ × ℕ) Global). last_first_or 0 v.items) w.ranges-is)
          ];
      members = λ x. inv.members x ∙ right_passes left right c.loop-i.ranges.items c.if-first-last.ranges.items i j x c.requires.left i_in j_in (omega (arith, c.if-left-i.false)) (elim c.if-first-last.branch [
        | then-first-last+in_ok-append w ↦ ap (λ (v : Vec (ℕ × ℕ) Global). has v.items x) w.ranges-is ∙ w.in_ok-append.ensures.members x ∙ ap₂ (λ m n. has c.loop-i.ranges.items x || is_between m n x) c.max-first.ensures c.min-last.ensures
        | else-first-last w ↦ ap (λ (v : Vec (ℕ × ℕ) Global). has v.items x) w.ranges-is ∙ within-empty _ _ x _ (omega arith)
      ]);
    }

pub returns-clause-members : goal.returns-clause-members
returns-clause-members c = λ x.
    let none : (has (drop c.loop-i.i c.args.left.now) x && has (drop c.loop-i.j c.args.right.now) x) ≡ false = elim c.loop-i-test.branch [
      | then-loop-i-test+else-j-right w ↦ and_right _ _ (ap (λ l. has l x) (drop_all _ c.args.right.now w.if-j-right.false) ∙ has-nil x)
      | else-loop-i-test w ↦ and_left _ _ (ap (λ l. has l x) (drop_all _ c.args.left.now w.loop-i-test.false) ∙ has-nil x)
    ] in
    sym (c.loop-i.invariant.members x ∙ ap (λ b. has c.loop-i.ranges.items x || b) none ∙ or-false _)
