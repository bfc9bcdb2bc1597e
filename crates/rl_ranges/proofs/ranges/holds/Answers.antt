use Rattle.std.proofs.Common.{ap, arith, inl, inr, length, sym, ◌+◌, ◌-◌, ◌/◌, ◌<◌, ◌≡◌}
use Rattle.std.proofs.lemmas.Bool.{cases_lt}
use Rattle.rl_ranges.proofs.SetLemmas.{Above-at, Above-gap, has-at, has-outside, within-true}
use Rattle.rl_ranges.specs.Building.{range_at}
use Rattle.rl_ranges.proofs.ranges.holds.Goals as goal

pub loop-low-preserved-then-code-first : goal.loop-low-preserved-then-code-first
loop-low-preserved-then-code-first c =
    let rs = c.args.ranges.now in
    let inv = c.loop-low.invariant in
    let m = c.loop-low.low + (c.loop-low.high - c.loop-low.low) / 2 in
    record {
      high_in = omega (arith, inv.high_in, c.loop-low-test.true);
      before = inv.before;
      after = λ k mk k_in. elim (cases_lt m k) [
        | inl more ↦
            let gap = Above-gap 0 rs m k c.requires more k_in in
            let filled = Above-at 0 rs m c.requires (omega arith) in
            omega (arith, c.if-code-first.true)
        | inr here ↦ let at : m ≡ k = omega arith in omega (arith, c.if-code-first.true, ap (λ i. (range_at rs i).0) at)
      ];
    }

pub returns-then-code-last : goal.returns-then-code-last
returns-then-code-last c =
    let rs = c.args.ranges.now in
    let m = c.loop-low.low + (c.loop-low.high - c.loop-low.low) / 2 in
    sym (has-at rs m c.args.code (omega (arith, c.loop-low.invariant.high_in, c.loop-low-test.true)) (within-true _ _ _ c.if-code-first.false c.if-code-last.true))

pub loop-low-preserved : goal.loop-low-preserved
loop-low-preserved c =
    let rs = c.args.ranges.now in
    let inv = c.loop-low.invariant in
    let m = c.loop-low.low + (c.loop-low.high - c.loop-low.low) / 2 in
    let m_in : m < length rs = omega (arith, inv.high_in, c.loop-low-test.true) in
    record {
      high_in = inv.high_in;
      before = λ k km. elim (cases_lt k m) [
        | inl less ↦
            let gap = Above-gap 0 rs k m c.requires less m_in in
            let filled = Above-at 0 rs m c.requires m_in in
            omega (arith, c.if-code-last.false)
        | inr here ↦ let at : m ≡ k = omega arith in omega (arith, c.if-code-last.false, ap (λ i. (range_at rs i).1) at)
      ];
      after = inv.after;
    }

pub returns : goal.returns
returns c = sym (has-outside c.args.ranges.now c.args.code (λ k k_in. elim (cases_lt k c.loop-low.low) [
  | inl less ↦ inr (c.loop-low.invariant.before k less)
  | inr more ↦ inl (c.loop-low.invariant.after k (omega (arith, c.loop-low-test.false)) k_in)
]))
