use Rattle.std.proofs.Common.{ap, arith, inl, inr, sym, ◌≡◌}
use Rattle.std.proofs.lemmas.Bool.{cases_lt}
use Rattle.rl_ranges.proofs.StretchLemmas.{letter_from-at}
use Rattle.rl_ranges.specs.Building.{range_at}
use Rattle.rl_ranges.proofs.stretches.value_at.Goals as goal

pub returns : goal.returns
returns c =
    let s = c.args.stretches.now in
    let inv = c.loop-high.invariant in
    let rising = c.requires.1.rising in
    sym (letter_from-at 0 s c.loop-high.low c.args.code (omega (arith, inv.ordered, inv.high_in)) inv.begun (λ k lk k_in.
    let later = inv.later (omega arith) in
    elim (cases_lt c.loop-high.high k) [
      | inl more ↦ let rise = rising c.loop-high.high k more k_in in omega arith
      | inr here ↦ let at : c.loop-high.high ≡ k = omega arith in omega (arith, ap (λ i. (range_at s i).0) at)
    ]))
