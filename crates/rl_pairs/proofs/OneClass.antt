-- Of one question no two classes of verdicts are right.
use Rattle.std.proofs.Common.{◌≡◌, ℕ, ◌*◌, ◌^◌, ◌<◌, ◌≤◌, ◌⊎◌, inl, inr, arith, le_trans, mul-le-mul}
use Rattle.std.proofs.Math.Nat.{pow-le-pow_left}
use Rattle.std.proofs.lemmas.Bool.{cases_lt}
use Rattle.rl_syntax.specs.declared.verdict.Family.{Family}
use Rattle.rl_syntax.specs.declared.verdict.Limit.{Limit}
use Rattle.rl_syntax.specs.declared.verdict.Limit.TheVariants.{Size, Letters, Moves, Sets, Pairs}
use Rattle.rl_syntax.specs.declared.verdict.Verdict.TheVariants.{Degree, Expo, Undecided}
use Rattle.rl_syntax.specs.Cost.{cost}
use Rattle.rl_syntax.specs.Family.{family_text, IsFamily}
use Rattle.rl_graph.specs.Bounds.{bound_c}
use Rattle.rl_pairs.specs.RightVerdict.{Question, IsExceeded, IsNamed, HasDegree, IsBounded, RightVerdict, measure_of}
use Rattle.rl_pairs.proofs.Growing.{no-smaller-power, no-power}
use Rattle.rl_pairs.proofs.FamilyLengths.{factor_of, text-short, texts-texts}

same-or-less : (n : ℕ) → n ≤ n
same-or-less n = omega arith

cost-bounded : (q : Question) (d e : ℕ) (f : Family) → IsBounded q d → IsFamily q.universe e f → (k : ℕ) → 1 ≤ k → cost q.tree q.ending (family_text f k) ≤ bound_c (measure_of q) d * (factor_of f * k) ^ d
cost-bounded q d e f bounded family k some =
    le_trans (bounded (family_text f k) (texts-texts q.universe e f family k)) (mul-le-mul (same-or-less (bound_c (measure_of q) d)) (pow-le-pow_left (text-short f k some) d))

no-greater : (q : Question) (d e : ℕ) (f : Family) → IsBounded q d → HasDegree q e f → d < e → ⊥
no-greater q d e f bounded has lt =
    no-smaller-power (bound_c (measure_of q) d) (factor_of f) d e lt (λ k some. le_trans (has.lower k) (cost-bounded q d e f bounded has.family k some))

pub one_degree : (q : Question) (d e : ℕ) (f g : Family) → RightVerdict q (Degree d f) → RightVerdict q (Degree e g) → d ≡ e
one_degree q d e f g (has_d, bounded_d) (has_e, bounded_e) = by (cases_lt d e) (cases_lt e d)
  where
    by : (d < e) ⊎ (e ≤ d) → (e < d) ⊎ (d ≤ e) → d ≡ e
    by (inl lt) other = absurd (no-greater q d e g bounded_d has_e lt)
    by (inr le) (inl lt) = absurd (no-greater q e d f bounded_e has_d lt)
    by (inr le) (inr ge) = omega arith

pub degree_or_expo : (q : Question) (d : ℕ) (f g : Family) → RightVerdict q (Degree d f) → RightVerdict q (Expo g) → ⊥
degree_or_expo q d f g (has, bounded) expo =
    no-power (bound_c (measure_of q) d) (factor_of g) d (λ k some. le_trans (expo.lower k) (cost-bounded q d 1 g bounded expo.family k some))

named-passed : (q : Question) (limit : Limit) → IsNamed q limit → IsExceeded q limit
named-passed q Size h = h
named-passed q Letters h = h.1
named-passed q Moves h = h.2
named-passed q Sets h = h.1
named-passed q Pairs h = h.1

pub undecided_or_degree : (q : Question) (limit : Limit) (d : ℕ) (f : Family) → RightVerdict q (Undecided limit) → RightVerdict q (Degree d f) → ⊥
undecided_or_degree q limit d f named (has, bounded) = has.within limit (named-passed q limit named)

pub undecided_or_expo : (q : Question) (limit : Limit) (f : Family) → RightVerdict q (Undecided limit) → RightVerdict q (Expo f) → ⊥
undecided_or_expo q limit f named expo = expo.within limit (named-passed q limit named)
