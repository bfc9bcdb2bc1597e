-- The degree of a verdict is at most the number of live pairs allowed, since a chain of splits is shorter than the graph.
use Rattle.std.proofs.Common.{ℕ, zero, suc, ◌<◌, ◌≤◌, ◌⊎◌, inl, inr, Result, Ok, Err, IfOk, arith}
use Rattle.std.proofs.lemmas.Bool.{cases_lt}
use Rattle.rl_syntax.specs.declared.verdict.Family.{Family}
use Rattle.rl_syntax.specs.declared.verdict.Verdict.{Verdict}
use Rattle.rl_syntax.specs.declared.verdict.Verdict.TheVariants.{Degree, Expo, Undecided}
use Rattle.rl_syntax.specs.declared.verdict.Limit.TheVariants.{Pairs}
use Rattle.rl_graph.specs.Bounds.{bound_k}
use Rattle.rl_degree.proofs.SplitLaws.{chain_short}
use Rattle.rl_prio.specs.Letters.{all_sets}
use Rattle.rl_pairs.specs.RightVerdict.{Question, RightVerdict, measure_of}
use Rattle.rl_pairs.proofs.NumberLaws.{more-than-limit}
use Rattle.rl_pairs.proofs.VerdictLaws.{machine-within}
use Rattle.rl_growth.specs.Degrees.{IsClassOfPairs, HasClass}
use Rattle.rl_reach.specs.internal.Degrees.{IsDegreeWithin}

few-states : (q : Question) (d : ℕ) (f : Family) → RightVerdict q (Degree d f) → (c : IsClassOfPairs q (Degree d f)) → c.count ≤ q.max_pairs
few-states q d f right c = by (cases_lt q.max_pairs c.count)
  where
    by : (q.max_pairs < c.count) ⊎ (c.count ≤ q.max_pairs) → c.count ≤ q.max_pairs
    by (inl lt) = absurd (right.0.within Pairs (c.automaton, c.machine, more-than-limit c.automaton c.moves c.pairs c.count c.graph c.numbered q.max_pairs lt))
    by (inr le) = le

pub degree-within : (q : Question) (verdict : Verdict) → RightVerdict q verdict → HasClass q verdict → IsDegreeWithin q.max_pairs verdict
degree-within q (Degree zero f) right c = omega arith
degree-within q (Degree (suc d) f) right c =
    let rank = c.class.2 in
    let short = chain_short c.moves c.count (bound_k (measure_of q)) (machine-within q c.automaton c.moves c.pairs c.count c.machine c.graph) c.class.0 0 rank.chain c.graph.some rank.goes in
    omega (arith, short, rank.long, few-states q (suc d) f right c)
degree-within q (Expo f) right c = tt
degree-within q (Undecided limit) right c = tt

pub within-more : (n m : ℕ) (verdict : Verdict) → n ≤ m → IsDegreeWithin n verdict → IsDegreeWithin m verdict
within-more n m (Degree d f) le h = omega arith
within-more n m (Expo f) le h = tt
within-more n m (Undecided limit) le h = tt

pub small-ok : {E : Type 0} (q : Question) (m : ℕ) (r : Result Verdict E) → q.max_pairs ≤ m → IfOk r (RightVerdict q) → IfOk r (HasClass q) → IfOk r (IsDegreeWithin m)
small-ok q m (Ok verdict) le right class = within-more q.max_pairs m verdict le (degree-within q verdict right class)
small-ok q m (Err e) le right class = tt
