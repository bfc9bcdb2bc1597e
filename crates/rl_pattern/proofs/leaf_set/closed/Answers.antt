use Rattle.std.proofs.Common.{◌≡◌, ℕ, Bool}
use Rattle.rl_ranges.specs.Codes.{has, IsInside}
use Rattle.rl_ranges.specs.Case.{IsCaseClosed}
use Rattle.rl_ranges.specs.Named.{goes_by_ascii}
use Rattle.rl_pattern.specs.LeafCodes.{within}
use Rattle.rl_pattern.specs.internal.LeafSets.{closing_in}
use Rattle.rl_pattern.proofs.LeafLaws.{closing_true, answered_both}
use Rattle.rl_pattern.proofs.leaf_set.closed.Goals as goal

pub returns-then-flags-clause-members : goal.returns-then-flags-clause-members
returns-then-flags-clause-members c =
    answered_both c.case_closed.result (IsCaseClosed (goes_by_ascii c.args.flags.ascii c.args.universe) c.args.set) (IsInside c.args.universe) (λ s. (p : ℕ → Bool) → ((x : ℕ) → has c.args.set x ≡ within c.args.universe p x) → (x : ℕ) → has s x ≡ within c.args.universe (closing_in c.args.universe c.args.flags p) x)
    (λ s closed inside p same. closing_true c.args.universe c.args.flags c.args.set s p c.if-flags.true same closed inside)
    c.case_closed.ensures.members c.case_closed.ensures.inside
