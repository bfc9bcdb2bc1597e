use Rattle.std.proofs.Common.{◌≡◌, ◌∙◌, ℕ, ap, sym}
use Rattle.rl_ranges.specs.Codes.{has, is_between}
use Rattle.rl_pattern.specs.LeafCodes.{within}
use Rattle.rl_pattern.specs.internal.LeafSets.{code_in}
use Rattle.rl_pattern.proofs.LeafLaws.{one_held, range_held, answered}
use Rattle.rl_pattern.proofs.leaf_set.member_codes.Goals as goal

pub returns-in-One-default-Code-clause-members : goal.returns-in-One-default-Code-clause-members
returns-in-One-default-Code-clause-members c =
    let arm = c.in-One-default-Code in
    answered c.codes_between.result (λ s. (x : ℕ) → has s x ≡ within c.args.universe (is_between arm.code arm.code) x) (λ s. (x : ℕ) → has s x ≡ code_in c.args.universe c.args.member x)
    (λ s h x. one_held c.args.universe c.args.member arm.field-0 arm.field-1 arm.code x (has s x) arm.is (rw arm.is at arm.field-1-is) (h x))
    c.codes_between.ensures.members

pub returns-in-Range-default-Code-Code-clause-members : goal.returns-in-Range-default-Code-Code-clause-members
returns-in-Range-default-Code-Code-clause-members c =
    let arm = c.in-Range-default-Code-Code in
    answered c.codes_between-in-Range-default-Code-Code.result (λ s. (x : ℕ) → has s x ≡ within c.args.universe (is_between arm.first arm.last) x) (λ s. (x : ℕ) → has s x ≡ code_in c.args.universe c.args.member x)
    (λ s h x. range_held c.args.universe arm.field-0 arm.field-1 arm.field-2 arm.first arm.last x (has s x) (rw arm.is at arm.field-1-is) (rw arm.is at arm.field-2-is) (h x) ∙ ap (λ m. code_in c.args.universe m x) (sym arm.is))
    c.codes_between-in-Range-default-Code-Code.ensures.members
