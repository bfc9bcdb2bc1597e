use Rattle.std.proofs.Common.{[], ap, arith, sym, true, ◌||◌, ◌∙◌, ◌≡◌}
use Rattle.rl_ranges.proofs.SetLemmas.{has-cons, has-nil, or-false, within_tells}
use Rattle.rl_ranges.specs.Codes.{is_between}
use Rattle.rl_ranges.proofs.code_set.CodeSet.range.Goals as goal

pub returns-clause-members : goal.returns-clause-members
returns-clause-members c = λ x. has-cons _ [] x ∙ ap (λ b. is_between c.args.first c.args.last x || b) (has-nil x) ∙ or-false _

pub returns-clause-inside : goal.returns-clause-inside
returns-clause-inside c = λ u lt x held.
    let is : is_between c.args.first c.args.last x ≡ true = sym (has-cons _ [] x ∙ ap (λ b. is_between c.args.first c.args.last x || b) (has-nil x) ∙ or-false _) ∙ held in
    grind (arith, within_tells c.args.first c.args.last x)
