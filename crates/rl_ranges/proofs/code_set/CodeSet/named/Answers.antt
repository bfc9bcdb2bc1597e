use Rattle.std.proofs.Common.{ap, sym, ◌∙◌}
use Rattle.rl_ranges.proofs.TableLemmas.{named_inside}
use Rattle.rl_ranges.specs.Named.{is_named}
use Rattle.rl_ranges.proofs.code_set.CodeSet.named.Goals as goal

pub returns-clause-inside : goal.returns-clause-inside
returns-clause-inside c = λ x held.
    named_inside c.args.kind c.args.ascii c.args.universe x
    (ap (λ a. is_named c.args.kind a x) (sym c.goes_by_ascii.ensures) ∙ sym (c.ranges-2.ensures.members x) ∙ held)
