-- The faults of a quantifier, one after another.
use Rattle.std.proofs.Common.{◌||◌, ◌==◌, ◌++◌, nat_lt, ap, ◌∙◌}
use Rattle.rl_pattern.specs.Found.{first_fault, fault_if, is_bound, is_possessive, is_repeat_too_large, is_repeat_order, is_possessive_count}
use Rattle.rl_pattern.proofs.FirstFault.{own_first}
use Rattle.rl_pattern.proofs.faults.count_fault.Goals as goal

pub returns : goal.returns
returns c =
    let i = c.args.place in
    let n = c.args.count in
    let large = fault_if (n.least == 4294967295 || is_bound (λ m. m == 4294967295) n.most) i is_repeat_too_large in
    let order = fault_if (is_bound (λ m. nat_lt m n.least) n.most) i is_repeat_order in
    let kept = fault_if (is_possessive c.args.greed) i is_possessive_count in
    own_first c.earlier-2.result c.fault_if-too_large.result c.earlier.result large (order ++ kept) c.earlier-2.ensures
    (c.fault_if-too_large.ensures ∙ ap (λ b. first_fault (fault_if b i is_repeat_too_large)) c.is_too_large.ensures)
    (own_first c.earlier.result c.fault_if-order.result c.fault_if-kept.result order kept c.earlier.ensures
    (c.fault_if-order.ensures ∙ ap (λ b. first_fault (fault_if b i is_repeat_order)) c.is_below.ensures)
    (c.fault_if-kept.ensures ∙ ap (λ b. first_fault (fault_if b i is_possessive_count)) c.is_possessive.ensures))
