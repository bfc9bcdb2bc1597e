-- The faults of the sides of a range, and of their order.
use Rattle.std.proofs.Common.{◌++◌, sym, ap, ◌∙◌}
use Rattle.rl_pattern.specs.Found.{first_fault, fault_if, escaped_faults, member_faults, reversed, is_reversed_range}
use Rattle.rl_pattern.proofs.FirstFault.{own_first}
use Rattle.rl_pattern.proofs.faults.member_fault.Goals as goal

pub returns-in-Range : goal.returns-in-Range
returns-in-Range c =
    let i = c.in-Range.span.from in
    let first = escaped_faults i c.in-Range.first in
    let last = escaped_faults i c.in-Range.last in
    let turned = fault_if (reversed c.in-Range.first c.in-Range.last) i is_reversed_range in
    own_first c.earlier.result c.escaped_fault-in-Range-2.result c.earlier-behind.result first (last ++ turned) c.earlier.ensures c.escaped_fault-in-Range-2.ensures
    (own_first c.earlier-behind.result c.escaped_fault-in-Range.result c.fault_if-turned.result last turned c.earlier-behind.ensures c.escaped_fault-in-Range.ensures
    (c.fault_if-turned.ensures ∙ ap (λ b. first_fault (fault_if b i is_reversed_range)) c.reversed.ensures))
    ∙ ap (λ m. first_fault (member_faults m)) (sym c.in-Range.is)
