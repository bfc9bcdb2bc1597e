use Rattle.std.proofs.Common.{IfErr, ◌≡◌, ap, subst, arith}
use Rattle.rl_marks.specs.Marked.{marked_of, nodes}
use Rattle.rl_spans.specs.declared.items.ListError.TheVariants.{TooLong}
use Rattle.rl_spans.specs.Limits.{IsShort}
use Rattle.rl_spans.proofs.ClosedLaws.{places-few}
use Rattle.rl_spans.proofs.finding.side_alone.Goals as goal

pub new-requires : goal.new-requires
new-requires c = omega (arith, places-few (marked_of c.in_ok-tree.tree), ap nodes c.in_ok-tree.ensures, c.args.pattern.now.judged.small)

pub returns-clause-long : goal.returns-clause-long
returns-clause-long c = subst (λ m. IfErr c.new.result (λ e. e ≡ TooLong → ¬ IsShort m 0)) c.in_ok-tree.ensures c.new.ensures.long
