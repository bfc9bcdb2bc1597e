use Rattle.std.proofs.Common.{◌++◌, sym, subst, arith}
use Rattle.rl_ranges.specs.Text.{code_count}
use Rattle.rl_syntax.specs.Tree.{IsOver}
use Rattle.rl_prio.specs.Letters.{all_sets}
use Rattle.rl_marks.specs.Marked.{marked_of, plain}
use Rattle.rl_marks.specs.SameFinds.{matcher_in}
use Rattle.rl_marks.proofs.AlikeLaws.{asked-over}
use Rattle.rl_spans.specs.internal.Codes.{AreEnough}
use Rattle.rl_spans.proofs.ClosedLaws.{places-few}
use Rattle.rl_spans.proofs.asking.machine_of.Goals as goal

pub codes_of-requires-clause-first : goal.codes_of-requires-clause-first
codes_of-requires-clause-first c =
    subst (λ m. IsOver c.args.a.now.universe (plain m)) (sym c.in_ok-first.ensures)
    (asked-over c.args.how c.args.a.now.universe (matcher_in c.args.how c.args.a.now) c.args.a.now.judged.over)

pub codes_of-requires-clause-second : goal.codes_of-requires-clause-second
codes_of-requires-clause-second c =
    subst (λ m. IsOver c.args.a.now.universe (plain m)) (sym c.in_ok-second.ensures)
    (asked-over c.args.how c.args.a.now.universe (matcher_in c.args.how c.args.b.now)
    (subst (λ u. IsOver u (plain (marked_of c.args.b.now.tree))) (sym c.requires) c.args.b.now.judged.over))

pub new-requires-2 : goal.new-requires-2
new-requires-2 c = omega (arith, places-few (marked_of c.in_ok-first.first))

pub new-requires-3 : goal.new-requires-3
new-requires-3 c = omega (arith, places-few (marked_of c.in_ok-second.second))

pub returns-clause-codes : goal.returns-clause-codes
returns-clause-codes c =
    subst (λ t. AreEnough (all_sets (plain (marked_of t)) ++ all_sets (plain (marked_of c.in_ok-second-2.second.tree))) (code_count c.args.a.now.universe) c.in_ok-codes.codes)
    (sym c.in_ok-first-2.ensures.tree)
    (subst (λ t. AreEnough (all_sets (plain (marked_of c.in_ok-first.first)) ++ all_sets (plain (marked_of t))) (code_count c.args.a.now.universe) c.in_ok-codes.codes)
    (sym c.in_ok-second-2.ensures.tree) c.in_ok-codes.ensures.enough)
