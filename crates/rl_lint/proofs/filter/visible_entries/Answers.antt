use Rattle.std.proofs.Common.{ap, length, arith}
use Rattle.rl_lint.proofs.FilterLemmas.{few-unknown, universe-unknown}
use Rattle.rl_lint.proofs.filter.visible_entries.Goals as goal

pub overflow_sub-hidden : goal.overflow_sub-hidden
overflow_sub-hidden c =
    omega (arith, c.len.ensures, c.len-all.ensures, ap length c.in_ok-entries-in-Some.ensures, few-unknown c.in-Some.keys c.args.entries)

pub returns-in_ok-entries-in-Some-clause-universe : goal.returns-in_ok-entries-in-Some-clause-universe
returns-in_ok-entries-in-Some-clause-universe c =
    universe-unknown c.in-Some.keys c.args.entries c.in_ok-entries-in-Some.entries c.requires c.in_ok-entries-in-Some.ensures
