use Rattle.std.proofs.Common.{◌≤◌, ◌+◌, length, arith}
use Rattle.rl_trim.proofs.SetLaws.{grown-grown}
use Rattle.rl_trim.proofs.ClosingLaws.{stored-begun}
use Rattle.rl_trim.proofs.QuickLaws.{quick-equal, quick-apart}
use Rattle.rl_trim.proofs.quick.judge_pairs.Goals as goal

pub returns-in_default-clause-found : goal.returns-in_default-clause-found
returns-in_default-clause-found c =
    let keys = c.grow.new.self.keys.keys in
    let few : length keys + c.grow.new.self.count ≤ c.args.limit = omega (arith, c.if-len-count.false, c.len.ensures.len, c.in_ok-all.ensures.count) in
    quick-equal c.args.branch.now.automaton.now c.args.branch.now.keep.now c.grow.new.walk c.grow.new.self.count keys c.in_ok-all.ensures.pairs c.args.limit (c.in_ok-all.ensures.done c.if-not-all.false)
    (c.apart.ensures c.in_default.is) few

pub leads_apart-requires-clause-closed : goal.leads_apart-requires-clause-closed
leads_apart-requires-clause-closed c =
    let count = c.grow.new.self.count in
    stored-begun c.args.branch.now.automaton.now c.grow.new.walk count count c.in_ok-all.ensures.pairs.closed

pub returns-then-branch-clause-found : goal.returns-then-branch-clause-found
returns-then-branch-clause-found c =
    let keys = c.grow.new.self.keys.keys in
    let few : length keys + c.grow.new.self.count ≤ c.args.limit = omega (arith, c.if-len-count.false, c.len.ensures.len, c.in_ok-all.ensures.count) in
    quick-apart c.args.branch.now.automaton.now c.args.branch.now.keep.now c.grow.new.walk c.grow.new.self.count keys c.in_ok-all.ensures.pairs c.args.limit c.as_slice.result.now (c.in_ok-all.ensures.done c.if-not-all.false) few
    (c.in_ok-leads_apart.ensures.apart c.if-branch.true)

pub returns-then-branch-clause-grown : goal.returns-then-branch-clause-grown
returns-then-branch-clause-grown c =
    grown-grown c.args.branch.now.automaton.now c.args.walk.now c.grow.new.walk c.leads_apart.new.walk c.in_ok-all.ensures.grown c.in_ok-leads_apart.ensures.grown

pub returns-clause-grown : goal.returns-clause-grown
returns-clause-grown c =
    grown-grown c.args.branch.now.automaton.now c.args.walk.now c.grow.new.walk c.leads_apart.new.walk c.in_ok-all.ensures.grown c.in_ok-leads_apart.ensures.grown
