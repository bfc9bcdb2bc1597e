use Rattle.std.proofs.Common.{◌-◌, ◌∙◌, ◌≢◌, length, ap, sym, arith}
use Rattle.std.proofs.lemmas.Bool.{eqb-false}
use Rattle.rl_degree.specs.declared.chains.Split.{Split}
use Rattle.rl_growth.proofs.RouteLaws.{read-at, after-last}
use Rattle.rl_cert.proofs.making.state_behind.Goals as goal

pub returns : goal.returns
returns c =
    let splits = c.args.splits.now in
    let some : length splits ≢ 0 = eqb-false (length splits) 0 (sym c.is_empty.ensures ∙ c.if-is_empty.false) in
    ap (λ (s : Split). s.to) (read-at splits (length splits - 1) c.index-splits-splits.result (omega arith)) ∙ after-last splits (length splits - 1) c.args.alone (omega arith)
