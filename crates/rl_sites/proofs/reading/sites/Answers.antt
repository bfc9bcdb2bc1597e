-- A source doesn't have too many tokens. Its sites have their runs and are in order.
use Rattle.std.proofs.Common.{◌≤◌, ◌∙◌, ap, arith, length}
use Rattle.rl_sites.specs.Significant.{significant_from}
use Rattle.rl_sites.specs.Imports.{aliases_of}
use Rattle.rl_sites.proofs.Numbers.{few_tokens, numbered_all}
use Rattle.rl_sites.proofs.Runs.{all_runs}
use Rattle.rl_sites.proofs.InOrder.{all_in_order}
use Rattle.rl_sites.proofs.reading.sites.Goals as goal

pub significant_tokens-requires : goal.significant_tokens-requires
significant_tokens-requires c = omega (arith, few_tokens c.args.source.now c.args.tokens.now c.requires, ap length c.as_slice.ensures)

pub sites_in-requires : goal.sites_in-requires
sites_in-requires c =
    let few : length c.as_slice.result.now ≤ 4194304 =
    omega (arith, few_tokens c.args.source.now c.args.tokens.now c.requires, ap length c.as_slice.ensures) in
    numbered_all c.as_slice.result.now c.as_slice-2.result.now few (c.as_slice-2.ensures.value ∙ c.in_ok-significant.ensures)

pub returns-clause-runs : goal.returns-clause-runs
returns-clause-runs c =
    all_runs c.args.source.now c.args.tokens.now (aliases_of c.args.source.now c.as_slice-2.result.now) c.as_slice-2.result.now c.sites_in.result
    (c.as_slice-2.ensures.value ∙ c.in_ok-significant.ensures ∙ ap (significant_from 0) c.as_slice.ensures) c.sites_in.ensures

pub returns-clause-order : goal.returns-clause-order
returns-clause-order c =
    all_in_order c.args.source.now c.args.tokens.now (aliases_of c.args.source.now c.as_slice-2.result.now) c.as_slice-2.result.now c.sites_in.result
    (c.as_slice-2.ensures.value ∙ c.in_ok-significant.ensures ∙ ap (significant_from 0) c.as_slice.ensures) c.sites_in.ensures
