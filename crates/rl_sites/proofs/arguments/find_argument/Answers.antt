-- The first argument has the form, or it is skipped.
use Rattle.std.proofs.Common.{◌∙◌, sym, ap}
use Rattle.std.specs.Prelude.{filter}
use Rattle.rl_sites.specs.internal.Walks.{has_form}
use Rattle.rl_sites.proofs.Finding.{find_here, find_on, table_others}
use Rattle.rl_sites.proofs.arguments.find_argument.Goals as goal

pub returns-then-has_form-clause-found : goal.returns-then-has_form-clause-found
returns-then-has_form-clause-found c =
    c.arguments.invariant.same
    ∙ find_here c.args.source.now c.args.form c.arguments.rest.now c.first_argument-argument.result.now c.behind_first-behind.result.now
    c.first_argument-argument.ensures c.behind_first-behind.ensures (sym c.has_form.ensures ∙ c.if-has_form.true)

pub arguments-preserved : goal.arguments-preserved
arguments-preserved c = record {
  same =
      c.arguments.invariant.same
      ∙ find_on c.args.source.now c.args.form c.arguments.rest.now c.first_argument-argument.result.now c.behind_first-behind.result.now
      c.first_argument-argument.ensures c.behind_first-behind.ensures (sym c.has_form.ensures ∙ c.if-has_form.false)
      ∙ ap (filter (has_form c.args.source.now c.args.form)) c.in-Some.ensures.0;
  table = table_others c.args.source.now c.arguments.rest.now c.behind_first-behind.result.now c.in-Some.others.now c.args.sizes.now _
      c.arguments.invariant.table c.behind_first-behind.ensures c.in-Some.ensures.1;
}

pub returns-in-None-clause-found : goal.returns-in-None-clause-found
returns-in-None-clause-found c =
    c.arguments.invariant.same
    ∙ find_on c.args.source.now c.args.form c.arguments.rest.now c.first_argument-argument.result.now c.behind_first-behind.result.now
    c.first_argument-argument.ensures c.behind_first-behind.ensures (sym c.has_form.ensures ∙ c.if-has_form.false)
    ∙ ap (filter (has_form c.args.source.now c.args.form)) c.in-None.ensures
