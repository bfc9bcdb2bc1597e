-- One more token, and the site that begins there.
use Rattle.std.proofs.Common.{◌∙◌, refl, sym, subst, List}
use Rattle.rl_sites.specs.declared.significant.SignificantToken.{SignificantToken}
use Rattle.rl_sites.specs.internal.Walks.{IsTable, IsNumbered}
use Rattle.rl_sites.proofs.Numbers.{numbered_drop}
use Rattle.rl_sites.proofs.Stepping.{sites_step}
use Rattle.rl_sites.proofs.Tables.{table_drop}
use Rattle.rl_sites.proofs.reading.sites_among.Goals as goal

pub loop-rest-preserved : goal.loop-rest-preserved
loop-rest-preserved c = record {
  same =
      c.loop-rest.invariant.same
      ∙ sites_step c.args.source.now c.args.names.now.aliases.items c.loop-rest.before c.loop-rest.rest.now c.rest_from-rest.result.now _ _
      c.loop-rest.sites c.push_site.new.sites c.in-len1-up.len_at_least refl c.rest_from-rest.ensures c.in_ok-push_site.ensures;
  table = subst (λ (xs : List SignificantToken). IsTable c.args.source.now xs c.args.sizes.now) (sym c.rest_from-rest.ensures)
      (table_drop c.args.source.now c.loop-rest.rest.now c.args.sizes.now 1 c.loop-rest.invariant.table);
  numbered = subst IsNumbered (sym c.rest_from-rest.ensures) (numbered_drop 1 c.loop-rest.rest.now c.loop-rest.invariant.numbered);
}
