use Rattle.std.proofs.Common.{◌∙◌, List, sym, subst}
use Rattle.std.specs.Prelude.{All}
use Rattle.std.specs.List.{AllZip}
use Rattle.std.proofs.lemmas.List.{take_all}
use Rattle.std.proofs.lemmas.List.Elements.{All-push}
use Rattle.rl_sites.specs.declared.site.Site.{Site}
use Rattle.rl_report.specs.Layouts.{IsOfItsUniverse}
use Rattle.rl_judge.specs.RightEntries.{IsSiteEntry}
use Rattle.rl_judge.proofs.Zipping.{zipped_more}
use Rattle.rl_judge.proofs.entries.site_entries.Goals as goal

pub loop-site-preserved : goal.loop-site-preserved
loop-site-preserved c = record {
  right =
      zipped_more (IsSiteEntry c.args.path.now c.args.source.now c.args.tokens.now c.args.settings.now) c.as_slice-site-items.result.now
      c.loop-site.entries c.push.new.self c.loop-site.site-index _ c.in_ok-entry.entry c.loop-site-test.true c.in_ok-push.ensures.pushed
      c.loop-site.invariant.right c.in_ok-entry.ensures.right;
  universe =
      subst (All IsOfItsUniverse) (sym c.in_ok-push.ensures.pushed)
      (All-push IsOfItsUniverse c.loop-site.entries c.in_ok-entry.entry c.loop-site.invariant.universe c.in_ok-entry.ensures.universe);
  at = c.in_ok-entry.ensures.at;
}

pub returns-clause-right : goal.returns-clause-right
returns-clause-right c =
    subst (λ (l : List Site). AllZip (IsSiteEntry c.args.path.now c.args.source.now c.args.tokens.now c.args.settings.now) l c.loop-site.entries)
    (take_all c.loop-site.site-index c.as_slice-site-items.result.now c.loop-site-test.false ∙ c.as_slice-site-items.ensures ∙ c.in_ok-sites.ensures.sites) c.loop-site.invariant.right

pub returns-clause-universe : goal.returns-clause-universe
returns-clause-universe c = c.loop-site.invariant.universe
