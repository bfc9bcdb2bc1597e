use Rattle.std.proofs.Common.{sym, subst}
use Rattle.rl_ranges.specs.Text.{IsText}
use Rattle.serde_json.specs.Data.{string}
use Rattle.rl_report.specs.Verdicts.{quoted_text}
use Rattle.rl_ask.proofs.ValueLemmas.{value_more, value_all}
use Rattle.rl_ask.proofs.members.texts_value.Goals as goal

pub loop-text-preserved : goal.loop-text-preserved
loop-text-preserved c =
    value_more (λ text. string (quoted_text c.args.universe text)) _ _ c.args.texts.now c.loop-text.text-index c.text-item.result c.in_ok-value.value
    c.loop-text-test.true c.text-item.is c.in_ok-value.ensures c.loop-text.invariant c.in_ok-push.ensures.items

pub returns : goal.returns
returns c =
    value_all (λ text. string (quoted_text c.args.universe text)) c.loop-text.values c.args.texts.now c.loop-text.text-index c.loop-text-test.false
    c.loop-text.invariant

pub quoted_value-requires : goal.quoted_value-requires
quoted_value-requires c = subst (IsText c.args.universe) (sym c.text-item.is) (c.requires c.loop-text.text-index c.text-item.result c.loop-text-test.true)
