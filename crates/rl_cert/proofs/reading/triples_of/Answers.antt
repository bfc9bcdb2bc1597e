use Rattle.std.proofs.Common.{◌∙◌, ap, sym}
use Rattle.rl_cert.specs.Form.{triple_of}
use Rattle.rl_cert.proofs.AllRows.{all_on-next, all_on-all}
use Rattle.rl_cert.proofs.reading.triples_of.Goals as goal

pub loop-row-preserved : goal.loop-row-preserved
loop-row-preserved c =
    all_on-next triple_of _ _ c.args.rows.now c.loop-row.row-index c.row-item.result _ c.loop-row-test.true c.row-item.is (ap triple_of (sym c.as_slice.ensures) ∙ (sym c.triple_of.ensures ∙ c.in-Some.is)) c.in_ok-push.ensures.pushed c.loop-row.invariant

pub returns-clause-triples : goal.returns-clause-triples
returns-clause-triples c = all_on-all triple_of _ c.args.rows.now c.loop-row.row-index c.loop-row-test.false c.loop-row.invariant
