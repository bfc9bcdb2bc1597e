use Rattle.std.proofs.Common.{get_or, refl}
use Rattle.rl_cert.specs.Form.{row_data, triple_row}
use Rattle.rl_cert.proofs.Rows.{row_more, row_all_of}
use Rattle.rl_cert.proofs.writing.triples_value.Goals as goal

pub returns : goal.returns
returns c = row_all_of triple_row row_data c.loop-triple.values c.args.triples.now c.loop-triple.triple-index c.loop-triple-test.false c.loop-triple.invariant

pub loop-triple-preserved : goal.loop-triple-preserved
loop-triple-preserved c =
    let i = c.loop-triple.triple-index in
    row_more (λ x. row_data (triple_row x)) _ _ c.args.triples.now i (get_or c.args.triples.now i _) _ c.in_ok-row_value.field-0 c.loop-triple-test.true refl c.in_ok-row_value.ensures c.loop-triple.invariant c.in_ok-push.ensures.items
