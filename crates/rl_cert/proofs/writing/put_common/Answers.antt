use Rattle.std.proofs.Common.{◌∙◌, map, codes, ap}
use Rattle.std.proofs.lemmas.Result.{on_ok_weaker}
use Rattle.serde_json.specs.Data.{put}
use Rattle.rl_cert.specs.Form.{whole, row_data, rows_data, anchor_row, double_row, triple_row}
use Rattle.rl_cert.proofs.Rows.{value-of}
use Rattle.rl_cert.proofs.writing.put_common.Goals as goal

pub returns : goal.returns
returns c =
    let w = c.args.c.now in
    let f = c.args.f.now in
    let anchors = value-of (λ l. rows_data (map anchor_row l)) c.anchors_value-anchors.result _ _ c.as_slice.ensures c.anchors_value-anchors.ensures in
    let doubles = value-of (λ l. rows_data (map double_row l)) c.doubles_value-doubles.result _ _ c.as_slice-2.ensures c.doubles_value-doubles.ensures in
    let heads = value-of rows_data c.rows_value-heads.result _ _ c.as_slice-3.ensures c.rows_value-heads.ensures in
    let pumps = value-of rows_data c.rows_value-pumps.result _ _ c.as_slice-4.ensures c.rows_value-pumps.ensures in
    let ranks = value-of row_data c.row_value-ranks.result _ _ c.as_slice-5.ensures c.row_value-ranks.ensures in
    let triples = value-of (λ l. rows_data (map triple_row l)) c.triples_value-triples.result _ _ c.as_slice-6.ensures c.triples_value-triples.ensures in
    on_ok_weaker c.put_made-7.result (λ last empty. last (whole 1) c.from.ensures
    ∙ ap (put (codes "version") (whole 1)) (c.in_ok-put_made-6.ensures (rows_data (map triple_row w.triples)) triples
    ∙ ap (put (codes "triples") (rows_data (map triple_row w.triples))) (c.in_ok-put_made-5.ensures (row_data w.ranks) ranks
    ∙ ap (put (codes "ranks") (row_data w.ranks)) (c.in_ok-put_made-4.ensures (rows_data f.pumps) pumps
    ∙ ap (put (codes "pumps") (rows_data f.pumps)) (c.in_ok-put_made-3.ensures (rows_data f.heads) heads
    ∙ ap (put (codes "heads") (rows_data f.heads)) (c.in_ok-put_made-2.ensures (rows_data (map double_row w.doubles)) doubles
    ∙ ap (put (codes "doubles") (rows_data (map double_row w.doubles))) (c.in_ok-put_made.ensures (rows_data (map anchor_row w.anchors)) anchors
    ∙ ap (put (codes "anchors") (rows_data (map anchor_row w.anchors))) empty))))))) c.put_made-7.ensures
