use Rattle.std.proofs.Common.{◌≡◌, [], length, get_or, ap, sym, ◌∙◌, subst, arith}
use Rattle.rl_lanes.specs.Rows.{list_or}
use Rattle.rl_lanes.specs.Packed.{truths}
use Rattle.rl_lanes.proofs.ImageLemmas.{JoinsRows, JoinsRows-none, JoinsRows-more, JoinsRows-all}
use Rattle.rl_lanes.proofs.table.BitTable.join_chosen.Goals as goal

pub loop-row-init : goal.loop-row-init
loop-row-init c =
    let len = length c.args.into.now in
    subst (JoinsRows c.args.self.now c.args.chosen.now len 0) (sym c.clear.ensures) (JoinsRows-none c.args.self.now c.args.chosen.now len)

pub loop-row-preserved : goal.loop-row-preserved
loop-row-preserved c =
    let table = c.args.self.now in
    let row = get_or table c.in-Some.row [] in
    let long : length c.loop-row.into ≡ length row = c.loop-row.invariant.long ∙ sym (c.requires.places c.in-Some.row [] (omega (arith, c.in-Some.ensures.found.within, c.requires.rows))) in
    let added : c.add_words.new.self ≡ list_or c.loop-row.into row = c.add_words.ensures ∙ ap (λ n. list_or c.loop-row.into (truths n c.row_words.result.now)) long ∙ ap (list_or c.loop-row.into) c.row_words.ensures.shows in
    subst (JoinsRows table c.args.chosen.now (length c.args.into.now) c.run_end-at.result) (sym added)
    (JoinsRows-more table c.args.chosen.now (length c.args.into.now) c.loop-row.at c.in-Some.row c.run_end-at.result c.loop-row.into c.requires.rows c.requires.places c.loop-row.invariant c.in-Some.ensures.found c.run_end-at.ensures)

pub returns : goal.returns
returns c = record {
  image = JoinsRows-all c.args.self.now c.args.chosen.now (length c.args.into.now) c.loop-row.at c.loop-row.into c.requires.places c.loop-row.invariant c.in_default.ensures.none;
  len = c.loop-row.invariant.long;
}
