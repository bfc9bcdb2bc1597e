use Rattle.std.proofs.Common.{ℕ, refl, inl, sym, ◌∙◌, ap, subst, eqb-true, length, arith}
use Rattle.std.proofs.lemmas.Result.{on_ok_weaker}
use Rattle.rl_lanes.specs.Tables.{image as rows_image}
use Rattle.rl_graph.specs.Graph.{edges_of}
use Rattle.rl_degree.specs.internal.Rows.{field_of, search_state_of, outer_of, IsMet}
use Rattle.rl_degree.proofs.RowLaws.{further-self, image-of, tables-there, used-there, table-at, has-long, outer-has, outer-only, met-all}
use Rattle.rl_degree.proofs.rows.SplitSearch.follow_on.Goals as goal
use Rattle.rl_degree.proofs.rows.SplitSearch.follow_on.Goals.{then-is_empty-via-then-is_empty, then-is_empty-via-else-is_empty+then-is_empty-2}

pub returns-then-is_empty-clause-followed : goal.returns-then-is_empty-clause-followed
returns-then-is_empty-clause-followed c m fresh y k hy =
    let t = c.args.table.now in
    let z = outer_of (field_of c.args.g.now t c.args.part) c.args.found.now in
    let firsts = c.edges-firsts.result.now in
    let seconds = c.edges-seconds.result.now in
    let o = outer-only (edges_of t.inner) t.inner.states c.args.first c.args.second z c.args.letter y firsts seconds c.requires.first c.requires.second c.edges-firsts.ensures.targets c.edges-seconds.ensures.targets hy in
    elim c.then-is_empty.branch [
      | then-is_empty-via-then-is_empty w ↦ absurd (has-long o.0 firsts o.2 (eqb-true (length firsts) 0 (sym c.is_empty.ensures ∙ w.if-is_empty.true)))
      | then-is_empty-via-else-is_empty+then-is_empty-2 w ↦ absurd (has-long o.1 seconds o.3 (eqb-true (length seconds) 0 (sym w.is_empty-else-is_empty.ensures ∙ w.if-is_empty-2.true)))
    ]

pub index-requires : goal.index-requires
index-requires c =
    let are = tables-there c.args.g.now c.args.table.now c.args.part c.args.found.now (search_state_of c.args.self.now) c.requires.table c.requires.searching in
    omega (arith, are.size, c.requires.letter_in)

pub image-requires-clause-rows : goal.image-requires-clause-rows
image-requires-clause-rows c =
    let f = c.args.found.now in
    let used = used-there c.args.g.now c.args.table.now c.args.part c.args.letter c.args.first c.args.found.now (search_state_of c.args.self.now) c.edges-firsts.result.now c.requires.table c.requires.searching c.requires.first c.edges-firsts.ensures.targets (sym c.is_empty.ensures ∙ c.if-is_empty.false) in
    let on = table-at c.args.g.now c.args.table.now c.args.part c.args.letter f (search_state_of c.args.self.now) c.index.result.now c.requires.table c.requires.searching c.requires.letter_in used c.index.ensures in
    (c.requires.searching.found f (inl refl)).wide ∙ sym on.high

pub image-requires-clause-places : goal.image-requires-clause-places
image-requires-clause-places c =
    let used = used-there c.args.g.now c.args.table.now c.args.part c.args.letter c.args.first c.args.found.now (search_state_of c.args.self.now) c.edges-firsts.result.now c.requires.table c.requires.searching c.requires.first c.edges-firsts.ensures.targets (sym c.is_empty.ensures ∙ c.if-is_empty.false) in
    let on = table-at c.args.g.now c.args.table.now c.args.part c.args.letter c.args.found.now (search_state_of c.args.self.now) c.index.result.now c.requires.table c.requires.searching c.requires.letter_in used c.index.ensures in
    λ k row lt. on.wide k row lt ∙ sym c.requires.wide

pub spread-requires-clause-image : goal.spread-requires-clause-image
spread-requires-clause-image c =
    let f = c.args.found.now in
    let used = used-there c.args.g.now c.args.table.now c.args.part c.args.letter c.args.first c.args.found.now (search_state_of c.args.self.now) c.edges-firsts.result.now c.requires.table c.requires.searching c.requires.first c.edges-firsts.ensures.targets (sym c.is_empty.ensures ∙ c.if-is_empty.false) in
    let on = table-at c.args.g.now c.args.table.now c.args.part c.args.letter f (search_state_of c.args.self.now) c.index.result.now c.requires.table c.requires.searching c.requires.letter_in used c.index.ensures in
    image-of c.args.g.now c.args.table.now c.args.part c.args.letter f c.index.result.now c.image.new.into on
    (c.image.ensures.image ∙ ap (rows_image c.index.result.now f.middle) c.requires.wide)

pub spread-requires-clause-moves : goal.spread-requires-clause-moves
spread-requires-clause-moves c x y =
    let t = c.args.table.now in
    let z = outer_of (field_of c.args.g.now t c.args.part) c.args.found.now in
    outer-has (edges_of t.inner) t.inner.states c.args.first c.args.second z c.args.letter x y c.edges-firsts.result.now c.edges-seconds.result.now c.requires.first c.requires.second c.edges-firsts.ensures.targets c.edges-seconds.ensures.targets

pub returns-clause-followed : goal.returns-clause-followed
returns-clause-followed c =
    let t = c.args.table.now in
    let d = field_of c.args.g.now t c.args.part in
    let f = c.args.found.now in
    let z = outer_of d f in
    let new = search_state_of c.spread.new.self in
    let firsts = c.edges-firsts.result.now in
    let seconds = c.edges-seconds.result.now in
    let used = used-there c.args.g.now c.args.table.now c.args.part c.args.letter c.args.first c.args.found.now (search_state_of c.args.self.now) c.edges-firsts.result.now c.requires.table c.requires.searching c.requires.first c.edges-firsts.ensures.targets (sym c.is_empty.ensures ∙ c.if-is_empty.false) in
    let on = table-at c.args.g.now t c.args.part c.args.letter f (search_state_of c.args.self.now) c.index.result.now c.requires.table c.requires.searching c.requires.letter_in used c.index.ensures in
    let image = image-of c.args.g.now t c.args.part c.args.letter f c.index.result.now c.image.new.into on
    (c.image.ensures.image ∙ ap (rows_image c.index.result.now f.middle) c.requires.wide) in
    let only = λ (y : ℕ). outer-only (edges_of t.inner) t.inner.states c.args.first c.args.second z c.args.letter y firsts seconds c.requires.first c.requires.second c.edges-firsts.ensures.targets c.edges-seconds.ensures.targets in
    on_ok_weaker c.spread.result
    (λ o. met-all d f c.args.letter c.image.new.into new image (λ y h. let a = only y h in subst (IsMet d c.image.new.into new) (sym a.4) (o.1 a.0 a.1 a.2 a.3)))
    c.spread.ensures

pub spread-requires-clause-table : goal.spread-requires-clause-table
spread-requires-clause-table c = c.requires.table

pub spread-requires-clause-part_in : goal.spread-requires-clause-part_in
spread-requires-clause-part_in c = c.requires.part_in

pub spread-requires-clause-searching : goal.spread-requires-clause-searching
spread-requires-clause-searching c = c.requires.searching

pub returns-clause-further : goal.returns-clause-further
returns-clause-further c = on_ok_weaker c.spread.result (λ o. o.0) c.spread.ensures

pub returns-then-is_empty-clause-further : goal.returns-then-is_empty-clause-further
returns-then-is_empty-clause-further c = further-self (field_of c.args.g.now c.args.table.now c.args.part) c.args.found.now (search_state_of c.args.self.now) c.requires.searching
