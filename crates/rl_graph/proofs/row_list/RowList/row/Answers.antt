use Rattle.std.proofs.Common.{◌-◌, List, ℕ, [], take, drop, get_or, sym, ap, ◌∙◌, arith}
use Rattle.std.proofs.lemmas.List.{get_or_past, get_or_read}
use Rattle.rl_graph.proofs.SpanLaws.{row-now, row-past, row-shared, row-apart}
use Rattle.rl_graph.proofs.row_list.RowList.row.Goals as goal

pub returns-then-place-len : goal.returns-then-place-len
returns-then-place-len c =
    row-past c.self.inside.numbers.items c.self.inside.apart.items c.self.inside.spans.items c.args.self.now c.args.place c.self.view_is
    (omega (arith, c.if-place-len.true, c.len.ensures, c.self.inside.spans.ok.0))

pub returns-then-span : goal.returns-then-span
returns-then-span c =
    let span = c.index-span.result.now in
    ap (λ (l : List ℕ). take (span.end - span.start) (drop span.start l)) c.deref.ensures.value
    ∙ (sym (row-shared c.self.inside.numbers.items (get_or c.self.inside.apart.items c.args.place []) span c.if-span.true)
    ∙ row-now c.self.inside.numbers.items c.self.inside.apart.items c.self.inside.spans.items c.args.self.now c.args.place span c.self.view_is
    (omega (arith, c.if-place-len.false, c.len.ensures, c.self.inside.spans.ok.0)) c.index-span.ensures)

pub returns-then-place-len-2 : goal.returns-then-place-len-2
returns-then-place-len-2 c =
    let span = c.index-span.result.now in
    sym (get_or_past c.self.inside.apart.items c.args.place [] (omega (arith, c.if-place-len-2.true, c.len-2.ensures, c.self.inside.apart.ok.0)))
    ∙ (sym (row-apart c.self.inside.numbers.items (get_or c.self.inside.apart.items c.args.place []) span c.if-span.false)
    ∙ row-now c.self.inside.numbers.items c.self.inside.apart.items c.self.inside.spans.items c.args.self.now c.args.place span c.self.view_is
    (omega (arith, c.if-place-len.false, c.len.ensures, c.self.inside.spans.ok.0)) c.index-span.ensures)

pub returns : goal.returns
returns c =
    let span = c.index-span.result.now in
    c.as_slice.ensures ∙ (get_or_read c.self.inside.apart.items c.args.place c.index.result.now (omega (arith, c.if-place-len-2.false, c.len-2.ensures, c.self.inside.apart.ok.0)) c.index.ensures []
    ∙ (sym (row-apart c.self.inside.numbers.items (get_or c.self.inside.apart.items c.args.place []) span c.if-span.false)
    ∙ row-now c.self.inside.numbers.items c.self.inside.apart.items c.self.inside.spans.items c.args.self.now c.args.place span c.self.view_is
    (omega (arith, c.if-place-len.false, c.len.ensures, c.self.inside.spans.ok.0)) c.index-span.ensures))
