use Rattle.std.proofs.Common.{◌≡◌, ◌<◌, get_or, sym, subst, ap, ◌∙◌, arith}
use Rattle.std.proofs.lemmas.List.{get_or_default}
use Rattle.rl_ranges.specs.Letters.{LetterTable}
use Rattle.rl_equiv.specs.declared.searching.Way.{Way}
use Rattle.rl_equiv.specs.internal.Searching.{no_way, sample_of}
use Rattle.rl_equiv.proofs.TextLaws.{back-more, back-done}
use Rattle.rl_equiv.proofs.searching.PairSearch.text_to.Goals as goal

pub loop-at-preserved : goal.loop-at-preserved
loop-at-preserved c =
    let ways = c.args.self.now.ways.items in
    let way = c.index-way.result.now in
    let same : get_or ways c.loop-at.at no_way ≡ way = get_or_default ways c.loop-at.at no_way way c.loop-at.invariant.at_in ∙ sym c.index-way.ensures in
    let less : way.parent < c.loop-at.at = subst (λ (w : Way). w.parent < c.loop-at.at) same (c.requires.earlier c.loop-at.at c.loop-at-test.true c.loop-at.invariant.at_in) in
    let code : c.sample.result ≡ sample_of c.args.a.now way.letter = c.sample.ensures ∙ ap (λ (t : LetterTable). get_or t.samples way.letter 0) c.letters.ensures in
    back-more c.args.a.now ways c.args.place c.loop-at.at c.loop-at.back.items way c.sample.result c.push.new.self.items c.loop-at.invariant c.loop-at-test.true c.index-way.ensures less code c.in_ok-push.ensures.items

pub returns : goal.returns
returns c =
    let zero : c.loop-at.at ≡ 0 = omega (arith, c.loop-at-test.false) in
    back-done c.args.a.now c.args.self.now.ways.items c.args.place c.loop-at.at c.loop-at.back.items c.from_vec.result c.loop-at.invariant zero (c.from_vec.ensures ∙ c.reverse.ensures.items)
