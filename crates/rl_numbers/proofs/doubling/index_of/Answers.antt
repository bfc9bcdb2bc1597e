use Rattle.std.proofs.Common.{◌≡◌, ◌∙◌, List, sym, subst, get_or, None}
use Rattle.std.proofs.lemmas.List.{take_all}
use Rattle.rl_numbers.specs.declared.double.Double.{Double}
use Rattle.rl_numbers.specs.Doubled.{OnceEach, number_in, IsIndex}
use Rattle.rl_numbers.proofs.IndexLaws.{none_of, some_of}
use Rattle.rl_numbers.proofs.DoubleLaws.{no_double, not-once, index-more, once-more}
use Rattle.rl_numbers.proofs.doubling.index_of.Goals as goal

pub returns-then-is_some-clause-twice : goal.returns-then-is_some-clause-twice
returns-then-is_some-clause-twice c =
    let l = c.args.doubles.now in
    let i = c.loop-double.double-index in
    let d : Double = get_or l i no_double in
    let found = some_of c.number_of.result (sym c.is_some.ensures ∙ c.if-is_some.true) in
    not-once c.loop-double.index c.loop-double.index l i c.loop-double-test.true found.0 (sym (c.loop-double.invariant.index d.p d.q) ∙ (sym c.number_of.ensures ∙ found.1))

pub loop-double-preserved : goal.loop-double-preserved
loop-double-preserved c =
    let l = c.args.doubles.now in
    let i = c.loop-double.double-index in
    let d : Double = get_or l i no_double in
    let none : number_in c.loop-double.index d.p d.q ≡ None = sym c.number_of.ensures ∙ none_of c.number_of.result (sym c.is_some.ensures ∙ c.if-is_some.false) in
    record {
      index = index-more c.loop-double.index c.insert.new.self l i c.loop-double-test.true none c.loop-double.invariant.index c.in-Ok.ensures.updates.0;
      once = once-more c.loop-double.index c.loop-double.index l i c.loop-double-test.true (sym (c.loop-double.invariant.index d.p d.q) ∙ none) c.loop-double.invariant.once;
    }

pub returns-clause-numbers : goal.returns-clause-numbers
returns-clause-numbers c = subst (λ (l : List Double). IsIndex l c.loop-double.index) (take_all c.loop-double.double-index c.args.doubles.now c.loop-double-test.false) c.loop-double.invariant.index

pub returns-clause-once : goal.returns-clause-once
returns-clause-once c = subst OnceEach (take_all c.loop-double.double-index c.args.doubles.now c.loop-double-test.false) c.loop-double.invariant.once
