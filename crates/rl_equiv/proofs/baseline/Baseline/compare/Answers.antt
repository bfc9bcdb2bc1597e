use Rattle.std.proofs.Common.{sym, subst}
use Rattle.std.proofs.lemmas.Result.{err_from_is_err_and}
use Rattle.rl_syntax.specs.Tree.{tree_of, IsOver}
use Rattle.rl_equiv.specs.Bases.{Base, DistinguishesNoMore}
use Rattle.rl_equiv.specs.Languages.{IsTrueAnswer}
use Rattle.rl_equiv.specs.Limits.{AreWithin}
use Rattle.rl_equiv.specs.Numbering.{IsAnswer}
use Rattle.rl_equiv.specs.SetPairs.{set_pairs}
use Rattle.rl_equiv.proofs.ReaderLaws.{are-readers, answer-told}
use Rattle.rl_equiv.proofs.baseline.Baseline.compare.Goals as goal

pub beside-requires-clause-base : goal.beside-requires-clause-base
beside-requires-clause-base c =
    (tree_of c.self.inside.tree, c.self.invariant.0, subst (λ (x : Base). DistinguishesNoMore (tree_of x.tree) (tree_of c.args.other.now)) (sym c.self.view_is) c.requires.letters)

pub beside-requires-clause-inside : goal.beside-requires-clause-inside
beside-requires-clause-inside c = subst (λ (x : Base). IsOver x.universe (tree_of c.args.other.now)) (sym c.self.view_is) c.requires.inside

pub search_on-requires-clause-readers : goal.search_on-requires-clause-readers
search_on-requires-clause-readers c =
    let tells = subst (λ (x : Base). DistinguishesNoMore (tree_of x.tree) (tree_of c.args.other.now)) (sym c.self.view_is) c.requires.letters in
    are-readers c.self.inside.universe (tree_of c.self.inside.tree) (tree_of c.args.other.now) c.self.inside.automaton c.in_ok-second.second (c.in_ok-second.ensures.stand (tree_of c.self.inside.tree) c.self.invariant.0 tells)

pub returns-in_err-second-clause-exceeded : goal.returns-in_err-second-clause-exceeded
returns-in_err-second-clause-exceeded c =
    let tells = subst (λ (x : Base). DistinguishesNoMore (tree_of x.tree) (tree_of c.args.other.now)) (sym c.self.view_is) c.requires.letters in
    let p = err_from_is_err_and c.from_residual.result c.from_residual.ensures.1 in
    rw (p.1, p.2, sym c.self.view_is) (c.in_err-second.ensures.exceeded (tree_of c.self.inside.tree) c.self.invariant.0 tells)

pub returns-clause-within : goal.returns-clause-within
returns-clause-within c =
    let tells = subst (λ (x : Base). DistinguishesNoMore (tree_of x.tree) (tree_of c.args.other.now)) (sym c.self.view_is) c.requires.letters in
    subst (λ (x : Base). AreWithin x.universe (tree_of x.tree) (tree_of c.args.other.now)) c.self.view_is (c.in_ok-second.ensures.within (tree_of c.self.inside.tree) c.self.invariant.0 tells)

pub returns-clause-answer : goal.returns-clause-answer
returns-clause-answer c =
    let tells = subst (λ (x : Base). DistinguishesNoMore (tree_of x.tree) (tree_of c.args.other.now)) (sym c.self.view_is) c.requires.letters in
    subst (λ (x : Base). IsAnswer (set_pairs x.universe (tree_of x.tree) (tree_of c.args.other.now)) c.args.limit c.in-Ok.found) c.self.view_is
    (answer-told c.self.inside.universe (tree_of c.self.inside.tree) (tree_of c.args.other.now) c.self.inside.automaton c.in_ok-second.second (c.in_ok-second.ensures.stand (tree_of c.self.inside.tree) c.self.invariant.0 tells)
    c.args.limit c.in-Ok.found c.in-Ok.ensures.answer c.in-Ok.ensures.apart).0

pub returns-clause-told : goal.returns-clause-told
returns-clause-told c =
    let tells = subst (λ (x : Base). DistinguishesNoMore (tree_of x.tree) (tree_of c.args.other.now)) (sym c.self.view_is) c.requires.letters in
    subst (λ (x : Base). IsTrueAnswer x.universe (tree_of x.tree) (tree_of c.args.other.now) c.in-Ok.found) c.self.view_is
    (answer-told c.self.inside.universe (tree_of c.self.inside.tree) (tree_of c.args.other.now) c.self.inside.automaton c.in_ok-second.second (c.in_ok-second.ensures.stand (tree_of c.self.inside.tree) c.self.invariant.0 tells)
    c.args.limit c.in-Ok.found c.in-Ok.ensures.answer c.in-Ok.ensures.apart).1
