use Rattle.std.proofs.Common.{◌∙◌, sym, subst}
use Rattle.rl_trim.specs.internal.Quick.{IsInside}
use Rattle.rl_trim.proofs.SetLaws.{grown-refl}
use Rattle.rl_trim.proofs.PairLaws.{key-read, differing-done, onward-grown}
use Rattle.rl_trim.proofs.pairs.Pairs.look.Goals as goal

pub differs-requires-clause-inside : goal.differs-requires-clause-inside
differs-requires-clause-inside c =
    let keys = c.args.self.now.keys.keys in
    subst (IsInside c.args.walk.now) (key-read keys c.args.place c.index-key.result.now c.index-key.ensures) (c.requires.pairs.rooted.each c.args.place c.requires.place_in)

pub returns-then-differs-clause-onward : goal.returns-then-differs-clause-onward
returns-then-differs-clause-onward c =
    onward-grown c.args.branch.now.automaton.now c.args.walk.now c.args.walk.now c.args.self.now.keys.keys (grown-refl c.args.branch.now.automaton.now c.args.walk.now c.requires.pairs.closed.made)

pub returns-then-differs-clause-done : goal.returns-then-differs-clause-done
returns-then-differs-clause-done c =
    let a = c.args.branch.now.automaton.now in
    let walk = c.args.walk.now in
    let keys = c.args.self.now.keys.keys in
    let key = c.index-key.result.now in
    differing-done a c.args.branch.now.keep.now walk walk c.args.self.now.count keys c.args.place key c.requires.pairs c.requires.place_in
    (key-read keys c.args.place key c.index-key.ensures) (grown-refl a walk c.requires.pairs.closed.made) (sym c.differs.ensures ∙ c.if-differs.true)
