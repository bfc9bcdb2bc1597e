use Rattle.std.proofs.Common.{◌∙◌, ◌<◌, length, sym, subst, arith}
use Rattle.rl_trim.specs.internal.Quick.{IsInside}
use Rattle.rl_trim.proofs.SetLaws.{grown-refl}
use Rattle.rl_trim.proofs.PairLaws.{key-read, none-more}
use Rattle.rl_trim.proofs.pairs.Pairs.apart.Goals as goal

pub differs-requires-clause-inside : goal.differs-requires-clause-inside
differs-requires-clause-inside c =
    let keys = c.args.self.now.keys.keys in
    let lt : c.loop-place.place < length keys = omega (arith, c.loop-place-test.true) in
    subst (IsInside c.args.walk.now) (key-read keys c.loop-place.place c.index-key.result.now c.index-key.ensures) (c.requires.rooted.each c.loop-place.place lt)

pub loop-place-preserved : goal.loop-place-preserved
loop-place-preserved c =
    let a = c.args.branch.now.automaton.now in
    let walk = c.args.walk.now in
    let keys = c.args.self.now.keys.keys in
    let key = c.index-key.result.now in
    let place = c.loop-place.place in
    let lt : place < length keys = omega (arith, c.loop-place-test.true) in
    none-more a walk walk keys place key (grown-refl a walk c.requires.closed.made) (c.requires.rooted.each place lt) (key-read keys place key c.index-key.ensures) (sym c.differs.ensures ∙ c.if-differs.false) c.loop-place.invariant
