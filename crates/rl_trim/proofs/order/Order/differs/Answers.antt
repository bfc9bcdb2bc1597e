use Rattle.std.proofs.Common.{◌∙◌, sym, ap, subst}
use Rattle.rl_trim.specs.internal.Trims.{trim_differs}
use Rattle.rl_trim.specs.internal.Quick.{IsInside, pair_of}
use Rattle.rl_trim.specs.declared.key.Key.{Key}
use Rattle.rl_trim.proofs.PairLaws.{key-read}
use Rattle.rl_trim.proofs.order.Order.differs.Goals as goal

pub returns : goal.returns
returns c =
    let keys = c.args.self.now.keys.keys in
    c.differs.ensures ∙ ap (λ (k : Key). trim_differs c.args.branch.now.automaton.now (pair_of c.args.walk.now k)) (sym (key-read keys c.args.place c.index.result.now c.index.ensures))

pub differs-requires-clause-made : goal.differs-requires-clause-made
differs-requires-clause-made c = c.requires.keys.made

pub differs-requires-clause-inside : goal.differs-requires-clause-inside
differs-requires-clause-inside c =
    subst (IsInside c.args.walk.now) (key-read c.args.self.now.keys.keys c.args.place c.index.result.now c.index.ensures) (c.requires.keys.inside c.args.place c.requires.place_in)
