use Rattle.rl_numbers.specs.Index.{number_in}
use Rattle.rl_numbers.proofs.StepLaws.{each-inner}
use Rattle.rl_numbers.proofs.checking.each_passes.Goals as goal

pub returns : goal.returns
returns c =
    let e = each-inner c.args.g.now c.args.inner.now c.args.ranks.now c.requires.inner (number_in c.args.index.now) c.args.triples.now in
    (λ holds. e.0 (c.each_holds.ensures.0 holds), λ all. c.each_holds.ensures.1 (e.1 all))
