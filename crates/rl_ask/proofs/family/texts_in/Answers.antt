use Rattle.std.proofs.Common.{◌∙◌, ap, map}
use Rattle.std.proofs.lemmas.List.{take_all}
use Rattle.rl_ask.proofs.FamilyLemmas.{codes_seen, texts-seen}
use Rattle.rl_ask.proofs.family.texts_in.Goals as goal

pub returns : goal.returns
returns c =
    c.loop-index.invariant ∙ ap (map codes_seen) (take_all c.loop-index.index c.args.values.now c.loop-index-test.false) ∙ texts-seen c.args.values.now
