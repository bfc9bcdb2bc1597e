use Rattle.std.proofs.Common.{map, ap, ◌∙◌, arith}
use Rattle.std.proofs.lemmas.List.{take_all}
use Rattle.rl_sarif.specs.Keys.{key_in}
use Rattle.rl_sarif.specs.Known.{times}
use Rattle.rl_sarif.proofs.TallyLemmas.{tallied-more, few-tallied}
use Rattle.rl_sarif.proofs.tally.add_all.Goals as goal

pub add-requires : goal.add-requires
add-requires c =
    let copy = c.in_ok-clone.field-0 in
    omega (arith, c.loop-key.invariant copy, few-tallied c.args.keys.now c.loop-key.key-index (key_in copy))

pub loop-key-preserved : goal.loop-key-preserved
loop-key-preserved c =
    tallied-more c.loop-key.tally c.add.new.tally c.args.keys.now c.loop-key.key-index c.key-item.result c.in_ok-clone.field-0 c.loop-key-test.true c.key-item.is
    c.in_ok-clone.ensures.cases c.loop-key.invariant c.in_ok-add.ensures

pub returns : goal.returns
returns c q = c.loop-key.invariant q ∙ ap (λ ks. times (map key_in ks) (key_in q)) (take_all c.loop-key.key-index c.args.keys.now c.loop-key-test.false)
