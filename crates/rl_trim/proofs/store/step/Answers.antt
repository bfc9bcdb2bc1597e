use Rattle.rl_sets.specs.Live.{image}
use Rattle.rl_sets.specs.Walk.{set_at}
use Rattle.rl_trim.proofs.SetLaws.{numbered}
use Rattle.rl_trim.proofs.ClosingLaws.{image-found}
use Rattle.rl_trim.proofs.store.step.Goals as goal

pub returns-in_ok-push-clause-grown : goal.returns-in_ok-push-clause-grown
returns-in_ok-push-clause-grown c =
    let set = image c.args.a.now (set_at c.args.walk.now c.args.set) c.args.letter in
    (numbered c.args.a.now c.args.walk.now c.step.new.self set c.in_ok-number.number c.in_ok-number.ensures.made c.in_ok-number.ensures.inside c.in_ok-number.ensures.longer c.in_ok-number.ensures.listed).grown

pub returns-in_ok-push-clause-image : goal.returns-in_ok-push-clause-image
returns-in_ok-push-clause-image c =
    let set = image c.args.a.now (set_at c.args.walk.now c.args.set) c.args.letter in
    image-found c.args.a.now c.args.walk.now c.step.new.self c.args.set c.args.letter c.in_ok-number.number c.requires.set_in
    (numbered c.args.a.now c.args.walk.now c.step.new.self set c.in_ok-number.number c.in_ok-number.ensures.made c.in_ok-number.ensures.inside c.in_ok-number.ensures.longer c.in_ok-number.ensures.listed)

pub returns-else-number-len-clause-grown : goal.returns-else-number-len-clause-grown
returns-else-number-len-clause-grown c =
    let set = image c.args.a.now (set_at c.args.walk.now c.args.set) c.args.letter in
    (numbered c.args.a.now c.args.walk.now c.step.new.self set c.in_ok-number.number c.in_ok-number.ensures.made c.in_ok-number.ensures.inside c.in_ok-number.ensures.longer c.in_ok-number.ensures.listed).grown

pub returns-else-number-len-clause-image : goal.returns-else-number-len-clause-image
returns-else-number-len-clause-image c =
    let set = image c.args.a.now (set_at c.args.walk.now c.args.set) c.args.letter in
    image-found c.args.a.now c.args.walk.now c.step.new.self c.args.set c.args.letter c.in_ok-number.number c.requires.set_in
    (numbered c.args.a.now c.args.walk.now c.step.new.self set c.in_ok-number.number c.in_ok-number.ensures.made c.in_ok-number.ensures.inside c.in_ok-number.ensures.longer c.in_ok-number.ensures.listed)
