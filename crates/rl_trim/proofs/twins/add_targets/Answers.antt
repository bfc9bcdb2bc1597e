use Rattle.std.proofs.Common.{rules, ◌≡◌, ◌-◌, [], ◌∷◌, ◌++◌, length, get_or, Some}
use Rattle.std.specs.List.{slice_get}
use Rattle.rl_trim.proofs.TwinLaws.{appending-more, appending-same, appending-done}
use Rattle.rl_trim.proofs.twins.add_targets.Goals as goal

pub loop-target-preserved : goal.loop-target-preserved
loop-target-preserved c =
    let list = c.loop-target.list.items in
    let targets = c.moves-targets.result.now in
    let i = c.loop-target.target-index in
    let e : c.push.new.self.items ≡ list ++ get_or targets i 0 ∷ [] = search rules in
    appending-more c.args.a.now c.args.state c.args.letter targets i list c.push.new.self.items e c.loop-target-test.true c.loop-target.invariant

pub loop-target-preserved-then-eq-2 : goal.loop-target-preserved-then-eq-2
loop-target-preserved-then-eq-2 c =
    let list = c.loop-target.list.items in
    let targets = c.moves-targets.result.now in
    let i = c.loop-target.target-index in
    let last : slice_get list (length list - 1) ≡ Some (get_or targets i 0) = search rules in
    appending-same c.args.a.now c.args.state c.args.letter targets i list c.loop-target-test.true last c.loop-target.invariant

pub returns : goal.returns
returns c =
    appending-done c.args.a.now c.args.state c.args.letter c.moves-targets.result.now c.loop-target.target-index c.loop-target.list.items c.moves-targets.ensures.moves c.loop-target-test.false
    c.loop-target.invariant
