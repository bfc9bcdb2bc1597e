use Rattle.std.proofs.Common.{◌<◌, [], length, get_or, take, refl, arith}
use Rattle.rl_trim.proofs.HolderLaws.{noting-wide, noting-more}
use Rattle.rl_trim.proofs.holders.note.Goals as goal

pub set-requires-clause-place_in : goal.set-requires-clause-place_in
set-requires-clause-place_in c =
    let states = c.args.states.now in
    let i = c.loop-state.state-index in
    let lt : i < length states = omega arith in
    let row : get_or states i 0 < length c.loop-state.table = omega (arith, c.requires.rows i 0 lt, c.loop-state.invariant.high) in
    let m = noting-wide c.args.table.now c.loop-state.table (take i states) c.args.set c.requires.wide c.loop-state.invariant in
    omega (arith, m.inside, m.each (get_or states i 0) [] row)

pub loop-state-preserved : goal.loop-state-preserved
loop-state-preserved c =
    let states = c.args.states.now in
    let i = c.loop-state.state-index in
    let lt : i < length states = omega arith in
    let row : get_or states i 0 < length c.loop-state.table = omega (arith, c.requires.rows i 0 lt, c.loop-state.invariant.high) in
    noting-more c.args.table.now c.loop-state.table c.set.new.self states i (get_or states i 0) c.args.set lt refl row c.requires.wide c.loop-state.invariant c.set.ensures
