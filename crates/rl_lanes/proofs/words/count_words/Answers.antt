use Rattle.std.proofs.Common.{◌+◌, arith}
use Rattle.rl_lanes.proofs.WordLemmas.{ones-take_more, ones-take_le, ones-take_one}
use Rattle.rl_lanes.proofs.words.count_words.Goals as goal

pub overflow_add-count : goal.overflow_add-count
overflow_add-count c =
    let words = c.args.words.now in
    let at = c.lanes.at in
    record { fits = omega (arith, ones-take_more words at 8, ones-take_le words (at + 8), c.count_lanes.ensures, c.requires) }

pub lanes-preserved : goal.lanes-preserved
lanes-preserved c = (omega arith, omega (arith, ones-take_more c.args.words.now c.lanes.at 8, c.count_lanes.ensures))

pub overflow_add-count-in-rest : goal.overflow_add-count-in-rest
overflow_add-count-in-rest c =
    let words = c.args.words.now in
    let at = c.rest.at in
    record { fits = omega (arith, ones-take_one words at (omega arith), ones-take_le words (at + 1), c.requires) }

pub rest-preserved : goal.rest-preserved
rest-preserved c = (omega arith, omega (arith, ones-take_one c.args.words.now c.rest.at (omega arith)))
