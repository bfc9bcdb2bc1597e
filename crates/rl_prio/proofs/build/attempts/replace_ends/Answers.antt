use Rattle.std.proofs.Common.{arith}
use Rattle.rl_prio.proofs.AttemptLemmas.{replaced_more, short_more}
use Rattle.rl_prio.proofs.build.attempts.replace_ends.Goals as goal

pub loop-place-preserved : goal.loop-place-preserved
loop-place-preserved c =
    let old = c.args.lists.now.items in
    let mid = c.loop-place.lists.items in
    let new = c.replace_ends_of.new.lists.items in
    let further = c.args.further.now in
    let made = c.in_ok-replace_ends_of.ensures in (
      replaced_more further c.args.from c.loop-place.place old mid new c.loop-place.invariant.0 made.ok (omega arith),
      short_more further c.args.from c.loop-place.place mid new c.loop-place.invariant.1 made.ok made.short,
    )
