use Rattle.std.proofs.Common.{◌∙◌, ◌<◌, ℕ, List, length, replicate, All, false, sym, ap, subst, arith}
use Rattle.rl_trim.proofs.HolderLaws.{filling-none, filling-wide, filling-rows, filling-more, filling-all}
use Rattle.rl_trim.proofs.holders.holders_of.Goals as goal

pub note-requires-clause-rows : goal.note-requires-clause-rows
note-requires-clause-rows c =
    let lt : c.loop-set.set < length c.args.walk.now.sets = omega (arith, c.requires.few, c.loop-set-test.true) in
    subst (λ (l : List ℕ). All (λ q. q < length c.loop-set.table) l) (sym (c.as_slice.ensures ∙ c.in_ok-members.ensures))
    (filling-rows c.args.a.now c.args.walk.now c.args.count c.loop-set.set c.loop-set.table c.requires.made lt c.loop-set.invariant)

pub loop-set-preserved : goal.loop-set-preserved
loop-set-preserved c =
    filling-more c.args.a.now c.args.walk.now c.args.count c.loop-set.set c.loop-set.table c.note.new.table c.as_slice.result.now (c.as_slice.ensures ∙ c.in_ok-members.ensures) c.note.ensures c.loop-set.invariant

pub loop-set-init : goal.loop-set-init
loop-set-init c =
    filling-none c.args.a.now c.args.walk.now c.args.count c.in_ok-table.table (c.in_ok-table.ensures ∙ ap (λ n. replicate n (replicate c.args.count false)) c.states.ensures.count)

pub note-requires-clause-wide : goal.note-requires-clause-wide
note-requires-clause-wide c = filling-wide c.args.a.now c.args.walk.now c.args.count c.loop-set.set c.loop-set.table c.loop-set-test.true c.loop-set.invariant

pub returns : goal.returns
returns c = filling-all c.args.a.now c.args.walk.now c.args.count c.loop-set.set c.loop-set.table (omega (arith, c.loop-set-test.false, c.loop-set.auto)) c.loop-set.invariant
