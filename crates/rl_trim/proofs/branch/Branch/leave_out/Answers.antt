use Rattle.std.proofs.Common.{◌∙◌, sym}
use Rattle.rl_sets.specs.Live.{left_out}
use Rattle.rl_sets.specs.Walk.{set_at}
use Rattle.rl_trim.specs.internal.Trims.{trimmed}
use Rattle.rl_trim.proofs.SetLaws.{numbered, numbered-here, numbered-same}
use Rattle.rl_trim.proofs.RowLaws.{left-trimmed, untouched}
use Rattle.rl_trim.proofs.branch.Branch.leave_out.Goals as goal

pub meets-requires-clause-wide : goal.meets-requires-clause-wide
meets-requires-clause-wide c = c.args.self.now.are_gone.wide ∙ sym c.requires.made.states

pub leave_out-requires-clause-wide : goal.leave_out-requires-clause-wide
leave_out-requires-clause-wide c = c.args.self.now.are_gone.wide ∙ sym c.requires.made.states

pub returns-then-not-meets : goal.returns-then-not-meets
returns-then-not-meets c =
    let b = c.args.self.now in
    let a = b.automaton.now in
    let set = set_at c.args.walk.now c.args.set in
    numbered-here a c.args.walk.now (trimmed b.keep.now set) c.args.set c.requires.made c.requires.set_in
    (sym (untouched a b.keep.now b.gone set (c.requires.made.sets c.args.set c.requires.set_in) b.are_gone (sym c.if-not-meets.ensures)))

pub returns : goal.returns
returns c =
    let b = c.args.self.now in
    let a = b.automaton.now in
    let v = c.args.walk.now in
    let w = c.leave_out.new.self in
    let n = c.in_ok-number.number in
    let set = set_at v c.args.set in
    numbered-same a v w (left_out b.gone set) (trimmed b.keep.now set) n (left-trimmed a b.keep.now b.gone set (c.requires.made.sets c.args.set c.requires.set_in) b.are_gone)
    (numbered a v w (left_out b.gone set) n (c.in_ok-number.ensures.made a c.requires.made) c.in_ok-number.ensures.inside c.in_ok-number.ensures.longer c.in_ok-number.ensures.listed)
