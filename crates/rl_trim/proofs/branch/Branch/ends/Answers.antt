use Rattle.std.proofs.Common.{◌∙◌, sym, refl}
use Rattle.rl_sets.specs.Walk.{set_at}
use Rattle.rl_trim.proofs.EndLaws.{ending-any}
use Rattle.rl_trim.proofs.branch.Branch.ends.Goals as goal

pub meets-requires-clause-wide : goal.meets-requires-clause-wide
meets-requires-clause-wide c = c.args.self.now.are_ending.0 ∙ sym c.requires.made.states

pub returns : goal.returns
returns c =
    let b = c.args.self.now in
    let set = set_at c.args.walk.now c.args.set in
    c.meets.ensures ∙ ending-any b.automaton.now set set b.ending.now c.states-states.ensures.automaton.three_states (c.requires.made.sets c.args.set c.requires.set_in) b.are_ending refl
