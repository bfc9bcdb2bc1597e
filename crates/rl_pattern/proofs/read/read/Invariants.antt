-- The machine has read the codes so far, and no group among them is nested too deep.
use Rattle.std.proofs.Common.{◌≡◌}
use Rattle.rl_pattern.specs.internal.Views.{state_of}
use Rattle.rl_pattern.specs.internal.Answering.{HasRead}
use Rattle.rl_pattern.proofs.read.read.Given as goal

abbrev pub invariant-loop-code : goal.invariant-loop-code
invariant-loop-code l = HasRead l.fn.flags l.fn.text l.codes l.place (state_of l.state) × (l.place ≡ l.code-index)
