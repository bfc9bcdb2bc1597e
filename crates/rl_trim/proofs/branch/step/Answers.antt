use Rattle.std.proofs.Common.{ℕ, ◌<◌, ◌≤◌, List, length, Result, Ok, Err, IfOk}
use Rattle.rl_prio.specs.Automaton.{Automaton}
use Rattle.rl_sets.specs.Live.{image}
use Rattle.rl_sets.specs.Walk.{Walk, set_at, IsMadeFor, IsListed}
use Rattle.rl_trim.specs.internal.Quick.{IsNumbered}
use Rattle.rl_trim.proofs.SetLaws.{numbered}
use Rattle.rl_trim.proofs.branch.step.Goals as goal

numbered-if : {E : Type 0} (a : Automaton) (old new : Walk) (set : List ℕ) (r : Result ℕ E) → IsMadeFor new a → length old.sets ≤ length new.sets → IfOk r (λ n. n < length new.sets) → IfOk r (IsListed old.sets new.sets set)
    → IfOk r (IsNumbered a old new set)
numbered-if a old new set (Ok n) made longer inside listed = numbered a old new set n made inside longer listed
numbered-if a old new set (Err e) made longer inside listed = tt

pub returns : goal.returns
returns c =
    numbered-if c.args.a.now c.args.walk.now c.step.new.self (image c.args.a.now (set_at c.args.walk.now c.args.set) c.args.letter) c.step.result c.step.ensures.made c.step.ensures.longer c.step.ensures.inside c.step.ensures.listed
