use Rattle.std.proofs.Common.{Result, Ok, Err, OnOk, sym, subst}
use Rattle.rl_prio.specs.Automaton.{Automaton}
use Rattle.rl_sets.specs.Walk.{Walk}
use Rattle.rl_trim.specs.internal.Quick.{IsGrown, ArePairs}
use Rattle.rl_trim.proofs.SetLaws.{grown-grown}
use Rattle.rl_trim.proofs.quick.quick_trial.Goals as goal

-- A walk that has grown before has grown.
then-grown : {A E : Type 0} (a : Automaton) (v w x : Walk) (r : Result A E) → IsGrown a v w → OnOk r (IsGrown a w x) → OnOk r (IsGrown a v x)
then-grown a v w x (Ok o) g h = grown-grown a v w x g h
then-grown a v w x (Err e) g h = tt

pub judge_pairs-told-requires-clause-pairs : goal.judge_pairs-told-requires-clause-pairs
judge_pairs-told-requires-clause-pairs c =
    subst (λ n. ArePairs c.args.branch.now.automaton.now c.args.branch.now.keep.now c.new-begun.new.walk n c.in_ok-pairs.pairs.keys.keys) (sym c.in_ok-pairs.ensures.count) c.in_ok-pairs.ensures.pairs

pub returns-clause-found : goal.returns-clause-found
returns-clause-found c = c.judge_pairs-told.ensures.found

pub returns-clause-grown : goal.returns-clause-grown
returns-clause-grown c =
    then-grown c.args.branch.now.automaton.now c.args.walk.now c.new-begun.new.walk c.judge_pairs-told.new.walk c.judge_pairs-told.result c.in_ok-pairs.ensures.grown c.judge_pairs-told.ensures.grown
