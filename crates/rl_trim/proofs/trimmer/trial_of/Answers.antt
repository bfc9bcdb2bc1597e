use Rattle.std.proofs.Common.{ℕ, Option, Result, Ok, Err, OnOk}
use Rattle.rl_prio.specs.Automaton.{Automaton}
use Rattle.rl_sets.specs.Walk.{Walk}
use Rattle.rl_trim.specs.declared.store.Store.{Store}
use Rattle.rl_trim.specs.declared.changes.Changes.{Changes}
use Rattle.rl_trim.specs.Reached.{IsStore}
use Rattle.rl_trim.specs.Changes.{AreChangesIf}
use Rattle.rl_trim.specs.internal.Quick.{IsGrown}
use Rattle.rl_trim.proofs.HolderLaws.{stored-grown}
use Rattle.rl_trim.proofs.trimmer.trial_of.Goals as goal

then-stored : {A E : Type 0} (a : Automaton) (s : Store) (w : Walk) (changes : Option Changes) (patience : ℕ) (r : Result A E) → IsStore a s → OnOk r (IsGrown a s.walk w) → OnOk r (AreChangesIf a changes)
    → OnOk r (IsStore a (record s { walk = w; patience = patience; known = record (s.known) { changes = changes } }))
then-stored a s w changes patience (Ok o) is g are = record {
  sets = stored-grown a s.walk w s.reached g is.sets;
  known = record { targets = is.known.targets; ending = is.known.ending; changes = are; whole = is.known.whole; twinned = is.known.twinned };
}
then-stored a s w changes patience (Err e) is g are = tt

pub returns-in-None-clause-store : goal.returns-in-None-clause-store
returns-in-None-clause-store c =
    then-stored c.args.branch.now.automaton.now c.finds_twin.new.store c.trial_in_order.new.walk c.trial_in_order.new.changes c.trial_in_order.new.patience c.trial_in_order.result c.in_ok-finds_twin.ensures.store c.trial_in_order.ensures.grown
    c.trial_in_order.ensures.changes
