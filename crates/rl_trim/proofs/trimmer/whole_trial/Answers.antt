use Rattle.std.proofs.Common.{List, Bool, subst}
use Rattle.rl_prio.specs.Automaton.{Automaton}
use Rattle.rl_trim.specs.Judged.{IsFound}
use Rattle.rl_trim.specs.Known.{whole_pairs}
use Rattle.rl_trim.specs.Changes.{AreChangesIf}
use Rattle.rl_trim.specs.internal.Trims.{trim_pairs}
use Rattle.rl_trim.specs.internal.Quick.{IsGrown}
use Rattle.rl_trim.proofs.HolderLaws.{stored-grown}
use Rattle.rl_trim.proofs.TwinLaws.{whole-found}
use Rattle.rl_trim.proofs.trimmer.whole_trial.Goals as goal
use Rattle.rl_trim.proofs.trimmer.whole_trial.Goals.{In_ok-found}

found-whole : (c : In_ok-found) → IsFound (whole_pairs c.args.a.now) c.args.limit c.in_ok-found.found
found-whole c =
    let a = c.args.a.now in
    let nothing = c.in_ok-nothing.nothing in
    let found = subst (λ (b : Automaton). IsFound (trim_pairs b nothing.keep.now) c.args.limit c.in_ok-found.found) c.in_ok-nothing.ensures.automaton c.in_ok-found.ensures.found in
    whole-found a c.args.limit c.in_ok-found.found (subst (λ (keep : List Bool). IsFound (trim_pairs a keep) c.args.limit c.in_ok-found.found) c.in_ok-nothing.ensures.keep found)

pub returns-2-clause-found : goal.returns-2-clause-found
returns-2-clause-found c = found-whole (goal.at.returns-2-clause-found c).In_ok-found

pub returns-2-clause-store : goal.returns-2-clause-store
returns-2-clause-store c = record {
  sets =
      stored-grown c.args.a.now c.args.store.now.walk c.trial_in_order.new.walk c.args.store.now.reached
      (subst (λ (b : Automaton). IsGrown b c.args.store.now.walk c.trial_in_order.new.walk) c.in_ok-nothing.ensures.automaton c.in_ok-found.ensures.grown)
      c.requires.store.sets;
  known = record { targets = c.requires.store.known.targets; ending = c.requires.store.known.ending; changes = subst (λ (b : Automaton). AreChangesIf b c.trial_in_order.new.changes) c.in_ok-nothing.ensures.automaton c.in_ok-found.ensures.changes; whole = found-whole (goal.at.returns-2-clause-store c).In_ok-found; twinned = c.requires.store.known.twinned };
}
