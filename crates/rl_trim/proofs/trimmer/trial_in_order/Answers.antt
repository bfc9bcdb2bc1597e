use Rattle.std.proofs.Common.{length}
use Rattle.rl_trim.specs.declared.store.TheConstants.{MOST_SETS}
use Rattle.rl_trim.proofs.KeyOrder.{keys-start, pairs-start}
use Rattle.rl_trim.proofs.ArrivedLaws.{arrived-none}
use Rattle.rl_trim.proofs.trimmer.trial_in_order.Goals as goal

pub judge-found-requires-clause-keys : goal.judge-found-requires-clause-keys
judge-found-requires-clause-keys c =
    keys-start c.args.branch.now.automaton.now c.args.walk.now c.in_ok-order.order.keys.keys 0 (length c.args.walk.now.sets) c.requires.closed c.in_ok-order.ensures.keys

pub judge-found-requires-clause-arrived : goal.judge-found-requires-clause-arrived
judge-found-requires-clause-arrived c = arrived-none c.args.branch.now.keep.now c.args.walk.now c.in_ok-order.order.keys.keys c.in_ok-order.order.arrived MOST_SETS c.in_ok-order.ensures.whole c.in_ok-order.ensures.trims

pub judge-found-requires-clause-one : goal.judge-found-requires-clause-one
judge-found-requires-clause-one c =
    pairs-start c.args.branch.now.automaton.now c.args.walk.now c.in_ok-order.order.keys.keys 0 (length c.args.walk.now.sets) c.requires.closed c.in_ok-order.ensures.keys

pub returns-clause-found : goal.returns-clause-found
returns-clause-found c = c.judge-found.ensures.found

pub returns-clause-grown : goal.returns-clause-grown
returns-clause-grown c = c.judge-found.ensures.grown

pub returns-clause-changes : goal.returns-clause-changes
returns-clause-changes c = c.judge-found.ensures.changes
