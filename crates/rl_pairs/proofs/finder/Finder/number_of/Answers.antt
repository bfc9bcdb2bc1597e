use Rattle.std.proofs.Common.{sym, ap, ◌∙◌, arith, is_some}
use Rattle.rl_pairs.proofs.FindingLaws.{key-found, key-missing}
use Rattle.rl_pairs.proofs.finder.Finder.number_of.Goals as goal

pub overflow_cast-result : goal.overflow_cast-result
overflow_cast-result c = omega (arith, (key-found c.args.key c.args.self.now.keys.keys c.in-Some.number c.in-Some.ensures.index).0)

pub returns-in-Some-clause-found : goal.returns-in-Some-clause-found
returns-in-Some-clause-found c = key-found c.args.key c.args.self.now.keys.keys c.in-Some.number c.in-Some.ensures.index

pub returns-in-None-clause-none : goal.returns-in-None-clause-none
returns-in-None-clause-none c = key-missing c.args.key c.args.self.now.keys.keys (sym c.get_index_of.ensures.found ∙ ap is_some c.in-None.is)
