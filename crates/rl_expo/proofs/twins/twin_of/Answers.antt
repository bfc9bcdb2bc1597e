use Rattle.std.proofs.Common.{arith}
use Rattle.rl_expo.proofs.SearchLaws.{targets-in}
use Rattle.rl_expo.proofs.twins.twin_of.Goals as goal

pub path_between-requires-clause-from_in : goal.path_between-requires-clause-from_in
path_between-requires-clause-from_in c =
    let g = c.args.g.now in
    rw (c.from.ensures, c.from-2.ensures, c.from-count.ensures, c.states.ensures.number, c.edges-row.ensures.targets) (targets-in g c.args.fork c.states.ensures.whole c.requires.moves)

pub returns-in-None-clause-found : goal.returns-in-None-clause-found
returns-in-None-clause-found c =
    let n = rw c.in-None.is at c.in_ok-back.ensures.none in
    n c.requires.back.0 (omega arith) (rw (c.from.ensures, c.from-2.ensures, c.from-3.ensures, c.from-4.ensures, c.from-count.ensures, c.states.ensures.number, c.edges-row.ensures.targets) c.requires.back.1)
