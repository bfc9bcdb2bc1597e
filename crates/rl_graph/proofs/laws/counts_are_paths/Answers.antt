use Rattle.std.proofs.Common.{arith}
use Rattle.rl_graph.proofs.TwinPaths.{path-counts, path-there, two-count, two-there, twin-count, no_twin-count}
use Rattle.rl_graph.proofs.laws.counts_are_paths.Goals as goal

pub returns-clause-one : goal.returns-clause-one
returns-clause-one c = λ next s t w. (path-there next s t w, λ r. path-counts next s t r.0 w r.1)

pub returns-clause-two : goal.returns-clause-two
returns-clause-two c = λ next s t w. (two-there next s t w, λ r. two-count next s t r.0 r.1 w r.2 r.3 r.4)

pub returns-clause-twin : goal.returns-clause-twin
returns-clause-twin c = λ next q w. (
  λ h. let r = two-there next q q w h in (r.0, r.1, record { apart = r.2; one_way = r.3; other_way = r.4 }),
  λ r. twin-count next q w r.0 r.1 r.2,
)

pub returns-clause-none : goal.returns-clause-none
returns-clause-none c = λ next. (
  λ none q w p r twin. absurd (omega (arith, none q w, twin-count next q w p r twin)),
  no_twin-count next,
)
