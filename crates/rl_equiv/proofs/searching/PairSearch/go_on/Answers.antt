use Rattle.rl_equiv.proofs.SearchLaws.{begun-search, begun-limit, begun-one}
use Rattle.rl_equiv.proofs.searching.PairSearch.go_on.Goals as goal

pub returns-clause-search : goal.returns-clause-search
returns-clause-search c =
    begun-search c.args.a.now c.args.b.now c.args.limit c.in_ok-first.start c.in-Ok.other_start c.in_ok-first.first c.in-Ok.second
    c.requires.some c.requires.low c.in_ok-first.ensures.side c.in-Ok.ensures.side c.in_ok-first.ensures.inside c.in-Ok.ensures.inside c.in_ok-first.ensures.start c.in-Ok.ensures.start c.begun.result c.begun.ensures

pub returns-clause-limit : goal.returns-clause-limit
returns-clause-limit c = begun-limit c.args.limit c.in_ok-first.start c.in-Ok.other_start c.in_ok-first.first c.in-Ok.second c.begun.result c.begun.ensures

pub returns-clause-one : goal.returns-clause-one
returns-clause-one c =
    begun-one c.args.limit c.in_ok-first.start c.in-Ok.other_start c.in_ok-first.first c.in-Ok.second c.in_ok-first.ensures.start c.in-Ok.ensures.start c.begun.result c.begun.ensures
