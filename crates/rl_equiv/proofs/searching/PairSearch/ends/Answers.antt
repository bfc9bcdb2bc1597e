use Rattle.std.proofs.Common.{◌<◌, length, refl, subst}
use Rattle.rl_equiv.specs.declared.searching.PairKey.{PairKey}
use Rattle.rl_equiv.specs.internal.Searching.{state_of}
use Rattle.rl_equiv.proofs.SearchLaws.{key-read, ends-read, search-again, pairs-again}
use Rattle.rl_equiv.proofs.searching.PairSearch.ends.Goals as goal

pub returns-clause-ends : goal.returns-clause-ends
returns-clause-ends c =
    let s = state_of c.args.self.now in
    ends-read c.args.a.now c.args.b.now s c.args.place c.index-key.result.now c.in_ok-first.first c.in_ok-second.second (key-read s c.args.place c.index-key.result.now c.index-key.ensures) c.in_ok-first.ensures.ends c.in_ok-second.ensures.ends

pub returns-clause-search : goal.returns-clause-search
returns-clause-search c =
    search-again c.args.a.now c.args.b.now (state_of c.args.self.now) c.ends_at.new.walk c.ends_at-2.new.walk c.requires.search
    c.in_ok-first.ensures.made c.in_ok-first.ensures.limit c.in_ok-first.ensures.sets c.in_ok-second.ensures.made c.in_ok-second.ensures.limit c.in_ok-second.ensures.sets

pub returns-clause-pairs : goal.returns-clause-pairs
returns-clause-pairs c = pairs-again (state_of c.args.self.now) c.ends_at.new.walk c.ends_at-2.new.walk c.in_ok-first.ensures.sets c.in_ok-second.ensures.sets

pub returns-clause-limit : goal.returns-clause-limit
returns-clause-limit c = refl

pub returns-clause-ways : goal.returns-clause-ways
returns-clause-ways c = refl

pub ends_at-requires-clause-set_in : goal.ends_at-requires-clause-set_in
ends_at-requires-clause-set_in c =
    let s = state_of c.args.self.now in
    subst (λ (k : PairKey). k.first < length s.first.sets) (key-read s c.args.place c.index-key.result.now c.index-key.ensures) (c.requires.search.first_in c.args.place c.requires.place_in)

pub ends_at-requires-2-clause-set_in : goal.ends_at-requires-2-clause-set_in
ends_at-requires-2-clause-set_in c =
    let s = state_of c.args.self.now in
    subst (λ (k : PairKey). k.second < length s.second.sets) (key-read s c.args.place c.index-key.result.now c.index-key.ensures) (c.requires.search.second_in c.args.place c.requires.place_in)
