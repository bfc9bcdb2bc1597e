use Rattle.std.proofs.Common.{ℕ, sym, subst}
use Rattle.rl_trim.specs.internal.Trims.{trim_on}
use Rattle.rl_trim.specs.internal.Quick.{pair_at, IsThere, ArePairs, AreTrims}
use Rattle.rl_trim.proofs.PairLaws.{key-read, pairs-grown, onward-grown, visited-pairs, visited-onward, visited-there, visited-root}
use Rattle.rl_trim.proofs.pairs.Pairs.visit.Goals as goal

pub returns-then-next-self-clause-pairs : goal.returns-then-next-self-clause-pairs
returns-then-next-self-clause-pairs c = pairs-grown c.args.branch.now.automaton.now c.args.branch.now.keep.now c.args.walk.now c.next.new.walk c.args.self.now.count c.args.self.now.keys.keys c.in_ok-next.ensures.next.grown c.requires.pairs

pub returns-then-next-self-clause-onward : goal.returns-then-next-self-clause-onward
returns-then-next-self-clause-onward c = onward-grown c.args.branch.now.automaton.now c.args.walk.now c.next.new.walk c.args.self.now.keys.keys c.in_ok-next.ensures.next.grown

pub returns-then-next-self-clause-there : goal.returns-then-next-self-clause-there
returns-then-next-self-clause-there c =
    let keys = c.args.self.now.keys.keys in
    let key = c.index-key.result.now in
    visited-root c.args.branch.now.automaton.now c.args.branch.now.keep.now c.args.walk.now c.next.new.walk c.args.self.now.count keys keys c.args.place c.args.letter key c.in_ok-next.next c.requires.place_in
    (key-read keys c.args.place key c.index-key.ensures) c.requires.pairs c.in_ok-next.ensures.next c.if-next.true c.if-next-self.true

pub returns-clause-pairs : goal.returns-clause-pairs
returns-clause-pairs c =
    let a = c.args.branch.now.automaton.now in
    let keep = c.args.branch.now.keep.now in
    let keys = c.args.self.now.keys.keys in
    let more = c.add.new.self.keys.keys in
    let key = c.index-key.result.now in
    let pairs = visited-pairs a keep c.args.walk.now c.next.new.walk c.args.self.now.count keys more c.args.place c.args.letter key c.in_ok-next.next c.requires.place_in (key-read keys c.args.place key c.index-key.ensures) c.requires.pairs c.in_ok-next.ensures.next c.in_ok-add.ensures.put in
    subst (λ (n : ℕ). ArePairs a keep c.next.new.walk n more) (sym c.in_ok-add.ensures.count) pairs

pub returns-clause-onward : goal.returns-clause-onward
returns-clause-onward c =
    let keys = c.args.self.now.keys.keys in
    let key = c.index-key.result.now in
    visited-onward c.args.branch.now.automaton.now c.args.branch.now.keep.now c.args.walk.now c.next.new.walk c.args.self.now.count keys c.add.new.self.keys.keys c.args.place c.args.letter key c.in_ok-next.next c.requires.place_in
    (key-read keys c.args.place key c.index-key.ensures) c.requires.pairs c.in_ok-next.ensures.next c.in_ok-add.ensures.put

pub returns-clause-there : goal.returns-clause-there
returns-clause-there c =
    let a = c.args.branch.now.automaton.now in
    let keep = c.args.branch.now.keep.now in
    let keys = c.args.self.now.keys.keys in
    let more = c.add.new.self.keys.keys in
    let key = c.index-key.result.now in
    let there = visited-there a keep c.args.walk.now c.next.new.walk c.args.self.now.count keys more c.args.place c.args.letter key c.in_ok-next.next c.requires.place_in (key-read keys c.args.place key c.index-key.ensures) c.requires.pairs c.in_ok-next.ensures.next c.in_ok-add.ensures.put in
    subst (λ (n : ℕ). IsThere keep c.next.new.walk n more (trim_on a keep (pair_at c.args.walk.now keys c.args.place) c.args.letter)) (sym c.in_ok-add.ensures.count) there

pub returns-clause-trims : goal.returns-clause-trims
returns-clause-trims c = subst (AreTrims c.args.branch.now.keep.now c.next.new.walk) (sym c.in_ok-add.ensures.trims) c.in_ok-next.ensures.trims
