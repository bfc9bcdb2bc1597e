use Rattle.std.proofs.Common.{◌<◌, length, nat_lt, subst, sym, arith}
use Rattle.std.proofs.lemmas.Bool.{cond-true, lt-ltb}
use Rattle.rl_equiv.specs.declared.searching.PairKey.{PairKey}
use Rattle.rl_equiv.specs.Numbering.{with_reached}
use Rattle.rl_equiv.specs.internal.Searching.{state_of, reached_in, reached_at, reached_on}
use Rattle.rl_equiv.proofs.FoundLaws.{reached-length}
use Rattle.rl_equiv.proofs.VisitLaws.{visit-read, visit-put, visit-stay}
use Rattle.rl_equiv.proofs.SearchLaws.{key-read}
use Rattle.rl_equiv.proofs.searching.PairSearch.visit.Goals as goal

pub returns-in_ok-push-clause-onward : goal.returns-in_ok-push-clause-onward
returns-in_ok-push-clause-onward c =
    let a = c.args.a.now in
    let b = c.args.b.now in
    let s = state_of c.args.self.now in
    let v = c.step_to.new.walk in
    let w = c.step_to-2.new.walk in
    let i = visit-read a b s v w c.args.place c.args.letter c.in_ok-first.first c.in_ok-second.second c.index-key.result.now c.requires.search c.requires.place_in c.requires.letter_in (omega (arith, c.len.ensures.len, c.if-len-self.false)) (key-read s c.args.place c.index-key.result.now c.index-key.ensures) c.in_ok-first.ensures c.in_ok-second.ensures in
    (visit-put a b s v w c.args.place c.args.letter c.in_ok-first.first c.in_ok-second.second i c.insert.new.self.keys c.in_ok-insert.field-0 c.in_ok-insert.ensures.keys c.in_ok-insert.ensures.added c.push.new.self.items c.if-branch.true c.in_ok-push.ensures.items).0

pub returns-in_ok-push-clause-reached : goal.returns-in_ok-push-clause-reached
returns-in_ok-push-clause-reached c =
    let a = c.args.a.now in
    let b = c.args.b.now in
    let s = state_of c.args.self.now in
    let v = c.step_to.new.walk in
    let w = c.step_to-2.new.walk in
    let i = visit-read a b s v w c.args.place c.args.letter c.in_ok-first.first c.in_ok-second.second c.index-key.result.now c.requires.search c.requires.place_in c.requires.letter_in (omega (arith, c.len.ensures.len, c.if-len-self.false)) (key-read s c.args.place c.index-key.result.now c.index-key.ensures) c.in_ok-first.ensures c.in_ok-second.ensures in
    (visit-put a b s v w c.args.place c.args.letter c.in_ok-first.first c.in_ok-second.second i c.insert.new.self.keys c.in_ok-insert.field-0 c.in_ok-insert.ensures.keys c.in_ok-insert.ensures.added c.push.new.self.items c.if-branch.true c.in_ok-push.ensures.items).1

pub returns-else-branch-clause-onward : goal.returns-else-branch-clause-onward
returns-else-branch-clause-onward c =
    let a = c.args.a.now in
    let b = c.args.b.now in
    let s = state_of c.args.self.now in
    let v = c.step_to.new.walk in
    let w = c.step_to-2.new.walk in
    let i = visit-read a b s v w c.args.place c.args.letter c.in_ok-first.first c.in_ok-second.second c.index-key.result.now c.requires.search c.requires.place_in c.requires.letter_in (omega (arith, c.len.ensures.len, c.if-len-self.false)) (key-read s c.args.place c.index-key.result.now c.index-key.ensures) c.in_ok-first.ensures c.in_ok-second.ensures in
    (visit-stay a b s v w c.args.place c.args.letter c.in_ok-first.first c.in_ok-second.second i c.insert.new.self.keys c.in_ok-insert.field-0 c.in_ok-insert.ensures.keys c.in_ok-insert.ensures.added c.if-branch.false).0

pub returns-else-branch-clause-reached : goal.returns-else-branch-clause-reached
returns-else-branch-clause-reached c =
    let a = c.args.a.now in
    let b = c.args.b.now in
    let s = state_of c.args.self.now in
    let v = c.step_to.new.walk in
    let w = c.step_to-2.new.walk in
    let i = visit-read a b s v w c.args.place c.args.letter c.in_ok-first.first c.in_ok-second.second c.index-key.result.now c.requires.search c.requires.place_in c.requires.letter_in (omega (arith, c.len.ensures.len, c.if-len-self.false)) (key-read s c.args.place c.index-key.result.now c.index-key.ensures) c.in_ok-first.ensures c.in_ok-second.ensures in
    (visit-stay a b s v w c.args.place c.args.letter c.in_ok-first.first c.in_ok-second.second i c.insert.new.self.keys c.in_ok-insert.field-0 c.in_ok-insert.ensures.keys c.in_ok-insert.ensures.added c.if-branch.false).1

pub returns-then-len-self-clause-reached : goal.returns-then-len-self-clause-reached
returns-then-len-self-clause-reached c =
    let s = state_of c.args.self.now in
    sym (cond-true (nat_lt s.limit (length (reached_in s))) (reached_in s) (with_reached (reached_in s) (reached_on c.args.a.now c.args.b.now (reached_at s c.args.place) c.args.letter))
    (lt-ltb s.limit (length (reached_in s)) (omega (arith, c.len.ensures.len, c.if-len-self.true, reached-length s))))

pub step_to-requires-clause-set_in : goal.step_to-requires-clause-set_in
step_to-requires-clause-set_in c =
    let s = state_of c.args.self.now in
    subst (λ (k : PairKey). k.first < length s.first.sets) (key-read s c.args.place c.index-key.result.now c.index-key.ensures) (c.requires.search.first_in c.args.place c.requires.place_in)

pub step_to-requires-2-clause-set_in : goal.step_to-requires-2-clause-set_in
step_to-requires-2-clause-set_in c =
    let s = state_of c.args.self.now in
    subst (λ (k : PairKey). k.second < length s.second.sets) (key-read s c.args.place c.index-key.result.now c.index-key.ensures) (c.requires.search.second_in c.args.place c.requires.place_in)
