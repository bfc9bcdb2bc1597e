use Rattle.std.proofs.Common.{ℕ, ◌<◌, List, length, Option, IfSome, sym, subst, ◌∙◌}
use Rattle.std.proofs.lemmas.Result.{err_from_is_err_and}
use Rattle.rl_sets.specs.Rests.{IsRefusedRest}
use Rattle.rl_sets.specs.Walk.{set_at}
use Rattle.rl_sets.proofs.WalkLemmas.{room_left}
use Rattle.rl_pairs.specs.LivePairs.{move}
use Rattle.rl_pairs.specs.internal.Finding.{found_of}
use Rattle.rl_pairs.proofs.FindingLaws.{visited-old, visited-new, too-many-pairs}
use Rattle.rl_pairs.proofs.CountingLaws.{onward-refl}
use Rattle.rl_pairs.proofs.finder.Finder.visit.Goals as goal

pub returns-in-Some : goal.returns-in-Some
returns-in-Some c =
    let v = visited-old c.args.a.now c.args.walk.now (found_of c.args.self.now) c.args.row.now.items c.push.new.self.items c.args.key c.in-Some.number c.requires.found c.in-Some.ensures.found c.in_ok-push.ensures.items in
    record { onward = onward-refl c.args.a.now c.args.walk.now c.requires.counting; found = v.found; stays = v.stays; rows = v.rows; noted = v.noted; errors = tt }

pub returns-in_err-rest-clause-errors : goal.returns-in_err-rest-clause-errors
returns-in_err-rest-clause-errors c =
    let p = err_from_is_err_and c.from_residual-in_err-rest.result c.from_residual-in_err-rest.ensures.1 in
    rw (p.1, p.2) (c.in_err-rest.ensures.errors c.args.self.now.limit)

pub returns-then-number-self-clause-errors : goal.returns-then-number-self-clause-errors
returns-then-number-self-clause-errors c =
    let a = c.args.a.now in
    let v = c.args.walk.now in
    let f = found_of c.args.self.now in
    let refused : IsRefusedRest a (set_at v c.args.key.set) c.in-Some-2.rest = subst (λ (o : Option (List ℕ)). IfSome o (IsRefusedRest a (set_at v c.args.key.set))) c.in-Some-2.is c.in_ok-rest.ensures.rest in
    too-many-pairs a v f c.args.row.now.items c.args.key c.requires.counting.made c.requires.found (sym c.len-number.ensures.len ∙ c.if-number-self.true) c.requires.set_in
    (move c.args.letter (c.requires.found.live c.args.from c.requires.from_in) c.requires.letter_in c.requires.reached (c.in-Some-2.rest, refused.0, refused.1)) c.in_default.ensures.none

pub returns : goal.returns
returns c =
    let a = c.args.a.now in
    let v = c.args.walk.now in
    let f = found_of c.args.self.now in
    let o = c.in_ok-rest.ensures.onward in
    let refused : IsRefusedRest a (set_at v c.args.key.set) c.in-Some-2.rest = subst (λ (o : Option (List ℕ)). IfSome o (IsRefusedRest a (set_at v c.args.key.set))) c.in-Some-2.is c.in_ok-rest.ensures.rest in
    let room : length f.keys < f.limit = room_left (length f.keys) f.limit c.requires.found.few (λ e. c.if-number-self.false (c.len-number.ensures.len ∙ e)) in
    let x = visited-new a v c.rest_of.new.walk f (found_of c.add.new.self) c.args.row.now.items c.push-2.new.self.items c.args.from c.args.letter c.len-number.result c.args.key c.in-Ok.lead c.in-Some-2.rest c.requires.found o.keeps
    (record { place = c.requires.place; from_in = c.requires.from_in; letter_in = c.requires.letter_in; set_in = c.requires.set_in; state_in = c.requires.state_in; moved = c.requires.reached; refused = refused; absent = c.in_default.ensures.none; room = room })
    c.in-Ok.ensures c.in_ok-add.ensures c.len-number.ensures.len c.in_ok-push-2.ensures.items in
    record { onward = o; found = x.found; stays = x.stays; rows = x.rows; noted = x.noted; errors = tt }
