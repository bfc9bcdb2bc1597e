use Rattle.std.proofs.Common.{◌≡◌, true, ap, sym, ◌∙◌}
use Rattle.std.proofs.lemmas.Result.{err_from_is_err_and}
use Rattle.rl_prio.specs.Automaton.{accepting_state}
use Rattle.rl_sets.specs.Live.{holds}
use Rattle.rl_sets.specs.Walk.{set_at}
use Rattle.rl_sets.specs.internal.Search.{found_of, found_set}
use Rattle.rl_sets.proofs.VisitLemmas.{GoesOn-same, grown-again, looked-dead, looked-accepting, route-through, added-goes-on, added-looked, life-dead, life-live}
use Rattle.rl_sets.proofs.walk.SetWalk.visit.Goals as goal

pub returns-in_err-next : goal.returns-in_err-next
returns-in_err-next c =
    let s = c.step_from.ensures in
    let p = err_from_is_err_and c.from_residual.result c.from_residual.ensures.1 in
    rw (p.1, p.2) (record { made = s.made; limit = s.limit; grown = s.grown; full = c.in_err-next.ensures.full; goes_on = tt; route = tt; looked = tt })

pub returns-then-holds : goal.returns-then-holds
returns-then-holds c =
    let a = c.args.a.now in
    let w = c.step_from.new.self in
    let f = found_of c.args.search.now in
    let from = found_set c.args.self.now f 0 in
    let s = c.step_from.ensures in
    let in' : holds (set_at w c.in_ok-next.next) (accepting_state a) ≡ true = ap (holds (set_at w c.in_ok-next.next)) (sym c.accepting.ensures.state) ∙ sym c.holds.ensures ∙ c.if-holds.true in
    record {
      made = s.made;
      limit = s.limit;
      grown = s.grown;
      full = tt;
      goes_on = GoesOn-same a from c.args.self.now w f c.requires.search s.grown;
      route = tt;
      looked = looked-accepting a from c.args.self.now w f c.args.place c.args.letter c.in_ok-next.next c.requires.search s.grown c.requires.looked c.requires.place_in c.requires.letter_in c.in_ok-next.ensures.image in';
    }

pub returns-in-Dead : goal.returns-in-Dead
returns-in-Dead c =
    let a = c.args.a.now in
    let w = c.step_from.new.self in
    let f = found_of c.args.search.now in
    let from = found_set c.args.self.now f 0 in
    let s = c.step_from.ensures in
    record {
      made = s.made;
      limit = s.limit;
      grown = s.grown;
      full = tt;
      goes_on = GoesOn-same a from c.args.self.now w f c.requires.search s.grown;
      route = tt;
      looked = looked-dead a from c.args.self.now w f c.args.place c.args.letter c.in_ok-next.next c.requires.search s.grown c.requires.looked c.requires.place_in c.requires.letter_in c.in_ok-next.ensures.image
          (life-dead a w c.in_ok-next.next s.made c.in_ok-next.ensures.image.within (sym c.life.ensures ∙ c.in-Dead.is));
    }

pub returns-in_err-route-in-Live : goal.returns-in_err-route-in-Live
returns-in_err-route-in-Live c =
    let a = c.args.a.now in
    let from = found_set c.args.self.now (found_of c.args.search.now) 0 in
    let s = c.step_from.ensures in
    let put = c.put_route.ensures in
    let p = err_from_is_err_and c.from_residual-in_err-route-in-Live.result c.from_residual-in_err-route-in-Live.ensures.1 in
    rw (p.1, p.2) (record {
      made = put.made a s.made;
      limit = put.limit ∙ s.limit;
      grown = grown-again a from c.args.self.now.sets c.step_from.new.self.sets c.put_route.new.self.sets s.grown put.sets;
      full = λ is. cc;
      goes_on = tt;
      route = tt;
      looked = tt;
    })

pub returns-in_ok-route-in-Live : goal.returns-in_ok-route-in-Live
returns-in_ok-route-in-Live c =
    let a = c.args.a.now in
    let w = c.step_from.new.self in
    let f = found_of c.args.search.now in
    let from = found_set c.args.self.now f 0 in
    let s = c.step_from.ensures in
    let put = c.put_route.ensures in
    let grown = grown-again a from c.args.self.now.sets w.sets c.put_route.new.self.sets s.grown put.sets in
    record {
      made = put.made a s.made;
      limit = put.limit ∙ s.limit;
      grown = grown;
      full = tt;
      goes_on = GoesOn-same a from c.args.self.now c.put_route.new.self f c.requires.search grown;
      route = route-through a from c.args.self.now w f c.args.place c.args.letter c.in_ok-next.next c.requires.search s.grown c.requires.looked c.requires.place_in c.requires.letter_in c.in_ok-next.ensures.image
          c.put_route.new.self c.in-Live.route c.in_ok-route-in-Live.route c.accepting.ensures.automaton
          (life-live a w c.in_ok-next.next c.in-Live.route s.made c.in_ok-next.ensures.image.within (sym c.life.ensures ∙ c.in-Live.is))
          put.sets c.in_ok-route-in-Live.ensures.put c.in_ok-route-in-Live.ensures.number;
      looked = tt;
    }

pub returns-in_err-add-in-Unknown : goal.returns-in_err-add-in-Unknown
returns-in_err-add-in-Unknown c =
    let s = c.step_from.ensures in
    let p = err_from_is_err_and c.from_residual-in_err-add-in-Unknown.result c.from_residual-in_err-add-in-Unknown.ensures.1 in
    rw (p.1, p.2) (record { made = s.made; limit = s.limit; grown = s.grown; full = λ is. cc; goes_on = tt; route = tt; looked = tt })

pub returns-in_ok-add-in-Unknown : goal.returns-in_ok-add-in-Unknown
returns-in_ok-add-in-Unknown c =
    let a = c.args.a.now in
    let w = c.step_from.new.self in
    let f = found_of c.args.search.now in
    let from = found_set c.args.self.now f 0 in
    let s = c.step_from.ensures in
    let free = ap (holds (set_at w c.in_ok-next.next)) (sym c.accepting.ensures.state) ∙ sym c.holds.ensures ∙ c.if-holds.false in
    record {
      made = s.made;
      limit = s.limit;
      grown = s.grown;
      full = tt;
      goes_on = added-goes-on a from c.args.self.now w f c.args.place c.args.letter c.in_ok-next.next c.requires.search s.grown c.requires.looked c.requires.place_in c.requires.letter_in c.in_ok-next.ensures.image (found_of c.add.new.self) free c.in_ok-add-in-Unknown.ensures;
      route = tt;
      looked = added-looked a from c.args.self.now w f c.args.place c.args.letter c.in_ok-next.next c.requires.search s.grown c.requires.looked c.requires.place_in c.requires.letter_in c.in_ok-next.ensures.image (found_of c.add.new.self) free c.in_ok-add-in-Unknown.ensures;
    }
