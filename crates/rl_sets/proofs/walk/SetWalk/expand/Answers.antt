use Rattle.std.proofs.Common.{◌≡◌, ◌+◌, ℕ, true, false, length, ap, sym, ◌∙◌, subst, arith}
use Rattle.std.proofs.lemmas.Result.{err_from_is_err_and}
use Rattle.rl_ranges.specs.Letters.{LetterTable}
use Rattle.rl_prio.specs.Automaton.{letters_count, accepting_state}
use Rattle.rl_sets.specs.Live.{holds}
use Rattle.rl_sets.specs.Walk.{set_at}
use Rattle.rl_sets.specs.internal.Search.{found_of, found_set, IsImageAt, IsLookedAt}
use Rattle.rl_sets.proofs.ExpandLemmas.{expanding-start, expanding-more, route-at-end, grown-on, over-on, goes-on, none-at, some-at}
use Rattle.rl_sets.proofs.SearchLemmas.{IsLookedAt-next}
use Rattle.rl_sets.proofs.VisitLemmas.{GoesOn-same}
use Rattle.rl_sets.proofs.walk.SetWalk.expand.Goals as goal

pub returns-in_err-after : goal.returns-in_err-after
returns-in_err-after c =
    let s = c.step_from.ensures in
    let p = err_from_is_err_and c.from_residual.result c.from_residual.ensures.1 in
    rw (p.1, p.2) (record { made = s.made; limit = s.limit; grown = s.grown; full = c.in_err-after.ensures.full; goes_on = tt; route = tt; looked = tt })

pub returns-then-not-holds : goal.returns-then-not-holds
returns-then-not-holds c =
    let a = c.args.a.now in
    let old = c.args.self.now in
    let w = c.step_from.new.self in
    let f = found_of c.args.search.now in
    let s = c.step_from.ensures in
    let end : c.count-end.result ≡ letters_count a = c.count-end.ensures ∙ ap (λ (t : LetterTable). length t.samples) c.letters.ensures in
    let at = subst (λ (l : ℕ). IsImageAt a w f c.args.place l c.in_ok-after.after) end c.in_ok-after.ensures.image in
    let free : holds (set_at w c.in_ok-after.after) (accepting_state a) ≡ false = ap (holds (set_at w c.in_ok-after.after)) (sym c.accepting.ensures.state) ∙ sym c.holds.ensures ∙ c.if-not-holds.true in
    record {
      made = s.made;
      limit = s.limit;
      grown = s.grown;
      full = tt;
      goes_on = GoesOn-same a (found_set old f 0) old w f c.requires.search s.grown;
      route = route-at-end a old w f c.args.place c.in_ok-after.after c.accepting.ensures.automaton c.requires.place_in c.requires.search s.made s.grown at free;
      looked = tt;
    }

pub loop-letter-init : goal.loop-letter-init
loop-letter-init c =
    let a = c.args.a.now in
    let w = c.step_from.new.self in
    let f = found_of c.args.search.now in
    let end : c.count-end.result ≡ letters_count a = c.count-end.ensures ∙ ap (λ (t : LetterTable). length t.samples) c.letters.ensures in
    let at = subst (λ (l : ℕ). IsImageAt a w f c.args.place l c.in_ok-after.after) end c.in_ok-after.ensures.image in
    let in' : holds (set_at w c.in_ok-after.after) (accepting_state a) ≡ true = ap (holds (set_at w c.in_ok-after.after)) (sym c.accepting.ensures.state) ∙ sym c.holds.ensures ∙ c.if-not-holds.false in
    expanding-start a c.args.self.now w f c.args.place c.in_ok-after.after c.requires.search c.requires.looked c.step_from.ensures.made c.step_from.ensures.limit c.step_from.ensures.grown at in'

pub visit-requires : goal.visit-requires
visit-requires c =
    let end : c.count-end.result ≡ letters_count c.args.a.now = c.count-end.ensures ∙ ap (λ (t : LetterTable). length t.samples) c.letters.ensures in
    let i = c.loop-letter.invariant in
    record {
      made = i.made;
      letter_in = omega (arith, c.loop-letter-test.true, end);
      place_in = omega (arith, c.requires.place_in, i.goes.extends.longer);
      search = i.goes.search;
      looked = i.looked;
    }

pub returns-in_err-route : goal.returns-in_err-route
returns-in_err-route c =
    let a = c.args.a.now in
    let old = c.args.self.now in
    let f = found_of c.args.search.now in
    let g = found_of c.loop-letter.search in
    let w = c.loop-letter.self in
    let i = c.loop-letter.invariant in
    let v = c.visit.ensures in
    let p = err_from_is_err_and c.from_residual-in_err-route.result c.from_residual-in_err-route.ensures.1 in
    rw (p.1, p.2) (record {
      made = v.made;
      limit = v.limit ∙ i.limit;
      grown = grown-on a old w c.visit.new.self f g g c.requires.search i.goes i.grown v.grown;
      full = λ is. over-on a old w c.visit.new.self f g g c.requires.search i.goes i.grown i.limit (c.in_err-route.ensures.full is);
      goes_on = tt;
      route = tt;
      looked = tt;
    })

pub returns-then-is_some : goal.returns-then-is_some
returns-then-is_some c =
    let a = c.args.a.now in
    let old = c.args.self.now in
    let new = c.visit.new.self in
    let f = found_of c.args.search.now in
    let g = found_of c.loop-letter.search in
    let h = found_of c.visit.new.search in
    let w = c.loop-letter.self in
    let i = c.loop-letter.invariant in
    let v = c.visit.ensures in
    record {
      made = v.made;
      limit = v.limit ∙ i.limit;
      grown = grown-on a old w new f g g c.requires.search i.goes i.grown v.grown;
      full = tt;
      goes_on = goes-on a old w new f g h c.requires.search i.goes i.grown c.in_ok-route.ensures.goes_on;
      route = c.in_ok-route.ensures.route;
      looked = some-at c.in_ok-route.route (IsLookedAt a new h (c.args.place + 1) 0) (sym c.is_some.ensures ∙ c.if-is_some.true);
    }

pub loop-letter-preserved : goal.loop-letter-preserved
loop-letter-preserved c =
    let a = c.args.a.now in
    let h = found_of c.visit.new.search in
    let looked = none-at c.in_ok-route.route (IsLookedAt a c.visit.new.self h c.args.place (c.loop-letter.letter + 1)) (sym c.is_some.ensures ∙ c.if-is_some.false) c.in_ok-route.ensures.looked in
    expanding-more a c.args.self.now c.loop-letter.self c.visit.new.self (found_of c.args.search.now) (found_of c.loop-letter.search) h c.args.place c.loop-letter.letter c.requires.place_in c.requires.search c.loop-letter.invariant c.visit.ensures.made c.visit.ensures.limit c.visit.ensures.grown c.in_ok-route.ensures.goes_on looked

pub returns : goal.returns
returns c =
    let end : c.count-end.result ≡ letters_count c.args.a.now = c.count-end.ensures ∙ ap (λ (t : LetterTable). length t.samples) c.letters.ensures in
    let i = c.loop-letter.invariant in
    record {
      made = i.made;
      limit = i.limit;
      grown = i.grown;
      full = tt;
      goes_on = i.goes;
      route = tt;
      looked = IsLookedAt-next c.args.a.now c.loop-letter.self (found_of c.loop-letter.search) c.args.place c.loop-letter.letter (omega arith) i.ended i.looked;
    }
