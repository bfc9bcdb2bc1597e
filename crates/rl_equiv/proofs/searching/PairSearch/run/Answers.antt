use Rattle.std.proofs.Common.{◌≡◌, ◌∙◌, ◌<◌, ◌-◌, ℕ, suc, length, refl, ap, sym, subst, arith}
use Rattle.std.proofs.lemmas.List.{get_or_default}
use Rattle.rl_equiv.specs.internal.Searching.{state_of, is_apart, no_ends}
use Rattle.rl_equiv.proofs.SeenLaws.{seen-differs, seen-apart, seen-exceeded, seen-all}
use Rattle.rl_equiv.proofs.ApartLaws.{apart-is}
use Rattle.rl_equiv.proofs.searching.PairSearch.run.Goals as goal

pub returns-then-last-clause-answer : goal.returns-then-last-clause-answer
returns-then-last-clause-answer c =
    let seen = c.in_ok-seen.seen.items in
    let place = c.len-place.result - 1 in
    let lt : place < length seen = omega (arith, c.len-place.ensures, c.in_ok-seen.ensures.some, c.in_ok-seen.seen.ok) in
    let same = get_or_default seen place no_ends c.index-last.result.now lt ∙ sym c.index-last.ensures in
    seen-apart c.args.a.now c.args.b.now c.args.self.now.limit (state_of c.look.new.self) seen c.in_ok-seen.ensures.seen place lt (ap is_apart same ∙ c.if-last.true)

pub returns-then-last-clause-apart : goal.returns-then-last-clause-apart
returns-then-last-clause-apart c =
    let a = c.args.a.now in
    let b = c.args.b.now in
    let s = state_of c.look.new.self in
    let seen = c.in_ok-seen.seen.items in
    let r = c.in_ok-seen.ensures.seen in
    let place = c.len-place.result - 1 in
    let lt : place < length seen = omega (arith, c.len-place.ensures, c.in_ok-seen.ensures.some, c.in_ok-seen.seen.ok) in
    let same = get_or_default seen place no_ends c.index-last.result.now lt ∙ sym c.index-last.ensures in
    apart-is a b c.requires.readers s r.search place c.in_ok-text.text (omega (arith, lt, r.in_found)) (seen-differs a b c.args.self.now.limit s seen r place lt ∙ ap is_apart same ∙ c.if-last.true) c.in_ok-text.ensures

pub returns-then-len-self-clause-answer : goal.returns-then-len-self-clause-answer
returns-then-len-self-clause-answer c =
    let s = state_of c.look.new.self in
    let seen = c.in_ok-seen.seen.items in
    let r = c.in_ok-seen.ensures.seen in
    let place = c.len-place.result - 1 in
    let lt : place < length seen = omega (arith, c.len-place.ensures, c.in_ok-seen.ensures.some, c.in_ok-seen.seen.ok) in
    let count : length seen ≡ suc place = omega (arith, c.len-place.ensures, c.in_ok-seen.ensures.some, c.in_ok-seen.seen.ok) in
    let same = get_or_default seen place no_ends c.index-last.result.now lt ∙ sym c.index-last.ensures in
    seen-exceeded c.args.a.now c.args.b.now c.args.self.now.limit s seen r (state_of c.args.self.now) refl (c.in_ok-seen.ensures.apart refl) place count (ap is_apart same ∙ c.if-last.false)
    (omega (arith, c.len.ensures.len, c.if-len-self.true, r.limit_is))

pub returns-clause-answer : goal.returns-clause-answer
returns-clause-answer c =
    let s = state_of c.look.new.self in
    let seen = c.in_ok-seen.seen.items in
    let r = c.in_ok-seen.ensures.seen in
    let place = c.len-place.result - 1 in
    let lt : place < length seen = omega (arith, c.len-place.ensures, c.in_ok-seen.ensures.some, c.in_ok-seen.seen.ok) in
    let count : length seen ≡ suc place = omega (arith, c.len-place.ensures, c.in_ok-seen.ensures.some, c.in_ok-seen.seen.ok) in
    let same = get_or_default seen place no_ends c.index-last.result.now lt ∙ sym c.index-last.ensures in
    seen-all c.args.a.now c.args.b.now c.args.self.now.limit s seen r (state_of c.args.self.now) refl (c.in_ok-seen.ensures.apart refl) place count (ap is_apart same ∙ c.if-last.false)
    c.requires.readers (omega (arith, c.len.ensures.len, c.if-len-self.false, r.limit_is)) c.in_ok-relation.relation c.in_ok-relation.ensures

pub text_to-requires-clause-earlier : goal.text_to-requires-clause-earlier
text_to-requires-clause-earlier c = λ k some k_in.
    let r = c.in_ok-seen.ensures.seen.search in
    (r.ways k some (subst (λ (n : ℕ). k < n) r.paired k_in)).earlier

pub text_to-requires-clause-small : goal.text_to-requires-clause-small
text_to-requires-clause-small c = λ k some k_in.
    let r = c.in_ok-seen.ensures.seen.search in
    (r.ways k some (subst (λ (n : ℕ). k < n) r.paired k_in)).small
