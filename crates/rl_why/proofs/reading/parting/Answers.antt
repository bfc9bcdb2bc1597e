use Rattle.std.proofs.Common.{◌≡◌, ⊎_elim, true, false, sym, ap, ap₂, subst, ◌∙◌, arith}
use Rattle.std.proofs.lemmas.Bool.{cases_lt, true≢false}
use Rattle.rl_why.specs.Shown.{are_alike, PartAt}
use Rattle.rl_why.proofs.ShownLaws.{alike-before, apart-there, parts-within}
use Rattle.rl_why.proofs.reading.parting.Goals as goal

pub returns-then-k-second : goal.returns-then-k-second
returns-then-k-second c = λ j h. let within = parts-within j c.args.first.now c.args.second.now h in omega (arith, c.if-k-second.true, c.loop-k.invariant j h, within.1)

pub returns-then-not-alike : goal.returns-then-not-alike
returns-then-not-alike c =
    let x = c.index-first-k.result in
    let y = c.index-second-k.result in
    let same : c.are_alike-alike.result ≡ are_alike x.took y.took =
    c.are_alike-alike.ensures ∙ ap₂ are_alike (c.as_slice.ensures ∙ ap (λ z. z.took) (sym c.index-first-k.is)) (c.as_slice-in-loop-k.ensures ∙ ap (λ z. z.took) (sym c.index-second-k.is)) in
    let no : are_alike x.took y.took ≡ false = sym same ∙ c.if-not-alike.true in
    λ j h. ⊎_elim
    (λ lt. absurd (true≢false (sym (alike-before c.loop-k.k j c.args.first.now c.args.second.now x y h lt c.index-first-k.is c.index-second-k.is) ∙ no)))
    (λ le. omega (arith, le, c.loop-k.invariant j h))
    (cases_lt c.loop-k.k j)

pub loop-k-preserved : goal.loop-k-preserved
loop-k-preserved c =
    let x = c.index-first-k.result in
    let y = c.index-second-k.result in
    let same : c.are_alike-alike.result ≡ are_alike x.took y.took =
    c.are_alike-alike.ensures ∙ ap₂ are_alike (c.as_slice.ensures ∙ ap (λ z. z.took) (sym c.index-first-k.is)) (c.as_slice-in-loop-k.ensures ∙ ap (λ z. z.took) (sym c.index-second-k.is)) in
    let yes : are_alike x.took y.took ≡ true = sym same ∙ c.if-not-alike.false in
    λ j h. ⊎_elim
    (λ lt. omega (arith, lt))
    (λ le.
    let e : j ≡ c.loop-k.k = omega (arith, le, c.loop-k.invariant j h) in
    absurd (true≢false (sym yes ∙ apart-there c.loop-k.k c.args.first.now c.args.second.now x y (subst (λ i. PartAt i c.args.first.now c.args.second.now) e h) c.index-first-k.is c.index-second-k.is)))
    (cases_lt c.loop-k.k j)

pub returns : goal.returns
returns c = λ j h. let within = parts-within j c.args.first.now c.args.second.now h in omega (arith, c.loop-k.invariant j h, c.loop-k-test.false, within.0)
