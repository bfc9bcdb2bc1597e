use Rattle.std.proofs.Common.{◌≡◌, ◌+◌, ◌-◌, ◌<◌, ◌≤◌, ◌∙◌, length, map, drop, get_or, ap, sym, arith}
use Rattle.std.proofs.lemmas.List.{length-map, get_or-map}
use Rattle.rl_why.specs.internal.Numbers.{state_in, kept_place}
use Rattle.rl_why.proofs.NumberLaws.{found-here, met-here, missed-here}
use Rattle.rl_why.proofs.paths.number_of.Goals.{then-target-pair+else-next-number, else-target-pair}
use Rattle.rl_why.proofs.paths.number_of.Goals as goal

pub returns-then-next-number : goal.returns-then-next-number
returns-then-next-number c =
    let g = c.args.g.now in
    let kept = map (state_in g) c.args.kept.now in
    let next = c.loop-target.next in
    let next_in : next < length c.args.kept.now = omega (arith, c.loop-target.invariant.below, c.requires.number_in) in
    let long = length-map c.args.kept.now (state_in g) in
    let state_is : c.pair.result.now.state ≡ get_or kept next 0 = ap (λ p. p.state) c.pair.ensures ∙ sym (get_or-map (state_in g) c.args.kept.now next 0 0 next_in) in
    found-here kept c.args.targets.now next c.loop-target.place c.args.number c.if-next-number.true (omega (arith, next_in, long)) (omega (arith, c.loop-target-test.true, c.loop-target.invariant.place))
    (ap (λ i. get_or c.args.targets.now i 0) c.loop-target.invariant.place ∙ c.if-target-pair.true ∙ state_is)
    (ap (λ i. c.loop-target.place + kept_place (drop next kept) (drop i c.args.targets.now) (c.args.number - next)) c.loop-target.invariant.place ∙ c.loop-target.invariant.rest)

pub loop-target-preserved : goal.loop-target-preserved
loop-target-preserved c =
    let g = c.args.g.now in
    let kept = map (state_in g) c.args.kept.now in
    let targets = c.args.targets.now in
    let next = c.loop-target.next in
    let place = c.loop-target.target-index in
    let next_in : next < length c.args.kept.now = omega (arith, c.loop-target.invariant.below, c.requires.number_in) in
    let long = length-map c.args.kept.now (state_in g) in
    let here : next < length kept = omega (arith, next_in, long) in
    let state_is : c.pair.result.now.state ≡ get_or kept next 0 = ap (λ p. p.state) c.pair.ensures ∙ sym (get_or-map (state_in g) c.args.kept.now next 0 0 next_in) in
    let same : place ≡ c.loop-target.place = sym c.loop-target.invariant.place in
    let rest : place + kept_place (drop next kept) (drop place targets) (c.args.number - next) ≡ kept_place kept targets c.args.number =
    ap (λ i. i + kept_place (drop next kept) (drop place targets) (c.args.number - next)) same ∙ c.loop-target.invariant.rest in
    let both : (c.if-target-pair.next ≤ c.args.number) × (place + 1 + kept_place (drop c.if-target-pair.next kept) (drop (place + 1) targets) (c.args.number - c.if-target-pair.next) ≡ kept_place kept targets c.args.number) =
    elim c.if-target-pair.branch [
      | then-target-pair+else-next-number w ↦
          met-here kept targets next c.if-target-pair.next place c.args.number (kept_place kept targets c.args.number) w.if-next-number.false c.loop-target.invariant.below w.next-is here c.loop-target-test.true
          (w.if-target-pair.true ∙ state_is) rest
      | else-target-pair w ↦
          missed-here kept targets next c.if-target-pair.next place c.args.number (kept_place kept targets c.args.number) c.loop-target.invariant.below w.next-is here c.loop-target-test.true
          (λ e. w.if-target-pair.false (e ∙ sym state_is)) rest
    ] in
    record {
      place = omega (arith, c.loop-target.invariant.place);
      below = both.0;
      rest = ap (λ i. i + 1 + kept_place (drop c.if-target-pair.next kept) (drop (place + 1) targets) (c.args.number - c.if-target-pair.next)) c.loop-target.invariant.place ∙ both.1;
    }
