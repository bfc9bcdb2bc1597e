use Rattle.std.proofs.Common.{sym, subst}
use Rattle.rl_marks.specs.declared.threads.Origin.TheVariants.{EachPlace, TextStart}
use Rattle.rl_spans.specs.internal.Sides.{matcher_of}
use Rattle.rl_spans.specs.internal.Machines.{IsClosedOn}
use Rattle.rl_spans.proofs.ClosedLaws.{closed-each, closed-start}
use Rattle.rl_spans.proofs.checking.is_closed.Goals as goal

pub returns-in_ok-each-in-EachPlace : goal.returns-in_ok-each-in-EachPlace
returns-in_ok-each-in-EachPlace c =
    λ done.
    let s = matcher_of c.args.machine.now.first in
    let t = matcher_of c.args.machine.now.second in
    subst (λ o. IsClosedOn o s t c.args.relation.now.pairs c.args.machine.now.codes) (sym c.in-EachPlace.is)
    (subst (λ pairs. IsClosedOn EachPlace s t pairs c.args.machine.now.codes) c.as_slice-pairs.ensures
    (closed-each s t c.as_slice-pairs.result.now c.args.machine.now.codes (c.in_ok-each-in-EachPlace.ensures.start done) (c.in_ok-each-in-EachPlace.ensures.codes done)
    (c.in_ok-keeps_all.ensures c.if-not-branch.false)))

pub returns-in_ok-first-in-TextStart : goal.returns-in_ok-first-in-TextStart
returns-in_ok-first-in-TextStart c =
    λ done.
    let s = matcher_of c.args.machine.now.first in
    let t = matcher_of c.args.machine.now.second in
    subst (λ o. IsClosedOn o s t c.args.relation.now.pairs c.args.machine.now.codes) (sym c.in-TextStart.is)
    (subst (λ pairs. IsClosedOn TextStart s t pairs c.args.machine.now.codes) c.as_slice-pairs.ensures
    (closed-start s t c.as_slice-pairs.result.now c.args.machine.now.codes (c.in_ok-first-in-TextStart.ensures done)
    (c.in_ok-keeps_all.ensures c.if-not-branch.false)))
