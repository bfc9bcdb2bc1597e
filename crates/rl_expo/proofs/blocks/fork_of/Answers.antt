use Rattle.std.proofs.Common.{Result, Ok, Err, Option, Some, None, IfOk, IfSome, IfNone, subst, arith, eq-eqb}
use Rattle.rl_lists.specs.declared.OutOfMemory.{OutOfMemory}
use Rattle.rl_kernel.specs.Seats.{seats_of, AreSeats}
use Rattle.rl_expo.specs.declared.forks.Fork.{Fork}
use Rattle.rl_expo.proofs.BlockLaws.{met-back, none_meets-no_fork}
use Rattle.rl_expo.proofs.blocks.fork_of.Goals as goal

both : (P Q R : Fork → Type 0) (r : Result (Option Fork) OutOfMemory) → IfOk r (λ o. IfSome o P) → IfOk r (λ o. IfSome o Q) → ((f : Fork) → P f → Q f → R f) → IfOk r (λ o. IfSome o R)
both P Q R (Ok (Some f)) p q h = h f p q
both P Q R (Ok None) p q h = tt
both P Q R (Err e) p q h = tt

none : (P Q : Type 0) (r : Result (Option Fork) OutOfMemory) → IfOk r (λ o. IfNone o P) → (P → Q) → IfOk r (λ o. IfNone o Q)
none P Q (Ok (Some f)) p h = tt
none P Q (Ok None) p h = h p
none P Q (Err e) p h = tt

pub returns-clause-back : goal.returns-clause-back
returns-clause-back c =
    let g = c.args.g.now in
    let p = c.args.components.now in
    let s = seats_of c.in_ok-states.states in
    let seats : AreSeats p g.states g.states s = subst (λ z. AreSeats p z z s) c.states.ensures.number c.in_ok-states.ensures.seats in
    both _ _ _ c.fork_among.result c.fork_among.ensures.moves c.fork_among.ensures.found
    (λ f moves met. met-back g c.in_ok-inner.inner p c.in_ok-parts.parts s c.args.number c.states.ensures.whole c.requires.parts seats c.in_ok-inner.ensures c.in_ok-parts.ensures f moves met)

pub returns-clause-none : goal.returns-clause-none
returns-clause-none c =
    let g = c.args.g.now in
    let p = c.args.components.now in
    let s = seats_of c.in_ok-states.states in
    let seats : AreSeats p g.states g.states s = subst (λ z. AreSeats p z z s) c.states.ensures.number c.in_ok-states.ensures.seats in
    none _ _ c.fork_among.result c.fork_among.ensures.none
    (none_meets-no_fork g c.in_ok-inner.inner p c.in_ok-parts.parts s c.args.number c.states.ensures.whole c.requires.parts seats c.in_ok-inner.ensures c.in_ok-parts.ensures
    (λ q hq e. c.in_ok-states.ensures.held q (omega (arith, hq, c.states.ensures.number)) (eq-eqb _ _ e)))
