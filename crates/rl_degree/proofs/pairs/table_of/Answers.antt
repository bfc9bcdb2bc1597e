use Rattle.std.proofs.Common.{ℕ, Bool, List, subst}
use Rattle.rl_kernel.specs.Seats.{seats_of}
use Rattle.rl_degree.specs.internal.Kernel.{IsKernel}
use Rattle.rl_degree.specs.internal.Pairs.{IsWalked}
use Rattle.rl_degree.specs.internal.Reached.{AreHopeless}
use Rattle.rl_degree.proofs.pairs.table_of.Goals as goal

pub walked_of-requires-clause-letters : goal.walked_of-requires-clause-letters
walked_of-requires-clause-letters c = c.in_ok-inner.ensures.same_letters

pub returns : goal.returns
returns c =
    let kernel = c.in_ok-kernel.kernel in
    let inner = c.in_ok-inner.inner in
    let walked = subst (λ (l : List ℕ). IsWalked c.args.g.now inner l c.in_ok-walked.walked) c.deref-3.ensures.value c.in_ok-walked.ensures in
    let n = c.args.g.now.states in
    let rows = c.in_ok-hopeless.hopeless.items in
    let hopeless =
    subst (λ (l : List ℕ). AreHopeless n c.args.components c.in_ok-reached.reached.items l rows) c.deref-2.ensures.value
    (subst (λ (r : List (List Bool)). AreHopeless n c.args.components r c.deref-2.result.now rows) c.deref.ensures.value c.in_ok-hopeless.ensures) in
    record {
      whole = c.states.ensures.whole;
      components = c.requires.parts;
      reached = c.in_ok-reached.ensures;
      hopeless = hopeless;
      kernel = subst (λ (z : ℕ). IsKernel c.args.components z (seats_of kernel)) c.states.ensures.number c.in_ok-kernel.ensures;
      inner = c.in_ok-inner.ensures;
      parts = walked.parts;
      placed = walked.placed;
      moves = walked.moves;
    }
