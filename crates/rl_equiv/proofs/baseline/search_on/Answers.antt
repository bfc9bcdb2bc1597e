use Rattle.std.proofs.Common.{ℕ, subst, sym}
use Rattle.rl_sets.specs.Walk.{Walk}
use Rattle.rl_equiv.specs.Numbering.{IsAnswer}
use Rattle.rl_equiv.specs.internal.Machines.{pairs_of}
use Rattle.rl_equiv.specs.Sides.{IsSide}
use Rattle.rl_equiv.proofs.SideLaws.{side-kept}
use Rattle.rl_equiv.proofs.baseline.search_on.Goals as goal

pub returns-in-Ok-clause-answer : goal.returns-in-Ok-clause-answer
returns-in-Ok-clause-answer c =
    subst (λ (n : ℕ). IsAnswer (pairs_of c.args.a.now c.args.b.now) n c.in-Ok.found) c.in_ok-search.ensures.limit c.in-Ok.ensures.answer

pub returns-in-Ok-clause-kept : goal.returns-in-Ok-clause-kept
returns-in-Ok-clause-kept c =
    subst (λ (w : Walk). IsSide c.args.a.now 0 1 w) (sym c.into_first-walk.ensures) (side-kept c.args.a.now _ _ _ c.in-Ok.ensures.search.first_side)
