use Rattle.std.proofs.Common.{◌∙◌, refl, sym, arith}
use Rattle.std.proofs.lemmas.Bool.{false≢true}
use Rattle.rl_equiv.specs.internal.Machines.{pairs_of}
use Rattle.rl_equiv.proofs.CheckLaws.{kept-more}
use Rattle.rl_equiv.proofs.IndexLaws.{kept-same, not-first, one-not-kept, all-kept}
use Rattle.rl_equiv.proofs.checking.is_closed_in.Goals as goal

pub loop-pair-preserved : goal.loop-pair-preserved
loop-pair-preserved c =
    let d = pairs_of c.args.a.now c.args.b.now in
    let kept = kept-same d c.args.index.now c.args.relation.now c.pair-item.result c.requires.index (c.in_ok-keeps.ensures.0 c.if-not-branch.false) in
    kept-more d c.args.relation.now c.loop-pair.pair-index c.pair-item.result (omega arith) c.pair-item.is kept c.loop-pair.invariant

pub returns-then-not-start_in : goal.returns-then-not-start_in
returns-then-not-start_in c = (
  λ i. absurd (false≢true i),
  λ k. absurd (not-first (pairs_of c.args.a.now c.args.b.now) c.args.index.now c.args.relation.now c.requires.index
      (λ x. false≢true (sym c.if-not-start_in.true ∙ c.in_ok-start_in.ensures.1 x)) k),
)

pub returns-then-not-branch : goal.returns-then-not-branch
returns-then-not-branch c = (
  λ i. absurd (false≢true i),
  λ k. absurd (one-not-kept (pairs_of c.args.a.now c.args.b.now) c.args.index.now c.args.relation.now c.requires.index c.loop-pair.pair-index c.pair-item.result (omega arith) c.pair-item.is
      (λ x. false≢true (sym c.if-not-branch.true ∙ c.in_ok-keeps.ensures.1 x)) k),
)

pub returns : goal.returns
returns c = (
  λ i. all-kept (pairs_of c.args.a.now c.args.b.now) c.args.index.now c.args.relation.now c.requires.index c.loop-pair.pair-index (omega arith)
      (c.in_ok-start_in.ensures.0 c.if-not-start_in.false) c.loop-pair.invariant,
  λ k. refl,
)
