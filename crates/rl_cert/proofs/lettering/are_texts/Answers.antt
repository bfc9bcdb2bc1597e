use Rattle.std.proofs.Common.{◌<◌, ℕ, All, sym, subst}
use Rattle.rl_numbers.proofs.RowLoops.{never-both}
use Rattle.rl_cert.proofs.TextLaws.{all-fails, all-next, all-passed}
use Rattle.rl_cert.proofs.lettering.are_texts.Goals as goal

pub returns-then-not-is_text : goal.returns-then-not-is_text
returns-then-not-is_text c =
    all-fails (All (λ (x : ℕ). x < c.args.count)) c.args.texts.now c.loop-text.text-index c.text-item.result c.loop-text-test.true c.text-item.is
    (λ all. never-both c.is_text.result c.if-not-is_text.true (c.is_text.ensures.1 (subst (All (λ (x : ℕ). x < c.args.count)) (sym c.as_slice.ensures) all)))

pub loop-text-preserved : goal.loop-text-preserved
loop-text-preserved c =
    all-next (All (λ (x : ℕ). x < c.args.count)) c.args.texts.now c.loop-text.text-index c.text-item.result c.loop-text-test.true c.text-item.is c.loop-text.invariant
    (subst (All (λ (x : ℕ). x < c.args.count)) c.as_slice.ensures (c.is_text.ensures.0 c.if-not-is_text.false))

pub returns : goal.returns
returns c = all-passed (All (λ (x : ℕ). x < c.args.count)) c.args.texts.now c.loop-text.text-index c.loop-text-test.false c.loop-text.invariant
