use Rattle.std.proofs.Common.{◌≢◌, ◌∙◌, ℕ, List, [], sym}
use Rattle.rl_cert.proofs.TextLaws.{all-fails, all-next, all-passed, is-empty, not-empty}
use Rattle.rl_cert.proofs.lettering.none_empty.Goals as goal

pub returns-then-is_empty : goal.returns-then-is_empty
returns-then-is_empty c =
    all-fails (λ (text : List ℕ). text ≢ []) c.args.texts.now c.loop-text.text-index c.text-item.result c.loop-text-test.true c.text-item.is
    (λ some. some (sym c.as_slice.ensures ∙ is-empty c.as_slice.result.now (sym c.is_empty.ensures ∙ c.if-is_empty.true)))

pub loop-text-preserved : goal.loop-text-preserved
loop-text-preserved c =
    all-next (λ (text : List ℕ). text ≢ []) c.args.texts.now c.loop-text.text-index c.text-item.result c.loop-text-test.true c.text-item.is c.loop-text.invariant
    (λ e. not-empty c.as_slice.result.now (sym c.is_empty.ensures ∙ c.if-is_empty.false) (c.as_slice.ensures ∙ e))

pub returns : goal.returns
returns c = all-passed (λ (text : List ℕ). text ≢ []) c.args.texts.now c.loop-text.text-index c.loop-text-test.false c.loop-text.invariant
