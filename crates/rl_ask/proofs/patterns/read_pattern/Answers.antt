use Rattle.std.proofs.Common.{refl, subst, sym}
use Rattle.rl_ranges.specs.Text.{IsText}
use Rattle.rl_ask.proofs.AnswerLemmas.{is-read, outside-refused, refused-so}
use Rattle.rl_ask.proofs.patterns.read_pattern.Goals as goal

pub returns-then-not-is_text : goal.returns-then-not-is_text
returns-then-not-is_text c =
    outside-refused c.args.terms c.args.word.now c.in_ok-codes.codes c.is_text.result c.in_ok-codes.ensures c.if-not-is_text.true
    (λ text. c.is_text.ensures.no (subst (IsText c.args.terms.universe) (sym c.as_slice.ensures) text))

pub returns-in-Ok : goal.returns-in-Ok
returns-in-Ok c =
    is-read c.args.grammar c.args.terms c.args.word.now c.in_ok-codes.codes c.in-Ok.pattern c.in_ok-codes.ensures
    (subst (IsText c.args.terms.universe) c.as_slice.ensures (c.if-not-is_text.ensures.yes refl)) c.in-Ok.ensures

pub returns : goal.returns
returns c =
    refused-so c.refusal.result c.args.grammar c.args.terms c.args.word.now c.in_ok-codes.codes c.in-Err.error c.in_ok-codes.ensures
    (subst (IsText c.args.terms.universe) c.as_slice.ensures (c.if-not-is_text.ensures.yes refl)) c.in-Err.ensures c.refusal.ensures
