use Rattle.std.proofs.Common.{◌++◌, ◌∙◌, ap, sym, append_assoc}
use Rattle.rl_syntax.specs.Family.{copies}
use Rattle.rl_ask.specs.internal.Long.{IsLong}
use Rattle.rl_ask.proofs.AnswerLemmas.{error-with}
use Rattle.rl_ask.proofs.FamilyLemmas.{copies-empty, copies-more, copies-within, long-still}
use Rattle.rl_ask.proofs.family.push_copies.Goals as goal

pub returns-then-is_empty-clause-whole : goal.returns-then-is_empty-clause-whole
returns-then-is_empty-clause-whole c =
    copies-empty c.is_empty.result c.args.count c.args.text.now.items c.args.part.now c.is_empty.ensures c.if-is_empty.true

pub returns-in_err-push_part-clause-long : goal.returns-in_err-push_part-clause-long
returns-in_err-push_part-clause-long c =
    let part = c.args.part.now in
    let old = c.args.text.now.items in
    let e = c.in_err-push_part.field-0.0 in
    error-with c.from_residual.result e (λ x. IsLong x (old ++ copies c.args.count part)) c.from_residual.ensures.1
    (long-still e (c.loop.text.items ++ part) (old ++ copies c.args.count part)
    (copies-within c.loop.counter c.args.count c.loop.text.items old part c.loop-test.true c.loop.invariant.copied) c.in_err-push_part.ensures.long)

pub loop-preserved : goal.loop-preserved
loop-preserved c =
    let part = c.args.part.now in
    let old = c.args.text.now.items in
    let k = c.loop.counter in
    record {
      copied =
          c.in_ok-push_part.ensures.whole ∙ ap (λ v. v ++ part) c.loop.invariant.copied ∙ append_assoc old (copies k part) part
          ∙ sym (ap (λ v. old ++ v) (copies-more k part));
      within = c.in_ok-push_part.ensures.within;
    }
