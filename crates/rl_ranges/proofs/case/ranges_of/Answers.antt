use Rattle.std.proofs.Common.{ap, ap₂, arith, get_or, length, subst, sym, ◌+◌, ◌<◌, ◌||◌, ◌∙◌}
use Rattle.rl_ranges.proofs.CaseLemmas.{is_among-more, is_among-nil, within_single}
use Rattle.rl_ranges.proofs.SetLemmas.{has-nil, last_first_or-nil}
use Rattle.rl_ranges.specs.internal.Ordering.{last_first_or}
use Rattle.rl_ranges.specs.Codes.{Above, has}
use Rattle.rl_ranges.proofs.case.ranges_of.Goals as goal

pub loop-code-init : goal.loop-code-init
loop-code-init c = record {
  sorted = subst (Above 0) (sym c.new-ranges.ensures.items) tt;
  begins = λ _. omega (arith, ap (last_first_or 0) c.new-ranges.ensures.items ∙ last_first_or-nil 0);
  members = λ x. ap (λ l. has l x) c.new-ranges.ensures.items ∙ has-nil x ∙ sym (is_among-nil x);
}

pub loop-code-preserved : goal.loop-code-preserved
loop-code-preserved c =
    let codes = c.args.codes.now in
    let i = c.loop-code.code-index in
    let code = get_or codes i 0 in
    let i_in : i < length codes = c.loop-code-test.true in
    record {
      sorted = c.in_ok-append.ensures.sorted;
      begins = λ h. omega (arith, c.in_ok-append.ensures.begins, c.requires i (i + 1) 0 (omega arith) h);
      members = λ x. c.in_ok-append.ensures.members x ∙ ap₂ ◌||◌ (c.loop-code.invariant.members x) (within_single code x) ∙ sym (is_among-more codes i x i_in);
    }
