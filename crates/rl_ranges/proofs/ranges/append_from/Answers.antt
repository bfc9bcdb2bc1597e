use Rattle.std.proofs.Common.{ap, arith, drop, length, sym, ◌+◌, ◌<◌, ◌||◌, ◌∙◌}
use Rattle.std.proofs.lemmas.List.{drop_all}
use Rattle.rl_ranges.proofs.SetLemmas.{has-nil, has-rest, or-false, or_assoc}
use Rattle.rl_ranges.specs.Building.{range_at}
use Rattle.rl_ranges.specs.Codes.{has, is_between}
use Rattle.rl_ranges.proofs.ranges.append_from.Goals as goal

pub loop-i-preserved : goal.loop-i-preserved
loop-i-preserved c =
    let more = c.args.more.now in
    let i = c.loop-i.i in
    let i_in : i < length more = omega arith in
    record {
      sorted = c.in_ok-append.ensures.sorted;
      begins = λ h. omega (arith, c.in_ok-append.ensures.begins, c.requires.ordered.rising i (i + 1) (omega arith) h);
      same = λ h. absurd (omega arith);
      members = λ x. c.loop-i.invariant.members x
          ∙ ap (λ b. has c.loop-i.ranges.items x || b) (has-rest more i x i_in)
          ∙ or_assoc (has c.loop-i.ranges.items x) (is_between (range_at more i).0 (range_at more i).1 x) (has (drop (i + 1) more) x)
          ∙ ap (λ b. b || has (drop (i + 1) more) x) (sym (c.in_ok-append.ensures.members x));
    }

pub returns-clause-members : goal.returns-clause-members
returns-clause-members c =
    λ x. sym (c.loop-i.invariant.members x
    ∙ ap (λ b. has c.loop-i.ranges.items x || b) (ap (λ l. has l x) (drop_all _ c.args.more.now c.loop-i-test.false) ∙ has-nil x)
    ∙ or-false _)
