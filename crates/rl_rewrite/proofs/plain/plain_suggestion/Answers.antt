use Rattle.std.proofs.Common.{◌≡◌, [], sym, ap, ◌∙◌}
use Rattle.rl_syntax.specs.Pattern.{body_of}
use Rattle.rl_pattern.specs.Suggested.{merged_in}
use Rattle.rl_rewrite.specs.Plain.{IsPlain}
use Rattle.rl_rewrite.specs.internal.Choices.{holds_branch}
use Rattle.rl_rewrite.proofs.PlainParts.{branches_none, branches_some, none_found, empty_by, plain_by}
use Rattle.rl_rewrite.proofs.plain.plain_suggestion.Goals as goal

pub returns-then-holds_branch-clause-other : goal.returns-then-holds_branch-clause-other
returns-then-holds_branch-clause-other c h =
    branches_some (body_of c.args.p.now) (ap holds_branch (sym c.body.ensures.same) ∙ (sym c.holds_branch.ensures ∙ c.if-holds_branch.true)) h.branches

-- None is taken out, neither by the program nor by the rule.
none : (c : goal.After-new-2) → (c.in_ok-merged.merged ≡ []) × (merged_in (body_of c.args.p.now) ≡ [])
none c =
    none_found (merged_in (body_of c.args.p.now)) c.in_ok-merged.merged (c.in_ok-merged.ensures ∙ ap merged_in c.body-2.ensures.same) (sym c.is_empty.ensures ∙ c.if-not-is_empty.false)

is_plain : (c : goal.After-new-2) → IsPlain (body_of c.args.p.now)
is_plain c = record {
  branches = branches_none (body_of c.args.p.now) (ap holds_branch (sym c.body.ensures.same) ∙ (sym c.holds_branch.ensures ∙ c.if-holds_branch.false));
  quantifiers = (none c).1;
}

pub returns-clause-plain : goal.returns-clause-plain
returns-clause-plain c = is_plain c

pub returns-clause-right : goal.returns-clause-right
returns-clause-right c flags codes limit =
    plain_by flags c.args.p.now codes limit c.new.result c.in_ok-merged.merged c.new-2.result (is_plain c) c.new.ensures (none c).0 c.new-2.ensures

pub returns-clause-empty : goal.returns-clause-empty
returns-clause-empty c = empty_by c.new.result c.in_ok-merged.merged c.new-2.result c.new.ensures (none c).0 c.new-2.ensures
