use Rattle.std.proofs.Common.{◌≡◌, true, false, sym, ap, ◌∙◌, true≢false}
use Rattle.rl_syntax.specs.Pattern.{body_of}
use Rattle.rl_pattern.specs.Suggested.{holds_guard}
use Rattle.rl_rewrite.proofs.TriedOne.{ok_by}
use Rattle.rl_rewrite.proofs.trying.tries_of.Goals as goal

pub returns-clause-guarded : goal.returns-clause-guarded
returns-clause-guarded c =
    let none : holds_guard (body_of c.args.p.now) ≡ false = sym (c.holds_guard.ensures ∙ ap holds_guard c.body.ensures.same) ∙ c.if-holds_guard.false in
    ok_by c.try_branches.result (λ all t e. absurd (true≢false (sym e ∙ none))) c.try_branches.ensures

pub returns-clause-tried : goal.returns-clause-tried
returns-clause-tried c = ok_by c.try_branches.result (λ all t e. t) c.try_branches.ensures

pub returns-then-holds_guard-clause-tried : goal.returns-then-holds_guard-clause-tried
returns-then-holds_guard-clause-tried c =
    let some : holds_guard (body_of c.args.p.now) ≡ true = sym (c.holds_guard.ensures ∙ ap holds_guard c.body.ensures.same) ∙ c.if-holds_guard.true in
    λ e. absurd (true≢false (sym some ∙ e))
