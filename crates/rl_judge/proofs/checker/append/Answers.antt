use Rattle.std.proofs.Common.{◌∙◌, [], ◌∷◌, ◌++◌, List, sym, ap, append_assoc, append-nil}
use Rattle.rl_report.specs.declared.report.Entry.{Entry}
use Rattle.rl_judge.proofs.checker.append.Goals as goal

pub loop-entry-init : goal.loop-entry-init
loop-entry-init c = sym (append-nil c.args.entries.now)

pub loop-entry-preserved : goal.loop-entry-preserved
loop-entry-preserved c =
    c.in_ok-push.ensures.pushed ∙ ap (λ (l : List Entry). l ++ c.in-Some.entry ∷ []) c.loop-entry.invariant ∙ append_assoc c.args.entries.now c.loop-entry.yielded (c.in-Some.entry ∷ [])
