-- The step for flag letters is the step for the head, in a `str` or `bytes` pattern.
use Rattle.std.proofs.Common.{sym, ap, ◌∙◌}
use Rattle.rl_pattern.specs.internal.Machine.{head_step}
use Rattle.rl_pattern.proofs.head.head_step.Goals as goal

pub returns-in-LettersOn : goal.returns-in-LettersOn
returns-in-LettersOn c = c.letters_next.ensures c.args.text ∙ sym (ap (λ h. head_step c.args.text h c.args.code) c.in-LettersOn.is)
