use Rattle.std.proofs.Common.{subst}
use Rattle.rl_syntax.specs.Pattern.{pattern_ending, pattern_tree}
use Rattle.rl_syntax.specs.Tree.{IsOver, tree_of}
use Rattle.rl_syntax.specs.declared.verdict.Limit.TheVariants.{Size}
use Rattle.rl_cert.proofs.CheckLaws.{none-holds}
use Rattle.rl_lint.specs.Patterns.{text_question}
use Rattle.rl_lint.proofs.verify.holds.Goals as goal

pub check-held-requires-clause-inside : goal.check-held-requires-clause-inside
check-held-requires-clause-inside c = subst (λ u. IsOver u (tree_of c.in-Ok.lowered.tree)) c.requires.of_text c.in-Ok.ensures.over

pub returns-in-Err-TooLarge : goal.returns-in-Err-TooLarge
returns-in-Err-TooLarge c =
    none-holds (text_question c.args.max_pairs (pattern_tree c.args.pattern.now c.args.mode) (pattern_ending c.args.pattern.now c.args.mode)) c.args.certificate.now Size
    (c.in-Err-TooLarge.ensures.too_large c.in-Err-TooLarge.field-0-is)
