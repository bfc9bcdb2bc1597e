use Rattle.std.proofs.Common.{◌≡◌, ◌<◌, List, [], ◌∷◌, length, map, refl, ◌∙◌, arith}
use Rattle.rl_syntax.specs.declared.span.Span.{Span}
use Rattle.rl_syntax.specs.declared.pat.Branch.{Branch}
use Rattle.rl_syntax.specs.PatTree.{choice, branches_of}
use Rattle.rl_syntax.specs.Counting.{branch_tree}
use Rattle.rl_pattern.specs.Cut.{choice_of}
use Rattle.rl_rewrite.proofs.PartTrees.{choice-tree}
use Rattle.rl_rewrite.proofs.leaving.choice_of.Goals as goal

several : (s : Span) (bs : List Branch) → 1 < length bs → choice s (branches_of (map branch_tree bs)) ≡ choice_of s (branches_of (map branch_tree bs))
several s [] l = absurd (omega (arith, l))
several s (b ∷ []) l = absurd (omega (arith, l))
several s (b ∷ d ∷ bs) l = refl

pub returns-then-len-gt1 : goal.returns-then-len-gt1
returns-then-len-gt1 c = choice-tree c.args.span c.args.branches ∙ several c.args.span c.args.branches (omega (arith, c.if-len-gt1.true, c.len.ensures))
