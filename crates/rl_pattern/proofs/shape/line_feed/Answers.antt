-- The range of the line feed holds the line feed.
use Rattle.std.proofs.Common.{◌≡◌, ℕ, List, ap, ◌∙◌}
use Rattle.std.proofs.Math.Path.{fun_ext}
use Rattle.rl_ranges.specs.Codes.{has}
use Rattle.rl_syntax.specs.declared.pat.Pat.TheVariants as V
use Rattle.rl_syntax.specs.declared.pat.Pat.TheFolds.{the_lemmas}
use Rattle.rl_syntax.specs.declared.span.Span.{Span}
use Rattle.rl_syntax.specs.PatTree as s
use Rattle.rl_syntax.specs.PatTree.{pat_of}
use Rattle.rl_pattern.proofs.LeafLaws.{between_one}
use Rattle.rl_pattern.proofs.shape.line_feed.Goals as goal

class_of : (place : Span) (set : List (ℕ × ℕ)) → pat_of (V.Class place set) ≡ s.class place (has set)
class_of place set = search the_lemmas

pub returns : goal.returns
returns c = class_of c.args.span c.in_ok-set.set ∙ ap (s.class c.args.span) (fun_ext (λ x. c.in_ok-set.ensures.members x ∙ between_one 10 x))
