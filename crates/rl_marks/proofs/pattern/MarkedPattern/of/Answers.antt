use Rattle.std.proofs.Common.{◌≡◌, ◌≤◌, ap, ap₂, sym, subst, ◌∙◌, arith}
use Rattle.rl_syntax.specs.declared.limits.TheConstants.{MOST_NODES}
use Rattle.rl_syntax.specs.Pattern.{body_of, is_anchored, universe_of}
use Rattle.rl_syntax.specs.Tree.{size}
use Rattle.rl_syntax.specs.Lowering.{lowered}
use Rattle.rl_marks.specs.Marked.{marked_of, nodes}
use Rattle.rl_marks.specs.Marking.{marked, led, pattern_marked}
use Rattle.rl_marks.specs.IsMarked.{IsMarked}
use Rattle.rl_marks.proofs.MarkedLaws.{size-marked, pattern-judged}
use Rattle.rl_marks.proofs.pattern.MarkedPattern.of.Goals as goal

pub returns-then-size_after-gt-MOST_NODES-clause-too_large :
    goal.returns-then-size_after-gt-MOST_NODES-clause-too_large
returns-then-size_after-gt-MOST_NODES-clause-too_large c =
    λ e. (let p = c.args.p.now in
    let h : size (lowered (body_of p)) ≤ nodes (led (is_anchored p) (marked (body_of p) 1)) = size-marked (body_of p) (is_anchored p) 1 in
    omega arith)

pub invariant_of-result : goal.invariant_of-result
invariant_of-result c =
    let p = c.args.p.now in
    let e : marked_of c.in_ok-tree-2.tree ≡ pattern_marked p =
    c.in_ok-tree-2.ensures ∙ ap₂ led c.leading.ensures (c.in_ok-tree.ensures.tree ∙ ap (λ b. marked b 1) c.body.ensures.same) in
    let n : nodes (marked_of c.in_ok-tree-2.tree) ≤ MOST_NODES = omega arith in
    let small : nodes (pattern_marked p) ≤ MOST_NODES = subst (λ t. nodes t ≤ MOST_NODES) e n in
    record {
      judged = subst (λ u. IsMarked u (marked_of c.in_ok-tree-2.tree)) (sym c.universe.ensures)
          (subst (IsMarked (universe_of p)) (sym e) (pattern-judged (universe_of p) (body_of p) (is_anchored p) c.body.ensures.judged small));
    }
