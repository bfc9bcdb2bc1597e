use Rattle.std.proofs.Common.{◌≡◌, Bool, false, not, List, [], ◌∷◌, ◌++◌, length, ◌==◌, sym, ap, ◌∙◌, true≢false}
use Rattle.rl_syntax.specs.declared.span.Span.{Span}
use Rattle.rl_syntax.specs.PatTree.{pat_of}
use Rattle.rl_pattern.specs.Suggested.{among}
use Rattle.rl_pattern.specs.Thinned.{kept_from}
use Rattle.rl_rewrite.specs.internal.Holes.{in_holes, holes_in}
use Rattle.rl_rewrite.proofs.GoneCodes.{text_made}
use Rattle.rl_rewrite.proofs.spelling.text_of.Goals as goal
use Rattle.rl_rewrite.proofs.spelling.text_of.Goals.{else-is_empty-via-then-is_empty+else-is_empty-2, else-is_empty-via-else-is_empty}

some_span : (xs : List Span) (b : Bool) → b ≡ (length xs == 0) → b ≡ false → xs ≡ [] → ⊥
some_span [] b e f g = true≢false (sym e ∙ f)
some_span (x ∷ xs) b e f g = cc

pub returns : goal.returns
returns c =
    let d = c.args.dropped.now in
    let m = c.args.merged.now in
    let some : d ≡ [] → m ≡ [] → ⊥ = elim c.else-is_empty.branch [
      | else-is_empty-via-then-is_empty+else-is_empty-2 w ↦ λ e f. some_span m _ w.is_empty-then-is_empty.ensures w.if-is_empty-2.false f
      | else-is_empty-via-else-is_empty w ↦ λ e f. some_span d _ c.is_empty.ensures w.if-is_empty.false e
    ] in
    text_made (pat_of c.args.body.now) d m c.args.codes.now c.in_ok-text.text c.put_holes.new.found some
    (c.in_ok-put_holes.ensures ∙ ap (λ hs. hs ++ holes_in (among d) (among m) (pat_of c.args.body.now)) c.new-holes.ensures)
    (c.in_ok-text.ensures ∙ ap (λ hs. kept_from (λ t. not (in_holes hs t)) 0 c.as_slice.result.now) c.as_slice-2.ensures ∙ ap (kept_from (λ t. not (in_holes c.put_holes.new.found t)) 0) c.as_slice.ensures)
