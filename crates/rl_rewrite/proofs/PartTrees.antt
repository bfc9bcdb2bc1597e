-- The trees of sequences and of choices, and of what is left of them.
use Rattle.std.proofs.Common.{◌≡◌, ℕ, Bool, List, Option, Box, Global, map, sym, ap, ◌∙◌}
use Rattle.rl_ranges.specs.Codes.{has}
use Rattle.rl_syntax.specs.declared.span.Span.{Span}
use Rattle.rl_syntax.specs.declared.pat.Pat.{Pat}
use Rattle.rl_syntax.specs.declared.pat.Branch.{Branch}
use Rattle.rl_syntax.specs.declared.pat.Pat.TheVariants as V
use Rattle.rl_syntax.specs.declared.pat.Pat.TheFolds.{fold-roll-Pat}
use Rattle.rl_syntax.specs.declared.pat.Pat.{Pat-F}
use Rattle.rl_syntax.specs.PatTree.{PatTree, class, look, seq, choice, repeat, group, items_of, branches_of, pat_of, layer_of, branch_of}
use Rattle.rl_syntax.specs.Counting.{branch_tree}
use Rattle.rl_pattern.specs.Cut.{choice_of, remaining}
use Rattle.rl_pattern.specs.Suggested.{no_span}
use Rattle.rl_rewrite.specs.internal.LeftLists.{all_remaining, some_remaining}
use Rattle.rl_rewrite.proofs.LeftParts.{items_left, branches_left}

pub seq-tree : (s : Span) (ps : List Pat) → pat_of (V.Seq s ps) ≡ seq s (items_of (map pat_of ps))
seq-tree s ps = ap pat_of (sym (V.rolls-Seq s ps)) ∙ fold-roll-Pat PatTree (Span × PatTree) layer_of branch_of (Pat-F.Seq s ps)

pub choice-tree : (s : Span) (bs : List Branch) → pat_of (V.Choice s bs) ≡ choice s (branches_of (map branch_tree bs))
choice-tree s bs = ap pat_of (sym (V.rolls-Choice s bs)) ∙ fold-roll-Pat PatTree (Span × PatTree) layer_of branch_of (Pat-F.Choice s bs)

pub class-tree : (s : Span) (set : List (ℕ × ℕ)) → pat_of (V.Class s set) ≡ class s (has set)
class-tree s set = ap pat_of (sym (V.rolls-Class s set)) ∙ fold-roll-Pat PatTree (Span × PatTree) layer_of branch_of (Pat-F.Class s set)

pub look-tree : (s : Span) (behind negated : Bool) (set : List (ℕ × ℕ)) → pat_of (V.Look s behind negated set) ≡ look s behind negated set
look-tree s behind negated set = ap pat_of (sym (V.rolls-Look s behind negated set)) ∙ fold-roll-Pat PatTree (Span × PatTree) layer_of branch_of (Pat-F.Look s behind negated set)

pub repeat-tree : (s m : Span) (least : ℕ) (most : Option ℕ) (g : Bool) (b : Box Pat Global) → pat_of (V.Repeat s m least most g b) ≡ repeat s m least most g (pat_of b.value)
repeat-tree s m least most g b = ap pat_of (sym (V.rolls-Repeat s m least most g b)) ∙ fold-roll-Pat PatTree (Span × PatTree) layer_of branch_of (Pat-F.Repeat s m least most g b)

pub group-tree : (s : Span) (captures : Bool) (b : Box Pat Global) → pat_of (V.Group s captures b) ≡ group s captures (pat_of b.value)
group-tree s captures b = ap pat_of (sym (V.rolls-Group s captures b)) ∙ fold-roll-Pat PatTree (Span × PatTree) layer_of branch_of (Pat-F.Group s captures b)

-- What is left of a part that holds no other.
pub leaf_left : (drop : Span → Bool) (p : Pat) (t : PatTree) (part : Pat) → part ≡ p → pat_of p ≡ t → remaining drop no_span t ≡ t → pat_of p ≡ remaining drop no_span (pat_of part)
leaf_left drop p t part e f g = f ∙ sym (ap (remaining drop no_span) (ap pat_of e ∙ f) ∙ g)

-- A sequence of what is left of the items is what is left of the sequence.
pub seq_left : (drop : Span → Bool) (s : Span) (ps found : List Pat) (part : Pat) → part ≡ V.Seq s ps → map pat_of found ≡ all_remaining drop (map pat_of ps) → pat_of (V.Seq s found) ≡ remaining drop no_span (pat_of part)
seq_left drop s ps found part e f =
    seq-tree s found
    ∙ ap (λ qs. seq s (items_of qs)) f
    ∙ ap (seq s) (items_left drop (map pat_of ps))
    ∙ sym (ap (remaining drop no_span) (ap pat_of e ∙ seq-tree s ps))

-- And the same of a choice.
pub choice_left : (drop : Span → Bool) (s : Span) (bs found : List Branch) (part result : Pat) → part ≡ V.Choice s bs → map branch_tree found ≡ some_remaining drop (map branch_tree bs)
    → pat_of result ≡ choice_of s (branches_of (map branch_tree found)) → pat_of result ≡ remaining drop no_span (pat_of part)
choice_left drop s bs found part result e f g =
    g
    ∙ ap (λ cs. choice_of s (branches_of cs)) f
    ∙ ap (choice_of s) (branches_left drop (map branch_tree bs))
    ∙ sym (ap (remaining drop no_span) (ap pat_of e ∙ choice-tree s bs))
