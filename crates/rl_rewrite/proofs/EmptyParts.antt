-- What is left of a part may span the empty text if its tree may.
use Rattle.std.proofs.Common.{◌≡◌, ℕ, zero, suc, ◌-◌, Bool, true, false, not, ◌&&◌, ◌||◌, ◌==◌, if◌then◌else◌, List, [], ◌∷◌, ◌++◌, replicate, Option, None, Some, refl, sym, ap, ◌∙◌}
use Rattle.std.proofs.Math.Dec.{eqb-suc-zero}
use Rattle.rl_syntax.specs.declared.span.Span.{Span}
use Rattle.rl_syntax.specs.Lowering.{in_turn, one_of, option_of, options, tail_of, times, lowered, items_lowered, branches_lowered}
use Rattle.rl_syntax.specs.PatTree as p
use Rattle.rl_syntax.specs.Tree.{Tree}
use Rattle.rl_pattern.specs.Cut.{remaining, remaining_items, remaining_branches}
use Rattle.rl_pattern.specs.Suggested.{no_span, some_kept}
use Rattle.rl_trim.specs.Without.{may_be_empty}
use Rattle.rl_rewrite.proofs.Fewer.{choice_tree}
use Rattle.rl_rewrite.specs.internal.Keeping.{spans_empty, items_span_empty, branch_spans_empty}

abbrev all_empty : List Tree → Bool
all_empty [] = true
all_empty (t ∷ ts) = may_be_empty t && all_empty ts

abbrev any_empty : List Tree → Bool
any_empty [] = false
any_empty (t ∷ ts) = may_be_empty t || any_empty ts

abbrev is_none : List Tree → Bool
is_none [] = true
is_none (t ∷ ts) = false

and_true : (a : Bool) → a ≡ (a && true)
and_true true = refl
and_true false = refl

or_false : (a : Bool) → a ≡ (a || false)
or_false true = refl
or_false false = refl

or_true : (a : Bool) → (a || true) ≡ true
or_true true = refl
or_true false = refl

turn_empty : (ts : List Tree) → may_be_empty (in_turn ts) ≡ all_empty ts
turn_empty [] = refl
turn_empty (t ∷ []) = and_true (may_be_empty t)
turn_empty (t ∷ u ∷ us) = ap (λ a. may_be_empty t && a) (turn_empty (u ∷ us))

one_empty : (ts : List Tree) → may_be_empty (one_of ts) ≡ (any_empty ts || is_none ts)
one_empty [] = refl
one_empty (t ∷ []) = or_false (may_be_empty t) ∙ or_false (may_be_empty t || false)
one_empty (t ∷ u ∷ us) = ap (λ a. may_be_empty t || a) (one_empty (u ∷ us) ∙ sym (or_false (any_empty (u ∷ us)))) ∙ or_false (any_empty (t ∷ u ∷ us))

option_empty : (g : Bool) (t : Tree) → may_be_empty (option_of g t) ≡ true
option_empty true t = or_true (may_be_empty t)
option_empty false t = refl

options_empty : (g : Bool) (t : Tree) (n : ℕ) → all_empty (options g t n) ≡ true
options_empty g t zero = refl
options_empty g t (suc n) = ap (λ a. a && true) (option_empty g (in_turn (t ∷ options g t n)))

tail_empty : (g : Bool) (t : Tree) (least : ℕ) (most : Option ℕ) → all_empty (tail_of g t least most) ≡ true
tail_empty g t least None = refl
tail_empty g t least (Some most) = options_empty g t (most - least)

more_copies : (n : ℕ) (a b : Bool) → b ≡ ((n == 0) || a) → (a && b) ≡ ((suc n == 0) || a)
more_copies n true b e = e ∙ or_true (n == 0) ∙ sym (or_true (suc n == 0))
more_copies n false b e = sym (ap (λ x. x || false) (eqb-suc-zero n))

copies_empty : (n : ℕ) (t : Tree) (ts : List Tree) → all_empty ts ≡ true → all_empty (replicate n t ++ ts) ≡ ((n == 0) || may_be_empty t)
copies_empty zero t ts e = e
copies_empty (suc n) t ts e = more_copies n (may_be_empty t) (all_empty (replicate n t ++ ts)) (copies_empty n t ts e)

times_empty : (least : ℕ) (most : Option ℕ) (g : Bool) (t : Tree) → may_be_empty (times least most g t) ≡ ((least == 0) || may_be_empty t)
times_empty least most g t = turn_empty (replicate least t ++ tail_of g t least most) ∙ copies_empty least t (tail_of g t least most) (tail_empty g t least most)

module _ (drop : Span → Bool) where
  none_kept : (bs : p.BranchTrees) → is_none (branches_lowered (remaining_branches drop no_span bs)) ≡ not (some_kept drop bs)
  none_kept p.no_branches = refl
  none_kept (p.branch s q bs) = go (drop s) (none_kept bs)
    where
      go : (d : Bool) → is_none (branches_lowered (remaining_branches drop no_span bs)) ≡ not (some_kept drop bs) → is_none (branches_lowered (if d then remaining_branches drop no_span bs else p.branch s (remaining drop no_span q) (remaining_branches drop no_span bs))) ≡ not (not d || some_kept drop bs)
      go true e = e
      go false e = refl

  branch_empty : (d : Bool) (s : Span) (q : p.PatTree) (bs : p.BranchTrees) → may_be_empty (lowered (remaining drop no_span q)) ≡ spans_empty drop q → any_empty (branches_lowered (remaining_branches drop no_span bs)) ≡ branch_spans_empty drop bs
      → any_empty (branches_lowered (if d then remaining_branches drop no_span bs else p.branch s (remaining drop no_span q) (remaining_branches drop no_span bs))) ≡ ((if d then false else spans_empty drop q) || branch_spans_empty drop bs)
  branch_empty true s q bs e f = f
  branch_empty false s q bs e f = ap (λ a. a || any_empty (branches_lowered (remaining_branches drop no_span bs))) e ∙ ap (λ a. spans_empty drop q || a) f

  mutual
    pub left_empty : (q : p.PatTree) → may_be_empty (lowered (remaining drop no_span q)) ≡ spans_empty drop q
    left_empty (p.nothing s) = refl
    left_empty (p.class s set) = refl
    left_empty (p.seq s qs) = turn_empty (items_lowered (remaining_items drop no_span qs)) ∙ items_empty qs
    left_empty (p.choice s bs) =
        ap may_be_empty (choice_tree s (remaining_branches drop no_span bs))
        ∙ one_empty (branches_lowered (remaining_branches drop no_span bs))
        ∙ ap (λ a. a || is_none (branches_lowered (remaining_branches drop no_span bs))) (branches_empty bs)
        ∙ ap (λ a. branch_spans_empty drop bs || a) (none_kept bs)
    left_empty (p.repeat s r l m g q) = times_empty l m g (lowered (remaining drop no_span q)) ∙ ap (λ a. (l == 0) || a) (left_empty q)
    left_empty (p.group s c q) = left_empty q
    left_empty (p.anchor s k m) = refl
    left_empty (p.boundary s n a) = refl
    left_empty (p.look s b i r) = refl
    left_empty (p.outside s f) = refl

    items_empty : (qs : p.PatTrees) → all_empty (items_lowered (remaining_items drop no_span qs)) ≡ items_span_empty drop qs
    items_empty p.no_items = refl
    items_empty (p.item q qs) = ap (λ a. a && all_empty (items_lowered (remaining_items drop no_span qs))) (left_empty q) ∙ ap (λ a. spans_empty drop q && a) (items_empty qs)

    branches_empty : (bs : p.BranchTrees) → any_empty (branches_lowered (remaining_branches drop no_span bs)) ≡ branch_spans_empty drop bs
    branches_empty p.no_branches = refl
    branches_empty (p.branch s q bs) = branch_empty (drop s) s q bs (left_empty q) (branches_empty bs)
