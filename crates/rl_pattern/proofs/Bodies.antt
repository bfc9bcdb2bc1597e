-- Each tree that may occur in a body is the body of a pattern whose sets list their codes one by one.
use Rattle.std.proofs.Common.{◌≡◌, ℕ, zero, suc, ◌<◌, Bool, true, false, ◌&&◌, if◌then◌else◌, nat_lt, List, [], ◌∷◌, map, refl, sym, ap, ◌∙◌, subst, arith, Global}
use Rattle.std.proofs.lemmas.Bool.Decides.{nat_tests}
use Rattle.std.proofs.Math.Path.{fun_ext}
use Rattle.std.specs.Prelude.{Box}
use denote.RawPtr.{null_ptr}
use Rattle.rl_ranges.specs.Codes.{has}
use Rattle.rl_ranges.specs.Text.{code_count}
use Rattle.rl_ranges.specs.declared.universe.Universe.{Universe}
use Rattle.rl_syntax.specs.declared.anchors.Trail.{Trail}
use Rattle.rl_syntax.specs.declared.span.Span.{Span}
use Rattle.rl_syntax.specs.declared.pat.Pat.{Pat}
use Rattle.rl_syntax.specs.declared.pat.Branch.{Branch}
use Rattle.rl_syntax.specs.declared.pat.Pat.TheVariants as V
use Rattle.rl_syntax.specs.declared.pat.Pat.TheFolds.{the_lemmas}
use Rattle.rl_syntax.specs.declared.pattern.Pattern.{Pattern}
use Rattle.rl_syntax.specs.Tree.{LiesIn}
use Rattle.rl_syntax.specs.PatTree.{PatTree, PatTrees, BranchTrees, nothing, class, seq, choice, repeat, group, anchor, boundary, look, outside, no_items, item, no_branches, branch, items_of, branches_of, pat_of}
use Rattle.rl_syntax.specs.Counting.{branch_tree}
use Rattle.rl_syntax.specs.IsPattern.{IsPart, AreParts, AreBranches, IsPattern}
use Rattle.rl_syntax.specs.Pattern.{body_of, is_anchored, trail_of, universe_of}

-- The codes below a number that satisfy a test, each as a range.
pub listed_below : ℕ → (ℕ → Bool) → List (ℕ × ℕ)
listed_below zero test = []
listed_below (suc n) test = if test n then (n, n) ∷ listed_below n test else listed_below n test

has_listed : (n : ℕ) (test : ℕ → Bool) (c : ℕ) → has (listed_below n test) c ≡ (nat_lt c n && test c)
unfolding has listed_below
has_listed zero test c = grind (arith, nat_tests)
has_listed (suc n) test c = go (test n) refl (has_listed n test c)
  where
    go : (b : Bool) → test n ≡ b → has (listed_below n test) c ≡ (nat_lt c n && test c) → has (if b then (n, n) ∷ listed_below n test else listed_below n test) c ≡ (nat_lt c (suc n) && test c)
    go true e h = grind (arith, nat_tests, e, h)
    go false e h = h ∙ grind (arith, nat_tests, e)

-- A set of the universe equals the one that lists its codes.
same_set : (u : Universe) (set : ℕ → Bool) → LiesIn u set → has (listed_below (code_count u) set) ≡ set
same_set u set h = fun_ext (λ c. has_listed (code_count u) set c ∙ go c (set c) refl)
  where
    go : (c : ℕ) (b : Bool) → set c ≡ b → (nat_lt c (code_count u) && b) ≡ b
    go c true e = let l : c < code_count u = h c e in grind (arith, nat_tests, l)
    go c false e = grind (arith, nat_tests)

boxed : Pat → Box Pat Global
boxed p = record { ptr = null_ptr; alloc = record { memory = record { seal = tt } }; value = p }

value-boxed : (p : Pat) → (boxed p).value ≡ p
unfolding boxed
value-boxed p = refl

at_span : Span → Pat → Branch
at_span s p = record { span = s; body = p }

branch_at : (s : Span) (p : Pat) → branch_tree (at_span s p) ≡ (s, pat_of p)
unfolding at_span
branch_at s p = search the_lemmas

mutual
  pub pat_from : Universe → PatTree → Pat
  pat_from u (nothing s) = V.Nothing s
  pat_from u (class s set) = V.Class s (listed_below (code_count u) set)
  pat_from u (seq s ps) = V.Seq s (pats_from u ps)
  pat_from u (choice s bs) = V.Choice s (branches_from u bs)
  pat_from u (repeat s q l m g p) = V.Repeat s q l m g (boxed (pat_from u p))
  pat_from u (group s c p) = V.Group s c (boxed (pat_from u p))
  pat_from u (anchor s k m) = V.Anchor s k m
  pat_from u (boundary s n a) = V.Boundary s n a
  pat_from u (look s b n ranges) = V.Look s b n ranges
  pat_from u (outside s f) = V.Outside s f

  pats_from : Universe → PatTrees → List Pat
  pats_from u no_items = []
  pats_from u (item p ps) = pat_from u p ∷ pats_from u ps

  branches_from : Universe → BranchTrees → List Branch
  branches_from u no_branches = []
  branches_from u (branch s p bs) = at_span s (pat_from u p) ∷ branches_from u bs

mutual
  unfolding pat_from pats_from branches_from

  pat_of-from : (u : Universe) (p : PatTree) → IsPart u p → pat_of (pat_from u p) ≡ p
  pat_of-from u (nothing s) h = search the_lemmas
  pat_of-from u (class s set) h = let e : pat_of (V.Class s (listed_below (code_count u) set)) ≡ class s (has (listed_below (code_count u) set)) = search the_lemmas in e ∙ ap (class s) (same_set u set h)
  pat_of-from u (seq s ps) h = let e : pat_of (V.Seq s (pats_from u ps)) ≡ seq s (items_of (map pat_of (pats_from u ps))) = search the_lemmas in e ∙ ap (seq s) (items_of-from u ps h)
  pat_of-from u (choice s bs) h = let e : pat_of (V.Choice s (branches_from u bs)) ≡ choice s (branches_of (map branch_tree (branches_from u bs))) = search the_lemmas in e ∙ ap (choice s) (branches_of-from u bs h)
  pat_of-from u (repeat s q l m g p) h = let e : pat_of (V.Repeat s q l m g (boxed (pat_from u p))) ≡ repeat s q l m g (pat_of (boxed (pat_from u p)).value) = search the_lemmas in e ∙ ap (repeat s q l m g) (ap pat_of (value-boxed (pat_from u p)) ∙ pat_of-from u p h.1)
  pat_of-from u (group s c p) h = let e : pat_of (V.Group s c (boxed (pat_from u p))) ≡ group s c (pat_of (boxed (pat_from u p)).value) = search the_lemmas in e ∙ ap (group s c) (ap pat_of (value-boxed (pat_from u p)) ∙ pat_of-from u p h)
  pat_of-from u (anchor s k m) h = search the_lemmas
  pat_of-from u (boundary s n a) h = search the_lemmas
  pat_of-from u (look s b n ranges) h = search the_lemmas
  pat_of-from u (outside s f) h = absurd h

  items_of-from : (u : Universe) (ps : PatTrees) → AreParts u ps → items_of (map pat_of (pats_from u ps)) ≡ ps
  items_of-from u no_items h = refl
  items_of-from u (item p ps) h = ap (λ q. item q (items_of (map pat_of (pats_from u ps)))) (pat_of-from u p h.0) ∙ ap (item p) (items_of-from u ps h.1)

  branches_of-from : (u : Universe) (bs : BranchTrees) → AreBranches u bs → branches_of (map branch_tree (branches_from u bs)) ≡ bs
  branches_of-from u no_branches h = refl
  branches_of-from u (branch s p bs) h = let e : branch_tree (at_span s (pat_from u p)) ≡ (s, pat_of (pat_from u p)) = branch_at s (pat_from u p) in
      ap (λ b. branch b.0 b.1 (branches_of (map branch_tree (branches_from u bs)))) e ∙ ap (λ q. branch s q (branches_of (map branch_tree (branches_from u bs)))) (pat_of-from u p h.0) ∙ ap (branch s p) (branches_of-from u bs h.1)

-- The pattern of a body and its outer anchors.
pub pattern_from : (u : Universe) (p : PatTree) (leading : Bool) (trail : Trail) → IsPattern u p → Pattern
pattern_from u p leading trail h = record { body = pat_from u p; leading = leading; trailing = trail; universe = u; judged = subst (IsPattern u) (sym (pat_of-from u p h.parts)) h }

pub body_of-from : (u : Universe) (p : PatTree) (leading : Bool) (trail : Trail) (h : IsPattern u p) → body_of (pattern_from u p leading trail h) ≡ p
unfolding pattern_from
body_of-from u p leading trail h = pat_of-from u p h.parts

pub others-from : (u : Universe) (p : PatTree) (leading : Bool) (trail : Trail) (h : IsPattern u p) → (is_anchored (pattern_from u p leading trail h) ≡ leading) × (trail_of (pattern_from u p leading trail h) ≡ trail) × (universe_of (pattern_from u p leading trail h) ≡ u)
unfolding pattern_from
others-from u p leading trail h = (refl, refl, refl)
