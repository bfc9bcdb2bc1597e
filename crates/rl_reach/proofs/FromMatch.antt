-- What a right verdict on the match gives is right for the search.
use Rattle.std.proofs.Common.{◌≡◌, ℕ, zero, suc, max, Bool, true, false, Option, IfSome, refl, sym, ap, ◌∙◌, subst, arith, ltb-true}
use Rattle.rl_ranges.specs.declared.universe.Universe.{Universe}
use Rattle.rl_ranges.specs.Text.{code_count}
use Rattle.rl_syntax.specs.declared.re.Ending.{Ending}
use Rattle.rl_syntax.specs.declared.re.Mode.TheVariants.{Match, Search}
use Rattle.rl_syntax.specs.declared.pattern.Pattern.{Pattern}
use Rattle.rl_syntax.specs.declared.verdict.Verdict.{Verdict}
use Rattle.rl_syntax.specs.declared.verdict.Verdict.TheVariants.{Degree, Expo, Undecided}
use Rattle.rl_syntax.specs.Tree.{Tree, IsOver}
use Rattle.rl_syntax.specs.Modes.{is_code}
use Rattle.rl_syntax.specs.Pattern.{pattern_tree, pattern_ending, universe_of}
use Rattle.rl_pairs.specs.RightVerdict.{Question, RightVerdict}
use Rattle.rl_reach.specs.declared.bounds.Bounds.{Bounds}
use Rattle.rl_reach.specs.Behind.{looks_behind}
use Rattle.rl_reach.specs.Places.{after_one}
use Rattle.rl_reach.specs.Bounds.{question_in, behind_one, IsAtLeast, IsAtMost, least_of, most_of, IsMostOf, IsOfMatch}
use Rattle.rl_reach.proofs.Growth.{exponential, degree, bounded, bounded-behind}

right-least : (p : Pattern) (m n : ℕ) (verdict : Verdict) → RightVerdict (question_in Match p m) verdict → IfSome (least_of verdict) (IsAtLeast (question_in Search p n))
right-least p m n (Degree zero f) h = tt
right-least p m n (Degree (suc d) f) h = degree p m n (suc d) f (omega arith) h.0
right-least p m n (Expo f) h = exponential p m n f h
right-least p m n (Undecided limit) h = tt

-- The greater of two equal degrees is each of them.
max-same : (d : ℕ) → max d d ≡ d
max-same d = omega arith

module _ (p : Pattern) (m n : ℕ) where
  most-alone : (verdict : Verdict) → looks_behind (pattern_tree p Match) ≡ false → RightVerdict (question_in Match p m) verdict → IfSome (most_of verdict verdict) (IsAtMost (question_in Search p n))
  most-alone (Degree d f) h right = subst (λ e. IsAtMost (question_in Search p n) (suc e)) (sym (max-same d)) (bounded p m n d h right.1)
  most-alone (Expo f) h right = tt
  most-alone (Undecided limit) h right = tt

  most-both : (verdict behind : Verdict) → RightVerdict (question_in Match p m) verdict → RightVerdict (behind_one (question_in Match p m)) behind → IfSome (most_of verdict behind) (IsAtMost (question_in Search p n))
  most-both (Degree d f) (Degree e g) right right_behind = bounded-behind p m m n d e right.1 right_behind.1
  most-both (Degree d f) (Expo g) right right_behind = tt
  most-both (Degree d f) (Undecided limit) right right_behind = tt
  most-both (Expo f) behind right right_behind = tt
  most-both (Undecided limit) behind right right_behind = tt

pub least-right : (p : Pattern) (m n : ℕ) (b : Bounds) → IsOfMatch p m b → IfSome b.at_least (IsAtLeast (question_in Search p n))
least-right p m n b h = subst (λ o. IfSome o (IsAtLeast (question_in Search p n))) (sym h.least) (right-least p m n h.verdict h.right)

most-of-right : (p : Pattern) (m n : ℕ) (verdict : Verdict) (most : Option ℕ) → RightVerdict (question_in Match p m) verdict → IsMostOf (question_in Match p m) verdict most → IfSome most (IsAtMost (question_in Search p n))
most-of-right p m n verdict most right h = subst (λ o. IfSome o (IsAtMost (question_in Search p n))) (sym h.is) (by (looks_behind (pattern_tree p Match)) refl)
  where
    by : (c : Bool) → looks_behind (pattern_tree p Match) ≡ c → IfSome (most_of verdict h.behind) (IsAtMost (question_in Search p n))
    by true e = most-both p m n verdict h.behind right (h.right e)
    by false e = subst (λ v. IfSome (most_of verdict v) (IsAtMost (question_in Search p n))) (sym (h.same e)) (most-alone p m n verdict e right)

pub most-right : (p : Pattern) (m n : ℕ) (b : Bounds) → IsOfMatch p m b → IfSome b.at_most (IsAtMost (question_in Search p n))
most-right p m n b h = most-of-right p m n h.verdict b.at_most h.right h.most

-- A verdict on a lowered pattern is one on the question of its tree, its ending and its universe.
pub same-question : (p : Pattern) (m : ℕ) (t : Tree) (ending : Ending) (u : Universe) → t ≡ pattern_tree p Match → ending ≡ pattern_ending p Match → u ≡ universe_of p
    → ◌≡◌ {A = Question} (record { tree = t; ending = ending; universe = u; max_pairs = m }) (question_in Match p m)
same-question p m t ending u tree end universe =
    ap (λ x. record { tree = x; ending = ending; universe = u; max_pairs = m }) tree
    ∙ ap (λ x. record { tree = pattern_tree p Match; ending = x; universe = u; max_pairs = m }) end
    ∙ ap (λ x. record { tree = pattern_tree p Match; ending = pattern_ending p Match; universe = x; max_pairs = m }) universe

pub same-behind : (m : ℕ) (s t : Tree) (e f : Ending) (u : Universe) → s ≡ t → e ≡ f
    → ◌≡◌ {A = Question} (record { tree = s; ending = e; universe = u; max_pairs = m }) (record { tree = t; ending = f; universe = u; max_pairs = m })
same-behind m s t e f u tree end = ap (λ x. record { tree = x; ending = e; universe = u; max_pairs = m }) tree ∙ ap (λ x. record { tree = t; ending = x; universe = u; max_pairs = m }) end

-- Any character of the universe lies in it.
pub over-after : (u : Universe) (t : Tree) → IsOver u t → IsOver u (after_one u t)
unfolding is_code
over-after u t over = (λ code h. ltb-true code (code_count u) h, over)
