-- Lookarounds that are read: their sets and what they say, and the last of several nodes.
use Rattle.std.proofs.Common.{◌≡◌, ℕ, zero, suc, ◌≤◌, ◌<◌, ◌==◌, ◌&&◌, ◌||◌, Bool, true, false, not, nat_lt, List, [], ◌∷◌, Option, Some, None, length, drop, map, refl, sym, ap, ◌∙◌, arith, inl, inr}
use Rattle.std.specs.Prelude.{IfSome, if◌then◌else◌}
use Rattle.std.proofs.lemmas.Bool.{true≢false, or_cases, and_parts, lt-ltb}
use Rattle.std.proofs.lemmas.Bool.Decides.{nat_tests}
use Rattle.std.proofs.Math.Bool.{xor}
use Rattle.rl_ranges.specs.Codes.{has, IsInside, Above}
use Rattle.rl_ranges.specs.Listed.{ranges_below}
use Rattle.rl_ranges.specs.Text.{code_count}
use Rattle.rl_ranges.specs.declared.universe.Universe.{Universe}
use Rattle.rl_ranges.specs.declared.universe.Universe.TheVariants.{Str, Bytes}
use Rattle.rl_ranges.proofs.ListedLemmas.{listed-as, has-ranges_below}
use Rattle.rl_syntax.specs.declared.anchors.Guard.{Guard}
use Rattle.rl_syntax.specs.Lowering.{lowered}
use Rattle.rl_syntax.specs.Guards.{is_in, is_line_feed, sees, holds}
use Rattle.rl_syntax.specs.Tree.{LiesIn, guard}
use Rattle.rl_pattern.specs.declared.flags.Flags.{Flags}
use Rattle.rl_pattern.specs.Tree as t
use Rattle.rl_pattern.specs.Tree.{Span, lookaround, Assertion, caret, text_start, dollar, text_end, boundary, SyntaxNode, leaf, mark, repeat, group, nothing, seq, choice, Branches, no_branches, more_branches}
use Rattle.rl_pattern.specs.Found.{is_end, looks_to, is_wide, has_dollar, tests_a_side}
use Rattle.rl_pattern.specs.LeafCodes.{is_text, universe_for, within}
use Rattle.rl_pattern.specs.Looks.{is_line_end, mark_beside, holds_beside, some_beside}
use Rattle.rl_pattern.specs.Shape.{look_shape}
use Rattle.rl_pattern.proofs.ShapeParts.{leaf_lies, line_feed_lies}

line_end_lies : (u : Universe) (b : Bool) → LiesIn u (λ c. is_line_end b (Some c))
line_end_lies u b code h = line_feed_lies u code (and_parts b (is_line_feed code) h).1

mark_lies : (u : Universe) (f : Flags) (m : Assertion) → LiesIn u (λ c. mark_beside f m (Some c))
mark_lies u f caret code h = line_end_lies u f.multiline code h
mark_lies u f text_start code h = absurd (true≢false (sym h))
mark_lies u f dollar code h = line_end_lies u f.multiline code h
mark_lies u f text_end code h = absurd (true≢false (sym h))
mark_lies u f (boundary negated) code h = absurd (true≢false (sym h))

-- The characters beside which the body of a lookaround holds are in the universe.
mutual
  pub beside_lies : (u : Universe) (p : SyntaxNode) → LiesIn u (λ c. holds_beside u p (Some c))
  beside_lies u (leaf place f x) code h = leaf_lies u f x code h
  beside_lies u (mark place f m) code h = mark_lies u f m code h
  beside_lies u (repeat place q n g p) code h = absurd (true≢false (sym h))
  beside_lies u (group place k p) code h = beside_lies u p code h
  beside_lies u (nothing place) code h = absurd (true≢false (sym h))
  beside_lies u (seq place ps) code h = absurd (true≢false (sym h))
  beside_lies u (choice place bs) code h = branches_lie u bs code h

  branches_lie : (u : Universe) (bs : Branches) → LiesIn u (λ c. some_beside u bs (Some c))
  branches_lie u no_branches code h = absurd (true≢false (sym h))
  branches_lie u (more_branches place p bs) code h = elim (or_cases (holds_beside u p (Some code)) (some_beside u bs (Some code)) h) [
    | inl e ↦ beside_lies u p code e
    | inr e ↦ branches_lie u bs code e
  ]

-- The list of ranges of a set, or of its complement, is the one that its codes determine.
pub listed_beside : (u : Universe) (flip : Bool) (set turned : List (ℕ × ℕ)) (p : SyntaxNode) → ((c : ℕ) → has set c ≡ holds_beside u p (Some c)) → ((c : ℕ) → has turned c ≡ within u (λ d. xor flip (has set d)) c) → Above 0 turned
    → turned ≡ ranges_below (code_count u) (λ c. xor flip (holds_beside u p (Some c)))
listed_beside u flip set turned p same other above =
    listed-as (code_count u) (λ c. xor flip (holds_beside u p (Some c))) turned above (λ c. other c ∙ ap (λ b. nat_lt c (code_count u) && xor flip b) (same c))

-- What the guard of a lookaround says, in terms of its body.
pub xor_true : (v : Bool) → not v ≡ xor true v
unfolding xor
xor_true true = refl
xor_true false = refl

pub xor_false : (v : Bool) → v ≡ xor false v
unfolding xor
xor_false true = refl
xor_false false = refl

xor_other : (v w : Bool) → xor v w ≡ xor w v
unfolding xor
xor_other true true = refl
xor_other true false = refl
xor_other false true = refl
xor_other false false = refl

xor_twice : (e n h : Bool) → xor (xor e n) (xor e h) ≡ xor n h
unfolding xor
xor_twice true true true = refl
xor_twice true true false = refl
xor_twice true false true = refl
xor_twice true false false = refl
xor_twice false true true = refl
xor_twice false true false = refl
xor_twice false false true = refl
xor_twice false false false = refl

sees_nothing : (b : Bool) (set : ℕ → Bool) → sees b set None ≡ b
unfolding sees is_in
sees_nothing true set = refl
sees_nothing false set = refl

sees_code : (b : Bool) (set : ℕ → Bool) (c : ℕ) → sees b set (Some c) ≡ xor b (set c)
unfolding sees is_in
sees_code true set c = xor_true (set c)
sees_code false set c = xor_false (set c)

seen_as : (u : Universe) (p : SyntaxNode) (negated : Bool) (seen : Option ℕ) → IfSome seen (λ c. c < code_count u)
    → sees (xor (holds_beside u p None) negated) (has (ranges_below (code_count u) (λ c. xor (holds_beside u p None) (holds_beside u p (Some c))))) seen ≡ xor negated (holds_beside u p seen)
seen_as u p negated None h = sees_nothing (xor (holds_beside u p None) negated) _ ∙ xor_other (holds_beside u p None) negated
seen_as u p negated (Some c) h =
    let end = holds_beside u p None in
    let test : ℕ → Bool = λ d. xor end (holds_beside u p (Some d)) in
    sees_code (xor end negated) (has (ranges_below (code_count u) test)) c
    ∙ ap (xor (xor end negated)) (has-ranges_below (code_count u) test c ∙ ap (λ b. b && test c) (lt-ltb c (code_count u) h))
    ∙ xor_twice end negated (holds_beside u p (Some c))

pub look_means : (u : Universe) (place : Span) (behind negated : Bool) (p : SyntaxNode)
    → (g : Guard) × (lowered (look_shape u place (lookaround behind negated) p) ≡ guard g) × ((before next seen : Option ℕ) → seen ≡ (if looks_to (is_text u) behind true p then before else next) → IfSome seen (λ c. c < code_count u) → holds g before next ≡ xor negated (holds_beside u p seen))
unfolding holds
look_means u place behind negated p = (_, refl, λ before next seen e h. ap (sees _ _) (sym e) ∙ seen_as u p negated seen h)

one_side : (text own : Bool) (p : SyntaxNode) (a b : Bool) → looks_to text own true p ≡ a → looks_to text own false p ≡ b → (a || b) ≡ true → looks_to text own a p ≡ true
one_side text own p true b e f h = e
one_side text own p false b e f h = f ∙ h

-- What is known of a body that is read.
sided : (text own : Bool) (p : SyntaxNode) → tests_a_side text own p ≡ true → (looks_to text own true p || looks_to text own false p) ≡ true
sided text own p h =
    (and_parts (looks_to text own true p || looks_to text own false p) ((not own || (is_wide true p || is_wide false p)) && (not (has_dollar p) || holds_beside (universe_for text) p (Some 10))) h).0

fed : (text own : Bool) (p : SyntaxNode) → tests_a_side text own p ≡ true → (not (has_dollar p) || holds_beside (universe_for text) p (Some 10)) ≡ true
fed text own p h =
    let wide = not own || (is_wide true p || is_wide false p) in
    let feed = not (has_dollar p) || holds_beside (universe_for text) p (Some 10) in
    (and_parts wide feed (and_parts (looks_to text own true p || looks_to text own false p) (wide && feed) h).1).1

-- The parts of a body that is read look to one side.
pub body_looks : (text own : Bool) (p : SyntaxNode) → tests_a_side text own p ≡ true → looks_to text own (looks_to text own true p) p ≡ true
body_looks text own p h = one_side text own p (looks_to text own true p) (looks_to text own false p) refl refl (sided text own p h)

needed : (a b : Bool) → (not a || b) ≡ true → a ≡ true → b ≡ true
needed true b h e = h
needed false b h e = absurd (true≢false (sym e))

-- A body that is read with a `$` without MULTILINE holds before each line feed.
pub dollar_agrees : (u : Universe) (own : Bool) (p : SyntaxNode) → tests_a_side (is_text u) own p ≡ true → has_dollar p ≡ true → holds_beside u p (Some 10) ≡ true
dollar_agrees Str own p h e = needed (has_dollar p) (holds_beside Str p (Some 10)) (fed true own p h) e
dollar_agrees Bytes own p h e = needed (has_dollar p) (holds_beside Bytes p (Some 10)) (fed false own p h) e

-- A node is the last one if its index is that of the last one.
pub ends_at : {X : Type 0} (f : X → SyntaxNode) (xs : List X) (n : ℕ) → n ≤ length xs → is_end (t.nodes (map f (drop n xs))) ≡ (n == length xs)
ends_at f [] zero h = refl
ends_at f (x ∷ xs) zero h = grind (arith, nat_tests)
ends_at f [] (suc n) h = absurd (omega (arith, h))
ends_at f (x ∷ xs) (suc n) h = ends_at f xs n (omega (arith, h)) ∙ grind (arith, nat_tests)
