-- A pattern that exceeds none of the limits of nodes, letters and moves in its mode doesn't exceed them in `fullmatch` either:
-- what a mode puts around a body can only make a limit be exceeded, never the reverse.
use Rattle.std.proofs.Common.{◌≡◌, ℕ, ◌+◌, ◌≤◌, Bool, true, false, ◌&&◌, List, [], ◌∷◌, ◌++◌, length, refl, ap, sym, ◌∙◌, arith}
use Rattle.std.proofs.lemmas.Bool.{false≢true}
use Rattle.rl_ranges.specs.declared.universe.Universe.{Universe}
use Rattle.rl_ranges.specs.Text.{code_count}
use Rattle.rl_ranges.specs.Letters.{alike, classes}
use Rattle.rl_ranges.proofs.FirstsLemmas.{firsts-finer}
use Rattle.rl_ranges.proofs.LetterLemmas.{IsLikeness-alike, classes-firsts, alike-append}
use Rattle.rl_syntax.specs.declared.anchors.Guard.{Guard}
use Rattle.rl_syntax.specs.declared.anchors.Trail.{Trail}
use Rattle.rl_syntax.specs.declared.anchors.Trail.TheVariants as trail
use Rattle.rl_syntax.specs.declared.re.Mode.{Mode}
use Rattle.rl_syntax.specs.declared.re.Mode.TheVariants.{Fullmatch, Match, Search}
use Rattle.rl_syntax.specs.declared.pattern.Pattern.{Pattern}
use Rattle.rl_syntax.specs.declared.verdict.Limit.{Limit}
use Rattle.rl_syntax.specs.declared.verdict.Limit.TheVariants.{Size, Letters, Moves, Sets, Pairs}
use Rattle.rl_syntax.specs.Guards.{is_line_feed}
use Rattle.rl_syntax.specs.Modes.{is_code, trailed, sought, wrapped}
use Rattle.rl_syntax.specs.Lowering.{lowered}
use Rattle.rl_syntax.specs.Pattern.{body_of, is_anchored, trail_of, universe_of}
use Rattle.rl_syntax.specs.Run.{one_more}
use Rattle.rl_syntax.specs.Tree.{Tree, empty, one, guard, both, either, many, size, places, sets_in, guard_sets}
use Rattle.rl_prio.specs.internal.Attempts.{followed, lists_of, widest, width_of}
use Rattle.rl_prio.specs.Items.{Item, test_at, pass, all_guarded, replaced, first}
use Rattle.rl_prio.specs.Letters.{all_sets}
use Rattle.rl_prio.proofs.WidthLemmas.{width-both_left, width-both_right, width-longest, longest-width}
use Rattle.rl_pairs.specs.RightVerdict.{Question, IsSmall}
use Rattle.rl_rewrite.specs.Verdicts.{IsFirstExceeded}
use Rattle.rl_judge.specs.declared.options.AnalysisOptions.{AnalysisOptions}
use Rattle.rl_judge.specs.Analysis.{question_of}
use Rattle.rl_judge.specs.internal.Conditions.{IsSmallWhole}

-- ---- the numbers of places don't change the lengths of the lists

-- The lists differ only in guards and in the numbers of places.
data Alike : List Item → List Item → Type 0 where
  no_items : Alike [] []
  both_test : {gs hs : List Guard} {p q : ℕ} {l m : List Item} → Alike l m → Alike (test_at gs p ∷ l) (test_at hs q ∷ m)
  both_pass : {gs hs : List Guard} {l m : List Item} → Alike l m → Alike (pass gs ∷ l) (pass hs ∷ m)

same_length : {l m : List Item} → Alike l m → length l ≡ length m
same_length no_items = refl
same_length (both_test h) = omega (arith, same_length h)
same_length (both_pass h) = omega (arith, same_length h)

alike_join : {l m a b : List Item} → Alike l m → Alike a b → Alike (l ++ a) (m ++ b)
alike_join no_items k = k
alike_join (both_test h) k = both_test (alike_join h k)
alike_join (both_pass h) k = both_pass (alike_join h k)

alike_guarded : (gs hs : List Guard) {l m : List Item} → Alike l m → Alike (all_guarded gs l) (all_guarded hs m)
alike_guarded gs hs no_items = no_items
alike_guarded gs hs (both_test h) = both_test (alike_guarded gs hs h)
alike_guarded gs hs (both_pass h) = both_pass (alike_guarded gs hs h)

alike_replaced : {l m a b : List Item} → Alike l m → Alike a b → Alike (replaced l a) (replaced m b)
alike_replaced no_items k = no_items
alike_replaced (both_test h) k = both_test (alike_replaced h k)
alike_replaced (both_pass {gs = gs} {hs = hs} h) k = alike_join (alike_guarded gs hs k) (alike_replaced h k)

alike_more : (greedy : Bool) {l m : List Item} → Alike l m → Alike (one_more greedy (pass []) l) (one_more greedy (pass []) m)
alike_more true h = alike_join h (both_pass no_items)
alike_more false h = both_pass h

first_alike : (t : Tree) (b c : ℕ) → Alike (first t b) (first t c)
first_alike empty b c = both_pass no_items
first_alike (one set) b c = both_test no_items
first_alike (guard g) b c = both_pass no_items
first_alike (both e f) b c = alike_replaced (first_alike e b c) (first_alike f (b + places e) (c + places e))
first_alike (either e f) b c = alike_join (first_alike e b c) (first_alike f (b + places e) (c + places e))
first_alike (many e greedy) b c = alike_more greedy (first_alike e b c)

data AllAlike : List (List Item) → List (List Item) → Type 0 where
  no_lists : AllAlike [] []
  both_list : {l m : List Item} {ls ms : List (List Item)} → Alike l m → AllAlike ls ms → AllAlike (l ∷ ls) (m ∷ ms)

all_join : {ls ms xs ys : List (List Item)} → AllAlike ls ms → AllAlike xs ys → AllAlike (ls ++ xs) (ms ++ ys)
all_join no_lists k = k
all_join (both_list h hs) k = both_list h (all_join hs k)

all_followed : {ls ms : List (List Item)} {a b : List Item} → AllAlike ls ms → Alike a b → AllAlike (followed ls a) (followed ms b)
all_followed no_lists k = no_lists
all_followed (both_list h hs) k = both_list (alike_replaced h k) (all_followed hs k)

same_widest : {ls ms : List (List Item)} → AllAlike ls ms → widest ls ≡ widest ms
same_widest no_lists = refl
same_widest (both_list h hs) = omega (arith, same_length h, same_widest hs)

lists_alike : (t : Tree) (b c : ℕ) → AllAlike (lists_of t b) (lists_of t c)
lists_alike empty b c = no_lists
lists_alike (one set) b c = both_list (both_pass no_items) no_lists
lists_alike (guard g) b c = no_lists
lists_alike (both e f) b c =
    all_join (all_followed (lists_alike e b c) (first_alike f (b + places e) (c + places e))) (lists_alike f (b + places e) (c + places e))
lists_alike (either e f) b c = all_join (lists_alike e b c) (lists_alike f (b + places e) (c + places e))
lists_alike (many e greedy) b c = all_followed (lists_alike e b c) (first_alike (many e greedy) b c)

same_width : (t : Tree) (b c : ℕ) → width_of t b ≡ width_of t c
same_width t b c = omega (arith, same_length (first_alike t b c), same_widest (lists_alike t b c))

-- ---- a part of a tree

-- The first tree exceeds a limit only if the second does.
record IsWithin (s t : Tree) : Type 0 where
  nodes : size s ≤ size t
  width : width_of s 0 ≤ width_of t 0
  tells : (c d : ℕ) → alike (all_sets t) c d ≡ true → alike (all_sets s) c d ≡ true

within_itself : (t : Tree) → IsWithin t t
within_itself t = record { nodes = omega arith; width = omega arith; tells = λ c d h. h }

within_onward : (s t r : Tree) → IsWithin s t → IsWithin t r → IsWithin s r
within_onward s t r h k =
    record { nodes = omega (arith, h.nodes, k.nodes); width = omega (arith, h.width, k.width); tells = λ c d x. h.tells c d (k.tells c d x) }

and_first : (a b : Bool) → (a && b) ≡ true → a ≡ true
and_first true b h = refl
and_first false b h = h

and_second : (a b : Bool) → (a && b) ≡ true → b ≡ true
and_second true b h = h
and_second false b h = absurd (false≢true h)

both_true : (a b : Bool) → a ≡ true → b ≡ true → (a && b) ≡ true
both_true a b p q = ap (λ z. z && b) p ∙ q

-- Two of four lists of sets, the first and the third, or the second and the fourth, don't distinguish more code points than all
-- four.
four_alike : (a b c d : List (ℕ → Bool)) (x y : ℕ) → alike ((a ++ b) ++ (c ++ d)) x y ≡ true → (alike (a ++ c) x y ≡ true) × (alike (b ++ d) x y ≡ true)
four_alike a b c d x y h =
    let whole = sym (alike-append (a ++ b) (c ++ d) x y) ∙ h in
    let front = sym (alike-append a b x y) ∙ and_first (alike (a ++ b) x y) (alike (c ++ d) x y) whole in
    let back = sym (alike-append c d x y) ∙ and_second (alike (a ++ b) x y) (alike (c ++ d) x y) whole in
    let ha = and_first (alike a x y) (alike b x y) front in
    let hb = and_second (alike a x y) (alike b x y) front in
    let hc = and_first (alike c x y) (alike d x y) back in
    let hd = and_second (alike c x y) (alike d x y) back in
    (alike-append a c x y ∙ both_true (alike a x y) (alike c x y) ha hc, alike-append b d x y ∙ both_true (alike b x y) (alike d x y) hb hd)

within_first : (e f : Tree) → IsWithin e (both e f)
within_first e f = record {
  nodes = omega arith;
  width = width-both_left e f 0;
  tells = λ c d h. (four_alike (sets_in e) (sets_in f) (guard_sets e) (guard_sets f) c d h).0;
}

within_second : (e f : Tree) → IsWithin f (both e f)
within_second e f = record {
  nodes = omega arith;
  width = omega (arith, same_width f 0 (0 + places e), width-both_right e f 0);
  tells = λ c d h. (four_alike (sets_in e) (sets_in f) (guard_sets e) (guard_sets f) c d h).1;
}

within_trailed : (z : Trail) (t : Tree) → IsWithin t (trailed z t)
within_trailed trail.None t = within_itself t
within_trailed trail.Dollar t = within_first t (either empty (one is_line_feed))
within_trailed trail.End t = within_itself t

within_sought : (u : Universe) (leading : Bool) (t : Tree) → IsWithin t (sought u leading t)
within_sought u true t = within_itself t
within_sought u false t = within_second (many (one (is_code u)) false) t

within_wrapped : (mode : Mode) (u : Universe) (leading : Bool) (z : Trail) (t : Tree) → IsWithin t (wrapped mode u leading z t)
within_wrapped Fullmatch u leading z t = within_itself t
within_wrapped Match u leading z t = within_trailed z t
within_wrapped Search u leading z t =
    within_onward t (trailed z t) (sought u leading (trailed z t)) (within_trailed z t) (within_sought u leading (trailed z t))

-- ---- limits

fewer_letters : (s t : Tree) (n : ℕ) → IsWithin s t → length (classes (all_sets s) n) ≤ length (classes (all_sets t) n)
fewer_letters s t n h =
    omega (
      arith,
      ap length (classes-firsts (all_sets s) n),
      ap length (classes-firsts (all_sets t) n),
      firsts-finer (alike (all_sets s)) (alike (all_sets t)) (IsLikeness-alike (all_sets s)) h.tells n,
    )

no_limit : (q : Question) (s : Tree) → IsWithin s q.tree → IsSmall q → (l : Limit) → IsFirstExceeded q.universe s l → ⊥
no_limit q s h small Size p = small.size (omega (arith, h.nodes, p))
no_limit q s h small Letters p = small.letters (omega (arith, fewer_letters s q.tree (code_count q.universe) h, p.1))
no_limit q s h small Moves p = small.moves (omega (arith, h.width, longest-width s, width-longest q.tree, p.2))
no_limit q s h small Sets p = p
no_limit q s h small Pairs p = p

pub small_whole : (p : Pattern) (options : AnalysisOptions) → IsSmall (question_of p options) → IsSmallWhole p
small_whole p options small l passed =
    no_limit (question_of p options) (lowered (body_of p)) (within_wrapped options.mode (universe_of p) (is_anchored p) (trail_of p) (lowered (body_of p))) small l passed
