-- How deep groups are nested in what the machine reads: if many groups are open, the syntax tree that is read contains a
-- group nested that deep.
use Rattle.std.proofs.Common.{◌≡◌, ◌⊎◌, ℕ, zero, suc, ◌+◌, Bool, true, false, not, ◌&&◌, ◌||◌, ◌==◌, if◌then◌else◌, slice_get, List, [], ◌∷◌, ◌++◌, length, Option, Some, None, refl, sym, ap, ◌∙◌, subst, arith, take, drop, length-take-le, take-append-drop}
use Rattle.std.proofs.lemmas.Bool.{cond_both, eqb-true}
use mathlib.Core.Logic.{inl, inr, ⊎_elim}
use Rattle.rl_pattern.specs.declared.flags.Flags.{Flags}
use Rattle.rl_pattern.specs.Tree.{Span, span, Count, Greed, greedy, lazy, possessive, any, glyph, members, Member, Escaped, reference, Kind, capturing, named, scoped, lookaround, atomic, conditional, SyntaxNode, leaf, mark, repeat, group, nothing, seq, choice, Nodes, no_nodes, more_nodes, Branches, no_branches, more_branches, nodes, branches, Branch, branch_body, branch, whole_body, Whole}
use Rattle.rl_pattern.specs.Codes.{is, TokenClass, sign, left, right, bar, brace, slash, dot, bracket, times, edge, blank, sharp, plain, EscapeClass, slashed, single, kinds, hexes, naming, octal, low, high, edges, no_escape, counts, count_of, splits, GroupPrefix, headed, letter, colon, minus, letter_p, sharps, looks, less, greater, condition, no_head, begins_name, goes_in_name, is_digit, on_letter, off_letter, with_letter, no_flags, joined}
use Rattle.rl_pattern.specs.internal.Signs.{HeadIs}
use Rattle.rl_pattern.specs.internal.Machine.{Answer, stops, goes, ends, InEscape, escape_first, escape_next, escape_rest, set_first, Set, set_step, InHead, paren, quest, after_p, after_less, group_name, group_name_goes, reference_name, reference_name_goes, asks, asks_digits, asks_name_goes, letters_on, letters_dash, letters_off, GroupStart, begins_group, begins_comment, is_reference, is_front, head_step, quest_next, after_less_next, Frame, Last, nothing_yet, an_atom, Base, Lex, between, line, comment, in_braces, counted, at_slash, in_escape, in_head, set_open, in_class, State, at, settled, put_last, put, put_item, put_leaf, put_code, put_codes, no_count, put_repeat, count_last, all_branches, next_branch, split, open_group, body_up_to, close, is_nil, is_settled, at_front, put_front, begin, pass_or_put, by_sign, go_on, end_braces, braces_step, counted_step, escape_begins, slash_step, escape_step, behind_paren, head_stops, head_answer, set_answer, step, step_at, run, observe, finish_below, finish_escape, finish_lex, finish_at, start}
use Rattle.rl_pattern.proofs.Sound.{Holds}
use Rattle.rl_pattern.proofs.Viability.{observe_none, observe-append}
use Rattle.rl_pattern.proofs.KeptHeads.{head_is}
use Rattle.rl_pattern.proofs.Deep.{too_deep_seen}
use Rattle.rl_pattern.proofs.Reading.{spelled_is_read}
use Rattle.rl_pattern.specs.Viable.{TooDeepAt}
use Rattle.rl_pattern.specs.Grammar.{Spells}
use Rattle.std.proofs.lemmas.Option.{slice_get_within}

-- One group further in.
abbrev pub HasIn : (ℕ → Type 0) → ℕ → Type 0
HasIn P zero = Unit {0}
HasIn P (suc n) = P n

abbrev mutual
  -- The node contains a group that is nested this deep.
  pub Has : SyntaxNode → ℕ → Type 0
  Has (leaf s f x) n = n ≡ 0
  Has (mark s f m) n = n ≡ 0
  Has (repeat s q c g p) n = Has p n
  Has (group s k p) n = HasIn (Has p) n
  Has (nothing s) n = n ≡ 0
  Has (seq s ps) n = HasSome ps n
  Has (choice s bs) n = HasBranch bs n

  pub HasSome : Nodes → ℕ → Type 0
  HasSome no_nodes n = n ≡ 0
  HasSome (more_nodes p ps) n = Has p n ⊎ HasSome ps n

  pub HasBranch : Branches → ℕ → Type 0
  HasBranch no_branches n = n ≡ 0
  HasBranch (more_branches s p bs) n = Has p n ⊎ HasBranch bs n

abbrev pub ItemsHave : List SyntaxNode → ℕ → Type 0
ItemsHave [] n = n ≡ 0
ItemsHave (p ∷ ps) n = Has p n ⊎ ItemsHave ps n

abbrev pub BranchesHave : List Branch → ℕ → Type 0
BranchesHave [] n = n ≡ 0
BranchesHave (b ∷ bs) n = Has b.body n ⊎ BranchesHave bs n

items_more : (ps : List SyntaxNode) (p : SyntaxNode) (n : ℕ) → ItemsHave ps n ⊎ Has p n → ItemsHave (ps ++ p ∷ []) n
items_more [] p n (inl e) = inr e
items_more [] p n (inr h) = inl h
items_more (q ∷ ps) p n (inl (inl h)) = inl h
items_more (q ∷ ps) p n (inl (inr h)) = inr (items_more ps p n (inl h))
items_more (q ∷ ps) p n (inr h) = inr (items_more ps p n (inr h))

branches_more : (bs : List Branch) (b : Branch) (n : ℕ) → BranchesHave bs n ⊎ Has b.body n → BranchesHave (bs ++ b ∷ []) n
branches_more [] b n (inl e) = inr e
branches_more [] b n (inr h) = inl h
branches_more (c ∷ bs) b n (inl (inl h)) = inl h
branches_more (c ∷ bs) b n (inl (inr h)) = inr (branches_more bs b n (inl h))
branches_more (c ∷ bs) b n (inr h) = inr (branches_more bs b n (inr h))

nodes_have : (ps : List SyntaxNode) (n : ℕ) → ItemsHave ps n → HasSome (nodes ps) n
nodes_have [] n h = h
nodes_have (p ∷ ps) n (inl h) = inl h
nodes_have (p ∷ ps) n (inr h) = inr (nodes_have ps n h)

mutual
  pub zero_has : (p : SyntaxNode) → Has p 0
  zero_has (leaf s f x) = refl
  zero_has (mark s f m) = refl
  zero_has (repeat s q c g p) = zero_has p
  zero_has (group s k p) = tt
  zero_has (nothing s) = refl
  zero_has (seq s ps) = zero_some ps
  zero_has (choice s bs) = zero_branch bs

  zero_some : (ps : Nodes) → HasSome ps 0
  zero_some no_nodes = refl
  zero_some (more_nodes p ps) = inl (zero_has p)

  pub zero_branch : (bs : Branches) → HasBranch bs 0
  zero_branch no_branches = refl
  zero_branch (more_branches s p bs) = inl (zero_has p)

body_has : (r : Span) (ps : List SyntaxNode) (n : ℕ) → ItemsHave ps n → Has (branch_body r ps) n
body_has r [] n h = h
body_has r (p ∷ []) n (inl h) = h
body_has r (p ∷ []) n (inr e) = subst (Has p) (sym e) (zero_has p)
body_has r (p ∷ q ∷ ps) n h = nodes_have (p ∷ q ∷ ps) n h

list_has : (bs : List Branch) (n : ℕ) → BranchesHave bs n → HasBranch (branches bs) n
list_has [] n h = h
list_has (b ∷ bs) n (inl h) = inl h
list_has (b ∷ bs) n (inr h) = inr (list_has bs n h)

whole_has : (r : Span) (bs : List Branch) (n : ℕ) → BranchesHave bs n → Has (whole_body r bs) n
whole_has r [] n h = h
whole_has r (b ∷ []) n (inl h) = h
whole_has r (b ∷ []) n (inr e) = subst (Has b.body) (sym e) (zero_has b.body)
whole_has r (b ∷ c ∷ bs) n h = list_has (b ∷ c ∷ bs) n h

abbrev FrameHas : Frame → ℕ → Type 0
FrameHas f n = BranchesHave f.branches n ⊎ ItemsHave f.items n

-- What the open body contains, including the last atom.
abbrev BaseHas : Base → ℕ → Type 0
BaseHas b n = BranchesHave b.top.branches n ⊎ ItemsHave (settled b.top.items b.last) n

-- Once everything open is closed, there is a group nested this deep. `has` says what the innermost body contains.
abbrev pub Deepens : ℕ → (ℕ → Type 0) → List Frame → Type 0
Deepens n has [] = has n
Deepens n has (f ∷ fs) = Deepens n (λ m. FrameHas f m ⊎ HasIn has m) fs

pub under_more : {P Q : ℕ → Type 0} → ((m : ℕ) → P m → Q m) → (m : ℕ) → HasIn P m → HasIn Q m
under_more f zero h = tt
under_more f (suc m) h = f m h

deepens_more : (n : ℕ) (fs : List Frame) {P Q : ℕ → Type 0} → ((m : ℕ) → P m → Q m) → Deepens n P fs → Deepens n Q fs
deepens_more n [] f h = f n h
deepens_more n (g ∷ fs) {P} {Q} f h = deepens_more n fs (λ m x. ⊎_elim (λ y. inl y) (λ y. inr (under_more f m y)) x) h

-- The same number of groups is open.
pub deepens_open : (n m : ℕ) (fs : List Frame) (P : ℕ → Type 0) → P m → n ≡ m + length fs → Deepens n P fs
deepens_open n m [] P h e = let d : m ≡ n = omega (arith, e) in subst P d h
deepens_open n m (f ∷ fs) P h e = deepens_open n (suc m) fs (λ k. FrameHas f k ⊎ HasIn P k) (inr h) (omega (arith, e))

abbrev pub Promise : ℕ → Base → Type 0
Promise n b = Deepens n (BaseHas b) b.below

-- One more item.
put_has : (b : Base) (ps : List SyntaxNode) (l : Last) (n : ℕ) → b.below ≡ b.below → ((m : ℕ) → ItemsHave (settled b.top.items b.last) m → ItemsHave (settled ps l) m) → Promise n b → Promise n (put_last b ps l)
put_has b ps l n e f h = deepens_more n b.below (λ m x. ⊎_elim (λ y. inl y) (λ y. inr (f m y)) x) h

put_promise : (b : Base) (a : ℕ) (p : SyntaxNode) (n : ℕ) → Promise n b → Promise n (put b a p)
put_promise b a p n h = put_has b (settled b.top.items b.last) (an_atom a p) n refl (λ m x. items_more (settled b.top.items b.last) p m (inl x)) h

item_promise : (b : Base) (p : SyntaxNode) (n : ℕ) → Promise n b → Promise n (put_item b p)
item_promise b p n h = put_has b (settled b.top.items b.last ++ p ∷ []) nothing_yet n refl (λ m x. items_more (settled b.top.items b.last) p m (inl x)) h

codes_promise : (t : List ℕ) (b : Base) (i n : ℕ) → Promise n b → Promise n (put_codes b i t)
codes_promise [] b i n h = h
codes_promise (c ∷ t) b i n h = codes_promise t (put_code b i c) (suc i) n (put_promise b i _ n h)

-- The state promises it, including the atom whose quantifier is being read.
abbrev LexHas : Lex → ℕ → Type 0
LexHas (counted a p q c) n = Has p n
LexHas between n = n ≡ 0
LexHas line n = n ≡ 0
LexHas comment n = n ≡ 0
LexHas (in_braces a t) n = n ≡ 0
LexHas (at_slash a) n = n ≡ 0
LexHas (in_escape a x) n = n ≡ 0
LexHas (in_head a h) n = n ≡ 0
LexHas (set_open a) n = n ≡ 0
LexHas (in_class a v s) n = n ≡ 0

abbrev pub Promises : ℕ → State → Type 0
Promises n s = Deepens n (λ m. BaseHas s.base m ⊎ LexHas s.lex m) s.base.below

at_base : (n : ℕ) (b : Base) (x : Lex) → Promise n b → Promises n (at b x)
at_base n b x h = deepens_more n b.below (λ m y. inl y) h

zero_items : (ps : List SyntaxNode) → ItemsHave ps 0
zero_items [] = refl
zero_items (p ∷ ps) = inl (zero_has p)

-- A construct without an atom.
plain_lex : (n : ℕ) (b : Base) (x : Lex) → ((m : ℕ) → LexHas x m → m ≡ 0) → Promises n (at b x) → Promise n b
plain_lex n b x f h = deepens_more n b.below (λ m y. ⊎_elim (λ z. z) (λ z. inr (subst (ItemsHave (settled b.top.items b.last)) (sym (f m z)) (zero_items (settled b.top.items b.last)))) y) h

repeat_promise : (b : Base) (a : ℕ) (p : SyntaxNode) (q j : ℕ) (c : Count) (g : Greed) (n : ℕ) → Deepens n (λ m. BaseHas b m ⊎ Has p m) b.below → Promise n (put_repeat b a p q j c g)
repeat_promise b a p q j c g n h =
    let ps = settled b.top.items b.last in
    let r = repeat (span a j) (span q j) c g p in
    deepens_more n b.below (λ m y. ⊎_elim (λ z. ⊎_elim (λ v. inl v) (λ v. inr (items_more ps r m (inl v))) z) (λ z. inr (items_more ps r m (inr z))) y) h

abbrev Keeps : ℕ → Option State → Type 0
Keeps n o = Holds o (Promises n)

last_promise : (b : Base) (q : ℕ) (c : Count) (l : Last) (n : ℕ) → Deepens n (λ m. BranchesHave b.top.branches m ⊎ ItemsHave (settled b.top.items l) m) b.below → Keeps n (count_last b q c l)
last_promise b q c nothing_yet n h = tt
last_promise b q c (an_atom a p) n h = deepens_more n b.below (λ m y. ⊎_elim (λ z. inl (inl z)) (λ z. apart b.top.items m z) y) h
  where
    apart : (ps : List SyntaxNode) (m : ℕ) → ItemsHave (ps ++ p ∷ []) m → (BranchesHave b.top.branches m ⊎ ItemsHave ps m) ⊎ Has p m
    apart [] m (inl x) = inr x
    apart [] m (inr e) = inl (inr e)
    apart (r ∷ ps) m (inl x) = inl (inr (inl x))
    apart (r ∷ ps) m (inr x) = ⊎_elim (λ y. ⊎_elim (λ z. inl (inl z)) (λ z. inl (inr (inr z))) y) (λ y. inr y) (apart ps m x)

split_promise : (b : Base) (i n : ℕ) → Promise n b → Keeps n (split b i)
split_promise b i n h =
    cond_both (splits b.top.kind (all_branches b i)) (Some (at (next_branch b (suc i) (all_branches b i)) between)) None (λ o. Holds o (Promises n)) (λ z. at_base n (next_branch b (suc i) (all_branches b i)) between (deepens_more n b.below (λ m y. inl (branch_in m y)) h)) (λ z. tt)
  where
    ps : List SyntaxNode
    ps = settled b.top.items b.last

    branch_in : (m : ℕ) → BaseHas b m → BranchesHave (all_branches b i) m
    branch_in m x = branches_more b.top.branches (branch (span b.top.from i) (settled b.top.items b.last)) m (⊎_elim (λ y. inl y) (λ y. inr (body_has (span b.top.from i) (settled b.top.items b.last) m y)) x)

close_promise : (b : Base) (i n : ℕ) (fs : List Frame) → Deepens n (BaseHas b) fs → Keeps n (close b i fs)
close_promise b i n [] h = tt
close_promise b i n (f ∷ fs) h = deepens_more n fs (λ m y. inl (⊎_elim (λ z. ⊎_elim (λ v. inl v) (λ v. inr (items_more f.items g m (inl v))) z) (λ z. inr (items_more f.items g m (inr (inside m z)))) y)) h
  where
    g : SyntaxNode
    g = group (span b.top.opened (suc i)) b.top.kind (body_up_to b i)

    inside : (m : ℕ) → HasIn (BaseHas b) m → Has (group (span b.top.opened (suc i)) b.top.kind (body_up_to b i)) m
    inside zero x = tt
    inside (suc m) x = whole_has (span b.top.start i) (all_branches b i) m (branches_more b.top.branches (branch (span b.top.from i) (settled b.top.items b.last)) m (⊎_elim (λ y. inl y) (λ y. inr (body_has (span b.top.from i) (settled b.top.items b.last) m y)) x))

open_promise : (b : Base) (a j : ℕ) (k : Kind) (n : ℕ) → Promise n b → Promise n (open_group b a j k)
open_promise b a j k n h = deepens_more n b.below (λ m y. inl y) h

pass_promise : (i : ℕ) (b : Base) (c : ℕ) (x : Lex) (n : ℕ) → Promise n b → Keeps n (pass_or_put b i c x)
pass_promise i b c x n h = cond_both b.top.flags.verbose (Some (at b x)) (Some (at (put_code b i c) between)) (λ o. Holds o (Promises n)) (λ z. at_base n b x h) (λ z. at_base n (put_code b i c) between (put_promise b i _ n h))

by_sign_promise : (i : ℕ) (b : Base) (c n : ℕ) (g : TokenClass) → Promise n b → Keeps n (by_sign i b c g)
by_sign_promise i b c n left h = at_base n b (in_head i paren) h
by_sign_promise i b c n right h = close_promise b i n b.below h
by_sign_promise i b c n bar h = split_promise b i n h
by_sign_promise i b c n brace h = at_base n b (in_braces i []) h
by_sign_promise i b c n slash h = at_base n b (at_slash i) h
by_sign_promise i b c n dot h = at_base n (put_leaf b i (suc i) any) between (put_promise b i _ n h)
by_sign_promise i b c n bracket h = at_base n b (set_open i) h
by_sign_promise i b c n (times k) h = last_promise b i k b.last n h
by_sign_promise i b c n (edge m) h = at_base n (put_item b (mark (span i (suc i)) b.top.flags m)) between (item_promise b _ n h)
by_sign_promise i b c n blank h = pass_promise i b c between n h
by_sign_promise i b c n sharp h = pass_promise i b c line n h
by_sign_promise i b c n plain h = at_base n (put_code b i c) between (put_promise b i _ n h)

on_promise : (i : ℕ) (b : Base) (c n : ℕ) → Promise n b → Keeps n (go_on i b c)
on_promise i b c n h = by_sign_promise i b c n (sign c) h

end_promise : (i : ℕ) (b : Base) (a : ℕ) (t : List ℕ) (n : ℕ) (o : Option Count) → Promise n b → Keeps n (end_braces i b a t o)
end_promise i b a t n None h = at_base n (put_code (no_count b a t) i 125) between (put_promise (no_count b a t) i _ n (codes_promise t (put_code b a 123) (suc a) n (put_promise b a _ n h)))
end_promise i b a t n (Some k) h = last_promise b a k b.last n h

braces_promise : (i : ℕ) (b : Base) (a : ℕ) (t : List ℕ) (c n : ℕ) → Promise n b → Keeps n (braces_step i b a t c)
braces_promise i b a t c n h =
    cond_both (c == 125) (end_braces i b a t (count_of t)) (if counts c then Some (at b (in_braces a (t ++ c ∷ []))) else go_on i (no_count b a t) c) (λ o. Holds o (Promises n)) (λ z. end_promise i b a t n (count_of t) h)
    (λ z. cond_both (counts c) (Some (at b (in_braces a (t ++ c ∷ [])))) (go_on i (no_count b a t) c) (λ o. Holds o (Promises n)) (λ y. at_base n b (in_braces a (t ++ c ∷ [])) h) (λ y. on_promise i (no_count b a t) c n (codes_promise t (put_code b a 123) (suc a) n (put_promise b a _ n h))))

counted_promise : (i : ℕ) (b : Base) (a : ℕ) (p : SyntaxNode) (q : ℕ) (k : Count) (c n : ℕ) → Deepens n (λ m. BaseHas b m ⊎ Has p m) b.below → Keeps n (counted_step i b a p q k c)
counted_promise i b a p q k c n h =
    cond_both (c == 63) (Some (at (put_repeat b a p q (suc i) k lazy) between)) (if c == 43 then Some (at (put_repeat b a p q (suc i) k possessive) between) else go_on i (put_repeat b a p q i k greedy) c) (λ o. Holds o (Promises n)) (λ z. at_base n (put_repeat b a p q (suc i) k lazy) between (repeat_promise b a p q (suc i) k lazy n h))
    (λ z. cond_both (c == 43) (Some (at (put_repeat b a p q (suc i) k possessive) between)) (go_on i (put_repeat b a p q i k greedy) c) (λ o. Holds o (Promises n)) (λ y. at_base n (put_repeat b a p q (suc i) k possessive) between (repeat_promise b a p q (suc i) k possessive n h)) (λ y. on_promise i (put_repeat b a p q i k greedy) c n (repeat_promise b a p q i k greedy n h)))

begins_promise : (i : ℕ) (b : Base) (a : ℕ) (n : ℕ) (r : Answer InEscape Escaped) → Promise n b → Keeps n (escape_begins i b a r)
begins_promise i b a n stops h = tt
begins_promise i b a n (goes x) h = at_base n b (in_escape a x) h
begins_promise i b a n (ends e) h = at_base n (put_leaf b a (suc i) (glyph e)) between (put_promise b a _ n h)

slash_promise : (i : ℕ) (b : Base) (a n : ℕ) (x : EscapeClass) → Promise n b → Keeps n (slash_step i b a x)
slash_promise i b a n (edges m) h = at_base n (put_item b (mark (span a (suc i)) b.top.flags m)) between (item_promise b _ n h)
slash_promise i b a n (single c) h = begins_promise i b a n (escape_first (single c)) h
slash_promise i b a n (kinds k v) h = begins_promise i b a n (escape_first (kinds k v)) h
slash_promise i b a n (hexes k) h = begins_promise i b a n (escape_first (hexes k)) h
slash_promise i b a n naming h = begins_promise i b a n (escape_first naming) h
slash_promise i b a n (octal d) h = begins_promise i b a n (escape_first (octal d)) h
slash_promise i b a n (low d) h = begins_promise i b a n (escape_first (low d)) h
slash_promise i b a n high h = begins_promise i b a n (escape_first high) h
slash_promise i b a n no_escape h = tt

escape_promise : (i : ℕ) (b : Base) (a n : ℕ) (r : Answer InEscape Escaped) (o : Option Escaped) (c : ℕ) → Promise n b → Keeps n (escape_step i b a r o c)
escape_promise i b a n stops None c h = tt
escape_promise i b a n stops (Some e) c h = on_promise i (put_leaf b a i (glyph e)) c n (put_promise b a _ n h)
escape_promise i b a n (goes x) o c h = at_base n b (in_escape a x) h
escape_promise i b a n (ends e) o c h = at_base n (put_leaf b a (suc i) (glyph e)) between (put_promise b a _ n h)

begin_promise : (b : Base) (a j n : ℕ) (o : GroupStart) → Promise n b → Keeps n (begin b a j o)
begin_promise b a j n (begins_group k) h = at_base n (open_group b a j k) between (open_promise b a j k n h)
begin_promise b a j n begins_comment h = at_base n b comment h
begin_promise b a j n is_reference h = at_base n (put_leaf b a j (glyph reference)) between (put_promise b a _ n h)
begin_promise b a j n (is_front f) h = cond_both (at_front b a) _ None (λ o. Holds o (Promises n)) (λ z. deepens_more n b.below (λ m y. inl y) h) (λ z. tt)

head_promise : (i : ℕ) (b : Base) (a n : ℕ) (x : InHead) (r : Answer InHead GroupStart) (c : ℕ) → Promise n b → Keeps n (head_answer i b a x r c)
head_promise i b a n x stops c h = go (behind_paren x)
  where
    go : (v : Bool) → Holds (head_stops i b a v c) (Promises n)
    go true = on_promise i (open_group b a i capturing) c n (open_promise b a i capturing n h)
    go false = tt
head_promise i b a n x (goes x') c h = at_base n b (in_head a x') h
head_promise i b a n x (ends o) c h = begin_promise b a (suc i) n o h

set_promise : (i : ℕ) (b : Base) (a n : ℕ) (v : Bool) (r : Answer Set (List Member)) → Promise n b → Keeps n (set_answer i b a v r)
set_promise i b a n v stops h = tt
set_promise i b a n v (goes x) h = at_base n b (in_class a v x) h
set_promise i b a n v (ends ms) h = at_base n (put_leaf b a (suc i) (members v ms)) between (put_promise b a _ n h)

-- Each step keeps the promise.
step_promise : (text : Bool) (i n : ℕ) (b : Base) (x : Lex) (c : ℕ) → Promises n (at b x) → Keeps n (step text i b x c)
step_promise text i n b between c h = on_promise i b c n (plain_lex n b between (λ m y. y) h)
step_promise text i n b line c h = let k = plain_lex n b line (λ m y. y) h in cond_both (c == 10) (Some (at b between)) (Some (at b line)) (λ o. Holds o (Promises n)) (λ z. at_base n b between k) (λ z. at_base n b line k)
step_promise text i n b comment c h = let k = plain_lex n b comment (λ m y. y) h in cond_both (c == 41) (Some (at b between)) (Some (at b comment)) (λ o. Holds o (Promises n)) (λ z. at_base n b between k) (λ z. at_base n b comment k)
step_promise text i n b (in_braces a t) c h = braces_promise i b a t c n (plain_lex n b (in_braces a t) (λ m y. y) h)
step_promise text i n b (counted a p q k) c h = counted_promise i b a p q k c n h
step_promise text i n b (at_slash a) c h = slash_promise i b a n (slashed text false c) (plain_lex n b (at_slash a) (λ m y. y) h)
step_promise text i n b (in_escape a x) c h = escape_promise i b a n (escape_next x c) (escape_rest x) c (plain_lex n b (in_escape a x) (λ m y. y) h)
step_promise text i n b (in_head a x) c h = head_promise i b a n x (head_step text x c) c (plain_lex n b (in_head a x) (λ m y. y) h)
step_promise text i n b (set_open a) c h =
    let k = plain_lex n b (set_open a) (λ m y. y) h in
    let first : Lex = in_class a true (record { before = []; part = set_first }) in
    cond_both (c == 94) (Some (at b first)) (set_answer i b a false (set_step text i [] set_first c)) (λ o. Holds o (Promises n)) (λ z. at_base n b (in_class a true (record { before = []; part = set_first })) k) (λ z. set_promise i b a n false (set_step text i [] set_first c) k)
step_promise text i n b (in_class a v s) c h = set_promise i b a n v (set_step text i s.before s.part c) (plain_lex n b (in_class a v s) (λ m y. y) h)

-- At the end the promise is fulfilled.
end_has : (k n : ℕ) (b : Base) (fs : List Frame) → Deepens n (BaseHas b) fs → Holds (finish_below k b fs) (λ q. Has q.body n)
end_has k n b [] h = whole_has (span b.top.start k) (all_branches b k) n (branches_more b.top.branches (branch (span b.top.from k) (settled b.top.items b.last)) n (⊎_elim (λ y. inl y) (λ y. inr (body_has (span b.top.from k) (settled b.top.items b.last) n y)) h))
end_has k n b (f ∷ fs) h = tt

finish_has : (k n : ℕ) (b : Base) (x : Lex) → Promises n (at b x) → Holds (finish_lex k b x) (λ q. Has q.body n)
finish_has k n b between h = end_has k n b b.below (plain_lex n b between (λ m y. y) h)
finish_has k n b line h = end_has k n b b.below (plain_lex n b line (λ m y. y) h)
finish_has k n b comment h = tt
finish_has k n b (in_braces a t) h = let d = no_count b a t in end_has k n d d.below (codes_promise t (put_code b a 123) (suc a) n (put_promise b a _ n (plain_lex n b (in_braces a t) (λ m y. y) h)))
finish_has k n b (counted a p q c) h = let d = put_repeat b a p q k c greedy in end_has k n d d.below (repeat_promise b a p q k c greedy n h)
finish_has k n b (at_slash a) h = tt
finish_has k n b (in_escape a x) h = go (escape_rest x) (plain_lex n b (in_escape a x) (λ m y. y) h)
  where
    go : (o : Option Escaped) → Promise n b → Holds (finish_escape k b a o) (λ q. Has q.body n)
    go None p = tt
    go (Some e) p = let d = put_leaf b a k (glyph e) in end_has k n d d.below (put_promise b a _ n p)
finish_has k n b (in_head a x) h = tt
finish_has k n b (set_open a) h = tt
finish_has k n b (in_class a v s) h = tt

pub run_has : (text : Bool) (i n : ℕ) (s : State) (cs : List ℕ) → Promises n s → Holds (observe text finish_at i (Some s) cs) (λ q. Has q.body n)
run_has text i n s [] h = finish_has i n s.base s.lex h
run_has text i n s (c ∷ cs) h = go (step_at text i s c) (keeps h) (λ t. run_has text (suc i) n t cs)
  where
    keeps : Promises n s → Holds (step_at text i s c) (Promises n)
    keeps h = step_promise text i n s.base s.lex c h

    go : (o : Option State) → Holds o (Promises n) → ((t : State) → Promises n t → Holds (observe text finish_at (suc i) (Some t) cs) (λ q. Has q.body n)) → Holds (observe text finish_at (suc i) o cs) (λ q. Has q.body n)
    go None h f = subst (λ o. Holds o (λ q. Has q.body n)) (sym (observe_none text finish_at (suc i) cs)) tt
    go (Some t) h f = f t h

-- A head that goes on to open a group, or to a flag group.
abbrev Opens : InHead → Type 0
Opens paren = ⊥
Opens quest = ⊥
Opens after_p = ⊥
Opens after_less = Unit {0}
Opens group_name = Unit {0}
Opens (group_name_goes n) = Unit {0}
Opens reference_name = ⊥
Opens reference_name_goes = ⊥
Opens asks = Unit {0}
Opens asks_digits = Unit {0}
Opens asks_name_goes = Unit {0}
Opens (letters_on f) = Unit {0}
Opens (letters_dash f) = Unit {0}
Opens (letters_off f g) = Unit {0}

abbrev BegunOpens : GroupStart → Type 0
BegunOpens (begins_group k) = Unit {0}
BegunOpens begins_comment = ⊥
BegunOpens is_reference = ⊥
BegunOpens (is_front f) = Unit {0}

abbrev WillOpen : Answer InHead GroupStart → Type 0
WillOpen stops = Unit {0}
WillOpen (goes h) = Opens h
WillOpen (ends o) = BegunOpens o

behind_opens : (c : ℕ) (x : GroupPrefix) → WillOpen (after_less_next x c)
behind_opens c looks = tt
behind_opens c letter = tt
behind_opens c colon = tt
behind_opens c minus = tt
behind_opens c letter_p = tt
behind_opens c sharps = tt
behind_opens c less = tt
behind_opens c greater = tt
behind_opens c condition = tt
behind_opens c no_head = tt

pick_open : (b : Bool) (x y : Answer InHead GroupStart) → WillOpen x → WillOpen y → WillOpen (if b then x else y)
pick_open true x y p q = p
pick_open false x y p q = q

head_opens : (text : Bool) (h : InHead) (c : ℕ) → Opens h → WillOpen (head_step text h c)
head_opens text paren c o = absurd o
head_opens text quest c o = absurd o
head_opens text after_p c o = absurd o
head_opens text after_less c o = behind_opens c (headed c)
head_opens text group_name c o = pick_open (begins_name text c) (goes (group_name_goes (c ∷ []))) stops tt tt
head_opens text (group_name_goes n) c o = pick_open (c == 62) (ends (begins_group (named n))) (if goes_in_name text c then goes (group_name_goes (n ++ c ∷ [])) else stops) tt (pick_open (goes_in_name text c) (goes (group_name_goes (n ++ c ∷ []))) stops tt tt)
head_opens text reference_name c o = absurd o
head_opens text reference_name_goes c o = absurd o
head_opens text asks c o = pick_open (is_digit c) (goes asks_digits) (if begins_name text c then goes asks_name_goes else stops) tt (pick_open (begins_name text c) (goes asks_name_goes) stops tt tt)
head_opens text asks_digits c o = pick_open (c == 41) (ends (begins_group conditional)) (if is_digit c then goes asks_digits else stops) tt (pick_open (is_digit c) (goes asks_digits) stops tt tt)
head_opens text asks_name_goes c o = pick_open (c == 41) (ends (begins_group conditional)) (if goes_in_name text c then goes asks_name_goes else stops) tt (pick_open (goes_in_name text c) (goes asks_name_goes) stops tt tt)
head_opens text (letters_on f) c o =
    pick_open (c == 58) (ends (begins_group (scoped f no_flags))) (if c == 41 then ends (is_front f) else (if c == 45 then goes (letters_dash f) else (if on_letter c then goes (letters_on (with_letter f c)) else stops))) tt
    (pick_open (c == 41) (ends (is_front f)) (if c == 45 then goes (letters_dash f) else (if on_letter c then goes (letters_on (with_letter f c)) else stops)) tt
    (pick_open (c == 45) (goes (letters_dash f)) (if on_letter c then goes (letters_on (with_letter f c)) else stops) tt (pick_open (on_letter c) (goes (letters_on (with_letter f c))) stops tt tt)))
head_opens text (letters_dash f) c o = pick_open (off_letter c) (goes (letters_off f (with_letter no_flags c))) stops tt tt
head_opens text (letters_off f g) c o =
    pick_open (c == 58) (ends (begins_group (scoped f g))) (if off_letter c then goes (letters_off f (with_letter g c)) else stops) tt (pick_open (off_letter c) (goes (letters_off f (with_letter g c))) stops tt tt)

not_behind : (h : InHead) → Opens h → behind_paren h ≡ false
not_behind paren o = absurd o
not_behind quest o = absurd o
not_behind after_p o = absurd o
not_behind after_less o = refl
not_behind group_name o = refl
not_behind (group_name_goes n) o = refl
not_behind reference_name o = absurd o
not_behind reference_name_goes o = absurd o
not_behind asks o = refl
not_behind asks_digits o = refl
not_behind asks_name_goes o = refl
not_behind (letters_on f) o = refl
not_behind (letters_dash f) o = refl
not_behind (letters_off f g) o = refl

module _ (text : Bool) (b : Base) (a n : ℕ) (some : suc n ≡ length b.below) where
  abbrev Deep : ℕ → Option State → List ℕ → Type 0
  Deep i o r = Holds (observe text finish_at i o r) (λ q. Has q.body (suc (suc n)))

  none_deep : (i : ℕ) (r : List ℕ) → Deep i None r
  none_deep i r = subst (λ o. Holds o (λ q. Has q.body (suc (suc n)))) (sym (observe_none text finish_at i r)) tt

  opened : (j : ℕ) (k : Kind) → Promise (suc (suc n)) (open_group b a j k)
  opened j k = deepens_open (suc (suc n)) 0 (open_group b a j k).below (BaseHas (open_group b a j k)) (inl refl) (omega (arith, some))

  group_deep : (i j : ℕ) (k : Kind) (r : List ℕ) → Deep i (Some (at (open_group b a j k) between)) r
  group_deep i j k r = run_has text i (suc (suc n)) (at (open_group b a j k) between) r (at_base (suc (suc n)) (open_group b a j k) between (opened j k))

  not_nil : (fs : List Frame) → suc n ≡ length fs → is_nil fs ≡ false
  not_nil [] e = absurd (omega (arith, e))
  not_nil (f ∷ fs) e = refl

  front_none : (j : ℕ) (f : Flags) → put_front b a j f ≡ None
  front_none j f = ap (λ v. if v then Some (at (record b { top = record b.top { flags = joined b.top.flags f; start = j; from = j }; fronts = b.fronts ++ record { place = span a j; letters = f } ∷ [] }) between) else None) (ap (λ v. v && (is_nil b.top.branches && (is_nil b.top.items && (is_settled b.last && (a == 0 || not (is_nil b.fronts)))))) (not_nil b.below some))

  heads_deep : (i : ℕ) (h : InHead) (r : List ℕ) → Opens h → Deep i (Some (at b (in_head a h))) r
  heads_deep i h [] o = tt
  heads_deep i h (c ∷ r) o = go (head_step text h c) (head_opens text h c o) (λ h' o'. heads_deep (suc i) h' r o')
    where
      go : (x : Answer InHead GroupStart) → WillOpen x → ((h' : InHead) → Opens h' → Deep (suc i) (Some (at b (in_head a h'))) r) → Deep (suc i) (head_answer i b a h x c) r
      go stops w f = subst (λ v. Deep (suc i) (head_stops i b a v c) r) (sym (not_behind h o)) (none_deep (suc i) r)
      go (goes h') w f = f h' w
      go (ends (begins_group k)) w f = group_deep (suc i) (suc i) k r
      go (ends begins_comment) w f = absurd w
      go (ends is_reference) w f = absurd w
      go (ends (is_front fl)) w f = subst (λ s. Deep (suc i) s r) (sym (front_none (suc i) fl)) (none_deep (suc i) r)

  kept_deep : (i : ℕ) (o : Option State) (r : List ℕ) → Holds o (Promises (suc (suc n))) → Deep i o r
  kept_deep i None r h = none_deep i r
  kept_deep i (Some t) r h = run_has text i (suc (suc n)) t r h

  after_p_deep : (i : ℕ) (r : List ℕ) → (slice_get r 0 ≡ Some 61 → ⊥) → Deep i (Some (at b (in_head a after_p))) r
  after_p_deep i [] none = tt
  after_p_deep i (c ∷ r) none =
      cond_both (c == 60) (goes group_name) (if c == 61 then goes reference_name else stops) (λ x. Deep (suc i) (head_answer i b a after_p x c) r) (λ z. heads_deep (suc i) group_name r tt)
      (λ z. cond_both (c == 61) (goes reference_name) stops (λ x. Deep (suc i) (head_answer i b a after_p x c) r) (λ y. absurd (none (ap Some (eqb-true c 61 y)))) (λ y. none_deep (suc i) r))

  quest_deep : (i : ℕ) (r : List ℕ) → (slice_get r 0 ≡ Some 35 → ⊥) → (slice_get r 0 ≡ Some 80 → slice_get r 1 ≡ Some 61 → ⊥) → Deep i (Some (at b (in_head a quest))) r
  quest_deep i [] no_r no_f = tt
  quest_deep i (c ∷ r) no_r no_f = go (headed c) (head_is c)
    where
      go : (x : GroupPrefix) → HeadIs x c → Deep (suc i) (head_answer i b a quest (quest_next x c) c) r
      go letter e = heads_deep (suc i) (letters_on (with_letter no_flags c)) r tt
      go colon e = group_deep (suc i) (suc i) (scoped no_flags no_flags) r
      go minus e = heads_deep (suc i) (letters_dash no_flags) r tt
      go letter_p e = after_p_deep (suc i) r (no_f (ap Some e))
      go sharps e = absurd (no_r (ap Some e))
      go looks e = group_deep (suc i) (suc i) (lookaround false (is "!" c)) r
      go less e = heads_deep (suc i) after_less r tt
      go greater e = group_deep (suc i) (suc i) atomic r
      go condition e = heads_deep (suc i) asks r tt
      go no_head e = none_deep (suc i) r

  -- After a parenthesis that isn't followed by `?#` or `?P=`.
  pub paren_deep : (i : ℕ) (r : List ℕ) → (slice_get r 0 ≡ Some 63 → slice_get r 1 ≡ Some 35 → ⊥) → (slice_get r 0 ≡ Some 63 → slice_get r 1 ≡ Some 80 → slice_get r 2 ≡ Some 61 → ⊥) → Deep i (Some (at b (in_head a paren))) r
  paren_deep i [] no_r no_f = tt
  paren_deep i (c ∷ r) no_r no_f =
      cond_both (c == 63) (goes quest) stops (λ x. Deep (suc i) (head_answer i b a paren x c) r) (λ z. let e : Some c ≡ Some 63 = ap Some (eqb-true c 63 z) in quest_deep (suc i) r (no_r e) (no_f e))
      (λ z. kept_deep (suc i) (go_on i (open_group b a i capturing) c) r (on_promise i (open_group b a i capturing) c (suc (suc n)) (opened i capturing)))

dropped_at : (w : List ℕ) (n k c m : ℕ) → m ≡ n + k → slice_get (drop n w) k ≡ Some c → slice_get w m ≡ Some c
dropped_at [] zero k c m e h = h
dropped_at [] (suc n) k c m e h = h
dropped_at (x ∷ w) zero k c m e h = let d : m ≡ k = omega (arith, e) in ap (slice_get (x ∷ w)) d ∙ h
dropped_at (x ∷ w) (suc n) k c zero e h = absurd (omega (arith, e))
dropped_at (x ∷ w) (suc n) k c (suc m) e h = dropped_at w n k c m (omega (arith, e)) h

-- If a group is nested too deep in codes that spell a syntax tree, the tree contains a group that is.
pub too_deep_has : (call : Flags) (text : Bool) (w : List ℕ) (p : ℕ) (q : Whole) → TooDeepAt call text w p → Spells call text w q → Has q.body 101
too_deep_has call text w p q h sp =
    let bh = too_deep_seen call text w p h in
    let s = bh.state in
    let u = take (suc p) w in
    let rest = drop (suc p) w in
    let len : length u ≡ suc p = length-take-le (suc p) w (slice_get_within w p 40 h.opens) in
    let reads_all : observe text finish_at (suc p) (Some s) rest ≡ Some q = sym (ap (λ o. observe text finish_at (suc p) o rest) bh.runs) ∙ sym (let z : 0 + length u ≡ suc p = omega (arith, len) in ap (λ m. observe text finish_at m (run text 0 (Some (start call)) u) rest) z) ∙ sym (observe-append text finish_at 0 (start call) u rest) ∙ ap (observe text finish_at 0 (Some (start call))) (take-append-drop (suc p) w) ∙ spelled_is_read call text w q sp in
    let same : at s.base (in_head p paren) ≡ s = ap (at s.base) (sym bh.lex) in
    let deep = paren_deep text s.base p 99 (sym bh.deep) (suc p) rest (λ x z. h.no_comment (h.opens, (dropped_at w (suc p) 0 63 (suc p) (omega arith) x, dropped_at w (suc p) 1 35 (suc (suc p)) (omega arith) z))) (λ x y z. h.no_reference (h.opens, (dropped_at w (suc p) 0 63 (suc p) (omega arith) x, (dropped_at w (suc p) 1 80 (suc (suc p)) (omega arith) y, dropped_at w (suc p) 2 61 (suc (suc (suc p))) (omega arith) z)))) in
    subst (λ o. Holds o (λ t. Has t.body 101)) reads_all (subst (λ t. Holds (observe text finish_at (suc p) (Some t) rest) (λ t. Has t.body 101)) same deep)
