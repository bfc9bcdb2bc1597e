-- What the machine reads is spelled: its state says, in terms of the grammar, what has been read, and each step preserves
-- that.
use Rattle.std.proofs.Common.{◌≡◌, ◌≢◌, ◌⊎◌, ℕ, zero, suc, ◌+◌, ◌<◌, ◌≤◌, Bool, true, false, cond, not, List, [], ◌∷◌, ◌++◌, length, drop, Option, Some, None, refl, sym, ap, ◌∙◌, subst, ◌==◌, slice_get, if◌then◌else◌, ◌||◌, arith}
use Rattle.std.proofs.lemmas.Bool.{cases_eq, cases_lt, eqb-true, eq-eqb, eqb-false, cond_both, and_parts, or_cases, false≢true, true≢false}
use Rattle.std.proofs.lemmas.Option.{none-some, slice_get_within}
use mathlib.Core.Logic.{inl, inr, ⊎_elim}
use Rattle.rl_pattern.specs.declared.flags.Flags.{Flags}
use Rattle.rl_pattern.specs.Tree.{span, Count, Greed, greedy, lazy, possessive, Escaped, Member, glyph, Kind, capturing, SyntaxNode, Branch, branch, Front, Whole}
use Rattle.rl_pattern.specs.Codes.{TokenClass, sign, left, right, bar, brace, slash, dot, bracket, times, edge, blank, sharp, plain, is_blank, EscapeClass, slashed, single, kinds, hexes, naming, octal, low, high, edges, no_escape, counts, count_of, joined, inside, splits}
use Rattle.rl_pattern.specs.internal.Signs.{SignIs}
use Rattle.rl_pattern.specs.Grammar.{is_literal, outermost, At, Without, no_code, one_code, Escape, SetHead, upright, inverted, SpelledAt, Opening, captures, Text, no_text, one_text, Braces, braces, Counts, by_code, by_braces, Quantifier, is_greedy, is_lazy, is_possessive, Ignored, pass_blank, pass_line, pass_last_line, pass_comment, Blanks, no_blank, one_blank, Atom, literal, literal_brace, dotted, escaped, bracketed, grouped, Item, once, repeated, edge_code, edge_escape, Items, no_items, pass_over, one_item, IsBranches, first_branch, next_branch, FlagGroup, Fronts, no_fronts, one_front, spelled, Spells}
use Rattle.rl_pattern.specs.internal.Machine.{Frame, Last, nothing_yet, an_atom, Base, Lex, between, line, comment, in_braces, counted, at_slash, in_escape, in_head, set_open, in_class, State, at, settled, put, put_item, put_leaf, put_code, put_codes, no_count, put_repeat, count_last, all_branches, next_branch as next_branch_base, split, open_group, close, is_nil, is_settled, at_front, put_front, begin, by_sign, go_on, end_braces, braces_step, counted_step, escape_begins, slash_step, escape_step, head_stops, behind_paren, head_answer, set_answer, set_opens, set_step, Set, set_first, step, step_at, observe, finish_below, finish, finish_escape, finish_lex, finish_at, start, reads, InEscape, escape_first, escape_next, escape_rest, Answer, stops, goes, ends, InHead, paren, quest, after_p, after_less, group_name, group_name_goes, reference_name, reference_name_goes, asks, asks_digits, asks_name_goes, letters_on, letters_dash, letters_off, head_step, GroupStart, begins_group, begins_comment, is_reference, is_front}
use Rattle.rl_pattern.proofs.Steps.{same_code}
use Rattle.rl_pattern.proofs.Reading.{put_more, counts_plain, brace_not, text_length}
use Rattle.rl_pattern.proofs.Kept.{Answers, EscapeOk, first_ok, next_ok, rest_ok}
use Rattle.rl_pattern.proofs.KeptSets.{none_before, PartOk, set_kept, SetKept}
use Rattle.rl_pattern.proofs.KeptHeads.{HeadOk, BegunOk, HeadKept, head_kept}

-- Each class between items is that of its code.
sign_is : (c : ℕ) → SignIs (sign c) c
unfolding sign
sign_is c =
    let P : TokenClass → Type 0 = λ g. SignIs g c in
    cond_both (c == 40) _ _ P (λ y. eqb-true c 40 y) (λ y. cond_both (c == 41) _ _ P (λ y. eqb-true c 41 y) (λ y. cond_both (c == 124) _ _ P (λ y. eqb-true c 124 y)
    (λ y. cond_both (c == 42) _ _ P (λ y. tt) (λ y. cond_both (c == 43) _ _ P (λ y. tt) (λ y. cond_both (c == 63) _ _ P (λ y. tt) (λ y. cond_both (c == 123) _ _ P (λ y. eqb-true c 123 y)
    (λ y. cond_both (c == 92) _ _ P (λ y. eqb-true c 92 y) (λ y. cond_both (c == 46) _ _ P (λ y. eqb-true c 46 y) (λ y. cond_both (c == 91) _ _ P (λ y. eqb-true c 91 y)
    (λ y. cond_both (c == 94) _ _ P (λ y. tt) (λ y. cond_both (c == 36) _ _ P (λ y. tt) (λ y. cond_both (c == 35) _ _ P (λ y. eqb-true c 35 y) (λ y. cond_both (is_blank c) _ _ P (λ y. tt) (λ y. tt))))))))))))))

-- What holds for an answer, if there is one.
abbrev pub Holds : {A : Type 0} → Option A → (A → Type 0) → Type 0
Holds None P = Unit {0}
Holds (Some a) P = P a

-- The first of what is left.
pub front_of : (w : List ℕ) (k c : ℕ) (r : List ℕ) → drop k w ≡ c ∷ r → (slice_get w k ≡ Some c) × (drop (suc k) w ≡ r)
front_of [] zero c r e = absurd (cc e)
front_of [] (suc k) c r e = absurd (cc e)
front_of (x ∷ w) zero c r e = (cc e, cc e)
front_of (x ∷ w) (suc k) c r e = front_of w k c r e

brace_plain : sign 125 ≡ plain
unfolding sign
brace_plain = refl

module _ (call : Flags) (text : Bool) (w : List ℕ) where
  -- The open branch from `i` up to `k`, including the atom that may take a quantifier.
  abbrev pub LastOk : Flags → ℕ → List SyntaxNode → Last → ℕ → Type 0
  LastOk fl i ps nothing_yet k = Items text w fl i k ps
  LastOk fl i ps (an_atom a p) k = (m : ℕ) × Items text w fl i a ps × Atom text w fl a m p × Blanks text w fl m k

  -- The branches before the open one.
  pub data BranchesOk (kd : Kind) (fl : Flags) (st : ℕ) : ℕ → List Branch → Type 0 where
    none_yet : BranchesOk kd fl st st []
    some_yet : {j : ℕ} {ds : List Branch} → IsBranches text w kd fl st j ds → At text w j 124 → splits kd ds ≡ true → BranchesOk kd fl st (suc j) ds

  -- The bodies around the open one, which begins at `st`.
  abbrev pub BelowOk : List Front → Flags → Kind → ℕ → ℕ → List Frame → Type 0
  BelowOk gs fl kd opened st [] = Fronts text w call st fl gs × (kd ≡ outermost)
  BelowOk gs fl kd opened st (f ∷ fs) =
      BranchesOk f.kind f.flags f.start f.from f.branches × Items text w f.flags f.from opened f.items × Opening text w opened st kd × (fl ≡ inside kd f.flags) × BelowOk gs f.flags f.kind f.opened f.start fs

  -- What has been read up to `k`.
  pub record BaseOk (k : ℕ) (b : Base) : Type 0 where
    pub before : BranchesOk b.top.kind b.top.flags b.top.start b.top.from b.top.branches
    pub last : LastOk b.top.flags b.top.from b.top.items b.last k
    pub below : BelowOk b.fronts b.top.flags b.top.kind b.top.opened b.top.start b.below

  abbrev pub LexOk : ℕ → Base → Lex → Type 0
  LexOk k b between = BaseOk k b
  LexOk k b line = (i : ℕ) × BaseOk i b × (b.top.flags.verbose ≡ true) × At text w i 35 × Without text w 10 (suc i) k
  LexOk k b comment = (i : ℕ) × BaseOk i b × SpelledAt text w i "(?#" × Without text w 41 (suc (suc (suc i))) k
  LexOk k b (in_braces a t) = BaseOk a b × At text w a 123 × Text text w (suc a) k t
  LexOk k b (counted a p q n) = (m : ℕ) × BaseOk a b × Atom text w b.top.flags a m p × Blanks text w b.top.flags m q × Counts text w q k n
  LexOk k b (at_slash a) = BaseOk a b × At text w a 92 × (k ≡ suc a)
  LexOk k b (in_escape a x) = BaseOk a b × EscapeOk text w false x a k
  LexOk k b (in_head a h) = BaseOk a b × HeadOk text w a h k
  LexOk k b (set_open a) = BaseOk a b × At text w a 91 × (k ≡ suc a)
  LexOk k b (in_class a v s) = (st : ℕ) × BaseOk a b × SetHead text w a st v × PartOk text w st s.before s.part k

  abbrev pub StateOk : ℕ → State → Type 0
  StateOk k s = LexOk k s.base s.lex

  abbrev Kept : ℕ → Option State → Type 0
  Kept k o = Holds o (λ s. StateOk k s)

  -- Items followed by ignored text.
  items_blanks : {fl : Flags} {i j k : ℕ} {ps : List SyntaxNode} → Items text w fl i j ps → Blanks text w fl j k → Items text w fl i k ps
  items_blanks h no_blank = h
  items_blanks h (one_blank bl p) = pass_over (items_blanks h bl) p

  settled_ok : (fl : Flags) (i : ℕ) (ps : List SyntaxNode) (l : Last) (k : ℕ) → LastOk fl i ps l k → Items text w fl i k (settled ps l)
  settled_ok fl i ps nothing_yet k h = h
  settled_ok fl i ps (an_atom a p) k (m, its, atom, bl) = items_blanks (one_item its (once atom)) bl

  last_passed : (fl : Flags) (i : ℕ) (ps : List SyntaxNode) (l : Last) (j k : ℕ) → LastOk fl i ps l j → Ignored text w fl j k → LastOk fl i ps l k
  last_passed fl i ps nothing_yet j k h p = pass_over h p
  last_passed fl i ps (an_atom a q) j k (m, its, atom, bl) p = (m, its, atom, one_blank bl p)

  pub all_items : {k : ℕ} (b : Base) → BaseOk k b → Items text w b.top.flags b.top.from k (settled b.top.items b.last)
  all_items {k} b h = settled_ok b.top.flags b.top.from b.top.items b.last k h.last

  passed_ok : {j k : ℕ} (b : Base) → BaseOk j b → Ignored text w b.top.flags j k → BaseOk k b
  passed_ok {j} {k} b h p = record { before = h.before; last = last_passed b.top.flags b.top.from b.top.items b.last j k h.last p; below = h.below }

  put_ok : {a j : ℕ} (b : Base) (p : SyntaxNode) → BaseOk a b → Atom text w b.top.flags a j p → BaseOk j (put b a p)
  put_ok {a} {j} b p h atom = record { before = h.before; last = (j, all_items b h, atom, no_blank); below = h.below }

  item_ok : {a j : ℕ} (b : Base) (p : SyntaxNode) → BaseOk a b → Item text w b.top.flags a j p → BaseOk j (put_item b p)
  item_ok {a} {j} b p h it = record { before = h.before; last = one_item (all_items b h) it; below = h.below }

  open_ok : {a j : ℕ} (b : Base) (kd : Kind) → BaseOk a b → Opening text w a j kd → BaseOk j (open_group b a j kd)
  open_ok {a} {j} b kd h o = record { before = none_yet; last = no_items; below = (h.before, all_items b h, o, refl, h.below) }

  with_branch : (kd : Kind) (fl : Flags) (st f j : ℕ) (ds : List Branch) (ps : List SyntaxNode) → BranchesOk kd fl st f ds → Items text w fl f j ps → IsBranches text w kd fl st j (ds ++ branch (span f j) ps ∷ [])
  with_branch kd fl st f j ds ps none_yet its = first_branch its
  with_branch kd fl st f j ds ps (some_yet h at_j may) its = next_branch h at_j may its

  branches_ok : (k : ℕ) (b : Base) → BaseOk k b → IsBranches text w b.top.kind b.top.flags b.top.start k (all_branches b k)
  branches_ok k b h = with_branch b.top.kind b.top.flags b.top.start b.top.from k b.top.branches (settled b.top.items b.last) h.before (all_items b h)

  split_ok : (k : ℕ) (b : Base) → BaseOk k b → At text w k 124 → Kept (suc k) (split b k)
  split_ok k b h at_k =
      cond_both (splits b.top.kind (all_branches b k)) (Some (at (next_branch_base b (suc k) (all_branches b k)) between)) None (Kept (suc k)) (λ may. record { before = some_yet (branches_ok k b h) at_k may; last = no_items; below = h.below }) (λ z. tt)

  close_ok : (k : ℕ) (b : Base) → BaseOk k b → At text w k 41 → (fs : List Frame) → BelowOk b.fronts b.top.flags b.top.kind b.top.opened b.top.start fs → Kept (suc k) (close b k fs)
  close_ok k b h at_k [] below = tt
  close_ok k b h at_k (f ∷ fs) (before, its, opens, inner, below) =
      record {
        before = before;
        last = (suc k, its, grouped opens (subst (λ fl. IsBranches text w b.top.kind fl b.top.start k (all_branches b k)) inner (branches_ok k b h)) at_k, no_blank);
        below = below;
      }

  count_ok : (q k : ℕ) (n : Count) (b : Base) (l : Last) → BranchesOk b.top.kind b.top.flags b.top.start b.top.from b.top.branches → LastOk b.top.flags b.top.from b.top.items l q → BelowOk b.fronts b.top.flags b.top.kind b.top.opened b.top.start b.below → Counts text w q k n → Kept k (count_last b q n l)
  count_ok q k n b nothing_yet before last below h = tt
  count_ok q k n b (an_atom a p) before (m, its, atom, bl) below h = (m, record { before = before; last = its; below = below }, atom, bl, h)

  code_ok : (k c : ℕ) (b : Base) → BaseOk k b → At text w k c → is_literal b.top.flags c → BaseOk (suc k) (put_code b k c)
  code_ok k c b h at_c is = put_ok b _ h (literal at_c is)

  by_sign_ok : (k : ℕ) (b : Base) (c : ℕ) (g : TokenClass) → sign c ≡ g → SignIs g c → BaseOk k b → At text w k c → Kept (suc k) (by_sign k b c g)
  by_sign_ok k b c left e is h at_c = (h, (subst (At text w k) is at_c, refl))
  by_sign_ok k b c right e is h at_c = close_ok k b h (subst (At text w k) is at_c) b.below h.below
  by_sign_ok k b c bar e is h at_c = split_ok k b h (subst (At text w k) is at_c)
  by_sign_ok k b c brace e is h at_c = (h, subst (At text w k) is at_c, no_text)
  by_sign_ok k b c slash e is h at_c = (h, subst (At text w k) is at_c, refl)
  by_sign_ok k b c dot e is h at_c = put_ok b _ h (dotted (subst (At text w k) is at_c))
  by_sign_ok k b c bracket e is h at_c = (h, subst (At text w k) is at_c, refl)
  by_sign_ok k b c (times n) e is h at_c = count_ok k (suc k) n b b.last h.before h.last h.below (by_code at_c e)
  by_sign_ok k b c (edge m) e is h at_c = item_ok b _ h (edge_code at_c e)
  by_sign_ok k b c blank e is h at_c =
      cond_both b.top.flags.verbose (Some (at b between)) (Some (at (put_code b k c) between)) (Kept (suc k)) (λ on. passed_ok b h (pass_blank on at_c e)) (λ off. code_ok k c b h at_c (inr (inl e, off)))
  by_sign_ok k b c sharp e is h at_c =
      cond_both b.top.flags.verbose (Some (at b line)) (Some (at (put_code b k c) between)) (Kept (suc k)) (λ on. (k, h, on, subst (At text w k) is at_c, no_code)) (λ off. code_ok k c b h at_c (inr (inr e, off)))
  by_sign_ok k b c plain e is h at_c = code_ok k c b h at_c (inl e)

  go_on_ok : (k : ℕ) (b : Base) (c : ℕ) → BaseOk k b → At text w k c → Kept (suc k) (go_on k b c)
  go_on_ok k b c h at_c = by_sign_ok k b c (sign c) refl (sign_is c) h at_c

  -- The text after a brace.
  text_at : {i m : ℕ} {u : List ℕ} → Text text w i m u → (k : ℕ) → i ≤ k → k < m → (c : ℕ) × At text w k c × (counts c ≡ true)
  text_at no_text k l r = absurd (omega (arith, l, r))
  text_at {i} (one_text {j = j} {c = c} h at_c is) k l r = ⊎_elim (λ (z : k ≡ j). (c, subst (λ n. At text w n c) (sym z) at_c, is)) (λ (z : k ≡ j → ⊥). text_at h k l (omega (arith, r, z))) (cases_eq k j)

  text_one : {i k m : ℕ} {t u : List ℕ} → Text text w i k t → Text text w i m u → k ≡ m → t ≡ u
  text_one no_text no_text e = refl
  text_one {i} no_text (one_text h at_c is) e = absurd (omega (arith, text_length text w h, e))
  text_one {i} (one_text h at_c is) no_text e = absurd (omega (arith, text_length text w h, e))
  text_one (one_text {j = j} {c = c} {t = t} h at_c is) (one_text {j = j2} {c = c2} {t = u} h2 at_c2 is2) e =
      let q : j ≡ j2 = omega (arith, e) in
      ap (λ v. v ++ c ∷ []) (text_one h h2 q) ∙ ap (λ v. u ++ v ∷ []) (same_code w j2 c c2 (subst (λ n. At text w n c) q at_c) at_c2)

  no_braces : (a k : ℕ) (t : List ℕ) → Text text w (suc a) k t → ((c : ℕ) → At text w k c → counts c ≡ false) → (At text w k 125 → count_of t ≡ None) → (j : ℕ) (n : Count) → ¬ Braces text w a j n
  no_braces a k t txt quiet no_count_here j n (braces {k = m} {t = u} at_a txt2 at_end is) = ⊎_elim (λ z. before z) (λ z. ⊎_elim (λ y. after y) (λ y. same y) (eq_or z)) (cases_lt k m)
    where
      before : k < m → ⊥
      before z = let r = text_at txt2 k (omega (arith, text_length text w txt)) z in true≢false (sym r.2 ∙ quiet r.0 r.1)

      after : m < k → ⊥
      after z = let r = text_at txt m (omega (arith, text_length text w txt2)) z in true≢false (sym r.2 ∙ ap counts (same_code w m r.0 125 r.1 at_end) ∙ brace_not)

      same : k ≡ m → ⊥
      same z = none-some n (sym (no_count_here (subst (λ i. At text w i 125) (sym z) at_end)) ∙ ap count_of (text_one txt txt2 z) ∙ is)

      eq_or : m ≤ k → (m < k) ⊎ (k ≡ m)
      eq_or z = ⊎_elim (λ y. inl y) (λ y. inr (omega (arith, z, y))) (cases_lt m k)

  codes_ok : {i k : ℕ} {t : List ℕ} (b : Base) → BaseOk i b → Text text w i k t → BaseOk k (put_codes b i t)
  codes_ok b h no_text = h
  codes_ok {i} b h (one_text {j = j} {c = c} {t = t} txt at_c is) =
      subst (λ r. BaseOk (suc j) r) (ap (λ n. put_code (put_codes b i t) n c) (text_length text w txt) ∙ sym (put_more b i c t)) (code_ok j c (put_codes b i t) (codes_ok b h txt) at_c (inl (counts_plain c is)))

  no_count_ok : (a k : ℕ) (b : Base) (t : List ℕ) → BaseOk a b → At text w a 123 → Text text w (suc a) k t → ((c : ℕ) → At text w k c → counts c ≡ false) → (At text w k 125 → count_of t ≡ None) → BaseOk k (no_count b a t)
  no_count_ok a k b t h at_a txt quiet none = codes_ok (put_code b a 123) (put_ok b _ h (literal_brace at_a (no_braces a k t txt quiet none))) txt

  end_braces_ok : (k a : ℕ) (b : Base) (t : List ℕ) → BaseOk a b → At text w a 123 → Text text w (suc a) k t → At text w k 125 → (o : Option Count) → count_of t ≡ o → Kept (suc k) (end_braces k b a t o)
  end_braces_ok k a b t h at_a txt at_k None e =
      code_ok k 125 (no_count b a t) (no_count_ok a k b t h at_a txt (λ c at_c. ap counts (same_code w k c 125 at_c at_k) ∙ brace_not) (λ z. e)) at_k (inl brace_plain)
  end_braces_ok k a b t h at_a txt at_k (Some n) e = count_ok a (suc k) n b b.last h.before h.last h.below (by_braces (braces at_a txt at_k e))

  braces_ok : (k a : ℕ) (b : Base) (t : List ℕ) (c : ℕ) → BaseOk a b → At text w a 123 → Text text w (suc a) k t → At text w k c → Kept (suc k) (braces_step k b a t c)
  braces_ok k a b t c h at_a txt at_c =
      cond_both (c == 125) (end_braces k b a t (count_of t)) (if counts c then Some (at b (in_braces a (t ++ c ∷ []))) else go_on k (no_count b a t) c) (Kept (suc k))
      (λ z. end_braces_ok k a b t h at_a txt (subst (At text w k) (eqb-true c 125 z) at_c) (count_of t) refl)
      (λ z. cond_both (counts c) (Some (at b (in_braces a (t ++ c ∷ [])))) (go_on k (no_count b a t) c) (Kept (suc k))
      (λ y. (h, at_a, one_text txt at_c y))
      (λ y. go_on_ok k (no_count b a t) c (no_count_ok a k b t h at_a txt (λ d at_d. ap counts (same_code w k d c at_d at_c) ∙ y) (λ at_125. absurd (eqb-false c 125 z (same_code w k c 125 at_c at_125)))) at_c))

  repeat_ok : (a m q k : ℕ) (n : Count) (g : Greed) (b : Base) (p : SyntaxNode) → BaseOk a b → Atom text w b.top.flags a m p → Blanks text w b.top.flags m q → Quantifier text w q k n g → BaseOk k (put_repeat b a p q k n g)
  repeat_ok a m q k n g b p h atom bl qu = item_ok b _ h (repeated atom bl qu)

  counted_ok : (k a m q : ℕ) (n : Count) (b : Base) (p : SyntaxNode) (c : ℕ) → BaseOk a b → Atom text w b.top.flags a m p → Blanks text w b.top.flags m q → Counts text w q k n → At text w k c → Kept (suc k) (counted_step k b a p q n c)
  counted_ok k a m q n b p c h atom bl cs at_c =
      cond_both (c == 63) (Some (at (put_repeat b a p q (suc k) n lazy) between)) (cond (c == 43) (Some (at (put_repeat b a p q (suc k) n possessive) between)) (go_on k (put_repeat b a p q k n greedy) c)) (Kept (suc k))
      (λ z. repeat_ok a m q (suc k) n lazy b p h atom bl (is_lazy cs (subst (At text w k) (eqb-true c 63 z) at_c)))
      (λ z. cond_both (c == 43) (Some (at (put_repeat b a p q (suc k) n possessive) between)) (go_on k (put_repeat b a p q k n greedy) c) (Kept (suc k))
      (λ y. repeat_ok a m q (suc k) n possessive b p h atom bl (is_possessive cs (subst (At text w k) (eqb-true c 43 y) at_c)))
      (λ y. go_on_ok k (put_repeat b a p q k n greedy) c (repeat_ok a m q k n greedy b p h atom bl (is_greedy cs (λ x. eqb-false c 63 z (same_code w k c 63 at_c x)) (λ x. eqb-false c 43 y (same_code w k c 43 at_c x)))) at_c))

  -- An escape between items.
  escape_put : (a k : ℕ) (b : Base) (e : Escaped) → BaseOk a b → Escape text w false a k e → BaseOk k (put_leaf b a k (glyph e))
  escape_put a k b e h esc = put_ok b _ h (escaped esc)

  begins_ok : (k a : ℕ) (b : Base) (r : Answer InEscape Escaped) → BaseOk a b → Answers r (λ x. EscapeOk text w false x a (suc k)) (λ e. Escape text w false a (suc k) e) → Kept (suc k) (escape_begins k b a r)
  begins_ok k a b stops h z = tt
  begins_ok k a b (goes x) h z = (h, z)
  begins_ok k a b (ends e) h z = escape_put a (suc k) b e h z

  first_at : (a k c : ℕ) (s : EscapeClass) → slashed text false c ≡ s → At text w a 92 → k ≡ suc a → At text w k c → Answers (escape_first s) (λ x. EscapeOk text w false x a (suc k)) (λ e. Escape text w false a (suc k) e)
  first_at a k c s z back q at_c =
      subst (λ m. Answers (escape_first s) (λ x. EscapeOk text w false x a (suc m)) (λ e. Escape text w false a (suc m) e)) (sym q) (first_ok text w false a s (c, back, subst (λ m. At text w m c) q at_c, z))

  slash_ok : (k a : ℕ) (b : Base) (c : ℕ) (s : EscapeClass) → slashed text false c ≡ s → BaseOk a b → At text w a 92 → k ≡ suc a → At text w k c → Kept (suc k) (slash_step k b a s)
  slash_ok k a b c (edges m) z h back q at_c =
      subst (λ j. Kept (suc j) (slash_step j b a (edges m))) (sym q) (item_ok b _ h (edge_escape (c, back, subst (λ j. At text w j c) q at_c, z)))
  slash_ok k a b c (single d) z h back q at_c = begins_ok k a b (escape_first (single d)) h (first_at a k c (single d) z back q at_c)
  slash_ok k a b c (kinds d v) z h back q at_c = begins_ok k a b (escape_first (kinds d v)) h (first_at a k c (kinds d v) z back q at_c)
  slash_ok k a b c (hexes d) z h back q at_c = begins_ok k a b (escape_first (hexes d)) h (first_at a k c (hexes d) z back q at_c)
  slash_ok k a b c naming z h back q at_c = begins_ok k a b (escape_first naming) h (first_at a k c naming z back q at_c)
  slash_ok k a b c (octal d) z h back q at_c = begins_ok k a b (escape_first (octal d)) h (first_at a k c (octal d) z back q at_c)
  slash_ok k a b c (low d) z h back q at_c = begins_ok k a b (escape_first (low d)) h (first_at a k c (low d) z back q at_c)
  slash_ok k a b c high z h back q at_c = begins_ok k a b (escape_first high) h (first_at a k c high z back q at_c)
  slash_ok k a b c no_escape z h back q at_c = tt

  escape_ok : (k a : ℕ) (b : Base) (x : InEscape) (c : ℕ) (r : Answer InEscape Escaped) (o : Option Escaped) → escape_next x c ≡ r → escape_rest x ≡ o → BaseOk a b → EscapeOk text w false x a k → At text w k c → Answers r (λ y. EscapeOk text w false y a (suc k)) (λ e. Escape text w false a (suc k) e) → Kept (suc k) (escape_step k b a r o c)
  escape_ok k a b x c stops None q z h es at_c r = tt
  escape_ok k a b x c stops (Some e) q z h es at_c r =
      go_on_ok k (put_leaf b a k (glyph e)) c (escape_put a k b e h (rest_ok text w false a x k e es (λ d at_d. ap (escape_next x) (same_code w k d c at_d at_c) ∙ q) z)) at_c
  escape_ok k a b x c (goes y) o q z h es at_c r = (h, r)
  escape_ok k a b x c (ends e) o q z h es at_c r = escape_put a (suc k) b e h r

  -- If there are no items, there is only ignored text.
  only_blanks : {fl : Flags} {i j : ℕ} {ps : List SyntaxNode} → Items text w fl i j ps → ps ≡ [] → Blanks text w fl i j
  only_blanks no_items e = no_blank
  only_blanks (pass_over h p) e = one_blank (only_blanks h e) p
  only_blanks (one_item {ps = []} h it) e = absurd (cc e)
  only_blanks (one_item {ps = q ∷ qs} h it) e = absurd (cc e)

  -- If there are no branches, the open one begins where the body begins.
  no_branches : (kd : Kind) (fl : Flags) (st f : ℕ) (ds : List Branch) → BranchesOk kd fl st f ds → ds ≡ [] → f ≡ st
  no_branches kd fl st f ds none_yet e = refl
  no_branches kd fl st f ds (some_yet h at_j may) e = absurd (some_branches h e)
    where
      some_branches : {kd : Kind} {fl : Flags} {i j : ℕ} {bs : List Branch} → IsBranches text w kd fl i j bs → bs ≡ [] → ⊥
      some_branches (first_branch its) e = cc e
      some_branches (next_branch {bs = []} h at_j may its) e = cc e
      some_branches (next_branch {bs = b ∷ bs} h at_j may its) e = cc e

  first_front : (gs : List Front) (a : ℕ) → (a == 0 || not (is_nil gs)) ≡ true → gs ≡ [] → a ≡ 0
  first_front [] a z e = ⊎_elim (λ (y : (a == 0) ≡ true). eqb-true a 0 y) (λ y. absurd (false≢true y)) (or_cases (a == 0) false z)
  first_front (g ∷ gs) a z e = absurd (cc e)

  abbrev a_base : Flags → Kind → ℕ → ℕ → ℕ → List Branch → List SyntaxNode → Last → List Frame → List Front → Base
  a_base fl kd op st fr ds ps l fs gs = record { top = record { flags = fl; kind = kd; opened = op; start = st; from = fr; branches = ds; items = ps }; last = l; below = fs; fronts = gs }

  front_base : (a j : ℕ) (f fl : Flags) (kd : Kind) (op st fr : ℕ) (ds : List Branch) (ps : List SyntaxNode) (l : Last) (fs : List Frame) (gs : List Front) → is_nil fs ≡ true → is_nil ds ≡ true → is_nil ps ≡ true → is_settled l ≡ true → (a == 0 || not (is_nil gs)) ≡ true → BaseOk a (a_base fl kd op st fr ds ps l fs gs) → FlagGroup text w a j f → BaseOk j (a_base (joined fl f) kd op j j ds ps l fs (gs ++ record { place = span a j; letters = f } ∷ []))
  front_base a j f fl kd op st fr [] [] nothing_yet [] gs z1 z2 z3 z4 z5 h g =
      record {
        before = none_yet;
        last = no_items;
        below = (one_front h.below.0 (subst (λ i. Blanks text w fl i a) (no_branches kd fl st fr [] h.before refl) (only_blanks h.last refl)) (first_front gs a z5) g, h.below.1);
      }
  front_base a j f fl kd op st fr (d ∷ ds) ps l fs gs z1 z2 z3 z4 z5 h g = absurd (false≢true z2)
  front_base a j f fl kd op st fr [] (p ∷ ps) l fs gs z1 z2 z3 z4 z5 h g = absurd (false≢true z3)
  front_base a j f fl kd op st fr [] [] (an_atom q p) fs gs z1 z2 z3 z4 z5 h g = absurd (false≢true z4)
  front_base a j f fl kd op st fr [] [] nothing_yet (x ∷ fs) gs z1 z2 z3 z4 z5 h g = absurd (false≢true z1)

  front_ok : (a j : ℕ) (b : Base) (f : Flags) → BaseOk a b → FlagGroup text w a j f → Kept j (put_front b a j f)
  front_ok a j b f h g =
      cond_both (at_front b a) (Some (at (record b { top = record b.top { flags = joined b.top.flags f; start = j; from = j }; fronts = b.fronts ++ record { place = span a j; letters = f } ∷ [] }) between)) None (Kept j)
      (λ z. let z1 = and_parts (is_nil b.below) _ z in
      let z2 = and_parts (is_nil b.top.branches) _ z1.1 in
      let z3 = and_parts (is_nil b.top.items) _ z2.1 in
      let z4 = and_parts (is_settled b.last) _ z3.1 in
      front_base a j f b.top.flags b.top.kind b.top.opened b.top.start b.top.from b.top.branches b.top.items b.last b.below b.fronts z1.0 z2.0 z3.0 z4.0 z4.1 h g)
      (λ z. tt)

  begin_ok : (a k : ℕ) (b : Base) (o : GroupStart) → BaseOk a b → BegunOk text w a o k → Kept k (begin b a k o)
  begin_ok a k b (begins_group kd) h o = open_ok b kd h o
  begin_ok a k b begins_comment h (q, e) = (a, h, q, subst (λ m. Without text w 41 (suc (suc (suc a))) m) (sym e) no_code)
  begin_ok a k b is_reference h o = put_ok b _ h (o b.top.flags)
  begin_ok a k b (is_front f) h o = front_ok a k b f h o

  stops_ok : (k a : ℕ) (b : Base) (x : InHead) (c : ℕ) → head_step text x c ≡ stops → BaseOk a b → HeadOk text w a x k → At text w k c → Kept (suc k) (head_stops k b a (behind_paren x) c)
  stops_ok k a b paren c q h (at_a, e) at_c =
      go_on_ok k (open_group b a k capturing) c (open_ok b capturing h (subst (λ m. Opening text w a m capturing) (sym e) (captures at_a (subst (λ m. At text w m c) e at_c) not_quest))) at_c
    where
      not_quest : c ≢ 63
      not_quest z = cc (sym q ∙ ap (λ v. cond v (goes quest) stops) (eq-eqb c 63 z))
  stops_ok k a b quest c q h ok at_c = tt
  stops_ok k a b after_p c q h ok at_c = tt
  stops_ok k a b after_less c q h ok at_c = tt
  stops_ok k a b group_name c q h ok at_c = tt
  stops_ok k a b (group_name_goes n) c q h ok at_c = tt
  stops_ok k a b reference_name c q h ok at_c = tt
  stops_ok k a b reference_name_goes c q h ok at_c = tt
  stops_ok k a b asks c q h ok at_c = tt
  stops_ok k a b asks_digits c q h ok at_c = tt
  stops_ok k a b asks_name_goes c q h ok at_c = tt
  stops_ok k a b (letters_on f) c q h ok at_c = tt
  stops_ok k a b (letters_dash f) c q h ok at_c = tt
  stops_ok k a b (letters_off f g) c q h ok at_c = tt

  head_ok : (k a : ℕ) (b : Base) (x : InHead) (c : ℕ) (r : Answer InHead GroupStart) → head_step text x c ≡ r → BaseOk a b → HeadOk text w a x k → At text w k c → HeadKept text w a (suc k) r → Kept (suc k) (head_answer k b a x r c)
  head_ok k a b x c stops q h ok at_c r = stops_ok k a b x c q h ok at_c
  head_ok k a b x c (goes y) q h ok at_c r = (h, r)
  head_ok k a b x c (ends o) q h ok at_c r = begin_ok a (suc k) b o h r

  set_answer_ok : (k a st : ℕ) (b : Base) (v : Bool) (r : Answer Set (List Member)) → BaseOk a b → SetHead text w a st v → SetKept text w st k r → Kept (suc k) (set_answer k b a v r)
  set_answer_ok k a st b v stops h hd r = tt
  set_answer_ok k a st b v (goes s) h hd r = (st, h, hd, r)
  set_answer_ok k a st b v (ends ms) h hd (hs, at_end) = put_ok b _ h (bracketed hd hs at_end)

  opens_ok : (k a : ℕ) (b : Base) (c : ℕ) → BaseOk a b → At text w a 91 → k ≡ suc a → At text w k c → Kept (suc k) (set_opens text k b a c)
  opens_ok k a b c h at_a e at_c =
      cond_both (c == 94) (Some (at b (in_class a true (record { before = []; part = set_first })))) (set_answer k b a false (set_step text k [] set_first c)) (Kept (suc k))
      (λ z. (suc k, h, subst (λ m. SetHead text w a (suc m) true) (sym e) (inverted (at_a, subst (λ m. At text w m 94) e (subst (At text w k) (eqb-true c 94 z) at_c))), none_before))
      (λ z. set_answer_ok k a k b false (set_step text k [] set_first c) h (subst (λ m. SetHead text w a m false) (sym e) (upright at_a (λ at_94. eqb-false c 94 z (same_code w k c 94 at_c (subst (λ m. At text w m 94) (sym e) at_94))))) (set_kept text w k k [] set_first c none_before at_c))

  -- Each step preserves what has been read.
  pub step_ok : (k : ℕ) (b : Base) (x : Lex) (c : ℕ) → LexOk k b x → At text w k c → Holds (step text k b x c) (λ s. StateOk (suc k) s)
  step_ok k b between c h at_c = go_on_ok k b c h at_c
  step_ok k b line c (i, h, on, at_i, ws) at_c =
      cond_both (c == 10) (Some (at b between)) (Some (at b line)) (Kept (suc k)) (λ z. passed_ok b h (pass_line on at_i ws (subst (At text w k) (eqb-true c 10 z) at_c))) (λ z. (i, h, on, at_i, one_code ws at_c (eqb-false c 10 z)))
  step_ok k b comment c (i, h, q, ws) at_c =
      cond_both (c == 41) (Some (at b between)) (Some (at b comment)) (Kept (suc k)) (λ z. passed_ok b h (pass_comment q ws (subst (At text w k) (eqb-true c 41 z) at_c))) (λ z. (i, h, q, one_code ws at_c (eqb-false c 41 z)))
  step_ok k b (in_braces a t) c (h, at_a, txt) at_c = braces_ok k a b t c h at_a txt at_c
  step_ok k b (counted a p q n) c (m, h, atom, bl, cs) at_c = counted_ok k a m q n b p c h atom bl cs at_c
  step_ok k b (at_slash a) c (h, back, e) at_c = slash_ok k a b c (slashed text false c) refl h back e at_c
  step_ok k b (in_escape a x) c (h, es) at_c = escape_ok k a b x c (escape_next x c) (escape_rest x) refl refl h es at_c (next_ok text w false a x k c es at_c)
  step_ok k b (in_head a x) c (h, ok) at_c = head_ok k a b x c (head_step text x c) refl h ok at_c (head_kept text w a x k c ok at_c)
  step_ok k b (set_open a) c (h, at_a, e) at_c = opens_ok k a b c h at_a e at_c
  step_ok k b (in_class a v s) c (st, h, hd, ok) at_c = set_answer_ok k a st b v (set_step text k s.before s.part c) h hd (set_kept text w st k s.before s.part c ok at_c)

  pub start_ok : StateOk 0 (start call)
  start_ok = record { before = none_yet; last = no_items; below = (no_fronts, refl) }

  no_more : (c : ℕ) → ¬ At text w (length w) c
  no_more c at_c = omega (arith, slice_get_within w (length w) c at_c)

  spelled_from : (b : Base) → BaseOk (length w) b → (fs : List Frame) → BelowOk b.fronts b.top.flags b.top.kind b.top.opened b.top.start fs → Holds (finish_below (length w) b fs) (λ p. Spells call text w p)
  spelled_from b h [] (fr, e) = spelled fr (subst (λ kd. IsBranches text w kd b.top.flags b.top.start (length w) (all_branches b (length w))) e (branches_ok (length w) b h))
  spelled_from b h (f ∷ fs) below = tt

  finish_ok : (b : Base) → BaseOk (length w) b → Holds (finish (length w) b) (λ p. Spells call text w p)
  finish_ok b h = spelled_from b h b.below h.below

  escape_end_ok : (a : ℕ) (b : Base) (x : InEscape) → BaseOk a b → EscapeOk text w false x a (length w) → (o : Option Escaped) → escape_rest x ≡ o → Holds (finish_escape (length w) b a o) (λ p. Spells call text w p)
  escape_end_ok a b x h es None z = tt
  escape_end_ok a b x h es (Some e) z = finish_ok (put_leaf b a (length w) (glyph e)) (escape_put a (length w) b e h (rest_ok text w false a x (length w) e es (λ c at_c. absurd (no_more c at_c)) z))

  pub end_ok : (b : Base) (x : Lex) → LexOk (length w) b x → Holds (finish_lex (length w) b x) (λ p. Spells call text w p)
  end_ok b between h = finish_ok b h
  end_ok b line (i, h, on, at_i, ws) = finish_ok b (passed_ok b h (pass_last_line on at_i ws))
  end_ok b comment h = tt
  end_ok b (in_braces a t) (h, at_a, txt) = finish_ok (no_count b a t) (no_count_ok a (length w) b t h at_a txt (λ c at_c. absurd (no_more c at_c)) (λ at_c. absurd (no_more 125 at_c)))
  end_ok b (counted a p q n) (m, h, atom, bl, cs) = finish_ok (put_repeat b a p q (length w) n greedy) (repeat_ok a m q (length w) n greedy b p h atom bl (is_greedy cs (no_more 63) (no_more 43)))
  end_ok b (at_slash a) h = tt
  end_ok b (in_escape a x) (h, es) = escape_end_ok a b x h es (escape_rest x) refl
  end_ok b (in_head a x) h = tt
  end_ok b (set_open a) h = tt
  end_ok b (in_class a v s) h = tt

  at_front_of : (k c : ℕ) (r : List ℕ) → drop k w ≡ c ∷ r → At text w k c × (drop (suc k) w ≡ r)
  at_front_of k c r e = front_of w k c r e

  ends_here : (k : ℕ) → k + 0 ≡ length w → k ≡ length w
  ends_here k n = omega (arith, n)

  all_ok : (r : List ℕ) (k : ℕ) (s : State) → drop k w ≡ r → k + length r ≡ length w → StateOk k s → Holds (observe text finish_at k (Some s) r) (λ p. Spells call text w p)
  all_ok [] k s e n h = subst (λ m. Holds (finish_at m s) (λ p. Spells call text w p)) (sym (ends_here k n)) (end_ok s.base s.lex (subst (λ m. StateOk m s) (ends_here k n) h))
  all_ok (c ∷ r) k s e n h = next (step_at text k s c) (step_ok k s.base s.lex c h (at_front_of k c r e).0) (λ t ok. all_ok r (suc k) t (at_front_of k c r e).1 (omega (arith, n)) ok)
    where
      next : (o : Option State) → Kept (suc k) o → ((t : State) → StateOk (suc k) t → Holds (observe text finish_at (suc k) (Some t) r) (λ p. Spells call text w p)) → Holds (observe text finish_at (suc k) o r) (λ p. Spells call text w p)
      next None ok f = tt
      next (Some t) ok f = f t ok

-- What is read is spelled.
pub read_is_spelled : (call : Flags) (text : Bool) (w : List ℕ) (p : Whole) → reads call text w ≡ Some p → Spells call text w p
read_is_spelled call text w p e = subst (λ o. Holds o (λ q. Spells call text w q)) e (all_ok call text w w 0 (start call) refl (omega arith) (start_ok call text w))
