-- Codes that become neighbors because others are gone.
use Rattle.std.proofs.Common.{◌≡◌, ◌≢◌, ◌⊎◌, ℕ, zero, suc, ◌+◌, ◌-◌, ◌<◌, ◌≤◌, Bool, true, false, not, ◌||◌, ◌&&◌, ◌==◌, if◌then◌else◌, nat_le, nat_lt, List, [], ◌∷◌, ◌++◌, Some, refl, sym, ap, ◌∙◌, subst, arith, true≢false}
use Rattle.std.proofs.lemmas.Bool.{eqb-true, eqb-false, cases_Bool, false_from_ne_true, ltb-true, ltb-false, leb-true, ne_eqb, or_from}
use Rattle.std.proofs.lemmas.Option.{same_Some}
use mathlib.Core.Logic.{inl, inr, ⊎_elim}
use Rattle.rl_ranges.specs.declared.universe.Universe.{Universe}
use Rattle.rl_pattern.specs.declared.flags.Flags.{Flags}
use Rattle.rl_pattern.specs.Tree.{Span, span, Count, Greed, Kind, SyntaxNode, leaf, mark, repeat, group, nothing, seq, choice, Nodes, no_nodes, more_nodes, Branches, no_branches, more_branches, nodes, branches, Branch, branch_body, branch, whole_body, Front}
use Rattle.rl_pattern.specs.Codes.{is_in, sign, TokenClass, left, right, bar, brace, slash, dot, bracket, times, edge, blank, sharp, plain, is_blank, is_digit, Numeral, numeral, low_digit, high_digit, no_digit, is_some_digit}
use Rattle.rl_pattern.specs.Grammar.{At, Opening, captures, captures_named, groups, groups_on, groups_both, groups_off, looks_ahead, looks_behind, cuts, asks_number, asks_name, Quantifier, Ignored, pass_blank, pass_line, pass_last_line, pass_comment, Blanks, SetHead, upright, inverted, Atom, literal, literal_brace, dotted, escaped, refers, bracketed, grouped, Item, once, repeated, edge_code, edge_escape, Items, no_items, pass_over, one_item, IsBranches, first_branch, next_branch, flag_group, Fronts, no_fronts, one_front}
use Rattle.rl_pattern.specs.Shape.{is_text, shape}
use Rattle.rl_pattern.specs.internal.Meeting.{is_open, goes_on, MayMeet}
use Rattle.rl_pattern.proofs.Sifted.{Sifted}
use Rattle.rl_pattern.specs.Cut.{lies_in, in_dropped}
use Rattle.rl_pattern.proofs.Steps.{same_code}
use Rattle.rl_pattern.proofs.Escapes.{backslash}
use Rattle.rl_pattern.proofs.Tokens.{blanks_le, quantifier_lt, passed_lt, opening_lt}
use Rattle.rl_pattern.proofs.Locality.{atom_lt, item_lt, items_le, branches_le}
use Rattle.rl_pattern.proofs.Linking.{and_first, and_second, or_none, or_yes, not_false, not_true, no_true, is_plain, Good, GoodItems, GoodSome, good_whole, good_body, good_items_snoc, good_some_snoc, plain_kind, Agrees, agree_to, agree_part, all_kept, left_or, right_or, no_branch, first_agree}
use Rattle.rl_pattern.proofs.Holes.{or_cases, or_false, lies_from, lies_to, hole, holes, hole_of, branch_holes, some_left, drops_in, holes_snoc, branch_holes_snoc, some_left_snoc, body_holes, whole_holes, group_hole, item_within, items_within, branches_within, mark_hole}

-- A code that is calm: it continues nothing.
abbrev pub IsCalm : ℕ → Type 0
IsCalm d = (goes_on d ≡ false) × (d ≢ 63)

pub calm_codes : IsCalm 41 × IsCalm 124 × IsCalm 35 × IsCalm 40
unfolding goes_on is_digit numeral
calm_codes = ((refl, λ e. eqb-false 41 63 refl e), (refl, λ e. eqb-false 124 63 refl e), (refl, λ e. eqb-false 35 63 refl e), (refl, λ e. eqb-false 40 63 refl e))

closed_codes : (is_open 40 ≡ false) × (is_open 41 ≡ false) × (is_open 58 ≡ false) × (is_open 62 ≡ false)
unfolding is_open is_digit numeral
closed_codes = (refl, refl, refl, refl)

pub calm_meets : (c d : ℕ) → IsCalm d → MayMeet c d
calm_meets c d h = record { apart = λ e. h.0; no_head = λ e. h.1 }

pub closed_meets : (c d : ℕ) → is_open c ≡ false → d ≢ 63 → MayMeet c d
closed_meets c d h n = record { apart = λ e. absurd (true≢false (sym e ∙ h)); no_head = λ e. n }

sign_63 : (n : Count) × (sign 63 ≡ times n)
unfolding sign
sign_63 = (record { least = 0; most = Some 1 }, refl)

not_asked : (c : ℕ) (x : TokenClass) → sign c ≡ x → ((n : Count) → x ≡ times n → ⊥) → c ≢ 63
not_asked c x e none e63 = none sign_63.0 (sym e ∙ ap sign e63 ∙ sign_63.1)

-- White space is calm.
abbrev Blank_low : ℕ → TokenClass → Type 0
Blank_low c blank = c ≤ 32
Blank_low c (times n) = Unit {0}
Blank_low c left = Unit {0}
Blank_low c right = Unit {0}
Blank_low c bar = Unit {0}
Blank_low c brace = Unit {0}
Blank_low c slash = Unit {0}
Blank_low c dot = Unit {0}
Blank_low c bracket = Unit {0}
Blank_low c (edge m) = Unit {0}
Blank_low c sharp = Unit {0}
Blank_low c plain = Unit {0}

pick_blank : (c : ℕ) (b : Bool) (x y : TokenClass) → (b ≡ true → Blank_low c x) → Blank_low c y → Blank_low c (if b then x else y)
pick_blank c true x y p q = p refl
pick_blank c false x y p q = q

is_low : (c : ℕ) → is_blank c ≡ true → c ≤ 32
is_low c h =
    ⊎_elim (λ (z : (c == 32) ≡ true). omega (arith, eqb-true c 32 z)) (λ (z : (nat_le 9 c && nat_le c 13) ≡ true). omega (arith, leb-true c 13 (and_second (nat_le 9 c) (nat_le c 13) z))) (or_cases (c == 32) (nat_le 9 c && nat_le c 13) h)

sign_low : (c : ℕ) → Blank_low c (sign c)
unfolding sign
sign_low c =
    pick_blank c (c == 40) _ _ (λ z. tt) (pick_blank c (c == 41) _ _ (λ z. tt) (pick_blank c (c == 124) _ _ (λ z. tt)
    (pick_blank c (c == 42) _ _ (λ z. tt) (pick_blank c (c == 43) _ _ (λ z. tt) (pick_blank c (c == 63) _ _ (λ z. tt)
    (pick_blank c (c == 123) _ _ (λ z. tt) (pick_blank c (c == 92) _ _ (λ z. tt) (pick_blank c (c == 46) _ _ (λ z. tt) (pick_blank c (c == 91) _ _ (λ z. tt)
    (pick_blank c (c == 94) _ _ (λ z. tt) (pick_blank c (c == 36) _ _ (λ z. tt) (pick_blank c (c == 35) _ _ (λ z. tt) (pick_blank c (is_blank c) _ _ (λ z. is_low c z) tt)))))))))))))

abbrev Big : ℕ → Numeral → Type 0
Big c (low_digit d) = 48 ≤ c
Big c high_digit = 48 ≤ c
Big c no_digit = Unit {0}

pick_big : (c : ℕ) (b : Bool) (x y : Numeral) → (b ≡ true → Big c x) → Big c y → Big c (if b then x else y)
pick_big c true x y p q = p refl
pick_big c false x y p q = q

numeral_big : (c : ℕ) → Big c (numeral c)
unfolding numeral
numeral_big c =
    pick_big c (nat_le 48 c && nat_le c 55) _ _ (λ z. leb-true 48 c (and_first (nat_le 48 c) (nat_le c 55) z)) (pick_big c (nat_le 56 c && nat_le c 57) _ _ (λ z. let l = leb-true 56 c (and_first (nat_le 56 c) (nat_le c 57) z) in omega (arith, l)) tt)

digit_big : (c : ℕ) → is_digit c ≡ true → 48 ≤ c
unfolding is_digit
digit_big c h = go (numeral c) (numeral_big c) h
  where
    go : (n : Numeral) → Big c n → is_some_digit n ≡ true → 48 ≤ c
    go (low_digit d) b e = b
    go high_digit b e = b
    go no_digit b e = absurd (true≢false (sym e))

low_calm : (c : ℕ) → c ≤ 32 → IsCalm c
unfolding goes_on
low_calm c l =
    let e1 = false_from_ne_true (is_digit c) (λ e. omega (arith, l, digit_big c e)) in
    let e2 = ne_eqb c 43 (λ e. omega (arith, l, e)) in
    let e3 = ne_eqb c 63 (λ e. omega (arith, l, e)) in
    let e4 = ne_eqb c 125 (λ e. omega (arith, l, e)) in
    let e5 = ne_eqb c 44 (λ e. omega (arith, l, e)) in
    (or_from (is_digit c) (is_in "+?}," c) e1 (or_from (c == 43) (is_in "?}," c) e2 (or_from (c == 63) (is_in "}," c) e3 (or_from (c == 125) (is_in "," c) e4 (or_from (c == 44) false e5 refl)))), λ e. omega (arith, l, e))

blank_calm : (c : ℕ) → sign c ≡ blank → IsCalm c
blank_calm c h = low_calm c (subst (Blank_low c) h (sign_low c))

-- A flag group at the front and an opening end with a code that is closed.
module _ (text : Bool) (w : List ℕ) where
  pub fronts_end : {call fl : Flags} {i : ℕ} {gs : List Front} → Fronts text w call i fl gs → (t c : ℕ) → suc t ≡ i → At text w t c → is_open c ≡ false
  fronts_end no_fronts t c e at_c = absurd (omega (arith, e))
  fronts_end (one_front h bl first (flag_group {j = j} q l z)) t c e at_c =
      let same : t ≡ j = omega (arith, e) in
      ap is_open (same_code w t c 41 at_c (subst (λ m. At text w m 41) (sym same) z)) ∙ closed_codes.1

  -- What is spelled never begins with a question mark.
  passed_calm : {fl : Flags} {i j : ℕ} → Ignored text w fl i j → (c : ℕ) → At text w i c → IsCalm c
  passed_calm (pass_blank {i = i} {c = d} x at_i is) c at_c = subst IsCalm (same_code w i d c at_i at_c) (blank_calm d is)
  passed_calm (pass_line {i = i} x at_i h z) c at_c = subst IsCalm (same_code w i 35 c at_i at_c) calm_codes.2
  passed_calm (pass_last_line {i = i} x at_i h) c at_c = subst IsCalm (same_code w i 35 c at_i at_c) calm_codes.2
  passed_calm (pass_comment {i = i} q h z) c at_c = subst IsCalm (same_code w i 40 c q.0 at_c) calm_codes.3

  is_no_63 : (i d c : ℕ) → At text w i d → At text w i c → d ≢ 63 → c ≢ 63
  is_no_63 i d c at_d at_c n e = n (same_code w i d c at_d at_c ∙ e)

  opening_40 : {i j : ℕ} {kd : Kind} → Opening text w i j kd → At text w i 40
  opening_40 (captures at_i at_c ne) = at_i
  opening_40 (captures_named q n e) = q.0
  opening_40 (groups q) = q.0
  opening_40 (groups_on q l e) = q.0
  opening_40 (groups_both q l m n e) = q.0
  opening_40 (groups_off q l e) = q.0
  opening_40 (looks_ahead q c h) = q.0
  opening_40 (looks_behind q c h) = q.0
  opening_40 (cuts q) = q.0
  opening_40 (asks_number q d e) = q.0
  opening_40 (asks_name q n e) = q.0

  set_91 : {i j : ℕ} {x : Bool} → SetHead text w i j x → At text w i 91
  set_91 (upright at_i n) = at_i
  set_91 (inverted h) = h.0

  atom_unasked : {fl : Flags} {i j : ℕ} {p : SyntaxNode} → Atom text w fl i j p → (c : ℕ) → At text w i c → c ≢ 63
  atom_unasked (literal {i = i} {c = d} at_i (inl is)) c at_c = is_no_63 i d c at_i at_c (not_asked d plain is (λ n e. cc e))
  atom_unasked (literal {i = i} {c = d} at_i (inr (inl is, off))) c at_c = is_no_63 i d c at_i at_c (not_asked d blank is (λ n e. cc e))
  atom_unasked (literal {i = i} {c = d} at_i (inr (inr is, off))) c at_c = is_no_63 i d c at_i at_c (not_asked d sharp is (λ n e. cc e))
  atom_unasked (literal_brace {i = i} at_i n) c at_c = is_no_63 i 123 c at_i at_c (λ e. eqb-false 123 63 refl e)
  atom_unasked (dotted {i = i} at_i) c at_c = is_no_63 i 46 c at_i at_c (λ e. eqb-false 46 63 refl e)
  atom_unasked (escaped {i = i} h) c at_c = is_no_63 i 92 c (backslash text w h) at_c (λ e. eqb-false 92 63 refl e)
  atom_unasked (refers {i = i} q n z) c at_c = is_no_63 i 40 c q.0 at_c (λ e. eqb-false 40 63 refl e)
  atom_unasked (bracketed {i = i} h ms z) c at_c = is_no_63 i 91 c (set_91 h) at_c (λ e. eqb-false 91 63 refl e)
  atom_unasked (grouped {i = i} o hs z) c at_c = is_no_63 i 40 c (opening_40 o) at_c (λ e. eqb-false 40 63 refl e)

  item_unasked : {fl : Flags} {i j : ℕ} {p : SyntaxNode} → Item text w fl i j p → (c : ℕ) → At text w i c → c ≢ 63
  item_unasked (once a) c at_c = atom_unasked a c at_c
  item_unasked (repeated a bl q) c at_c = atom_unasked a c at_c
  item_unasked (edge_code {i = i} {c = d} {m = m} at_i is) c at_c = is_no_63 i d c at_i at_c (not_asked d (edge m) is (λ n e. cc e))
  item_unasked (edge_escape {i = i} (d, at_i, at_d, is)) c at_c = is_no_63 i 92 c at_i at_c (λ e. eqb-false 92 63 refl e)

  pub items_unasked : {fl : Flags} {i j : ℕ} {ps : List SyntaxNode} → Items text w fl i j ps → i < j → (c : ℕ) → At text w i c → c ≢ 63
  items_unasked no_items l c at_c = absurd (omega (arith, l))
  items_unasked (pass_over {i = i} {j = j} h p) l c at_c =
      ⊎_elim (λ (z : (i == j) ≡ true). (passed_calm p c (subst (λ m. At text w m c) (eqb-true i j z) at_c)).1) (λ (z : (i == j) ≡ false). items_unasked h (omega (arith, items_le text w h, eqb-false i j z)) c at_c) (cases_Bool (i == j))
  items_unasked (one_item {i = i} {j = j} h p) l c at_c =
      ⊎_elim (λ (z : (i == j) ≡ true). item_unasked p c (subst (λ m. At text w m c) (eqb-true i j z) at_c)) (λ (z : (i == j) ≡ false). items_unasked h (omega (arith, items_le text w h, eqb-false i j z)) c at_c) (cases_Bool (i == j))

  -- The end of an opening that isn't refused.
  pub opening_end : {i j : ℕ} {kd : Kind} → Opening text w i j kd → is_plain kd ≡ true → (t c : ℕ) → suc t ≡ j → At text w t c → is_open c ≡ false
  opening_end (captures {i = i} at_i at_c ne) pl t c e at_t = let same : t ≡ i = omega (arith, e) in ap is_open (same_code w t c 40 at_t (subst (λ m. At text w m 40) (sym same) at_i)) ∙ closed_codes.0
  opening_end (captures_named {j = j} q n z) pl t c e at_t = let same : t ≡ j = omega (arith, e) in ap is_open (same_code w t c 62 at_t (subst (λ m. At text w m 62) (sym same) z)) ∙ closed_codes.3
  opening_end (groups {i = i} q) pl t c e at_t = let same : t ≡ suc (suc i) = omega (arith, e) in ap is_open (same_code w t c 58 at_t (subst (λ m. At text w m 58) (sym same) q.1.1)) ∙ closed_codes.2
  opening_end (groups_on {j = j} q l z) pl t c e at_t = let same : t ≡ j = omega (arith, e) in ap is_open (same_code w t c 58 at_t (subst (λ m. At text w m 58) (sym same) z)) ∙ closed_codes.2
  opening_end (groups_both {k = k} q l m n z) pl t c e at_t = let same : t ≡ k = omega (arith, e) in ap is_open (same_code w t c 58 at_t (subst (λ m. At text w m 58) (sym same) z)) ∙ closed_codes.2
  opening_end (groups_off {k = k} q l z) pl t c e at_t = let same : t ≡ k = omega (arith, e) in ap is_open (same_code w t c 58 at_t (subst (λ m. At text w m 58) (sym same) z)) ∙ closed_codes.2
  opening_end (looks_ahead q a h) pl t c e at_t = absurd (true≢false (sym pl))
  opening_end (looks_behind q a h) pl t c e at_t = absurd (true≢false (sym pl))
  opening_end (cuts q) pl t c e at_t = absurd (true≢false (sym pl))
  opening_end (asks_number q d z) pl t c e at_t = absurd (true≢false (sym pl))
  opening_end (asks_name q n z) pl t c e at_t = absurd (true≢false (sym pl))

module _ (u : Universe) (drop out : Span → Bool) where
  -- A repeat whose own quantifier is removed.
  abbrev pub own_out : SyntaxNode → Bool
  own_out (repeat r q n g p) = out q
  own_out (leaf r f x) = false
  own_out (mark r f m) = false
  own_out (group r k p) = false
  own_out (nothing r) = false
  own_out (seq r ps) = false
  own_out (choice r bs) = false

  abbrev mutual
    -- A quantifier is removed only if its repeat is the whole content of a branch.
    pub Clean : SyntaxNode → Type 0
    Clean (leaf r f x) = Unit {0}
    Clean (mark r f m) = Unit {0}
    Clean (repeat r q n g p) = Clean p
    Clean (group r k p) = Clean p
    Clean (nothing r) = Unit {0}
    Clean (seq r ps) = AllClean ps
    Clean (choice r bs) = CleanBranches bs

    pub AllClean : Nodes → Type 0
    AllClean no_nodes = Unit {0}
    AllClean (more_nodes p ps) = (own_out p ≡ false) × Clean p × AllClean ps

    pub CleanBranches : Branches → Type 0
    CleanBranches no_branches = Unit {0}
    CleanBranches (more_branches r p bs) = (drop r ≡ false → Clean p) × CleanBranches bs

  abbrev pub CleanItems : List SyntaxNode → Type 0
  CleanItems [] = Unit {0}
  CleanItems (p ∷ ps) = Clean p × CleanItems ps

  abbrev pub NoneOut : List SyntaxNode → Type 0
  NoneOut [] = Unit {0}
  NoneOut (p ∷ ps) = (own_out p ≡ false) × NoneOut ps

  abbrev pub CleanSome : (Span → Bool) → List Branch → Type 0
  CleanSome d [] = Unit {0}
  CleanSome d (b ∷ bs) = (d b.place ≡ false → Clean b.body) × CleanSome d bs

  clean_nodes : (ps : List SyntaxNode) → AllClean (nodes ps) → CleanItems ps × NoneOut ps
  clean_nodes [] h = (tt, tt)
  clean_nodes (p ∷ ps) (o, h, hs) = let r = clean_nodes ps hs in ((h, r.0), (o, r.1))

  -- The body of a branch: its items, and whether the quantifier of one of them is removed.
  pub Single : List SyntaxNode → Type 0
  Single ps = (p : SyntaxNode) × (ps ≡ p ∷ [])

  clean_body : (r : Span) (ps : List SyntaxNode) → Clean (branch_body r ps) → CleanItems ps × (NoneOut ps ⊎ Single ps)
  unfolding Single
  clean_body r [] h = (tt, inl tt)
  clean_body r (p ∷ []) h = ((h, tt), inr (p, refl))
  clean_body r (p ∷ q ∷ ps) h = let s = clean_nodes (p ∷ q ∷ ps) h in (s.0, inl s.1)

  clean_list : (bs : List Branch) → CleanBranches (branches bs) → CleanSome drop bs
  clean_list [] h = tt
  clean_list (b ∷ bs) (h, hs) = (h, clean_list bs hs)

  items_snoc : (ps : List SyntaxNode) (p : SyntaxNode) → CleanItems (ps ++ p ∷ []) → CleanItems ps × Clean p
  items_snoc [] p (h, hs) = (tt, h)
  items_snoc (q ∷ ps) p (h, hs) = let r = items_snoc ps p hs in ((h, r.0), r.1)

  none_snoc : (ps : List SyntaxNode) (p : SyntaxNode) → NoneOut (ps ++ p ∷ []) → NoneOut ps × (own_out p ≡ false)
  none_snoc [] p (h, hs) = (tt, h)
  none_snoc (q ∷ ps) p (h, hs) = let r = none_snoc ps p hs in ((h, r.0), r.1)

  single_snoc : (ps : List SyntaxNode) (p q : SyntaxNode) → ps ++ p ∷ [] ≡ q ∷ [] → ps ≡ []
  single_snoc [] p q e = refl
  single_snoc (r ∷ []) p q e = absurd (cc e)
  single_snoc (r ∷ t ∷ ps) p q e = absurd (cc e)

  some_snoc : (d : Span → Bool) (bs : List Branch) (b : Branch) → CleanSome d (bs ++ b ∷ []) → CleanSome d bs × (d b.place ≡ false → Clean b.body)
  some_snoc d [] b (h, hs) = (tt, h)
  some_snoc d (c ∷ bs) b (h, hs) = let r = some_snoc d bs b hs in ((h, r.0), r.1)

  module _ (w v : List ℕ) (kept : ℕ → Bool) (g : ℕ → ℕ) (sf : Sifted w v kept g) where
    abbrev pub hole_in : SyntaxNode → ℕ → Bool
    hole_in = hole u drop out

    abbrev pub Ag : ℕ → ℕ → (ℕ → Bool) → Type 0
    Ag = Agrees u drop out w kept g

    -- The next code that is kept is calm.
    abbrev pub Calm : ℕ → Type 0
    Calm j = (d : ℕ) → At (is_text u) v (g j) d → IsCalm d

    -- The code before is closed.
    abbrev pub Enters : ℕ → Type 0
    Enters i = (t c : ℕ) → suc t ≡ i → At (is_text u) w t c → is_open c ≡ false

    abbrev pub Meets : ℕ → Type 0
    Meets t = (c d : ℕ) → kept t ≡ true → At (is_text u) w t c → At (is_text u) v (g (suc t)) d → MayMeet c d

    gone_along : (i j : ℕ) → i ≤ j → ((t : ℕ) → i ≤ t → t < j → kept t ≡ false) → g i ≡ g j
    gone_along i j l f = let e : i + (j - i) ≡ j = omega (arith, l) in subst (λ m. g i ≡ g m) e (go (j - i) (omega (arith, l)))
      where
        go : (n : ℕ) → i + n ≤ j → g i ≡ g (i + n)
        go zero m = ap g (omega arith)
        go (suc n) m = go n (omega (arith, m)) ∙ sym (sf.no_more (i + n) (f (i + n) (omega arith) (omega (arith, m)))) ∙ ap g (omega arith)

    -- A code that is gone after one that is kept is the first of those that are gone together.
    edge_of : (a b t : ℕ) → ((x : ℕ) → a ≤ x → x < b → kept x ≡ false) → kept t ≡ true → a ≤ suc t → suc t < b → suc t ≡ a
    edge_of a b t f k l m =
        ⊎_elim (λ (z : nat_lt t a ≡ true). let y = ltb-true t a z in omega (arith, l, y)) (λ (z : nat_lt t a ≡ false). let y = ltb-false t a z in absurd (true≢false (sym k ∙ f t y (omega (arith, m))))) (cases_Bool (nat_lt t a))

    calm_kept : (j c : ℕ) → kept j ≡ true → At (is_text u) w j c → IsCalm c → Calm j
    calm_kept j c k at_j calm d at_d = subst IsCalm (same_Some c d (sym (sf.same j k ∙ at_j) ∙ at_d)) calm

    calm_gone : (i j : ℕ) → i ≤ j → ((t : ℕ) → i ≤ t → t < j → kept t ≡ false) → Calm j → Calm i
    calm_gone i j l f calm d at_d = calm d (subst (λ m. At (is_text u) v m d) (gone_along i j l f) at_d)

    -- The first code of an item is never gone.
    atom_strict : {fl : Flags} {i j : ℕ} {p : SyntaxNode} → Atom (is_text u) w fl i j p → hole_in p i ≡ true → ⊥
    atom_strict (literal a z) h = true≢false (sym h)
    atom_strict (literal_brace a z) h = true≢false (sym h)
    atom_strict (dotted a) h = true≢false (sym h)
    atom_strict (escaped e) h = true≢false (sym h)
    atom_strict (refers q n z) h = true≢false (sym h)
    atom_strict (bracketed e ms z) h = true≢false (sym h)
    atom_strict (grouped {i = i} {j = j} {k = k} {kd = kd} {bs = bs} o hs z) h =
        omega (arith, opening_lt (is_text u) w o, (branches_within u drop out w hs (drops_in u drop out bs) i (sym (whole_holes u drop out (span j k) bs i) ∙ group_hole u drop out (span i (suc k)) kd (shape u (whole_body (span j k) bs)) i h)).0)

    item_strict : {fl : Flags} {i j : ℕ} {p : SyntaxNode} → Item (is_text u) w fl i j p → hole_in p i ≡ true → ⊥
    item_strict (once a) h = atom_strict a h
    item_strict (repeated {i = i} {k = k} {l = l} {p = p} a bl q) h =
        ⊎_elim (λ (z : (out (span k l) && lies_in k l i) ≡ true). absurd (omega (arith, atom_lt (is_text u) w a, blanks_le (is_text u) w bl, (lies_from k l i (and_second (out (span k l)) (lies_in k l i) z)).0))) (λ (z : hole_in p i ≡ true). atom_strict a z) (or_cases (out (span k l) && lies_in k l i) (hole_in p i) h)
    item_strict {fl} (edge_code {i = i} {m = m} a z) h = mark_hole u drop out (span i (suc i)) fl m i h
    item_strict {fl} (edge_escape {i = i} {m = m} a) h = mark_hole u drop out (span i (suc (suc i))) fl m i h

    items_strict : {fl : Flags} {i j : ℕ} {ps : List SyntaxNode} → Items (is_text u) w fl i j ps → holes u drop out ps i ≡ true → ⊥
    items_strict no_items h = true≢false (sym h)
    items_strict (pass_over a p) h = items_strict a h
    items_strict (one_item {i = i} {j = j} {ps = ps} {p = p} a b) h =
        ⊎_elim (λ (z : holes u drop out ps i ≡ true). items_strict a z) (λ (z : hole_in p i ≡ true). let e : i ≡ j = omega (arith, items_le (is_text u) w a, (item_within u drop out w b i z).0) in item_strict b (subst (λ m. hole_in p m ≡ true) e z)) (or_cases (holes u drop out ps i) (hole_in p i) (sym (holes_snoc u drop out ps p i) ∙ h))

    -- If no branch is left, all of them are gone, including the `|` after them.
    none_holes : {kd : Kind} {fl : Flags} {i j : ℕ} {bs : List Branch} → IsBranches (is_text u) w kd fl i j bs → (d : Span → Bool) → some_left u drop out d bs ≡ false → (t : ℕ) → i ≤ t → t ≤ j → branch_holes u drop out d bs false t ≡ true
    none_holes (first_branch {i = i} {j = j} {ps = ps} h) d e t x z =
        let is = not_false (d (span i j)) (sym (or_false (not (d (span i j)))) ∙ e) in
        ap (λ y. (if y then lies_in i (suc j) t else hole_in (branch_body (span i j) ps) t) || false) is ∙ ap (λ y. y || false) (lies_to i (suc j) t x (omega (arith, z)))
    none_holes (next_branch {i = i} {j = j} {k = k} {bs = bs} {ps = ps} h at_j may hs) d e t x z =
        let b = branch (span (suc j) k) ps in
        let parts = or_none (some_left u drop out d bs) (not (d (span (suc j) k))) (sym (some_left_snoc u drop out d bs b) ∙ e) in
        let is = not_false (d (span (suc j) k)) parts.1 in
        branch_holes_snoc u drop out d bs b false t ∙ ⊎_elim (λ (y : nat_lt t (suc j) ≡ true). let l = ltb-true t (suc j) y in ap (λ q. q || hole_of u drop out d (some_left u drop out d bs) b t) (none_holes h d parts.0 t x (omega (arith, l))))
        (λ (y : nat_lt t (suc j) ≡ false). ap (λ q. branch_holes u drop out d bs false t || q) (ap (λ q. hole_of u drop out d q b t) parts.0 ∙ ap (λ q. if q then lies_in (suc j) (suc k) t else hole_in (branch_body (span (suc j) k) ps) t) is ∙ lies_to (suc j) (suc k) t (ltb-false t (suc j) y) (omega (arith, z))) ∙ or_yes (branch_holes u drop out d bs false t)) (cases_Bool (nat_lt t (suc j)))

    gone_is : (f : ℕ → Bool) {i j : ℕ} → Ag i j f → (t : ℕ) → i ≤ t → t < j → f t ≡ true → kept t ≡ false
    gone_is f ag t a b h = ag t a b ∙ ap not h

    -- A quantifier that is gone.
    quantifier_meets : {fl : Flags} {i j k l : ℕ} {p : SyntaxNode} {n : Count} {r : Greed} → Atom (is_text u) w fl i j p → Blanks (is_text u) w fl j k → Quantifier (is_text u) w k l n r → Ag i l (hole_in (repeat (span i l) (span k l) n r p)) → (out (span k l) ≡ false) ⊎ Calm l → (t : ℕ) → (out (span k l) && lies_in k l (suc t)) ≡ true → Meets t
    quantifier_meets a bl q ag (inl no_out) t h c d kt at_c at_d = absurd (true≢false (sym (and_first _ _ h) ∙ no_out))
    quantifier_meets {i = i} {j = j} {k = k} {l = l} {p = p} {n = n} {r = r} a bl q ag (inr calm) t h c d kt at_c at_d =
        let o = and_first (out (span k l)) (lies_in k l (suc t)) h in
        let lies = lies_from k l (suc t) (and_second (out (span k l)) (lies_in k l (suc t)) h) in
        let le = blanks_le (is_text u) w bl in
        let lt = atom_lt (is_text u) w a in
        let f = hole_in (repeat (span i l) (span k l) n r p) in
        let all : (x : ℕ) → k ≤ x → x < l → kept x ≡ false = λ x y z. gone_is f ag x (omega (arith, lt, le, y)) z (ap (λ b. b && lies_in k l x || hole_in p x) o ∙ ap (λ b. b || hole_in p x) (lies_to k l x y z)) in
        let e = edge_of k l t all kt lies.0 lies.1 in
        calm_meets c d (calm_gone k l (omega (arith, quantifier_lt (is_text u) w q)) all calm d (subst (λ m. At (is_text u) v (g m) d) e at_d))

    pub clean_whole : (r : Span) (bs : List Branch) → Clean (whole_body r bs) → CleanSome (drops_in u drop out bs) bs
    clean_whole r [] h = tt
    clean_whole r (b ∷ []) h = (λ e. h, tt)
    clean_whole r (b ∷ c ∷ bs) h = clean_list (b ∷ c ∷ bs) h

    body_own : (ps : List SyntaxNode) (j : ℕ) → Calm j → NoneOut ps ⊎ Single ps → NoneOut ps ⊎ (Single ps × Calm j)
    body_own ps j calm (inl h) = inl h
    body_own ps j calm (inr h) = inr (h, calm)

    front_none : (ps : List SyntaxNode) (p : SyntaxNode) (j : ℕ) → NoneOut (ps ++ p ∷ []) ⊎ (Single (ps ++ p ∷ []) × Calm j) → (t : ℕ) → holes u drop out ps t ≡ true → NoneOut ps
    unfolding Single
    front_none ps p j (inl h) t z = (none_snoc ps p h).0
    front_none ps p j (inr h) t z = absurd (true≢false (sym z ∙ ap (λ x. holes u drop out x t) (single_snoc ps p h.0.0 h.0.1)))

    last_own : (ps : List SyntaxNode) (p : SyntaxNode) (j : ℕ) → NoneOut (ps ++ p ∷ []) ⊎ (Single (ps ++ p ∷ []) × Calm j) → (own_out p ≡ false) ⊎ Calm j
    last_own ps p j (inl h) = inl (none_snoc ps p h).1
    last_own ps p j (inr h) = inr h.1

    -- One more branch after others.
    next_meets : {kd : Kind} {fl : Flags} {i j k : ℕ} {bs : List Branch} {ps : List SyntaxNode} → IsBranches (is_text u) w kd fl i j bs → At (is_text u) w j 124 → Items (is_text u) w fl (suc j) k ps → (d : Span → Bool) → Ag i k (branch_holes u drop out d (bs ++ branch (span (suc j) k) ps ∷ []) false) → some_left u drop out d (bs ++ branch (span (suc j) k) ps ∷ []) ≡ true → Enters i → Calm k → (t : ℕ) → branch_holes u drop out d (bs ++ branch (span (suc j) k) ps ∷ []) false (suc t) ≡ true
        → (some_left u drop out d bs ≡ true → Calm j → branch_holes u drop out d bs false (suc t) ≡ true → Meets t) → (d (span (suc j) k) ≡ false → Ag (suc j) k (holes u drop out ps) → holes u drop out ps (suc t) ≡ true → Meets t) → Meets t
    next_meets {kd} {fl} {i} {j} {k} {bs} {ps} h at_j hs d ag whole enters calm t hole_t before items = go (d (span (suc j) k)) refl (some_left u drop out d bs) refl
      where
        b : Branch
        b = branch (span (suc j) k) ps

        f : ℕ → Bool
        f = branch_holes u drop out d (bs ++ b ∷ []) false

        le : i ≤ j
        le = branches_le (is_text u) w h

        le2 : suc j ≤ k
        le2 = items_le (is_text u) w hs

        parts : (x : ℕ) → f x ≡ (branch_holes u drop out d bs false x || hole_of u drop out d (some_left u drop out d bs) b x)
        parts x = branch_holes_snoc u drop out d bs b false x

        one : (x q : Bool) → d (span (suc j) k) ≡ x → some_left u drop out d bs ≡ q → (y : ℕ) → hole_of u drop out d (some_left u drop out d bs) b y ≡ (if x then in_dropped q (span (suc j) k) y else hole_in b.body y)
        one x q e e2 y = ap (λ z. hole_of u drop out d z b y) e2 ∙ ap (λ z. if z then in_dropped q (span (suc j) k) y else hole_in b.body y) e

        items_agree : d (span (suc j) k) ≡ false → Ag (suc j) k (holes u drop out ps)
        items_agree e = agree_to u drop out w kept g f (holes u drop out ps) (λ x y z. parts x ∙ right_or u drop out w kept g (branch_holes u drop out d bs false x) (hole_of u drop out d (some_left u drop out d bs) b x) (λ v. omega (arith, y, (branches_within u drop out w h d x v).1)) ∙ one false (some_left u drop out d bs) e refl x ∙ body_holes u drop out (span (suc j) k) ps x) (agree_part u drop out w kept g f (suc j) k (omega (arith, le)) (omega arith) ag)

        bar_kept : d (span (suc j) k) ≡ false → some_left u drop out d bs ≡ true → kept j ≡ true
        bar_kept e s = all_kept u drop out w kept g f j (suc j) (λ x y z v. let same : x ≡ j = omega (arith, y, z) in ⊎_elim (λ (o : branch_holes u drop out d bs false x ≡ true). true≢false (sym s ∙ (branches_within u drop out w h d x o).2 same)) (λ (o : hole_of u drop out d (some_left u drop out d bs) b x ≡ true). omega (arith, z, (items_within u drop out w hs x (sym (body_holes u drop out (span (suc j) k) ps x) ∙ sym (one false true e s x) ∙ o)).0)) (or_cases (branch_holes u drop out d bs false x) (hole_of u drop out d (some_left u drop out d bs) b x) (sym (parts x) ∙ v))) (agree_part u drop out w kept g f j (suc j) le le2 ag) j (omega arith) (omega arith)

        last_gone : d (span (suc j) k) ≡ true → some_left u drop out d bs ≡ true → (x : ℕ) → j ≤ x → x < k → kept x ≡ false
        last_gone e s x y z = gone_is f ag x (omega (arith, le, y)) z (parts x ∙ ap (λ v. branch_holes u drop out d bs false x || v) (one true true e s x ∙ lies_to (suc j - 1) k x (omega (arith, y)) z) ∙ or_yes (branch_holes u drop out d bs false x))

        first_gone : some_left u drop out d bs ≡ false → (x : ℕ) → i ≤ x → x < suc j → kept x ≡ false
        first_gone s x y z = gone_is f ag x y (omega (arith, z, le2)) (parts x ∙ ap (λ v. v || hole_of u drop out d (some_left u drop out d bs) b x) (none_holes h d s x y (omega (arith, z))))

        -- The first code that is left of the first branch that is left.
        begins : d (span (suc j) k) ≡ false → (x : ℕ) → At (is_text u) v (g (suc j)) x → x ≢ 63
        begins e x at_x =
            ⊎_elim (λ (z : nat_lt (suc j) k ≡ true). let l = ltb-true (suc j) k z in items_unasked (is_text u) w hs l x (sym (sf.same (suc j) (items_agree e (suc j) (omega arith) l ∙ ap not (no_true (holes u drop out ps (suc j)) (items_strict hs)))) ∙ at_x))
            (λ (z : nat_lt (suc j) k ≡ false). let q : k ≡ suc j = omega (arith, le2, ltb-false (suc j) k z) in (calm x (subst (λ m. At (is_text u) v (g m) x) (sym q) at_x)).1) (cases_Bool (nat_lt (suc j) k))

        split : branch_holes u drop out d bs false (suc t) ≡ true ⊎ hole_of u drop out d (some_left u drop out d bs) b (suc t) ≡ true
        split = or_cases (branch_holes u drop out d bs false (suc t)) (hole_of u drop out d (some_left u drop out d bs) b (suc t)) (sym (parts (suc t)) ∙ hole_t)

        front : d (span (suc j) k) ≡ false → some_left u drop out d bs ≡ false → branch_holes u drop out d bs false (suc t) ≡ true → Meets t
        front e s z c x kt at_c at_x =
            let lies = branches_within u drop out w h d (suc t) z in
            let same = edge_of i (suc j) t (first_gone s) kt lies.0 (omega (arith, lies.1)) in
            closed_meets c x (enters t c same at_c) (begins e x (subst (λ m. At (is_text u) v m x) (gone_along i (suc j) (omega (arith, le)) (first_gone s)) (subst (λ m. At (is_text u) v (g m) x) same at_x)))

        last : d (span (suc j) k) ≡ true → some_left u drop out d bs ≡ true → hole_of u drop out d (some_left u drop out d bs) b (suc t) ≡ true → Meets t
        last e s z c x kt at_c at_x =
            let lies = lies_from (suc j - 1) k (suc t) (sym (one true true e s (suc t)) ∙ z) in
            let same = edge_of j k t (last_gone e s) kt (omega (arith, lies.0)) lies.1 in
            calm_meets c x (calm_gone j k (omega (arith, le2)) (last_gone e s) calm x (subst (λ m. At (is_text u) v (g m) x) same at_x))

        go : (x : Bool) → d (span (suc j) k) ≡ x → (s : Bool) → some_left u drop out d bs ≡ s → Meets t
        go false e true s = ⊎_elim (λ z. before s (calm_kept j 124 (bar_kept e s) at_j calm_codes.1) z) (λ z. items e (items_agree e) (sym (body_holes u drop out (span (suc j) k) ps (suc t)) ∙ sym (one false true e s (suc t)) ∙ z)) split
        go false e false s = ⊎_elim (λ z. front e s z) (λ z. items e (items_agree e) (sym (body_holes u drop out (span (suc j) k) ps (suc t)) ∙ sym (one false false e s (suc t)) ∙ z)) split
        go true e true s = ⊎_elim (λ z. before s (calm_gone j k (omega (arith, le2)) (last_gone e s) calm) z) (λ z. last e s z) split
        go true e false s = absurd (true≢false (sym whole ∙ some_left_snoc u drop out d bs b ∙ ap (λ z. z || not (d (span (suc j) k))) s ∙ ap not e))

    mutual
      pub atom_meets : {fl : Flags} {i j : ℕ} {p : SyntaxNode} → Atom (is_text u) w fl i j p → Good u drop out p → Clean p → Ag i j (hole_in p) → (t : ℕ) → hole_in p (suc t) ≡ true → Meets t
      atom_meets (literal a z) gd cl ag t h = absurd (true≢false (sym h))
      atom_meets (literal_brace a z) gd cl ag t h = absurd (true≢false (sym h))
      atom_meets (dotted a) gd cl ag t h = absurd (true≢false (sym h))
      atom_meets (escaped e) gd cl ag t h = absurd (true≢false (sym h))
      atom_meets (refers q n z) gd cl ag t h = absurd (true≢false (sym h))
      atom_meets (bracketed e ms z) gd cl ag t h = absurd (true≢false (sym h))
      atom_meets (grouped {i = i} {j = j} {k = k} {kd = kd} {bs = bs} o hs at_k) gd cl ag t h =
          let r = span j k in
          let plain = plain_kind u drop out kd gd.0 in
          let d = drops_in u drop out bs in
          let good = good_whole u drop out r bs (no_branch u drop out w kept g hs) gd.1 in
          let f = branch_holes u drop out d bs false in
          let ag2 : Ag i (suc k) f = agree_to u drop out w kept g (hole_in (group (span i (suc k)) kd (whole_body r bs))) f (λ x y z. plain.holes_of (span i (suc k)) (shape u (whole_body r bs)) x ∙ whole_holes u drop out r bs x) ag in
          let lt = opening_lt (is_text u) w o in
          let le = branches_le (is_text u) w hs in
          let close_kept : kept k ≡ true = all_kept u drop out w kept g f k (suc k) (λ x y z e. let w2 = branches_within u drop out w hs d x e in true≢false (sym good.0 ∙ w2.2 (omega (arith, y, z)))) (agree_part u drop out w kept g f k (suc k) (omega (arith, lt, le)) (omega arith) ag2) k (omega arith) (omega arith) in
          let clean = clean_whole r bs cl in
          branches_meet hs d good.1 clean (agree_part u drop out w kept g f j k (omega (arith, lt)) (omega arith) ag2) good.0 (opening_end (is_text u) w o gd.0) (calm_kept k 41 close_kept at_k calm_codes.0) t (sym (plain.holes_of (span i (suc k)) (shape u (whole_body r bs)) (suc t) ∙ whole_holes u drop out r bs (suc t)) ∙ h)

      pub item_meets : {fl : Flags} {i j : ℕ} {p : SyntaxNode} → Item (is_text u) w fl i j p → Good u drop out p → Clean p → Ag i j (hole_in p) → (own_out p ≡ false) ⊎ Calm j → (t : ℕ) → hole_in p (suc t) ≡ true → Meets t
      item_meets (once a) gd cl ag own t h = atom_meets a gd cl ag t h
      item_meets (repeated {i = i} {j = j} {k = k} {l = l} {p = p} {n = n} {g = r} a bl q) gd cl ag own t h =
          let le = blanks_le (is_text u) w bl in
          let lt = quantifier_lt (is_text u) w q in
          let f = hole_in (repeat (span i l) (span k l) n r p) in
          let inner : Ag i j (hole_in p) = agree_to u drop out w kept g f (hole_in p) (λ x y z. right_or u drop out w kept g (out (span k l) && lies_in k l x) (hole_in p x) (λ e. omega (arith, z, le, (lies_from k l x (and_second (out (span k l)) (lies_in k l x) e)).0))) (agree_part u drop out w kept g f i j (omega arith) (omega (arith, le, lt)) ag) in
          ⊎_elim (λ (z : (out (span k l) && lies_in k l (suc t)) ≡ true). quantifier_meets a bl q ag own t z) (λ (z : hole_in p (suc t) ≡ true). atom_meets a gd cl inner t z) (or_cases (out (span k l) && lies_in k l (suc t)) (hole_in p (suc t)) h)
      item_meets {fl} (edge_code {i = i} {m = m} a z) gd cl ag own t h = absurd (mark_hole u drop out (span i (suc i)) fl m (suc t) h)
      item_meets {fl} (edge_escape {i = i} {m = m} a) gd cl ag own t h = absurd (mark_hole u drop out (span i (suc (suc i))) fl m (suc t) h)

      pub items_meet : {fl : Flags} {i j : ℕ} {ps : List SyntaxNode} → Items (is_text u) w fl i j ps → GoodItems u drop out ps → CleanItems ps → NoneOut ps ⊎ (Single ps × Calm j) → Ag i j (holes u drop out ps) → (t : ℕ) → holes u drop out ps (suc t) ≡ true → Meets t
      items_meet no_items gd cl own ag t h = absurd (true≢false (sym h))
      items_meet (pass_over {i = i} {j = j} {k = k} {ps = ps} a p) gd cl own ag t h =
          let lt = passed_lt (is_text u) w p in
          let le = items_le (is_text u) w a in
          let f = holes u drop out ps in
          let stays : kept j ≡ true = all_kept u drop out w kept g f j k (λ x y z e. omega (arith, y, (items_within u drop out w a x e).1)) (agree_part u drop out w kept g f j k le (omega arith) ag) j (omega arith) lt in
          items_meet a gd cl (⊎_elim (λ (z : NoneOut ps). inl z) (λ (z : Single ps × Calm k). inr (z.0, λ d at_d. passed_calm (is_text u) w p d (sym (sf.same j stays) ∙ at_d))) own) (agree_part u drop out w kept g f i j (omega arith) (omega (arith, lt)) ag) t h
      items_meet (one_item {i = i} {j = j} {k = k} {ps = ps} {p = p} a b) gd cl own ag t h =
          let lt = item_lt (is_text u) w b in
          let le = items_le (is_text u) w a in
          let f = holes u drop out (ps ++ p ∷ []) in
          let gs = good_items_snoc u drop out ps p gd in
          let cs = items_snoc ps p cl in
          let ag1 : Ag i j (holes u drop out ps) = agree_to u drop out w kept g f (holes u drop out ps) (λ x y z. holes_snoc u drop out ps p x ∙ left_or u drop out w kept g (holes u drop out ps x) (hole_in p x) (λ e. omega (arith, z, (item_within u drop out w b x e).0))) (agree_part u drop out w kept g f i j (omega arith) (omega (arith, lt)) ag) in
          let ag2 : Ag j k (hole_in p) = agree_to u drop out w kept g f (hole_in p) (λ x y z. holes_snoc u drop out ps p x ∙ right_or u drop out w kept g (holes u drop out ps x) (hole_in p x) (λ e. omega (arith, y, (items_within u drop out w a x e).1))) (agree_part u drop out w kept g f j k le (omega arith) ag) in
          ⊎_elim (λ (z : holes u drop out ps (suc t) ≡ true). items_meet a gs.0 cs.0 (inl (front_none ps p k own (suc t) z)) ag1 t z) (λ (z : hole_in p (suc t) ≡ true). item_meets b gs.1 cs.1 ag2 (last_own ps p k own) t z) (or_cases (holes u drop out ps (suc t)) (hole_in p (suc t)) (sym (holes_snoc u drop out ps p (suc t)) ∙ h))

      pub branches_meet : {kd : Kind} {fl : Flags} {i j : ℕ} {bs : List Branch} → IsBranches (is_text u) w kd fl i j bs → (d : Span → Bool) → GoodSome u drop out d bs → CleanSome d bs → Ag i j (branch_holes u drop out d bs false) → some_left u drop out d bs ≡ true → Enters i → Calm j → (t : ℕ) → branch_holes u drop out d bs false (suc t) ≡ true → Meets t
      branches_meet (first_branch {i = i} {j = j} {ps = ps} a) d gd cl ag some enters calm t h =
          let e = not_true (d (span i j)) (sym (or_false (not (d (span i j)))) ∙ some) in
          let same : (x : ℕ) → branch_holes u drop out d (branch (span i j) ps ∷ []) false x ≡ holes u drop out ps x = λ x. or_false (hole_of u drop out d false (branch (span i j) ps) x) ∙ ap (λ z. if z then in_dropped false (span i j) x else hole_in (branch_body (span i j) ps) x) e ∙ body_holes u drop out (span i j) ps x in
          let cb = clean_body (span i j) ps (cl.0 e) in
          items_meet a (good_body u drop out (span i j) ps (gd.1 e)) cb.0 (body_own ps j calm cb.1) (agree_to u drop out w kept g (branch_holes u drop out d (branch (span i j) ps ∷ []) false) (holes u drop out ps) (λ x y z. same x) ag) t (sym (same (suc t)) ∙ h)
      branches_meet {kd} {fl} (next_branch {i = i} {j = j} {k = k} {bs = bs} {ps = ps} a at_j may hs) d gd cl ag some enters calm t h =
          let b = branch (span (suc j) k) ps in
          let gs = good_some_snoc u drop out d bs b gd in
          let cs = some_snoc d bs b cl in
          let ag0 = first_agree u drop out w kept g a hs d ag in
          next_meets a at_j hs d ag some enters calm t h (λ s cj z. branches_meet a d gs.0 cs.0 ag0 s enters cj t z) (λ e agi z. let cb = clean_body (span (suc j) k) ps (cs.1 e) in items_meet hs (good_body u drop out (span (suc j) k) ps (gs.2 e)) cb.0 (body_own ps k calm cb.1) agi t z)
