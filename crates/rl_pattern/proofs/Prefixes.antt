-- What is spelled before a position is spelled by the codes up to there. So if no group opens too deep, none is nested too
-- deep.
use Rattle.std.proofs.Common.{◌≡◌, ◌⊎◌, ℕ, zero, suc, ◌+◌, ◌<◌, ◌≤◌, Bool, true, false, ◌==◌, if◌then◌else◌, nat_le, List, [], ◌∷◌, ◌++◌, length, take, map, refl, sym, ap, ◌∙◌, subst, arith, slice_get, true≢false, length-take-le}
use Rattle.std.proofs.lemmas.Bool.{cases_Bool, leb-true, leb-false, le-leb, cond_both, eqb-true, eqb-false}
use Rattle.std.proofs.lemmas.Option.{slice_get_within, none-some, slice_get_past}
use mathlib.Core.Logic.{inl, inr, ⊎_elim}
use Rattle.rl_pattern.specs.declared.flags.Flags.{Flags}
use Rattle.rl_pattern.specs.Tree.{Span, span, nodes, branches, branch_body, Kind, capturing, named, scoped, lookaround, atomic, conditional, SyntaxNode, Branch, branch, whole_body, Front, Whole}
use Rattle.rl_pattern.specs.Codes.{splits, on_letter, GroupPrefix, headed, sharps, looks, letter_p}
use Rattle.rl_pattern.specs.Grammar.{At, SpelledAt, Letters, first_letter, next_letter, Opening, captures, captures_named, groups, groups_on, groups_both, groups_off, looks_ahead, looks_behind, cuts, asks_number, asks_name, Atom, literal, literal_brace, dotted, escaped, refers, bracketed, grouped, Item, once, repeated, edge_code, edge_escape, Items, no_items, pass_over, one_item, IsBranches, first_branch, next_branch, Fronts, spelled, Spells}
use Rattle.rl_pattern.specs.Viable.{Part, part_first, part_next, Open, none_open, one_open}
use Rattle.rl_pattern.specs.Answers.{Shallow}
use Rattle.rl_pattern.specs.internal.Meeting.{Thinned}
use Rattle.rl_pattern.specs.internal.Left.{AllKept, AllGone, moved_front, LeftAtom, left_leaf, left_group, LeftItem, left_once, left_repeat, left_mark, LeftItems, left_none, left_passed, left_item, LeftBranches, left_first, left_next}
use Rattle.rl_pattern.proofs.Steps.{same_code}
use Rattle.rl_pattern.proofs.Tokens.{blanks_le, quantifier_lt, passed_lt, opening_lt, some_at, opening_moves, fronts_moves}
use Rattle.rl_pattern.proofs.Locality.{atom_lt, item_lt, items_le, branches_le, items_left, branches_left}
use Rattle.rl_pattern.proofs.Nesting.{too_deep_has, Has, HasSome, HasBranch, ItemsHave, BranchesHave}

-- If all codes are kept, everything is left.
module _ (text : Bool) (w : List ℕ) (kept : ℕ → Bool) (g : ℕ → ℕ) where
  Kept : ℕ → ℕ → Type 0
  Kept i j = AllKept text w kept g i j

  no_hole : (i : ℕ) → AllGone text w kept g i i
  no_hole i = (omega arith, λ t a b. absurd (omega (arith, a, b)))

  splits_alike : (kd : Kind) (bs cs : List Branch) → length bs ≡ length cs → splits kd bs ≡ true → splits kd cs ≡ true
  splits_alike capturing bs cs e h = refl
  splits_alike (named n) bs cs e h = refl
  splits_alike (scoped f f2) bs cs e h = refl
  splits_alike (lookaround b n) bs cs e h = refl
  splits_alike atomic bs cs e h = refl
  splits_alike conditional bs [] e h = refl
  splits_alike conditional bs (c ∷ []) e h = refl
  splits_alike conditional [] (c ∷ c2 ∷ cs) e h = absurd (omega (arith, e))
  splits_alike conditional (b ∷ []) (c ∷ c2 ∷ cs) e h = absurd (omega (arith, e))
  splits_alike conditional (b ∷ b2 ∷ bs) (c ∷ c2 ∷ cs) e h = absurd (true≢false (sym h))

  snoc_length : {A : Type 0} (xs : List A) (x : A) → length (xs ++ x ∷ []) ≡ suc (length xs)
  snoc_length [] x = refl
  snoc_length (z ∷ xs) x = ap suc (snoc_length xs x)

  mutual
    pub atom_all : {fl : Flags} {i j : ℕ} {p : SyntaxNode} → Atom text w fl i j p → AllKept text w kept g i j → (q : SyntaxNode) × LeftAtom text w kept g fl i j q
    atom_all (literal a z) k = (_, left_leaf (literal a z) refl k)
    atom_all (literal_brace a z) k = (_, left_leaf (literal_brace a z) refl k)
    atom_all (dotted a) k = (_, left_leaf (dotted a) refl k)
    atom_all (escaped e) k = (_, left_leaf (escaped e) refl k)
    atom_all (refers q n z) k = (_, left_leaf (refers q n z) refl k)
    atom_all (bracketed e ms z) k = (_, left_leaf (bracketed e ms z) refl k)
    atom_all (grouped {i = i} {j = j} {k = e} {kd = kd} o hs z) k =
        let lt = opening_lt text w o in
        let le = branches_le text w hs in
        let r = branches_all hs (λ t a b. k t (omega (arith, a, lt)) (omega (arith, b))) in
        (_, left_group o (λ t a b. k t a (omega (arith, b, le))) r.1 z (k e (omega (arith, lt, le)) (omega arith)))

    pub item_all : {fl : Flags} {i j : ℕ} {p : SyntaxNode} → Item text w fl i j p → AllKept text w kept g i j → (q : SyntaxNode) × LeftItem text w kept g fl i j q
    item_all (once a) k = let r = atom_all a k in (r.0, left_once r.1)
    item_all (repeated a bl q) k =
        let lt = atom_lt text w a in
        let le = blanks_le text w bl in
        let lt2 = quantifier_lt text w q in
        let r = atom_all a (λ t x z. k t x (omega (arith, z, le, lt2))) in
        (_, left_repeat r.1 bl (λ t x z. k t (omega (arith, x, lt)) (omega (arith, z, lt2))) q (λ t x z. k t (omega (arith, x, lt, le)) z))
    item_all (edge_code a z) k = (_, left_mark (edge_code a z) refl k)
    item_all (edge_escape a) k = (_, left_mark (edge_escape a) refl k)

    pub items_all : {fl : Flags} {i j : ℕ} {ps : List SyntaxNode} → Items text w fl i j ps → AllKept text w kept g i j → (qs : List SyntaxNode) × LeftItems text w kept g fl i j qs
    items_all no_items k = ([], left_none)
    items_all (pass_over h p) k =
        let r = items_all h (λ t x z. k t x (omega (arith, z, passed_lt text w p))) in
        (r.0, left_passed r.1 p (λ t x z. k t (omega (arith, x, items_le text w h)) z))
    items_all (one_item h it) k =
        let r = items_all h (λ t x z. k t x (omega (arith, z, item_lt text w it))) in
        let s = item_all it (λ t x z. k t (omega (arith, x, items_le text w h)) z) in
        (r.0 ++ s.0 ∷ [], left_item r.1 s.1)

    pub branches_all : {kd : Kind} {fl : Flags} {i j : ℕ} {bs : List Branch} → IsBranches text w kd fl i j bs → AllKept text w kept g i j → (cs : List Branch) × LeftBranches text w kept g kd fl i j cs × (length bs ≡ length cs)
    branches_all (first_branch {i = i} {j = j} h) k = let r = items_all h k in (branch (span (g i) (g j)) r.0 ∷ [], left_first (no_hole i) r.1, refl)
    branches_all {kd} (next_branch {i = i} {j = j} {k = e} {bs = bs} {ps = ps} h at_j may hs) k =
        let le = branches_le text w h in
        let le2 = items_le text w hs in
        let r = branches_all h (λ t x z. k t x (omega (arith, z, le2))) in
        let s = items_all hs (λ t x z. k t (omega (arith, x, le)) z) in
        (r.0 ++ branch (span (g (suc j)) (g e)) s.0 ∷ [], left_next r.1 at_j (k j le (omega (arith, le2))) (splits_alike kd bs r.0 r.2 may) s.1, snoc_length bs _ ∙ ap suc r.2 ∙ sym (snoc_length r.0 _))

letter_tests : (on_letter 35 ≡ false) × (on_letter 80 ≡ false) × (headed 35 ≡ sharps) × (headed 80 ≡ letter_p)
unfolding on_letter headed
letter_tests = (refl, refl, refl, refl)

looks_apart : (c d : ℕ) → c ≡ d → headed c ≡ looks → {x : GroupPrefix} → headed d ≡ x → x ≡ looks
looks_apart c d e h k = sym k ∙ ap headed (sym e) ∙ h

-- The codes up to a position.
module _ (w : List ℕ) (p : ℕ) (inside_w : p < length w) where
  up_to : ℕ → Bool
  up_to t = nat_le t p

  at_most : ℕ → ℕ
  at_most t = if nat_le t p then t else suc p

  most_is : (t : ℕ) → t ≤ suc p → at_most t ≡ t
  unfolding at_most
  most_is t l = cond_both (nat_le t p) t (suc p) (λ m. m ≡ t) (λ z. refl) (λ z. let y = leb-false t p z in omega (arith, l, y))

  most_past : (t : ℕ) → p < t → at_most t ≡ suc p
  unfolding at_most
  most_past t l = cond_both (nat_le t p) t (suc p) (λ m. m ≡ suc p) (λ z. let y = leb-true t p z in absurd (omega (arith, l, y))) (λ z. refl)

  within_is : (t : ℕ) → up_to t ≡ true → t ≤ p
  unfolding up_to
  within_is t h = leb-true t p h

  past_is : (t : ℕ) → up_to t ≡ false → p < t
  unfolding up_to
  past_is t h = leb-false t p h

  is_within : (t : ℕ) → t ≤ p → up_to t ≡ true
  unfolding up_to
  is_within t l = le-leb t p l

  take_get : (n i : ℕ) (v : List ℕ) → i < n → slice_get (take n v) i ≡ slice_get v i
  take_get zero i v l = absurd (omega (arith, l))
  take_get (suc n) i [] l = refl
  take_get (suc n) zero (x ∷ v) l = refl
  take_get (suc n) (suc i) (x ∷ v) l = take_get n i v (omega (arith, l))

  taken : List ℕ
  taken = take (suc p) w

  cut_thin : Thinned w (take (suc p) w) up_to at_most
  cut_thin =
      record {
        first = most_is 0 (omega arith);
        one_more = λ i h. let l = within_is i h in most_is (suc i) (omega (arith, l)) ∙ ap suc (sym (most_is i (omega (arith, l))));
        no_more = λ i h. let l = past_is i h in most_past (suc i) (omega (arith, l)) ∙ sym (most_past i l);
        same = λ i h. let l = within_is i h in ap (slice_get (take (suc p) w)) (most_is i (omega (arith, l))) ∙ take_get (suc p) i w (omega (arith, l));
        last = most_past (length w) inside_w ∙ sym (length-take-le (suc p) w inside_w);
        seams = λ i c d h k at_c at_d. let l = past_is (suc i) k in let m = within_is i h in let e = most_past (suc i) l in let z = length-take-le (suc p) w inside_w in absurd (none-some d (sym (slice_get_past (take (suc p) w) (suc p) (omega (arith, z))) ∙ ap (slice_get (take (suc p) w)) (sym e) ∙ at_d));
      }

  module _ (text : Bool) where
    kept_to : (i j : ℕ) → j ≤ suc p → AllKept text w up_to at_most i j
    kept_to i j l t a b = is_within t (omega (arith, l, b))

    pub items_to : {fl : Flags} {i j : ℕ} {ps : List SyntaxNode} → Items text w fl i j ps → j ≤ suc p → (qs : List SyntaxNode) × Items text (take (suc p) w) fl i j qs
    items_to {fl} {i} {j} h l =
        let le = items_le text w h in
        let r = items_all text w up_to at_most h (kept_to i j l) in
        (r.0, subst (λ m. Items text (take (suc p) w) fl m j r.0) (most_is i (omega (arith, l, le))) (subst (λ m. Items text (take (suc p) w) fl (at_most i) m r.0) (most_is j l) (items_left text w (take (suc p) w) up_to at_most cut_thin r.1)))

    pub branches_to : {kd : Kind} {fl : Flags} {i j : ℕ} {bs : List Branch} → IsBranches text w kd fl i j bs → j ≤ suc p → splits kd bs ≡ true → (cs : List Branch) × IsBranches text (take (suc p) w) kd fl i j cs × (splits kd cs ≡ true)
    branches_to {kd} {fl} {i} {j} {bs} h l may =
        let le = branches_le text w h in
        let r = branches_all text w up_to at_most h (kept_to i j l) in
        (r.0, subst (λ m. IsBranches text (take (suc p) w) kd fl m j r.0) (most_is i (omega (arith, l, le))) (subst (λ m. IsBranches text (take (suc p) w) kd fl (at_most i) m r.0) (most_is j l) (branches_left text w (take (suc p) w) up_to at_most cut_thin r.1)), splits_alike text w up_to at_most kd bs r.0 r.2 may)

    code_to : (i c : ℕ) → i ≤ p → At text w i c → At text (take (suc p) w) i c
    code_to i c l h = take_get (suc p) i w (omega (arith, l)) ∙ h

    pub opening_to : {i j : ℕ} {kd : Kind} → Opening text w i j kd → j ≤ p → (d : ℕ) → At text w p d → Opening text (take (suc p) w) i j kd
    opening_to {i} {j} {kd} o l d at_p =
        let lt = opening_lt text w o in
        let x = some_at w j p d at_p l in
        let made = opening_moves text w (take (suc p) w) up_to at_most cut_thin o (kept_to i j (omega (arith, l))) x.0 (subst (λ m. At text (take (suc p) w) m x.0) (sym (most_is j (omega (arith, l)))) (code_to j x.0 l x.1)) in
        subst (λ m. Opening text (take (suc p) w) m j kd) (most_is i (omega (arith, l, lt))) (subst (λ m. Opening text (take (suc p) w) (at_most i) m kd) (most_is j (omega (arith, l))) made)

    pub fronts_to : {call fl : Flags} {i : ℕ} {gs : List Front} → Fronts text w call i fl gs → i ≤ suc p → (hs : List Front) × Fronts text (take (suc p) w) call i fl hs
    fronts_to {call} {fl} {i} {gs} f l = let hs = map (moved_front at_most) gs in (hs, subst (λ m. Fronts text (take (suc p) w) call m fl hs) (most_is i l) (fronts_moves text w (take (suc p) w) up_to at_most cut_thin f (kept_to 0 i l)))

-- A head that opens a group is neither a comment nor a reference.
module _ (text : Bool) (w : List ℕ) where
  letters_first : {test : ℕ → Bool} {i j : ℕ} {f : Flags} → Letters text w test i j f → (c : ℕ) → At text w i c → test c ≡ true
  letters_first {test} (first_letter {i = i} {c = d} at_d is) c at_c = ap test (same_code w i c d at_c at_d) ∙ is
  letters_first (next_letter h at_d is) c at_c = letters_first h c at_c

  apart_from : (i c d : ℕ) → At text w i c → At text w i d → (c == d) ≡ false → ⊥
  apart_from i c d a b ne = eqb-false c d ne (same_code w i c d a b)

  opening_at : {i j : ℕ} {kd : Kind} → Opening text w i j kd → At text w i 40
  opening_at (captures at_i at_c ne) = at_i
  opening_at (captures_named q n e) = q.0
  opening_at (groups q) = q.0
  opening_at (groups_on q l e) = q.0
  opening_at (groups_both q l m n e) = q.0
  opening_at (groups_off q l e) = q.0
  opening_at (looks_ahead q c h) = q.0
  opening_at (looks_behind q c h) = q.0
  opening_at (cuts q) = q.0
  opening_at (asks_number q d e) = q.0
  opening_at (asks_name q n e) = q.0

  no_comment : {i j : ℕ} {kd : Kind} → Opening text w i j kd → ¬ SpelledAt text w i "(?#"
  no_comment (captures {i = i} at_i at_c ne) (a, (b, r)) = ne (same_code w (suc i) _ 63 at_c b)
  no_comment (captures_named {i = i} q n e) (z, (y, r)) = apart_from (suc (suc i)) 80 35 q.1.1.0 r refl
  no_comment (groups {i = i} q) (z, (y, r)) = apart_from (suc (suc i)) 58 35 q.1.1 r refl
  no_comment (groups_on q l e) (z, (y, r)) = true≢false (sym (letters_first l 35 r) ∙ letter_tests.0)
  no_comment (groups_both q l m n e) (z, (y, r)) = true≢false (sym (letters_first l 35 r) ∙ letter_tests.0)
  no_comment (groups_off {i = i} q l e) (z, (y, r)) = apart_from (suc (suc i)) 45 35 q.1.1 r refl
  no_comment (looks_ahead {i = i} {c = c} q a h) (z, (y, r)) = let e : sharps ≡ looks = looks_apart c 35 (same_code w (suc (suc i)) c 35 a r) h letter_tests.2 in cc e
  no_comment (looks_behind {i = i} q a h) (z, (y, r)) = apart_from (suc (suc i)) 60 35 q.1.1 r refl
  no_comment (cuts {i = i} q) (z, (y, r)) = apart_from (suc (suc i)) 62 35 q.1.1 r refl
  no_comment (asks_number {i = i} q d e) (z, (y, r)) = apart_from (suc (suc i)) 40 35 q.1.1 r refl
  no_comment (asks_name {i = i} q n e) (z, (y, r)) = apart_from (suc (suc i)) 40 35 q.1.1 r refl

  no_reference : {i j : ℕ} {kd : Kind} → Opening text w i j kd → ¬ SpelledAt text w i "(?P="
  no_reference (captures {i = i} at_i at_c ne) (a, (b, r)) = ne (same_code w (suc i) _ 63 at_c b)
  no_reference (captures_named {i = i} q n e) (z, (y, (r, x))) = apart_from (suc (suc (suc i))) 60 61 q.1.1.1 x refl
  no_reference (groups {i = i} q) (z, (y, (r, x))) = apart_from (suc (suc i)) 58 80 q.1.1 r refl
  no_reference (groups_on q l e) (z, (y, (r, x))) = true≢false (sym (letters_first l 80 r) ∙ letter_tests.1)
  no_reference (groups_both q l m n e) (z, (y, (r, x))) = true≢false (sym (letters_first l 80 r) ∙ letter_tests.1)
  no_reference (groups_off {i = i} q l e) (z, (y, (r, x))) = apart_from (suc (suc i)) 45 80 q.1.1 r refl
  no_reference (looks_ahead {i = i} {c = c} q a h) (z, (y, (r, x))) = let e : letter_p ≡ looks = looks_apart c 80 (same_code w (suc (suc i)) c 80 a r) h letter_tests.3 in cc e
  no_reference (looks_behind {i = i} q a h) (z, (y, (r, x))) = apart_from (suc (suc i)) 60 80 q.1.1 r refl
  no_reference (cuts {i = i} q) (z, (y, (r, x))) = apart_from (suc (suc i)) 62 80 q.1.1 r refl
  no_reference (asks_number {i = i} q d e) (z, (y, (r, x))) = apart_from (suc (suc i)) 40 80 q.1.1 r refl
  no_reference (asks_name {i = i} q n e) (z, (y, (r, x))) = apart_from (suc (suc i)) 40 80 q.1.1 r refl

body_parts : (r : Span) (ps : List SyntaxNode) (m : ℕ) → Has (branch_body r ps) m → ItemsHave ps m
body_parts r [] m h = h
body_parts r (p ∷ []) m h = inl h
body_parts r (p ∷ q ∷ ps) m h = nodes_parts (p ∷ q ∷ ps) m h
  where
    nodes_parts : (ps : List SyntaxNode) (m : ℕ) → HasSome (nodes ps) m → ItemsHave ps m
    nodes_parts [] m h = h
    nodes_parts (p ∷ ps) m (inl h) = inl h
    nodes_parts (p ∷ ps) m (inr h) = inr (nodes_parts ps m h)

whole_parts : (r : Span) (bs : List Branch) (m : ℕ) → Has (whole_body r bs) m → BranchesHave bs m
whole_parts r [] m h = h
whole_parts r (b ∷ []) m h = inl h
whole_parts r (b ∷ c ∷ bs) m h = list_parts (b ∷ c ∷ bs) m h
  where
    list_parts : (bs : List Branch) (m : ℕ) → HasBranch (branches bs) m → BranchesHave bs m
    list_parts [] m h = h
    list_parts (b ∷ bs) m (inl h) = inl h
    list_parts (b ∷ bs) m (inr h) = inr (list_parts bs m h)

items_split : (ps : List SyntaxNode) (p : SyntaxNode) (m : ℕ) → ItemsHave (ps ++ p ∷ []) m → ItemsHave ps m ⊎ Has p m
items_split [] p m (inl h) = inr h
items_split [] p m (inr e) = inl e
items_split (q ∷ ps) p m (inl h) = inl (inl h)
items_split (q ∷ ps) p m (inr h) = ⊎_elim (λ x. inl (inr x)) (λ x. inr x) (items_split ps p m h)

branches_split : (bs : List Branch) (b : Branch) (m : ℕ) → BranchesHave (bs ++ b ∷ []) m → BranchesHave bs m ⊎ Has b.body m
branches_split [] b m (inl h) = inr h
branches_split [] b m (inr e) = inl e
branches_split (c ∷ bs) b m (inl h) = inl (inl h)
branches_split (c ∷ bs) b m (inr h) = ⊎_elim (λ x. inl (inr x)) (λ x. inr x) (branches_split bs b m h)

module _ (call : Flags) (text : Bool) (w : List ℕ) (shallow : Shallow call text w) where
  -- After the first branches of a body up to a position, this many groups are open there, judged by the codes up to any
  -- later parenthesis.
  abbrev BodyOpen : Kind → Flags → ℕ → ℕ → Type 0
  BodyOpen kd fl st d = (p : ℕ) → At text w p 40 → (k : ℕ) → st ≤ k → k ≤ p → Part text (take (suc p) w) kd fl st k → Open text (take (suc p) w) call kd fl k d

  -- Items from a position on make such first branches.
  abbrev ItemsPart : Kind → Flags → ℕ → ℕ → Type 0
  ItemsPart kd fl st i = (p : ℕ) → At text w p 40 → (k : ℕ) → i ≤ k → k ≤ p → (qs : List SyntaxNode) → Items text (take (suc p) w) fl i k qs → Part text (take (suc p) w) kd fl st k

  zero_deep : (d m : ℕ) → d ≤ 100 → m ≡ 0 → d + m ≤ 100
  zero_deep d m l e = omega (arith, l, e)

  -- A group that would be nested too deep.
  opens_deep : {kd outer : Kind} {fl : Flags} {i j d : ℕ} → Opening text w i j kd → Open text (take (suc i) w) call outer fl i d → d ≡ 100 → ⊥
  opens_deep {outer = outer} {fl = fl} {i = i} o h e = shallow i (record { opens = opening_at text w o; no_comment = no_comment text w o; no_reference = no_reference text w o; deep = (outer, fl, subst (λ n. Open text (take (suc i) w) call outer fl i n) e h) })

  mutual
    atom_deep : {fl : Flags} {i j : ℕ} {p : SyntaxNode} → Atom text w fl i j p → (kd : Kind) (d : ℕ) → d ≤ 100 → ((q : ℕ) → i ≤ q → At text w q 40 → Open text (take (suc q) w) call kd fl i d) → (m : ℕ) → Has p m → d + m ≤ 100
    atom_deep (literal a z) kd d l here m h = zero_deep d m l h
    atom_deep (literal_brace a z) kd d l here m h = zero_deep d m l h
    atom_deep (dotted a) kd d l here m h = zero_deep d m l h
    atom_deep (escaped e) kd d l here m h = zero_deep d m l h
    atom_deep (refers q n z) kd d l here m h = zero_deep d m l h
    atom_deep (bracketed e ms z) kd d l here m h = zero_deep d m l h
    atom_deep (grouped o hs z) kd d l here zero h = omega (arith, l)
    atom_deep {fl} (grouped {i = i} {j = j} {k = k} {kd = kd2} {bs = bs} o hs z) kd d l here (suc m) h =
        let lt = opening_lt text w o in
        let less : d < 100 = ⊎_elim (λ (e : (d == 100) ≡ true). absurd (opens_deep o (here i (omega arith) (opening_at text w o)) (eqb-true d 100 e))) (λ (e : (d == 100) ≡ false). omega (arith, l, eqb-false d 100 e)) (cases_Bool (d == 100)) in
        let r = branches_deep hs (suc d) less (λ p at_p e x y part. one_open (here p (omega (arith, x, y, lt)) at_p) (opening_to w p (slice_get_within w p 40 at_p) text o (omega (arith, x, y)) 40 at_p) part) m (whole_parts (span j k) bs m h) in
        omega (arith, r)

    item_deep : {fl : Flags} {i j : ℕ} {p : SyntaxNode} → Item text w fl i j p → (kd : Kind) (d : ℕ) → d ≤ 100 → ((q : ℕ) → i ≤ q → At text w q 40 → Open text (take (suc q) w) call kd fl i d) → (m : ℕ) → Has p m → d + m ≤ 100
    item_deep (once a) kd d l here m h = atom_deep a kd d l here m h
    item_deep (repeated a bl q) kd d l here m h = atom_deep a kd d l here m h
    item_deep (edge_code a z) kd d l here m h = zero_deep d m l h
    item_deep (edge_escape a) kd d l here m h = zero_deep d m l h

    items_deep : {fl : Flags} {i j : ℕ} {ps : List SyntaxNode} → Items text w fl i j ps → (kd : Kind) (st d : ℕ) → st ≤ i → d ≤ 100 → BodyOpen kd fl st d → ItemsPart kd fl st i → (m : ℕ) → ItemsHave ps m → d + m ≤ 100
    items_deep no_items kd st d sl l body part m h = zero_deep d m l h
    items_deep (pass_over a p) kd st d sl l body part m h = items_deep a kd st d sl l body part m h
    items_deep (one_item {i = i} {j = j} {ps = ps} {p = p} a b) kd st d sl l body part m h =
        let le = items_le text w a in
        ⊎_elim (λ (x : ItemsHave ps m). items_deep a kd st d sl l body part m x) (λ (x : Has p m). item_deep b kd d l (λ q y at_q. let r = items_to w q (slice_get_within w q 40 at_q) text a (omega (arith, y)) in body q at_q j (omega (arith, sl, le)) y (part q at_q j le y r.0 r.1)) m x) (items_split ps p m h)

    branches_deep : {kd : Kind} {fl : Flags} {i j : ℕ} {bs : List Branch} → IsBranches text w kd fl i j bs → (d : ℕ) → d ≤ 100 → BodyOpen kd fl i d → (m : ℕ) → BranchesHave bs m → d + m ≤ 100
    branches_deep {kd} (first_branch {i = i} {j = j} {ps = ps} a) d l body m (inl h) = items_deep a kd i d (omega arith) l body (λ p at_p k x y qs its. part_first its) m (body_parts (span i j) ps m h)
    branches_deep (first_branch a) d l body m (inr e) = zero_deep d m l e
    branches_deep {kd} (next_branch {i = i} {j = j} {k = k} {bs = bs} {ps = ps} a at_j may b) d l body m h =
        let le = branches_le text w a in
        ⊎_elim (λ (x : BranchesHave bs m). branches_deep a d l body m x) (λ (x : Has (branch_body (span (suc j) k) ps) m). items_deep b kd i d (omega (arith, le)) l body (λ p at_p e y z qs its. let r = branches_to w p (slice_get_within w p 40 at_p) text a (omega (arith, y, z)) may in part_next r.1 (code_to w p (slice_get_within w p 40 at_p) text j 124 (omega (arith, y, z)) at_j) r.2 its) m (body_parts (span (suc j) k) ps m x)) (branches_split bs (branch (span (suc j) k) ps) m h)

  -- No group is nested too deep.
  pub shallow_tree : (p : Whole) → Spells call text w p → Has p.body 101 → ⊥
  shallow_tree p (spelled {i = i} {bs = bs} f hs) h =
      let r = branches_deep hs 0 (omega arith) (λ q at_q k x y part. none_open (fronts_to w q (slice_get_within w q 40 at_q) text f (omega (arith, x, y))).1 part) 101 (whole_parts (span i (length w)) bs 101 h) in
      omega (arith, r)

-- If the codes spell a tree without a group nested too deep, no group opens too deep in them.
pub tree_shallow : (call : Flags) (text : Bool) (w : List ℕ) (p : Whole) → Spells call text w p → (Has p.body 101 → ⊥) → Shallow call text w
tree_shallow call text w p h none q deep = none (too_deep_has call text w q p deep h)
