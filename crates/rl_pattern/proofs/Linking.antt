-- If the codes that are kept are those outside the holes of a syntax tree, a syntax tree is left.
use Rattle.std.proofs.Common.{◌≡◌, ◌⊎◌, ℕ, suc, ◌-◌, ◌<◌, ◌≤◌, Bool, true, false, not, ◌||◌, ◌&&◌, ◌==◌, if◌then◌else◌, nat_lt, List, [], ◌∷◌, ◌++◌, map, refl, sym, ap, ◌∙◌, arith, true≢false}
use Rattle.std.proofs.lemmas.Bool.{eqb-true, eqb-false, cases_Bool, false_from_ne_true, ltb-true, ltb-false}
use Rattle.std.proofs.lemmas.List.{map-append}
use mathlib.Core.Logic.{inl, inr, ⊎_elim}
use Rattle.rl_ranges.specs.declared.universe.Universe.{Universe}
use Rattle.rl_syntax.specs.PatTree as s
use Rattle.rl_syntax.specs.Tree as y
use Rattle.rl_syntax.specs.Lowering.{lowered, times}
use Rattle.rl_pattern.specs.declared.flags.Flags.{Flags}
use Rattle.rl_pattern.specs.Tree.{Span, span, Count, Greed, Leaf, Kind, capturing, named, scoped, lookaround, atomic, conditional, SyntaxNode, leaf, mark, repeat, group, nothing, seq, choice, Nodes, no_nodes, more_nodes, Branches, no_branches, more_branches, nodes, branches, Branch, branch_body, branch, whole_body, Assertion, caret, text_start, dollar, text_end, boundary}
use Rattle.rl_pattern.specs.Codes.{splits}
use Rattle.rl_pattern.specs.Found.{is_inner_anchor, is_leading, trail_of, no_trail, mark_faults, count_faults, kind_faults, node_faults, kind_names, node_names}
use Rattle.rl_pattern.specs.Grammar.{At, Quantifier, Blanks, no_blank, one_blank, Atom, literal, literal_brace, dotted, escaped, refers, bracketed, grouped, Item, once, repeated, edge_code, edge_escape, Items, no_items, pass_over, one_item, IsBranches, first_branch, next_branch}
use Rattle.rl_pattern.specs.Shape.{is_text, shape, group_shape, mark_shape, is_greedy}
use Rattle.rl_pattern.specs.Cut.{lies_in, in_dropped, remaining, gone}
use Rattle.rl_pattern.specs.internal.Left.{moved, moved_span, AllKept, AllGone, LeftAtom, left_leaf, left_group, left_once, left_repeat, left_mark, LeftItems, left_none, left_passed, left_item, left_unmarked, LeftBranches, left_first, left_next, left_gone}
use Rattle.rl_pattern.proofs.Tokens.{blanks_le, quantifier_lt, passed_lt, opening_lt}
use Rattle.rl_pattern.proofs.Locality.{atom_lt, item_lt, items_le, branches_le}
use Rattle.rl_pattern.proofs.Holes.{or_cases, or_false, lies_from, lies_to, hole, holes, hole_of, branch_holes, some_left, drops_in, holes_snoc, branch_holes_snoc, some_left_snoc, body_holes, whole_holes, atom_within, item_within, items_within, branches_within, dropped_within, cond_cases}
use Rattle.rl_pattern.proofs.InnerBare.{items_are}
use Rattle.rl_pattern.proofs.Nesting.{under_more}
use Rattle.rl_pattern.proofs.Leaves.{nil_parts, nil_join, fault_moved, count_moved, kind_moved, leaf_moved, codes_same, name_of, names_of, left_tree, Leaves, AlikeEdge, LeavesAll, all_none, all_snoc, LeavesSome, some_none, some_stays, some_goes, stays_snoc, goes_snoc, whole_leaves}

pub no_true : (b : Bool) → (b ≡ true → ⊥) → b ≡ false
no_true b h = false_from_ne_true b h

pub and_first : (a b : Bool) → (a && b) ≡ true → a ≡ true
and_first true b h = refl
and_first false b h = h

pub and_second : (a b : Bool) → (a && b) ≡ true → b ≡ true
and_second true b h = h
and_second false b h = absurd (true≢false (sym h))

pub or_none : (a b : Bool) → (a || b) ≡ false → (a ≡ false) × (b ≡ false)
or_none true b h = absurd (true≢false h)
or_none false b h = (refl, h)

pub or_yes : (a : Bool) → (a || true) ≡ true
or_yes true = refl
or_yes false = refl

pub not_false : (b : Bool) → not b ≡ false → b ≡ true
not_false true h = refl
not_false false h = absurd (true≢false h)

pub not_true : (b : Bool) → not b ≡ true → b ≡ false
not_true true h = absurd (true≢false (sym h))
not_true false h = refl

abbrev pub is_plain : Kind → Bool
is_plain capturing = true
is_plain (named n) = true
is_plain (scoped f g) = true
is_plain (lookaround b n) = false
is_plain atomic = false
is_plain conditional = false

module _ (u : Universe) (drop out : Span → Bool) where
  abbrev pub hole_in : SyntaxNode → ℕ → Bool
  hole_in = hole u drop out

  abbrev pub some_stay : Branches → Bool
  some_stay no_branches = false
  some_stay (more_branches r p bs) = not (drop r) || some_stay bs

  abbrev mutual
    -- Each choice keeps a branch, and the branches that it drops contain no named group.
    pub Good : SyntaxNode → Type 0
    Good (leaf r f x) = Unit {0}
    Good (mark r f m) = Unit {0}
    Good (repeat r q n g p) = Good p
    Good (group r k p) = (is_plain k ≡ true) × Good p
    Good (nothing r) = Unit {0}
    Good (seq r ps) = AllGood ps
    Good (choice r bs) = (some_stay bs ≡ true) × GoodBranches bs

    pub AllGood : Nodes → Type 0
    AllGood no_nodes = Unit {0}
    AllGood (more_nodes p ps) = Good p × AllGood ps

    pub GoodBranches : Branches → Type 0
    GoodBranches no_branches = Unit {0}
    GoodBranches (more_branches r p bs) = (drop r ≡ true → node_names p ≡ []) × (drop r ≡ false → Good p) × GoodBranches bs

  abbrev pub GoodItems : List SyntaxNode → Type 0
  GoodItems [] = Unit {0}
  GoodItems (p ∷ ps) = Good p × GoodItems ps

  abbrev pub GoodSome : (Span → Bool) → List Branch → Type 0
  GoodSome d [] = Unit {0}
  GoodSome d (b ∷ bs) = (d b.place ≡ true → node_names b.body ≡ []) × (d b.place ≡ false → Good b.body) × GoodSome d bs

  good_nodes : (ps : List SyntaxNode) → AllGood (nodes ps) → GoodItems ps
  good_nodes [] h = tt
  good_nodes (p ∷ ps) (h, hs) = (h, good_nodes ps hs)

  pub good_body : (r : Span) (ps : List SyntaxNode) → Good (branch_body r ps) → GoodItems ps
  good_body r [] h = tt
  good_body r (p ∷ []) h = (h, tt)
  good_body r (p ∷ q ∷ ps) h = good_nodes (p ∷ q ∷ ps) h

  good_list : (bs : List Branch) → GoodBranches (branches bs) → GoodSome drop bs
  good_list [] h = tt
  good_list (b ∷ bs) (x, z, hs) = (x, z, good_list bs hs)

  stay_list : (bs : List Branch) → some_stay (branches bs) ≡ some_left u drop out drop bs
  stay_list [] = refl
  stay_list (b ∷ bs) = ap (λ z. not (drop b.place) || z) (stay_list bs)

  pub good_whole : (r : Span) (bs : List Branch) → (bs ≡ [] → ⊥) → Good (whole_body r bs) → (some_left u drop out (drops_in u drop out bs) bs ≡ true) × GoodSome (drops_in u drop out bs) bs
  good_whole r [] some h = absurd (some refl)
  good_whole r (b ∷ []) some h = (refl, (λ e. absurd (true≢false (sym e)), λ e. h, tt))
  good_whole r (b ∷ c ∷ bs) some h = (sym (stay_list (b ∷ c ∷ bs)) ∙ h.0, good_list (b ∷ c ∷ bs) h.1)

  pub good_items_snoc : (ps : List SyntaxNode) (p : SyntaxNode) → GoodItems (ps ++ p ∷ []) → GoodItems ps × Good p
  good_items_snoc [] p (h, hs) = (tt, h)
  good_items_snoc (q ∷ ps) p (h, hs) = let r = good_items_snoc ps p hs in ((h, r.0), r.1)

  pub good_some_snoc : (d : Span → Bool) (bs : List Branch) (b : Branch) → GoodSome d (bs ++ b ∷ []) → GoodSome d bs × (d b.place ≡ true → node_names b.body ≡ []) × (d b.place ≡ false → Good b.body)
  good_some_snoc d [] b (x, z, hs) = (tt, x, z)
  good_some_snoc d (c ∷ bs) b (x, z, hs) = let r = good_some_snoc d bs b hs in ((x, z, r.0), r.1, r.2)

  pub cons_some : {A : Type 0} (xs : List A) (x : A) → xs ++ x ∷ [] ≡ [] → ⊥
  cons_some [] x h = absurd (cc h)
  cons_some (z ∷ xs) x h = absurd (cc h)

  -- Groups that aren't refused.
  pub record Plain (kd : Kind) : Type 0 where
    pub splits_on : (bs : List Branch) → splits kd bs ≡ true
    pub holes_of : (r : Span) (q : s.PatTree) (t : ℕ) → gone drop out (group_shape r kd q) t ≡ gone drop out q t
    pub tree_of : (r : Span) (q : s.PatTree) → lowered (group_shape r kd q) ≡ lowered q
    pub left_of : (r : Span) (q : s.PatTree) → lowered (remaining drop out (group_shape r kd q)) ≡ lowered (remaining drop out q)

  pub plain_kind : (kd : Kind) → is_plain kd ≡ true → Plain kd
  plain_kind capturing h = record { splits_on = λ bs. refl; holes_of = λ r q t. refl; tree_of = λ r q. refl; left_of = λ r q. refl }
  plain_kind (named n) h = record { splits_on = λ bs. refl; holes_of = λ r q t. refl; tree_of = λ r q. refl; left_of = λ r q. refl }
  plain_kind (scoped f g) h = record { splits_on = λ bs. refl; holes_of = λ r q t. refl; tree_of = λ r q. refl; left_of = λ r q. refl }
  plain_kind (lookaround b n) h = absurd (true≢false (sym h))
  plain_kind atomic h = absurd (true≢false (sym h))
  plain_kind conditional h = absurd (true≢false (sym h))

  kind_named : (i j : ℕ) (kd : Kind) → map name_of (kind_names i kd) ≡ map name_of (kind_names j kd)
  kind_named i j capturing = refl
  kind_named i j (named n) = refl
  kind_named i j (scoped f g) = refl
  kind_named i j (lookaround b n) = refl
  kind_named i j atomic = refl
  kind_named i j conditional = refl

  module _ (w : List ℕ) (kept : ℕ → Bool) (g : ℕ → ℕ) where
    text : Bool
    text = is_text u

    -- The codes from `i` up to `j` are kept unless they are in these holes.
    abbrev pub Agrees : ℕ → ℕ → (ℕ → Bool) → Type 0
    Agrees i j f = (t : ℕ) → i ≤ t → t < j → kept t ≡ not (f t)

    pub agree_to : (f : ℕ → Bool) {i j : ℕ} (h : ℕ → Bool) → ((t : ℕ) → i ≤ t → t < j → f t ≡ h t) → Agrees i j f → Agrees i j h
    agree_to f h e a t x z = a t x z ∙ ap not (e t x z)

    pub all_kept : (f : ℕ → Bool) (i j : ℕ) → ((t : ℕ) → i ≤ t → t < j → f t ≡ true → ⊥) → Agrees i j f → AllKept (is_text u) w kept g i j
    all_kept f i j no_hole a t x z = a t x z ∙ ap not (no_true (f t) (no_hole t x z))

    pub all_gone : (f : ℕ → Bool) (i j : ℕ) → i ≤ j → ((t : ℕ) → i ≤ t → t < j → f t ≡ true) → Agrees i j f → AllGone (is_text u) w kept g i j
    all_gone f i j l holed a = (l, λ t x z. a t x z ∙ ap not (holed t x z))

    pub agree_part : (f : ℕ → Bool) {i j : ℕ} (a b : ℕ) → i ≤ a → b ≤ j → Agrees i j f → Agrees a b f
    agree_part f a b l m h t x z = h t (omega (arith, l, x)) (omega (arith, m, z))

    pub left_or : (a b : Bool) → (b ≡ true → ⊥) → (a || b) ≡ a
    left_or a b h = ap (λ z. a || z) (no_true b h) ∙ or_false a

    pub right_or : (a b : Bool) → (a ≡ true → ⊥) → (a || b) ≡ b
    right_or a b h = ap (λ z. z || b) (no_true a h)

    -- What is left of an atom.
    pub record AtomLinks (fl : Flags) (i j : ℕ) (p : SyntaxNode) : Type 0 where
      pub what : SyntaxNode
      pub is_left : LeftAtom (is_text u) w kept g fl i j what
      pub leaves : Leaves u drop out p what
      pub edge : AlikeEdge u drop out p what

    pub record ItemLinks (fl : Flags) (i j : ℕ) (p : SyntaxNode) : Type 0 where
      pub what : SyntaxNode
      pub is_left : {h : ℕ} {qs : List SyntaxNode} → LeftItems (is_text u) w kept g fl h i qs → LeftItems (is_text u) w kept g fl h j (qs ++ what ∷ [])
      pub leaves : Leaves u drop out p what
      pub edge : AlikeEdge u drop out p what

    pub record ItemsLink (fl : Flags) (i j : ℕ) (ps : List SyntaxNode) : Type 0 where
      pub what : List SyntaxNode
      pub is_left : LeftItems (is_text u) w kept g fl i j what
      pub leaves : LeavesAll u drop out ps what

    -- Some branches are left, or all are gone.
    pub record SomeLink (kd : Kind) (fl : Flags) (d : Span → Bool) (i j : ℕ) (bs : List Branch) : Type 0 where
      pub what : List Branch
      pub some : some_left u drop out d bs ≡ true
      pub is_left : LeftBranches (is_text u) w kept g kd fl i j what
      pub leaves : LeavesSome u drop out d bs what

    pub record NoneLeft (d : Span → Bool) (i j : ℕ) (bs : List Branch) : Type 0 where
      pub none_stays : some_left u drop out d bs ≡ false
      pub gone_all : AllGone (is_text u) w kept g i j
      pub leaves : LeavesSome u drop out d bs []

    leaf_links : {fl : Flags} {i j : ℕ} (r : Span) (f : Flags) (x : Leaf) → Atom (is_text u) w fl i j (leaf r f x) → AllKept (is_text u) w kept g i j → AtomLinks fl i j (leaf r f x)
    leaf_links r f x a k =
        record {
          what = moved g (leaf r f x);
          is_left = left_leaf a refl k;
          leaves = record { same = ap y.one (codes_same g u f x); faultless = leaf_moved g r (moved_span g r) x refl; names = refl; nested = λ n z. z };
          edge = record { leads = refl; trails = refl; stays_item = refl };
        }

    blanks_left : {fl : Flags} {h i j : ℕ} {qs : List SyntaxNode} → Blanks (is_text u) w fl i j → AllKept (is_text u) w kept g i j → LeftItems (is_text u) w kept g fl h i qs → LeftItems (is_text u) w kept g fl h j qs
    blanks_left no_blank k l = l
    blanks_left (one_blank {j = m} bl p) k l =
        left_passed (blanks_left bl (λ t a b. k t a (omega (arith, b, passed_lt (is_text u) w p))) l) p (λ t a b. k t (omega (arith, a, blanks_le (is_text u) w bl)) b)

    mark_tree : (r t : Span) (f : Flags) (m : Assertion) → lowered (mark_shape u t f m) ≡ lowered (remaining drop out (mark_shape u r f m))
    mark_tree r t f caret = refl
    mark_tree r t f text_start = refl
    mark_tree r t f dollar = refl
    mark_tree r t f text_end = refl
    mark_tree r t f (boundary n) = refl

    mark_fine : (r t : Span) (f : Flags) (m : Assertion) → mark_faults r f m ≡ [] → mark_faults t f m ≡ []
    mark_fine r t f caret h = refl
    mark_fine r t f text_start h = refl
    mark_fine r t f dollar h = fault_moved (not f.multiline) r.from t.from is_inner_anchor h
    mark_fine r t f text_end h = refl
    mark_fine r t f (boundary n) h = refl

    mark_edge : (r t : Span) (f : Flags) (m : Assertion) → AlikeEdge u drop out (mark r f m) (mark t f m)
    mark_edge r t f caret = record { leads = refl; trails = refl; stays_item = refl }
    mark_edge r t f text_start = record { leads = refl; trails = refl; stays_item = refl }
    mark_edge r t f dollar = record { leads = refl; trails = refl; stays_item = refl }
    mark_edge r t f text_end = record { leads = refl; trails = refl; stays_item = refl }
    mark_edge r t f (boundary n) = record { leads = refl; trails = refl; stays_item = refl }

    mark_no_hole : (r : Span) (f : Flags) (m : Assertion) (t : ℕ) → gone drop out (mark_shape u r f m) t ≡ false
    mark_no_hole r f caret t = refl
    mark_no_hole r f text_start t = refl
    mark_no_hole r f dollar t = refl
    mark_no_hole r f text_end t = refl
    mark_no_hole r f (boundary n) t = refl

    mark_links : {fl : Flags} {i j : ℕ} (r : Span) (m : Assertion) → Item (is_text u) w fl i j (mark r fl m) → Agrees i j (hole_in (mark r fl m)) → ItemLinks fl i j (mark r fl m)
    mark_links {fl} r m a ag =
        record {
          what = moved g (mark r fl m);
          is_left = λ l. left_item l (left_mark a refl (λ t x z. ag t x z ∙ ap not (mark_no_hole r fl m t)));
          leaves = record { same = mark_tree r (moved_span g r) fl m; faultless = mark_fine r (moved_span g r) fl m; names = refl; nested = λ n z. z };
          edge = mark_edge r (moved_span g r) fl m;
        }

    -- An atom isn't an outer anchor.
    atom_leads : {fl : Flags} {i j : ℕ} {p : SyntaxNode} → Atom (is_text u) w fl i j p → (h : AtomLinks fl i j p) → is_leading h.what ≡ false
    atom_leads a h = h.edge.leads ∙ no_lead a
      where
        no_lead : {fl : Flags} {i j : ℕ} {p : SyntaxNode} → Atom (is_text u) w fl i j p → is_leading p ≡ false
        no_lead (literal x z) = refl
        no_lead (literal_brace x z) = refl
        no_lead (dotted x) = refl
        no_lead (escaped x) = refl
        no_lead (refers q n z) = refl
        no_lead (bracketed h ms z) = refl
        no_lead (grouped o hs z) = refl

    atom_trails : {fl : Flags} {i j : ℕ} {p : SyntaxNode} → Atom (is_text u) w fl i j p → (h : AtomLinks fl i j p) → trail_of h.what ≡ no_trail
    atom_trails a h = h.edge.trails ∙ no_tail a
      where
        no_tail : {fl : Flags} {i j : ℕ} {p : SyntaxNode} → Atom (is_text u) w fl i j p → trail_of p ≡ no_trail
        no_tail (literal x z) = refl
        no_tail (literal_brace x z) = refl
        no_tail (dotted x) = refl
        no_tail (escaped x) = refl
        no_tail (refers q n z) = refl
        no_tail (bracketed h ms z) = refl
        no_tail (grouped o hs z) = refl

    -- An item whose quantifier is kept or gone.
    repeat_links : {fl : Flags} {i j k l : ℕ} {p : SyntaxNode} {n : Count} {r : Greed} → Atom (is_text u) w fl i j p → Blanks (is_text u) w fl j k → Quantifier (is_text u) w k l n r → Agrees i l (hole_in (repeat (span i l) (span k l) n r p)) → AtomLinks fl i j p → ItemLinks fl i l (repeat (span i l) (span k l) n r p)
    repeat_links {fl} {i} {j} {k} {l} {p} {n} {r} a bl q ag h = go (out (span k l)) refl
      where
        f : ℕ → Bool
        f = hole_in (repeat (span i l) (span k l) n r p)

        le : j ≤ k
        le = blanks_le (is_text u) w bl

        lt : k < l
        lt = quantifier_lt (is_text u) w q

        lt0 : i < j
        lt0 = atom_lt (is_text u) w a

        between : AllKept (is_text u) w kept g j k
        between = all_kept f j k (λ t x z e. ⊎_elim (λ (y : (out (span k l) && lies_in k l t) ≡ true). omega (arith, z, (lies_from k l t (and_second (out (span k l)) (lies_in k l t) y)).0)) (λ (y : hole_in p t ≡ true). omega (arith, x, (atom_within u drop out w a t y).1)) (or_cases (out (span k l) && lies_in k l t) (hole_in p t) e)) (agree_part f j k (omega (arith, lt0)) (omega (arith, lt)) ag)

        same_out : (b : Bool) → out (span k l) ≡ b → left_tree u drop out (repeat (span i l) (span k l) n r p) ≡ lowered (if b then remaining drop out (shape u p) else s.repeat (span i l) (span k l) n.least n.most (is_greedy r) (remaining drop out (shape u p)))
        same_out b e = ap (λ z. lowered (if z then remaining drop out (shape u p) else s.repeat (span i l) (span k l) n.least n.most (is_greedy r) (remaining drop out (shape u p)))) e

        go : (b : Bool) → out (span k l) ≡ b → ItemLinks fl i l (repeat (span i l) (span k l) n r p)
        go true e =
            record {
              what = h.what;
              is_left = λ x. left_unmarked (blanks_left bl between (left_item x (left_once h.is_left))) (all_gone f k l (omega (arith, lt)) (λ t x z. ap (λ b. b && lies_in k l t || hole_in p t) e ∙ ap (λ b. b || hole_in p t) (lies_to k l t x z)) (agree_part f k l (omega (arith, lt0, le)) (omega arith) ag));
              leaves = record { same = h.leaves.same ∙ sym (same_out true e); faultless = λ fine. h.leaves.faultless (nil_parts (count_faults k n r) (node_faults (is_text u) p) fine).1; names = h.leaves.names; nested = h.leaves.nested };
              edge = record { leads = atom_leads a h; trails = atom_trails a h; stays_item = h.edge.stays_item };
            }
        go false e =
            record {
              what = repeat (span (g i) (g l)) (span (g k) (g l)) n r h.what;
              is_left = λ x. left_item x (left_repeat h.is_left bl between q (all_kept f k l (λ t x z y. ⊎_elim (λ (v : (out (span k l) && lies_in k l t) ≡ true). true≢false (sym (and_first (out (span k l)) (lies_in k l t) v) ∙ e)) (λ (v : hole_in p t ≡ true). omega (arith, x, le, (atom_within u drop out w a t v).1)) (or_cases (out (span k l) && lies_in k l t) (hole_in p t) y)) (agree_part f k l (omega (arith, lt0, le)) (omega arith) ag)));
              leaves = record { same = ap (times n.least n.most (is_greedy r)) h.leaves.same ∙ sym (same_out false e); faultless = λ fine. let fs = nil_parts (count_faults k n r) (node_faults (is_text u) p) fine in nil_join (count_faults (g k) n r) (node_faults (is_text u) h.what) (count_moved k (g k) n r fs.0) (h.leaves.faultless fs.1); names = h.leaves.names; nested = h.leaves.nested };
              edge = record { leads = refl; trails = refl; stays_item = refl };
            }

    -- The `|` after branches none of which is left.
    pub bar_gone : {kd : Kind} {fl : Flags} {i j : ℕ} {bs : List Branch} → IsBranches (is_text u) w kd fl i j bs → (d : Span → Bool) → some_left u drop out d bs ≡ false → branch_holes u drop out d bs false j ≡ true
    bar_gone (first_branch {i = i} {j = j} {ps = ps} h) d e =
        let is = not_false (d (span i j)) (sym (or_false (not (d (span i j)))) ∙ e) in
        ap (λ z. (if z then lies_in i (suc j) j else hole_in (branch_body (span i j) ps) j) || false) is ∙ ap (λ z. z || false) (lies_to i (suc j) j (items_le (is_text u) w h) (omega arith))
    bar_gone (next_branch {j = j} {k = k} {bs = bs} {ps = ps} h at_j may hs) d e =
        let b = branch (span (suc j) k) ps in
        let parts = or_none (some_left u drop out d bs) (not (d (span (suc j) k))) (sym (some_left_snoc u drop out d bs b) ∙ e) in
        let is = not_false (d (span (suc j) k)) parts.1 in
        branch_holes_snoc u drop out d bs b false k ∙ ap (λ z. branch_holes u drop out d bs false k || z) (ap (λ z. hole_of u drop out d z b k) parts.0 ∙ ap (λ z. if z then lies_in (suc j) (suc k) k else hole_in (branch_body (span (suc j) k) ps) k) is ∙ lies_to (suc j) (suc k) k (items_le (is_text u) w hs) (omega arith)) ∙ or_yes (branch_holes u drop out d bs false k)

    pub no_branch : {kd : Kind} {fl : Flags} {i j : ℕ} {bs : List Branch} → IsBranches (is_text u) w kd fl i j bs → bs ≡ [] → ⊥
    no_branch (first_branch h) e = cc e
    no_branch (next_branch {bs = bs} h at_j may hs) e = cons_some bs _ e

    -- One more branch after others.
    next_some : {kd : Kind} {fl : Flags} {i j k : ℕ} {bs : List Branch} {ps : List SyntaxNode} → Plain kd → IsBranches (is_text u) w kd fl i j bs → At (is_text u) w j 124 → Items (is_text u) w fl (suc j) k ps → (d : Span → Bool) → (d (span (suc j) k) ≡ true → node_names (branch_body (span (suc j) k) ps) ≡ [])
        → Agrees i k (branch_holes u drop out d (bs ++ branch (span (suc j) k) ps ∷ []) false) → (d (span (suc j) k) ≡ false → Agrees (suc j) k (holes u drop out ps) → ItemsLink fl (suc j) k ps) → SomeLink kd fl d i j bs ⊎ NoneLeft d i j bs → SomeLink kd fl d i k (bs ++ branch (span (suc j) k) ps ∷ []) ⊎ NoneLeft d i k (bs ++ branch (span (suc j) k) ps ∷ [])
    next_some {kd} {fl} {i} {j} {k} {bs} {ps} plain h at_j hs d nameless ag items before = go (d (span (suc j) k)) refl before
      where
        b : Branch
        b = branch (span (suc j) k) ps

        f : ℕ → Bool
        f = branch_holes u drop out d (bs ++ b ∷ []) false

        le : i ≤ j
        le = branches_le (is_text u) w h

        le2 : suc j ≤ k
        le2 = items_le (is_text u) w hs

        some : Bool
        some = some_left u drop out d bs

        parts : (t : ℕ) → f t ≡ (branch_holes u drop out d bs false t || hole_of u drop out d some b t)
        parts t = branch_holes_snoc u drop out d bs b false t

        one : (x : Bool) → d (span (suc j) k) ≡ x → (t : ℕ) → hole_of u drop out d some b t ≡ (if x then in_dropped some (span (suc j) k) t else hole_in b.body t)
        one x e t = ap (λ z. if z then in_dropped some (span (suc j) k) t else hole_in b.body t) e

        in_body : (t : ℕ) → hole_in b.body t ≡ true → (suc j ≤ t) × (t < k)
        in_body t e = items_within u drop out w hs t (sym (body_holes u drop out (span (suc j) k) ps t) ∙ e)

        -- The earlier branches come before it.
        past : (t : ℕ) → suc j ≤ t → branch_holes u drop out d bs false t ≡ true → ⊥
        past t x e = omega (arith, x, (branches_within u drop out w h d t e).1)

        -- The last branch has its items.
        items_agree : d (span (suc j) k) ≡ false → Agrees (suc j) k (holes u drop out ps)
        items_agree e = agree_to f (holes u drop out ps) (λ t x z. parts t ∙ right_or (branch_holes u drop out d bs false t) (hole_of u drop out d some b t) (past t x) ∙ one false e t ∙ body_holes u drop out (span (suc j) k) ps t) (agree_part f (suc j) k (omega (arith, le)) (omega arith) ag)

        -- The last branch comes after them.
        last_at : (t : ℕ) → hole_of u drop out d some b t ≡ true → j ≤ t
        last_at t e = ⊎_elim (λ (y : (d (span (suc j) k) ≡ true) × (in_dropped some (span (suc j) k) t ≡ true)). (dropped_within u drop out w j k some t le2 y.1).0) (λ (y : (d (span (suc j) k) ≡ false) × (hole_in b.body t ≡ true)). omega (arith, (in_body t y.1).0)) (cond_cases (d (span (suc j) k)) (in_dropped some (span (suc j) k) t) (hole_in b.body t) e)

        before_last : NoneLeft d i j bs → (t : ℕ) → t < j → hole_of u drop out d some b t ≡ true → ⊥
        before_last r t x e = omega (arith, x, last_at t e)

        -- What is gone before it, including the `|` between.
        gone_to : NoneLeft d i j bs → (t : ℕ) → i ≤ t → t < suc j → branch_holes u drop out d bs false t ≡ true
        gone_to r t x z =
            ⊎_elim (λ (y : (t == j) ≡ true). ap (branch_holes u drop out d bs false) (eqb-true t j y) ∙ bar_gone h d r.none_stays)
            (λ (y : (t == j) ≡ false). let lt : t < j = omega (arith, z, eqb-false t j y) in not_false (branch_holes u drop out d bs false t) (sym (ap not (parts t ∙ left_or (branch_holes u drop out d bs false t) (hole_of u drop out d some b t) (before_last r t lt))) ∙ sym (ag t x (omega (arith, lt, le2))) ∙ r.gone_all.1 t x lt))
            (cases_Bool (t == j))

        go : (x : Bool) → d (span (suc j) k) ≡ x → SomeLink kd fl d i j bs ⊎ NoneLeft d i j bs → SomeLink kd fl d i k (bs ++ b ∷ []) ⊎ NoneLeft d i k (bs ++ b ∷ [])
        go false e (inl r) =
            let its = items e (items_agree e) in
            let bar : kept j ≡ true = all_kept f j (suc j) (λ t x z y. let same : t ≡ j = omega (arith, x, z) in ⊎_elim (λ (v : branch_holes u drop out d bs false t ≡ true). true≢false (sym r.some ∙ (branches_within u drop out w h d t v).2 same)) (λ (v : hole_of u drop out d some b t ≡ true). omega (arith, z, (in_body t (sym (one false e t) ∙ v)).0)) (or_cases (branch_holes u drop out d bs false t) (hole_of u drop out d some b t) (sym (parts t) ∙ y))) (agree_part f j (suc j) le le2 ag) j (omega arith) (omega arith) in
            let c = branch (span (g (suc j)) (g k)) its.what in
            inl (record {
              what = r.what ++ c ∷ [];
              some = some_left_snoc u drop out d bs b ∙ ap (λ z. z || not (d (span (suc j) k))) r.some;
              is_left = left_next r.is_left at_j bar (plain.splits_on r.what) its.is_left;
              leaves = stays_snoc u drop out (span (suc j) k) (span (g (suc j)) (g k)) ps its.what r.leaves e (items_are hs) its.leaves;
            })
        go true e (inl r) =
            inl (record {
              what = r.what;
              some = some_left_snoc u drop out d bs b ∙ ap (λ z. z || not (d (span (suc j) k))) r.some;
              is_left = left_gone r.is_left (all_gone f j k (omega (arith, le2)) (λ t x z. parts t ∙ ap (λ y. branch_holes u drop out d bs false t || y) (one true e t ∙ ap (λ y. in_dropped y (span (suc j) k) t) r.some ∙ lies_to (suc j - 1) k t (omega (arith, x)) z) ∙ or_yes (branch_holes u drop out d bs false t)) (agree_part f j k le (omega arith) ag));
              leaves = goes_snoc u drop out b r.leaves e (nameless e);
            })
        go false e (inr r) =
            let its = items e (items_agree e) in
            let c = branch (span (g (suc j)) (g k)) its.what in
            let up_to : AllGone (is_text u) w kept g i (suc j) = all_gone f i (suc j) (omega (arith, le)) (λ t x z. parts t ∙ ap (λ y. y || hole_of u drop out d some b t) (gone_to r t x z)) (agree_part f i (suc j) (omega arith) le2 ag) in
            inl (record {
              what = c ∷ [];
              some = some_left_snoc u drop out d bs b ∙ ap (λ z. some || not z) e ∙ or_yes some;
              is_left = left_first up_to its.is_left;
              leaves = stays_snoc u drop out (span (suc j) k) (span (g (suc j)) (g k)) ps its.what r.leaves e (items_are hs) its.leaves;
            })
        go true e (inr r) =
            inr (record {
              none_stays = some_left_snoc u drop out d bs b ∙ ap (λ z. z || not (d (span (suc j) k))) r.none_stays ∙ ap not e;
              gone_all = all_gone f i k (omega (arith, le, le2)) (λ t x z. parts t ∙ ⊎_elim (λ (y : nat_lt t (suc j) ≡ true). ap (λ v. v || hole_of u drop out d some b t) (gone_to r t x (ltb-true t (suc j) y))) (λ (y : nat_lt t (suc j) ≡ false). ap (λ v. branch_holes u drop out d bs false t || v) (one true e t ∙ ap (λ v. in_dropped v (span (suc j) k) t) r.none_stays ∙ lies_to (suc j) (suc k) t (ltb-false t (suc j) y) (omega (arith, z))) ∙ or_yes (branch_holes u drop out d bs false t)) (cases_Bool (nat_lt t (suc j)))) ag;
              leaves = goes_snoc u drop out b r.leaves e (nameless e);
            })

    first_some : {kd : Kind} {fl : Flags} {i j : ℕ} {ps : List SyntaxNode} → Items (is_text u) w fl i j ps → (d : Span → Bool) → (d (span i j) ≡ true → node_names (branch_body (span i j) ps) ≡ []) → Agrees i j (branch_holes u drop out d (branch (span i j) ps ∷ []) false) → (d (span i j) ≡ false → Agrees i j (holes u drop out ps) → ItemsLink fl i j ps)
        → SomeLink kd fl d i j (branch (span i j) ps ∷ []) ⊎ NoneLeft d i j (branch (span i j) ps ∷ [])
    first_some {kd} {fl} {i} {j} {ps} h d nameless ag items = go (d (span i j)) refl
      where
        b : Branch
        b = branch (span i j) ps

        f : ℕ → Bool
        f = branch_holes u drop out d (b ∷ []) false

        one : (x : Bool) → d (span i j) ≡ x → (t : ℕ) → f t ≡ (if x then lies_in i (suc j) t else hole_in b.body t)
        one x e t = or_false (hole_of u drop out d false b t) ∙ ap (λ z. if z then lies_in i (suc j) t else hole_in b.body t) e

        go : (x : Bool) → d (span i j) ≡ x → SomeLink kd fl d i j (b ∷ []) ⊎ NoneLeft d i j (b ∷ [])
        go true e = inr (record { none_stays = ap (λ z. not z || false) e; gone_all = all_gone f i j (items_le (is_text u) w h) (λ t x z. one true e t ∙ lies_to i (suc j) t x (omega (arith, z))) ag; leaves = some_goes e (nameless e) some_none })
        go false e =
            let its = items e (agree_to f (holes u drop out ps) (λ t x z. one false e t ∙ body_holes u drop out (span i j) ps t) ag) in
            inl (record {
              what = branch (span (g i) (g j)) its.what ∷ [];
              some = ap (λ z. not z || false) e;
              is_left = left_first (omega arith, λ t x z. absurd (omega (arith, x, z))) its.is_left;
              leaves = some_stays e (items_are h) its.leaves some_none;
            })

    -- The branches before the last one have their own holes.
    pub first_agree : {kd : Kind} {fl : Flags} {i j k : ℕ} {bs : List Branch} {ps : List SyntaxNode} → IsBranches (is_text u) w kd fl i j bs → Items (is_text u) w fl (suc j) k ps → (d : Span → Bool) → Agrees i k (branch_holes u drop out d (bs ++ branch (span (suc j) k) ps ∷ []) false) → Agrees i j (branch_holes u drop out d bs false)
    first_agree {i = i} {j = j} {k = k} {bs = bs} {ps = ps} h hs d ag =
        let b = branch (span (suc j) k) ps in
        let some = some_left u drop out d bs in
        let le2 = items_le (is_text u) w hs in
        let f = branch_holes u drop out d (bs ++ b ∷ []) false in
        agree_to f (branch_holes u drop out d bs false) (λ t x z. branch_holes_snoc u drop out d bs b false t ∙ left_or (branch_holes u drop out d bs false t) (hole_of u drop out d some b t) (λ e. ⊎_elim (λ (y : (d (span (suc j) k) ≡ true) × (in_dropped some (span (suc j) k) t ≡ true)). omega (arith, z, (dropped_within u drop out w j k some t le2 y.1).0)) (λ (y : (d (span (suc j) k) ≡ false) × (hole_in b.body t ≡ true)). omega (arith, z, (items_within u drop out w hs t (sym (body_holes u drop out (span (suc j) k) ps t) ∙ y.1)).0)) (cond_cases (d (span (suc j) k)) (in_dropped some (span (suc j) k) t) (hole_in b.body t) e))) (agree_part f i j (omega arith) (omega (arith, le2)) ag)

    pub some_of : {kd : Kind} {fl : Flags} {i j : ℕ} {bs : List Branch} (d : Span → Bool) → some_left u drop out d bs ≡ true → SomeLink kd fl d i j bs ⊎ NoneLeft d i j bs → SomeLink kd fl d i j bs
    some_of d e (inl r) = r
    some_of d e (inr r) = absurd (true≢false (sym e ∙ r.none_stays))

    group_leaves : (i k : ℕ) (kd : Kind) (r a : Span) (bs cs : List Branch) → Plain kd → Leaves u drop out (whole_body r bs) (whole_body a cs) → Leaves u drop out (group (span i (suc k)) kd (whole_body r bs)) (group (span (g i) (g (suc k))) kd (whole_body a cs))
    group_leaves i k kd r a bs cs plain h =
        record {
          same = plain.tree_of (span (g i) (g (suc k))) (shape u (whole_body a cs)) ∙ h.same ∙ sym (plain.left_of (span i (suc k)) (shape u (whole_body r bs)));
          faultless = λ fine. let fs = nil_parts (kind_faults (is_text u) i kd) (node_faults (is_text u) (whole_body r bs)) fine in nil_join (kind_faults (is_text u) (g i) kd) (node_faults (is_text u) (whole_body a cs)) (kind_moved (is_text u) i (g i) kd fs.0) (h.faultless fs.1);
          names = map-append name_of (kind_names (g i) kd) (node_names (whole_body a cs)) ∙ ap (λ z. z ++ names_of (whole_body a cs)) (kind_named (g i) i kd) ∙ ap (λ z. map name_of (kind_names i kd) ++ z) h.names ∙ sym (map-append name_of (kind_names i kd) (node_names (whole_body r bs)));
          nested = λ n x. under_more h.nested n x;
        }

    mutual
      pub atom_links : {fl : Flags} {i j : ℕ} {p : SyntaxNode} → Atom (is_text u) w fl i j p → Good p → Agrees i j (hole_in p) → AtomLinks fl i j p
      atom_links {fl} {i} {j} {p} (literal x z) gd ag = leaf_links _ _ _ (literal x z) ag
      atom_links (literal_brace x z) gd ag = leaf_links _ _ _ (literal_brace x z) ag
      atom_links (dotted x) gd ag = leaf_links _ _ _ (dotted x) ag
      atom_links (escaped x) gd ag = leaf_links _ _ _ (escaped x) ag
      atom_links (refers q n z) gd ag = leaf_links _ _ _ (refers q n z) ag
      atom_links (bracketed h ms z) gd ag = leaf_links _ _ _ (bracketed h ms z) ag
      atom_links {fl} (grouped {i = i} {j = j} {k = k} {kd = kd} {bs = bs} o hs at_k) gd ag =
          let r = span j k in
          let plain = plain_kind kd gd.0 in
          let d = drops_in u drop out bs in
          let good = good_whole r bs (no_branch hs) gd.1 in
          let f = branch_holes u drop out d bs false in
          let ag2 : Agrees i (suc k) f = agree_to (hole_in (group (span i (suc k)) kd (whole_body r bs))) f (λ t x z. plain.holes_of (span i (suc k)) (shape u (whole_body r bs)) t ∙ whole_holes u drop out r bs t) ag in
          let lt = opening_lt (is_text u) w o in
          let le = branches_le (is_text u) w hs in
          let open_kept : AllKept (is_text u) w kept g i j = all_kept f i j (λ t x z e. omega (arith, z, (branches_within u drop out w hs d t e).0)) (agree_part f i j (omega arith) (omega (arith, le)) ag2) in
          let close_kept : kept k ≡ true = all_kept f k (suc k) (λ t x z e. let w2 = branches_within u drop out w hs d t e in true≢false (sym good.0 ∙ w2.2 (omega (arith, x, z)))) (agree_part f k (suc k) (omega (arith, lt, le)) (omega arith) ag2) k (omega arith) (omega arith) in
          let some = some_of d good.0 (branches_links hs d good.1 plain (agree_part f j k (omega (arith, lt)) (omega arith) ag2)) in
          record {
            what = group (span (g i) (g (suc k))) kd (whole_body (span (g j) (g k)) some.what);
            is_left = left_group o open_kept some.is_left at_k close_kept;
            leaves = group_leaves i k kd r (span (g j) (g k)) bs some.what plain (whole_leaves u drop out r (span (g j) (g k)) bs some.what some.leaves);
            edge = record { leads = refl; trails = refl; stays_item = refl };
          }

      pub item_links : {fl : Flags} {i j : ℕ} {p : SyntaxNode} → Item (is_text u) w fl i j p → Good p → Agrees i j (hole_in p) → ItemLinks fl i j p
      item_links (once a) gd ag = let h = atom_links a gd ag in record { what = h.what; is_left = λ x. left_item x (left_once h.is_left); leaves = h.leaves; edge = h.edge }
      item_links (repeated {i = i} {j = j} {k = k} {l = l} {p = p} {n = n} {g = r} a bl q) gd ag =
          let le = blanks_le (is_text u) w bl in
          let lt = quantifier_lt (is_text u) w q in
          let f = hole_in (repeat (span i l) (span k l) n r p) in
          let inner : Agrees i j (hole_in p) = agree_to f (hole_in p) (λ t x z. right_or (out (span k l) && lies_in k l t) (hole_in p t) (λ e. omega (arith, z, le, (lies_from k l t (and_second (out (span k l)) (lies_in k l t) e)).0))) (agree_part f i j (omega arith) (omega (arith, le, lt)) ag) in
          repeat_links a bl q ag (atom_links a gd inner)
      item_links {fl} (edge_code {i = i} {m = m} x z) gd ag = mark_links (span i (suc i)) m (edge_code x z) ag
      item_links {fl} (edge_escape {i = i} {m = m} x) gd ag = mark_links (span i (suc (suc i))) m (edge_escape x) ag

      pub items_links : {fl : Flags} {i j : ℕ} {ps : List SyntaxNode} → Items (is_text u) w fl i j ps → GoodItems ps → Agrees i j (holes u drop out ps) → ItemsLink fl i j ps
      items_links no_items gd ag = record { what = []; is_left = left_none; leaves = all_none }
      items_links (pass_over {i = i} {j = j} {k = k} {ps = ps} h p) gd ag =
          let lt = passed_lt (is_text u) w p in
          let f = holes u drop out ps in
          let r = items_links h gd (agree_part f i j (omega arith) (omega (arith, lt)) ag) in
          let le = items_le (is_text u) w h in
          record { what = r.what; is_left = left_passed r.is_left p (all_kept f j k (λ t x z e. omega (arith, x, (items_within u drop out w h t e).1)) (agree_part f j k le (omega arith) ag)); leaves = r.leaves }
      items_links (one_item {i = i} {j = j} {k = k} {ps = ps} {p = p} h it) gd ag =
          let lt = item_lt (is_text u) w it in
          let le = items_le (is_text u) w h in
          let f = holes u drop out (ps ++ p ∷ []) in
          let gs = good_items_snoc ps p gd in
          let r = items_links h gs.0 (agree_to f (holes u drop out ps) (λ t x z. holes_snoc u drop out ps p t ∙ left_or (holes u drop out ps t) (hole_in p t) (λ e. omega (arith, z, (item_within u drop out w it t e).0))) (agree_part f i j (omega arith) (omega (arith, lt)) ag)) in
          let s = item_links it gs.1 (agree_to f (hole_in p) (λ t x z. holes_snoc u drop out ps p t ∙ right_or (holes u drop out ps t) (hole_in p t) (λ e. omega (arith, x, (items_within u drop out w h t e).1))) (agree_part f j k le (omega arith) ag)) in
          record { what = r.what ++ s.what ∷ []; is_left = s.is_left r.is_left; leaves = all_snoc u drop out r.leaves s.leaves s.edge }

      pub branches_links : {kd : Kind} {fl : Flags} {i j : ℕ} {bs : List Branch} → IsBranches (is_text u) w kd fl i j bs → (d : Span → Bool) → GoodSome d bs → Plain kd → Agrees i j (branch_holes u drop out d bs false) → SomeLink kd fl d i j bs ⊎ NoneLeft d i j bs
      branches_links {kd} {fl} (first_branch {i = i} {j = j} {ps = ps} h) d gd plain ag = first_some h d gd.0 ag (λ e a. items_links h (good_body (span i j) ps (gd.1 e)) a)
      branches_links {kd} {fl} (next_branch {i = i} {j = j} {k = k} {bs = bs} {ps = ps} h at_j may hs) d gd plain ag =
          let b = branch (span (suc j) k) ps in
          let gs = good_some_snoc d bs b gd in
          next_some plain h at_j hs d gs.1 ag (λ e a. items_links hs (good_body (span (suc j) k) ps (gs.2 e)) a) (branches_links h d gs.0 plain (first_agree h hs d ag))
