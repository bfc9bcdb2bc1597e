-- Syntax trees that are equal except for positions and for what is removed.
use Rattle.std.proofs.Common.{nat_lt, flat_map, ◌≡◌, ℕ, Bool, true, false, not, ◌||◌, ◌&&◌, ◌==◌, if◌then◌else◌, List, [], ◌∷◌, ◌++◌, map, refl, sym, ap, ◌∙◌, true≢false}
use Rattle.std.proofs.lemmas.List.{map-append}
use mathlib.Core.Logic.{inl, inr}
use Rattle.rl_ranges.specs.declared.universe.Universe.{Universe}
use Rattle.rl_syntax.specs.Tree as y
use Rattle.rl_syntax.specs.PatTree as s
use Rattle.rl_syntax.specs.Lowering.{in_turn, one_of, lowered, items_lowered, branches_lowered}
use Rattle.rl_pattern.specs.declared.flags.Flags.{Flags}
use Rattle.rl_pattern.specs.Tree.{Span, Count, Greed, Escaped, code, too_large, by_name, kind, reference, Member, one, range, Leaf, any, glyph, members, Kind, capturing, named, scoped, lookaround, atomic, conditional, SyntaxNode, nodes, branches, Branch, branch_body, branch, whole_body}
use Rattle.rl_pattern.specs.internal.LeafSets.{some_member}
use Rattle.rl_pattern.specs.Found.{is_bound, Feature, fault_if, escaped_faults, member_faults, leaf_faults, count_faults, kind_faults, node_faults, nodes_faults, branches_faults, Called, node_names, nodes_names, branches_names, is_leading, trail_of, reversed, is_possessive, overlap, is_locale, is_flag_clash, is_repeat_too_large, is_repeat_order, is_possessive_count, is_reversed_range}
use Rattle.rl_pattern.specs.Shape.{is_text, shape, shapes, branch_shapes}
use Rattle.rl_pattern.specs.LeafCodes.{leaf_codes, within, code_member, kind_member, members_hold, closing}
use Rattle.rl_pattern.specs.Cut.{choice_of, remaining, remaining_items, remaining_branches}
use Rattle.rl_pattern.specs.internal.Left.{moved_member, moved_leaf}
use Rattle.rl_pattern.proofs.Holes.{drops_in}
use Rattle.rl_pattern.proofs.InnerBare.{is_item, AllItems}
use Rattle.rl_pattern.proofs.Nesting.{Has, HasSome, HasBranch}

pub nil_parts : {A : Type 0} (xs ys : List A) → xs ++ ys ≡ [] → (xs ≡ []) × (ys ≡ [])
nil_parts [] ys h = (refl, h)
nil_parts (x ∷ xs) ys h = absurd (cc h)

pub nil_join : {A : Type 0} (xs ys : List A) → xs ≡ [] → ys ≡ [] → xs ++ ys ≡ []
nil_join xs ys p q = ap (λ z. z ++ ys) p ∙ q

-- A fault at one position is a fault at any position.
pub fault_moved : (b : Bool) (i j : ℕ) (f : Feature) → fault_if b i f ≡ [] → fault_if b j f ≡ []
fault_moved true i j f h = absurd (cc h)
fault_moved false i j f h = refl

escaped_moved : (i j : ℕ) (e : Escaped) → escaped_faults i e ≡ [] → escaped_faults j e ≡ []
escaped_moved i j (code c) h = refl
escaped_moved i j too_large h = absurd (cc h)
escaped_moved i j by_name h = absurd (cc h)
escaped_moved i j (kind k n) h = refl
escaped_moved i j reference h = absurd (cc h)

pub two_moved : (b c : Bool) (i j : ℕ) (f h : Feature) → fault_if b i f ++ fault_if c i h ≡ [] → fault_if b j f ++ fault_if c j h ≡ []
two_moved b c i j f h e = let a = nil_parts (fault_if b i f) (fault_if c i h) e in nil_join (fault_if b j f) (fault_if c j h) (fault_moved b i j f a.0) (fault_moved c i j h a.1)

pub count_moved : (i j : ℕ) (n : Count) (r : Greed) → count_faults i n r ≡ [] → count_faults j n r ≡ []
count_moved i j n r h =
    let x = n.least == 4294967295 || is_bound (λ m. m == 4294967295) n.most in
    let y = is_bound (λ m. nat_lt m n.least) n.most in
    let z = is_possessive r in
    let a = nil_parts (fault_if x i is_repeat_too_large) (fault_if y i is_repeat_order ++ fault_if z i is_possessive_count) h in
    nil_join (fault_if x j is_repeat_too_large) (fault_if y j is_repeat_order ++ fault_if z j is_possessive_count) (fault_moved x i j is_repeat_too_large a.0) (two_moved y z i j is_repeat_order is_possessive_count a.1)

pub kind_moved : (text : Bool) (i j : ℕ) (kd : Kind) → kind_faults text i kd ≡ [] → kind_faults text j kd ≡ []
kind_moved text i j capturing h = refl
kind_moved text i j (named n) h = refl
kind_moved text i j (scoped f g) h = two_moved f.locale (f.unicode && (f.ascii || not text) || overlap f g) i j is_locale is_flag_clash h
kind_moved text i j (lookaround b n) h = absurd (cc h)
kind_moved text i j atomic h = absurd (cc h)
kind_moved text i j conditional h = absurd (cc h)

module _ (g : ℕ → ℕ) where
  member_moved : (m : Member) → member_faults m ≡ [] → member_faults (moved_member g m) ≡ []
  member_moved (one r e) h = escaped_moved r.from (g r.from) e h
  member_moved (range r e d) h =
      let i = r.from in
      let a = nil_parts (escaped_faults i e) (escaped_faults i d ++ fault_if (reversed e d) i is_reversed_range) h in
      let b = nil_parts (escaped_faults i d) (fault_if (reversed e d) i is_reversed_range) a.1 in
      nil_join (escaped_faults (g i) e) (escaped_faults (g i) d ++ fault_if (reversed e d) (g i) is_reversed_range) (escaped_moved i (g i) e a.0) (nil_join (escaped_faults (g i) d) (fault_if (reversed e d) (g i) is_reversed_range) (escaped_moved i (g i) d b.0) (fault_moved (reversed e d) i (g i) is_reversed_range b.1))

  members_moved : (ms : List Member) → flat_map member_faults ms ≡ [] → flat_map member_faults (map (moved_member g) ms) ≡ []
  members_moved [] h = refl
  members_moved (m ∷ ms) h = let a = nil_parts (member_faults m) (flat_map member_faults ms) h in nil_join (member_faults (moved_member g m)) (flat_map member_faults (map (moved_member g) ms)) (member_moved m a.0) (members_moved ms a.1)

  pub leaf_moved : (r t : Span) (x : Leaf) → t.from ≡ g r.from → leaf_faults r x ≡ [] → leaf_faults t (moved_leaf g x) ≡ []
  leaf_moved r t any e h = refl
  leaf_moved r t (glyph d) e h = escaped_moved r.from t.from d h
  leaf_moved r t (members v ms) e h = members_moved ms h

  code_same : (m : Member) (c : ℕ) (u : Universe) (f : Flags) → code_member u f (moved_member g m) c ≡ code_member u f m c
  code_same (one r (code d)) c u f = refl
  code_same (one r too_large) c u f = refl
  code_same (one r by_name) c u f = refl
  code_same (one r (kind k n)) c u f = refl
  code_same (one r reference) c u f = refl
  code_same (range r (code d) (code e)) c u f = refl
  code_same (range r (code d) too_large) c u f = refl
  code_same (range r (code d) by_name) c u f = refl
  code_same (range r (code d) (kind k n)) c u f = refl
  code_same (range r (code d) reference) c u f = refl
  code_same (range r too_large e) c u f = refl
  code_same (range r by_name e) c u f = refl
  code_same (range r (kind k n) e) c u f = refl
  code_same (range r reference e) c u f = refl

  kind_same : (m : Member) (c : ℕ) (u : Universe) (f : Flags) → kind_member u f (moved_member g m) c ≡ kind_member u f m c
  kind_same (one r (code d)) c u f = refl
  kind_same (one r too_large) c u f = refl
  kind_same (one r by_name) c u f = refl
  kind_same (one r (kind k n)) c u f = refl
  kind_same (one r reference) c u f = refl
  kind_same (range r e d) c u f = refl

  some_same : (holds : Member → ℕ → Bool) (u : Universe) (f : Flags) → ((m : Member) (c : ℕ) → holds (moved_member g m) c ≡ holds m c) → (ms : List Member) (c : ℕ) → some_member holds (map (moved_member g) ms) c ≡ some_member holds ms c
  some_same holds u f h [] c = refl
  some_same holds u f h (m ∷ ms) c = ap (λ z. z || some_member holds (map (moved_member g) ms) c) (h m c) ∙ ap (λ z. holds m c || z) (some_same holds u f h ms c)

  hold_same : (u : Universe) (f : Flags) (ms : List Member) → members_hold u f (map (moved_member g) ms) ≡ members_hold u f ms
  hold_same u f ms =
      let some_in : (Member → ℕ → Bool) → List Member → ℕ → Bool = some_member in
      let codes_in = code_member u f in
      let kinds_in = kind_member u f in
      let first : some_in codes_in (map (moved_member g) ms) ≡ some_in codes_in ms = λ i c. some_same codes_in u f (λ m d. code_same m d u f) ms c i in
      let second : some_in kinds_in (map (moved_member g) ms) ≡ some_in kinds_in ms = λ i c. some_same kinds_in u f (λ m d. kind_same m d u f) ms c i in
      λ i c. closing u f (first i) c || second i c

  pub codes_same : (u : Universe) (f : Flags) (x : Leaf) → leaf_codes u f (moved_leaf g x) ≡ leaf_codes u f x
  unfolding leaf_codes
  codes_same u f any = refl
  codes_same u f (glyph e) = refl
  codes_same u f (members false ms) = λ i c. within u (hold_same u f ms i) c
  codes_same u f (members true ms) = λ i c. within u (λ d. not (hold_same u f ms i d)) c

abbrev pub name_of : Called → List ℕ
name_of c = c.name

abbrev pub names_of : SyntaxNode → List (List ℕ)
names_of p = map name_of (node_names p)

module _ (u : Universe) (drop out : Span → Bool) where
  abbrev pub tree : SyntaxNode → y.Tree
  tree p = lowered (shape u p)

  abbrev pub left_tree : SyntaxNode → y.Tree
  left_tree p = lowered (remaining drop out (shape u p))

  -- The second node is what is left of the first: it has the same tree and no fault, and the same groups have names.
  pub record Leaves (p q : SyntaxNode) : Type 0 where
    pub same : tree q ≡ left_tree p
    pub faultless : node_faults (is_text u) p ≡ [] → node_faults (is_text u) q ≡ []
    pub names : names_of q ≡ names_of p
    pub nested : (n : ℕ) → Has q n → Has p n

  -- It is the same outer anchor, if it is one.
  pub record AlikeEdge (p q : SyntaxNode) : Type 0 where
    pub leads : is_leading q ≡ is_leading p
    pub trails : trail_of q ≡ trail_of p
    pub stays_item : is_item q ≡ true

  pub data LeavesAll : List SyntaxNode → List SyntaxNode → Type 0 where
    all_none : LeavesAll [] []
    all_more : {p q : SyntaxNode} {ps qs : List SyntaxNode} → Leaves p q → AlikeEdge p q → LeavesAll ps qs → LeavesAll (p ∷ ps) (q ∷ qs)

  pub all_snoc : {ps qs : List SyntaxNode} {p q : SyntaxNode} → LeavesAll ps qs → Leaves p q → AlikeEdge p q → LeavesAll (ps ++ p ∷ []) (qs ++ q ∷ [])
  all_snoc all_none h e = all_more h e all_none
  all_snoc (all_more a b hs) h e = all_more a b (all_snoc hs h e)

  items_same : {ps qs : List SyntaxNode} → LeavesAll ps qs → items_lowered (s.items_of (shapes u (nodes qs))) ≡ items_lowered (remaining_items drop out (s.items_of (shapes u (nodes ps))))
  items_same all_none = refl
  items_same (all_more {p = p} {q = q} {qs = qs} h e hs) = ap (λ t. t ∷ items_lowered (s.items_of (shapes u (nodes qs)))) h.same ∙ ap (λ ts. left_tree p ∷ ts) (items_same hs)

  items_faultless : {ps qs : List SyntaxNode} → LeavesAll ps qs → nodes_faults (is_text u) (nodes ps) ≡ [] → nodes_faults (is_text u) (nodes qs) ≡ []
  items_faultless all_none fine = refl
  items_faultless (all_more {p = p} {q = q} {ps = ps} {qs = qs} h e hs) fine =
      let a = nil_parts (node_faults (is_text u) p) (nodes_faults (is_text u) (nodes ps)) fine in
      nil_join (node_faults (is_text u) q) (nodes_faults (is_text u) (nodes qs)) (h.faultless a.0) (items_faultless hs a.1)

  items_names : {ps qs : List SyntaxNode} → LeavesAll ps qs → map name_of (nodes_names (nodes qs)) ≡ map name_of (nodes_names (nodes ps))
  items_names all_none = refl
  items_names (all_more {p = p} {q = q} {ps = ps} {qs = qs} h e hs) =
      map-append name_of (node_names q) (nodes_names (nodes qs)) ∙ ap (λ z. z ++ map name_of (nodes_names (nodes qs))) h.names ∙ ap (λ z. names_of p ++ z) (items_names hs) ∙ sym (map-append name_of (node_names p) (nodes_names (nodes ps)))

  items_nested : {ps qs : List SyntaxNode} → LeavesAll ps qs → (n : ℕ) → HasSome (nodes qs) n → HasSome (nodes ps) n
  items_nested all_none n x = x
  items_nested (all_more h e hs) n (inl x) = inl (h.nested n x)
  items_nested (all_more h e hs) n (inr x) = inr (items_nested hs n x)

  pub body_leaves : (r t : Span) {ps qs : List SyntaxNode} → LeavesAll ps qs → Leaves (branch_body r ps) (branch_body t qs)
  body_leaves r t all_none = record { same = refl; faultless = λ e. refl; names = refl; nested = λ n x. x }
  body_leaves r t (all_more h e all_none) = h
  body_leaves r t (all_more h e (all_more h2 e2 hs)) =
      let all = all_more h e (all_more h2 e2 hs) in
      record { same = ap in_turn (items_same all); faultless = items_faultless all; names = items_names all; nested = items_nested all }

  -- What is left of branches, where `d` says which are dropped.
  pub data LeavesSome (d : Span → Bool) : List Branch → List Branch → Type 0 where
    some_none : LeavesSome d [] []
    some_stays : {r t : Span} {ps qs : List SyntaxNode} {bs cs : List Branch} → d r ≡ false → AllItems ps → LeavesAll ps qs → LeavesSome d bs cs → LeavesSome d (branch r ps ∷ bs) (branch t qs ∷ cs)
    some_goes : {b : Branch} {bs cs : List Branch} → d b.place ≡ true → node_names b.body ≡ [] → LeavesSome d bs cs → LeavesSome d (b ∷ bs) cs

  pub stays_snoc : (r t : Span) (ps qs : List SyntaxNode) {d : Span → Bool} {bs cs : List Branch} → LeavesSome d bs cs → d r ≡ false → AllItems ps → LeavesAll ps qs → LeavesSome d (bs ++ branch r ps ∷ []) (cs ++ branch t qs ∷ [])
  stays_snoc r t ps qs some_none e i h = some_stays e i h some_none
  stays_snoc r t ps qs (some_stays x i z hs) e i2 h = some_stays x i z (stays_snoc r t ps qs hs e i2 h)
  stays_snoc r t ps qs (some_goes x z hs) e i h = some_goes x z (stays_snoc r t ps qs hs e i h)

  pub goes_snoc : (b : Branch) {d : Span → Bool} {bs cs : List Branch} → LeavesSome d bs cs → d b.place ≡ true → node_names b.body ≡ [] → LeavesSome d (bs ++ b ∷ []) cs
  goes_snoc b some_none e h = some_goes e h some_none
  goes_snoc b (some_stays x i y hs) e h = some_stays x i y (goes_snoc b hs e h)
  goes_snoc b (some_goes x y hs) e h = some_goes x y (goes_snoc b hs e h)

  abbrev trees : List Branch → List y.Tree
  trees [] = []
  trees (b ∷ bs) = tree b.body ∷ trees bs

  choice_trees : (bs : List Branch) → branches_lowered (s.branches_of (branch_shapes u (branches bs))) ≡ trees bs
  choice_trees [] = refl
  choice_trees (b ∷ bs) = ap (λ z. tree b.body ∷ z) (choice_trees bs)

  whole_tree : (r : Span) (bs : List Branch) → tree (whole_body r bs) ≡ one_of (trees bs)
  whole_tree r [] = refl
  whole_tree r (b ∷ []) = refl
  whole_tree r (b ∷ c ∷ bs) = ap one_of (choice_trees (b ∷ c ∷ bs))

  choice_of_tree : (r : Span) (bs : s.BranchTrees) → lowered (choice_of r bs) ≡ one_of (branches_lowered bs)
  choice_of_tree r s.no_branches = refl
  choice_of_tree r (s.branch a p s.no_branches) = refl
  choice_of_tree r (s.branch a p (s.branch b q bs)) = refl

  left_trees : {bs cs : List Branch} → LeavesSome drop bs cs → branches_lowered (remaining_branches drop out (s.branches_of (branch_shapes u (branches bs)))) ≡ trees cs
  left_trees some_none = refl
  left_trees (some_stays {r = r} {t = t} {ps = ps} {qs = qs} {bs = bs} {cs = cs} e i h hs) =
      let rest = remaining_branches drop out (s.branches_of (branch_shapes u (branches bs))) in
      ap (λ z. branches_lowered (if z then rest else s.branch r (remaining drop out (shape u (branch_body r ps))) rest)) e ∙ ap (λ z. z ∷ branches_lowered rest) (sym (body_leaves r t h).same) ∙ ap (λ z. tree (branch_body t qs) ∷ z) (left_trees hs)
  left_trees (some_goes {b = b} {bs = bs} {cs = cs} e h hs) =
      let rest = remaining_branches drop out (s.branches_of (branch_shapes u (branches bs))) in
      ap (λ z. branches_lowered (if z then rest else s.branch b.place (remaining drop out (shape u b.body)) rest)) e ∙ left_trees hs

  some_faultless : {d : Span → Bool} {bs cs : List Branch} → LeavesSome d bs cs → branches_faults (is_text u) (branches bs) ≡ [] → branches_faults (is_text u) (branches cs) ≡ []
  some_faultless some_none fine = refl
  some_faultless (some_stays {r = r} {t = t} {ps = ps} {qs = qs} {bs = bs} {cs = cs} e i h hs) fine =
      let a = nil_parts (node_faults (is_text u) (branch_body r ps)) (branches_faults (is_text u) (branches bs)) fine in
      nil_join (node_faults (is_text u) (branch_body t qs)) (branches_faults (is_text u) (branches cs)) ((body_leaves r t h).faultless a.0) (some_faultless hs a.1)
  some_faultless (some_goes {b = b} {bs = bs} e h hs) fine = some_faultless hs (nil_parts (node_faults (is_text u) b.body) (branches_faults (is_text u) (branches bs)) fine).1

  some_names : {d : Span → Bool} {bs cs : List Branch} → LeavesSome d bs cs → map name_of (branches_names (branches cs)) ≡ map name_of (branches_names (branches bs))
  some_names some_none = refl
  some_names (some_stays {r = r} {t = t} {ps = ps} {qs = qs} {bs = bs} {cs = cs} e i h hs) =
      map-append name_of (node_names (branch_body t qs)) (branches_names (branches cs)) ∙ ap (λ z. z ++ map name_of (branches_names (branches cs))) (body_leaves r t h).names ∙ ap (λ z. names_of (branch_body r ps) ++ z) (some_names hs) ∙ sym (map-append name_of (node_names (branch_body r ps)) (branches_names (branches bs)))
  some_names (some_goes {b = b} {bs = bs} e h hs) = some_names hs ∙ sym (ap (λ z. map name_of (z ++ branches_names (branches bs))) h)

  whole_faultless : (r : Span) (bs : List Branch) → branches_faults (is_text u) (branches bs) ≡ [] → node_faults (is_text u) (whole_body r bs) ≡ []
  whole_faultless r [] h = refl
  whole_faultless r (b ∷ []) h = (nil_parts (node_faults (is_text u) b.body) [] h).0
  whole_faultless r (b ∷ c ∷ bs) h = h

  append_none : {A : Type 0} (xs : List A) → xs ++ [] ≡ xs
  append_none [] = refl
  append_none (x ∷ xs) = ap (λ z. x ∷ z) (append_none xs)

  whole_names : (r : Span) (bs : List Branch) → names_of (whole_body r bs) ≡ map name_of (branches_names (branches bs))
  whole_names r [] = refl
  whole_names r (b ∷ []) = sym (ap (map name_of) (append_none (node_names b.body)))
  whole_names r (b ∷ c ∷ bs) = refl

  some_nested : {d : Span → Bool} {bs cs : List Branch} → LeavesSome d bs cs → (n : ℕ) → HasBranch (branches cs) n → HasBranch (branches bs) n
  some_nested some_none n x = x
  some_nested (some_stays {r = r} {t = t} e i h hs) n (inl x) = inl ((body_leaves r t h).nested n x)
  some_nested (some_stays e i h hs) n (inr x) = inr (some_nested hs n x)
  some_nested (some_goes e h hs) n x = inr (some_nested hs n x)

  whole_nested : (t : Span) (cs : List Branch) (n : ℕ) → Has (whole_body t cs) n → HasBranch (branches cs) n
  whole_nested t [] n x = x
  whole_nested t (c ∷ []) n x = inl x
  whole_nested t (c ∷ c2 ∷ cs) n x = x

  one_leaves : (r t : Span) (b : Branch) {cs : List Branch} → LeavesSome (λ z. false) (b ∷ []) cs → Leaves b.body (whole_body t cs)
  one_leaves r t b (some_stays {r = r2} {t = t2} e i h some_none) = body_leaves r2 t2 h
  one_leaves r t b (some_goes e h hs) = absurd (true≢false (sym e))

  -- The body of a group or of the whole pattern, and what is left of it.
  pub whole_leaves : (r t : Span) (bs cs : List Branch) → LeavesSome (drops_in u drop out bs) bs cs → Leaves (whole_body r bs) (whole_body t cs)
  whole_leaves r t [] cs some_none = record { same = refl; faultless = λ e. refl; names = refl; nested = λ n x. x }
  whole_leaves r t (b ∷ []) cs h = one_leaves r t b h
  whole_leaves r t (b ∷ b2 ∷ bs) cs h =
      record {
        same = whole_tree t cs ∙ sym (choice_of_tree r (remaining_branches drop out (s.branches_of (branch_shapes u (branches (b ∷ b2 ∷ bs))))) ∙ ap one_of (left_trees h));
        faultless = λ fine. whole_faultless t cs (some_faultless h fine);
        names = whole_names t cs ∙ some_names h;
        nested = λ n x. some_nested h n (whole_nested t cs n x);
      }
