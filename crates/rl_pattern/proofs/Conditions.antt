-- What holds for a pattern also holds for the syntax tree that it was made from.
use Rattle.std.proofs.Common.{◌≡◌, ℕ, Bool, true, false, not, ◌||◌, if◌then◌else◌, List, [], ◌++◌, refl, sym, ap, ◌∙◌, true≢false}
use Rattle.rl_ranges.specs.declared.universe.Universe.{Universe}
use Rattle.rl_syntax.specs.PatTree as s
use Rattle.rl_pattern.specs.Tree.{Span, Kind, capturing, named, scoped, lookaround, atomic, conditional, SyntaxNode, leaf, mark, repeat, group, nothing, seq, choice, Nodes, no_nodes, more_nodes, Branches, no_branches, more_branches}
use Rattle.rl_pattern.specs.Found.{kind_faults, count_faults, node_faults, nodes_faults, branches_faults, node_names, nodes_names, branches_names, kind_names}
use Rattle.rl_pattern.specs.Shape.{is_text, shape, shapes, branch_shapes, group_shape}
use Rattle.rl_pattern.specs.Suggested.{holds_capture, some_capture, branch_capture, some_kept, may_go, items_may_go, branches_may_go}
use Rattle.rl_pattern.proofs.Leaves.{nil_parts}
use Rattle.rl_pattern.proofs.Linking.{Good, AllGood, GoodBranches, some_stay, is_plain, and_first, and_second, or_none, not_true}

nil_both : {A : Type 0} (xs ys : List A) → xs ≡ [] → ys ≡ [] → xs ++ ys ≡ []
nil_both xs ys p q = ap (λ z. z ++ ys) p ∙ q

plain_of : (text : Bool) (i : ℕ) (kd : Kind) → kind_faults text i kd ≡ [] → is_plain kd ≡ true
plain_of text i capturing h = refl
plain_of text i (named n) h = refl
plain_of text i (scoped f g) h = refl
plain_of text i (lookaround b n) h = absurd (cc h)
plain_of text i atomic h = absurd (cc h)
plain_of text i conditional h = absurd (cc h)

module _ (u : Universe) where
  -- A part without a capturing group contains no named group.
  group_capture : (r : Span) (i : ℕ) (kd : Kind) (p : s.PatTree) → is_plain kd ≡ true → holds_capture (group_shape r kd p) ≡ false → (kind_names i kd ≡ []) × (holds_capture p ≡ false)
  group_capture r i capturing p pl h = absurd (true≢false h)
  group_capture r i (named n) p pl h = absurd (true≢false h)
  group_capture r i (scoped f g) p pl h = (refl, h)
  group_capture r i (lookaround b n) p pl h = absurd (true≢false (sym pl))
  group_capture r i atomic p pl h = absurd (true≢false (sym pl))
  group_capture r i conditional p pl h = absurd (true≢false (sym pl))

  mutual
    nameless : (p : SyntaxNode) → node_faults (is_text u) p ≡ [] → holds_capture (shape u p) ≡ false → node_names p ≡ []
    nameless (leaf r f x) e h = refl
    nameless (mark r f m) e h = refl
    nameless (repeat r q n g p) e h = nameless p (nil_parts (count_faults q.from n g) (node_faults (is_text u) p) e).1 h
    nameless (group r k p) e h =
        let fs = nil_parts (kind_faults (is_text u) r.from k) (node_faults (is_text u) p) e in
        let c = group_capture r r.from k (shape u p) (plain_of (is_text u) r.from k fs.0) h in
        nil_both (kind_names r.from k) (node_names p) c.0 (nameless p fs.1 c.1)
    nameless (nothing r) e h = refl
    nameless (seq r ps) e h = items_nameless ps e h
    nameless (choice r bs) e h = branches_nameless bs e h

    items_nameless : (ps : Nodes) → nodes_faults (is_text u) ps ≡ [] → some_capture (s.items_of (shapes u ps)) ≡ false → nodes_names ps ≡ []
    items_nameless no_nodes e h = refl
    items_nameless (more_nodes p ps) e h =
        let fs = nil_parts (node_faults (is_text u) p) (nodes_faults (is_text u) ps) e in
        let c = or_none (holds_capture (shape u p)) (some_capture (s.items_of (shapes u ps))) h in
        nil_both (node_names p) (nodes_names ps) (nameless p fs.0 c.0) (items_nameless ps fs.1 c.1)

    branches_nameless : (bs : Branches) → branches_faults (is_text u) bs ≡ [] → branch_capture (s.branches_of (branch_shapes u bs)) ≡ false → branches_names bs ≡ []
    branches_nameless no_branches e h = refl
    branches_nameless (more_branches r p bs) e h =
        let fs = nil_parts (node_faults (is_text u) p) (branches_faults (is_text u) bs) e in
        let c = or_none (holds_capture (shape u p)) (branch_capture (s.branches_of (branch_shapes u bs))) h in
        nil_both (node_names p) (branches_names bs) (nameless p fs.0 c.0) (branches_nameless bs fs.1 c.1)

  module _ (drop out : Span → Bool) where
    kept_same : (bs : Branches) → some_kept drop (s.branches_of (branch_shapes u bs)) ≡ some_stay u drop out bs
    kept_same no_branches = refl
    kept_same (more_branches r p bs) = ap (λ z. not (drop r) || z) (kept_same bs)

    group_may_go : (r : Span) (kd : Kind) (p : s.PatTree) → is_plain kd ≡ true → may_go drop (group_shape r kd p) ≡ true → may_go drop p ≡ true
    group_may_go r capturing p pl h = h
    group_may_go r (named n) p pl h = h
    group_may_go r (scoped f g) p pl h = h
    group_may_go r (lookaround b n) p pl h = absurd (true≢false (sym pl))
    group_may_go r atomic p pl h = absurd (true≢false (sym pl))
    group_may_go r conditional p pl h = absurd (true≢false (sym pl))

    mutual
      pub good_of : (p : SyntaxNode) → node_faults (is_text u) p ≡ [] → may_go drop (shape u p) ≡ true → Good u drop out p
      good_of (leaf r f x) e h = tt
      good_of (mark r f m) e h = tt
      good_of (repeat r q n g p) e h = good_of p (nil_parts (count_faults q.from n g) (node_faults (is_text u) p) e).1 h
      good_of (group r k p) e h =
          let fs = nil_parts (kind_faults (is_text u) r.from k) (node_faults (is_text u) p) e in
          let pl = plain_of (is_text u) r.from k fs.0 in
          (pl, good_of p fs.1 (group_may_go r k (shape u p) pl h))
      good_of (nothing r) e h = tt
      good_of (seq r ps) e h = items_good ps e h
      good_of (choice r bs) e h =
          (sym (kept_same bs) ∙ and_first (some_kept drop (s.branches_of (branch_shapes u bs))) (branches_may_go drop (s.branches_of (branch_shapes u bs))) h, branches_good bs e (and_second (some_kept drop (s.branches_of (branch_shapes u bs))) (branches_may_go drop (s.branches_of (branch_shapes u bs))) h))

      items_good : (ps : Nodes) → nodes_faults (is_text u) ps ≡ [] → items_may_go drop (s.items_of (shapes u ps)) ≡ true → AllGood u drop out ps
      items_good no_nodes e h = tt
      items_good (more_nodes p ps) e h =
          let fs = nil_parts (node_faults (is_text u) p) (nodes_faults (is_text u) ps) e in
          (good_of p fs.0 (and_first (may_go drop (shape u p)) (items_may_go drop (s.items_of (shapes u ps))) h), items_good ps fs.1 (and_second (may_go drop (shape u p)) (items_may_go drop (s.items_of (shapes u ps))) h))

      branches_good : (bs : Branches) → branches_faults (is_text u) bs ≡ [] → branches_may_go drop (s.branches_of (branch_shapes u bs)) ≡ true → GoodBranches u drop out bs
      branches_good no_branches e h = tt
      branches_good (more_branches r p bs) e h =
          let fs = nil_parts (node_faults (is_text u) p) (branches_faults (is_text u) bs) e in
          let one = if drop r then not (holds_capture (shape u p)) else may_go drop (shape u p) in
          let a = and_first one (branches_may_go drop (s.branches_of (branch_shapes u bs))) h in
          (λ d. nameless p fs.0 (not_true (holds_capture (shape u p)) (sym (ap (λ b. if b then not (holds_capture (shape u p)) else may_go drop (shape u p)) d) ∙ a)), λ d. good_of p fs.0 (sym (ap (λ b. if b then not (holds_capture (shape u p)) else may_go drop (shape u p)) d) ∙ a), branches_good bs fs.1 (and_second one (branches_may_go drop (s.branches_of (branch_shapes u bs))) h))
