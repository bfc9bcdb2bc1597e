-- The text of a right suggestion is read as the pattern without the dropped branches and removed quantifiers.
use Rattle.std.proofs.Common.{◌≡◌, ℕ, suc, ◌<◌, ◌≤◌, Bool, true, false, if◌then◌else◌, List, [], ◌∷◌, ◌++◌, length, Option, refl, sym, ap, ◌∙◌, subst, arith, true≢false}
use Rattle.rl_ranges.specs.declared.universe.Universe.{Universe}
use Rattle.rl_syntax.specs.PatTree as s
use Rattle.rl_pattern.specs.declared.flags.Flags.{Flags}
use Rattle.rl_pattern.specs.Tree.{Span, span, Kind, capturing, named, scoped, lookaround, atomic, conditional, SyntaxNode, leaf, mark, repeat, group, nothing, seq, choice, Nodes, no_nodes, more_nodes, Branches, no_branches, more_branches, nodes, branches, Branch, branch_body, branch, whole_body, Assertion, caret, text_start, dollar, text_end, boundary, Whole}
use Rattle.rl_pattern.specs.Grammar.{Atom, literal, literal_brace, dotted, escaped, refers, bracketed, grouped, Item, once, repeated, edge_code, edge_escape, Items, no_items, pass_over, one_item, IsBranches, first_branch, next_branch, spelled, Spells}
use Rattle.rl_pattern.specs.Shape.{shape, shapes, branch_shapes, group_shape, mark_shape}
use Rattle.rl_pattern.specs.Cut.{choice_of, remaining, remaining_items, remaining_branches}
use Rattle.rl_pattern.proofs.Merged.{MayMerge, AllMayMerge, BranchesMayMerge, MergesUnder, MergesIn}
use Rattle.rl_pattern.specs.Suggested.{no_span}
use Rattle.rl_pattern.proofs.Tokens.{escape_lt, name_lt, set_head_lt, members_lt, blanks_le, quantifier_lt, passed_lt, opening_lt}
use Rattle.rl_pattern.proofs.Linking.{Good, AllGood, GoodBranches, is_plain}
use Rattle.rl_pattern.proofs.Seams.{own_out, Clean, AllClean, CleanBranches}
use Rattle.rl_pattern.proofs.Marks.{Placed, PlacedItems, PlacedBranches, placed_le, placed_more}

module _ (u : Universe) where
  abbrev pub PlacedAll : List SyntaxNode → ℕ → ℕ → Type 0
  PlacedAll [] i j = i ≤ j
  PlacedAll (p ∷ ps) i j = (k : ℕ) × Placed (shape u p) i k × PlacedAll ps k j

  abbrev pub PlacedSome : List Branch → ℕ → ℕ → Type 0
  PlacedSome [] i j = i ≤ j
  PlacedSome (b ∷ bs) i j = (i ≤ b.place.from) × Placed (shape u b.body) b.place.from b.place.upto × PlacedSome bs b.place.upto j

  all_snoc : (ps : List SyntaxNode) (p : SyntaxNode) (i k j : ℕ) → PlacedAll ps i k → Placed (shape u p) k j → PlacedAll (ps ++ p ∷ []) i j
  all_snoc [] p i k j h x = (j, placed_more (shape u p) k j i j h (omega arith) x, omega arith)
  all_snoc (q ∷ ps) p i k j (m, h, hs) x = (m, h, all_snoc ps p m k j hs x)

  all_wider : (ps : List SyntaxNode) (i j b : ℕ) → j ≤ b → PlacedAll ps i j → PlacedAll ps i b
  all_wider [] i j b l h = omega (arith, l, h)
  all_wider (p ∷ ps) i j b l (k, h, hs) = (k, h, all_wider ps k j b l hs)

  some_snoc : (bs : List Branch) (b : Branch) (i k j : ℕ) → PlacedSome bs i k → k ≤ b.place.from → Placed (shape u b.body) b.place.from b.place.upto → b.place.upto ≤ j → PlacedSome (bs ++ b ∷ []) i j
  some_snoc [] b i k j h l x m = (omega (arith, h, l), x, m)
  some_snoc (c ∷ bs) b i k j (a, h, hs) l x m = (a, h, some_snoc bs b c.place.upto k j hs l x m)

  nodes_placed : (ps : List SyntaxNode) (i j : ℕ) → PlacedAll ps i j → PlacedItems (s.items_of (shapes u (nodes ps))) i j
  nodes_placed [] i j h = h
  nodes_placed (p ∷ ps) i j (k, h, hs) = (k, h, nodes_placed ps k j hs)

  pub body_placed : (r : Span) (ps : List SyntaxNode) (i j : ℕ) → PlacedAll ps i j → Placed (shape u (branch_body r ps)) i j
  body_placed r [] i j h = h
  body_placed r (p ∷ []) i j (k, h, l) = placed_more (shape u p) i k i j (omega arith) l h
  body_placed r (p ∷ q ∷ ps) i j h = nodes_placed (p ∷ q ∷ ps) i j h

  list_placed : (bs : List Branch) (i j : ℕ) → PlacedSome bs i j → PlacedBranches (s.branches_of (branch_shapes u (branches bs))) i j
  list_placed [] i j h = h
  list_placed (b ∷ bs) i j (a, h, hs) = (a, h, list_placed bs b.place.upto j hs)

  pub whole_placed : (r : Span) (bs : List Branch) (i j : ℕ) → PlacedSome bs i j → Placed (shape u (whole_body r bs)) i j
  whole_placed r [] i j h = h
  whole_placed r (b ∷ []) i j (a, h, l) = placed_more (shape u b.body) b.place.from b.place.upto i j a l h
  whole_placed r (b ∷ c ∷ bs) i j h = list_placed (b ∷ c ∷ bs) i j h

  mark_placed : (r : Span) (f : Flags) (m : Assertion) (i j : ℕ) → i ≤ j → Placed (mark_shape u r f m) i j
  mark_placed r f caret i j l = l
  mark_placed r f text_start i j l = l
  mark_placed r f dollar i j l = l
  mark_placed r f text_end i j l = l
  mark_placed r f (boundary n) i j l = l

  group_placed : (r : Span) (kd : Kind) (p : s.PatTree) (i j : ℕ) → Placed p i j → Placed (group_shape r kd p) i j
  group_placed r capturing p i j h = h
  group_placed r (named n) p i j h = h
  group_placed r (scoped f g) p i j h = h
  group_placed r (lookaround b n) p i j h = placed_le p i j h
  group_placed r atomic p i j h = placed_le p i j h
  group_placed r conditional p i j h = placed_le p i j h

  module _ (text : Bool) (w : List ℕ) where
    leaf_le : (i j : ℕ) → i < j → i ≤ j
    leaf_le i j l = omega (arith, l)

    mutual
      atom_placed : {fl : Flags} {i j : ℕ} {p : SyntaxNode} → Atom text w fl i j p → Placed (shape u p) i j
      atom_placed (literal a z) = omega arith
      atom_placed (literal_brace a z) = omega arith
      atom_placed (dotted a) = omega arith
      atom_placed (escaped {i = i} {j = j} e) = let lt = escape_lt text w e in omega (arith, lt)
      atom_placed (refers q n z) = let lt = name_lt text w n in omega (arith, lt)
      atom_placed (bracketed e ms z) = let lt = set_head_lt text w e in let lt2 = members_lt text w ms in omega (arith, lt, lt2)
      atom_placed (grouped {i = i} {j = j} {k = k} {kd = kd} {bs = bs} o hs z) =
          let lt = opening_lt text w o in
          let b = shape u (whole_body (span j k) bs) in
          group_placed (span i (suc k)) kd b i (suc k) (placed_more b j k i (suc k) (omega (arith, lt)) (omega arith) (whole_placed (span j k) bs j k (branches_placed hs)))

      item_placed : {fl : Flags} {i j : ℕ} {p : SyntaxNode} → Item text w fl i j p → Placed (shape u p) i j
      item_placed (once a) = atom_placed a
      item_placed (repeated {j = j} a bl q) = (j, atom_placed a, blanks_le text w bl, quantifier_lt text w q, omega arith)
      item_placed {fl} (edge_code {i = i} {m = m} a z) = mark_placed (span i (suc i)) fl m i (suc i) (omega arith)
      item_placed {fl} (edge_escape {i = i} {m = m} a) = mark_placed (span i (suc (suc i))) fl m i (suc (suc i)) (omega arith)

      pub items_placed : {fl : Flags} {i j : ℕ} {ps : List SyntaxNode} → Items text w fl i j ps → PlacedAll ps i j
      items_placed no_items = omega arith
      items_placed (pass_over {i = i} {j = j} {k = k} {ps = ps} h p) = let lt = passed_lt text w p in all_wider ps i j k (omega (arith, lt)) (items_placed h)
      items_placed (one_item {i = i} {j = j} {k = k} {ps = ps} {p = p} h it) = all_snoc ps p i j k (items_placed h) (item_placed it)

      pub branches_placed : {kd : Kind} {fl : Flags} {i j : ℕ} {bs : List Branch} → IsBranches text w kd fl i j bs → PlacedSome bs i j
      branches_placed (first_branch {i = i} {j = j} {ps = ps} h) = (omega arith, body_placed (span i j) ps i j (items_placed h), omega arith)
      branches_placed (next_branch {i = i} {j = j} {k = k} {bs = bs} {ps = ps} h at_j may hs) =
          some_snoc bs (branch (span (suc j) k) ps) i j k (branches_placed h) (omega arith) (body_placed (span (suc j) k) ps (suc j) k (items_placed hs)) (omega arith)

    pub spelled_placed : (call : Flags) (p : Whole) → Spells call text w p → (i : ℕ) × Placed (shape u p.body) i (length w)
    spelled_placed call p (spelled {i = i} {bs = bs} f hs) = (i, whole_placed (span i (length w)) bs i (length w) (branches_placed hs))

  module _ (drop out : Span → Bool) where
    pub data Somewhere (t : s.PatTree) : Type 0 where
      at_large : MayMerge out t → Somewhere t
      under : (least : ℕ) (most : Option ℕ) → MergesUnder out t least most → Somewhere t
      inside : (least : ℕ) (most : Option ℕ) → MergesIn out t least most → Somewhere t

    abbrev pub rest : s.PatTree → s.PatTree
    rest t = remaining drop no_span t

    abbrev pub rest_branches : Branches → s.BranchTrees
    rest_branches bs = remaining_branches drop no_span (s.branches_of (branch_shapes u bs))

    repeat_somewhere : (r q : Span) (l : ℕ) (m : Option ℕ) (g : Bool) (t : s.PatTree) → Somewhere (s.repeat r q l m g t) → Somewhere t
    repeat_somewhere r q l m g t (at_large (e, h)) = under l m h
    repeat_somewhere r q l m g t (under x y (e, h)) = under l m h
    repeat_somewhere r q l m g t (inside x y (e, h)) = under l m h

    group_somewhere : (r : Span) (kd : Kind) (t : s.PatTree) → is_plain kd ≡ true → Somewhere (rest (group_shape r kd t)) → Somewhere (rest t)
    group_somewhere r capturing t pl (at_large h) = at_large h
    group_somewhere r capturing t pl (under x y h) = inside x y h
    group_somewhere r capturing t pl (inside x y h) = at_large h
    group_somewhere r (named n) t pl (at_large h) = at_large h
    group_somewhere r (named n) t pl (under x y h) = inside x y h
    group_somewhere r (named n) t pl (inside x y h) = at_large h
    group_somewhere r (scoped f g) t pl (at_large h) = at_large h
    group_somewhere r (scoped f g) t pl (under x y h) = inside x y h
    group_somewhere r (scoped f g) t pl (inside x y h) = at_large h
    group_somewhere r (lookaround b n) t pl h = absurd (true≢false (sym pl))
    group_somewhere r atomic t pl h = absurd (true≢false (sym pl))
    group_somewhere r conditional t pl h = absurd (true≢false (sym pl))

    seq_somewhere : (r : Span) (ts : s.PatTrees) → Somewhere (s.seq r ts) → AllMayMerge out ts
    seq_somewhere r ts (at_large h) = h
    seq_somewhere r ts (under x y h) = h
    seq_somewhere r ts (inside x y h) = h

    choice_somewhere : (r : Span) (bs : s.BranchTrees) → Somewhere (s.choice r bs) → BranchesMayMerge out bs
    choice_somewhere r bs (at_large h) = h
    choice_somewhere r bs (under x y h) = h
    choice_somewhere r bs (inside x y h) = h

    pub own_false : (p : SyntaxNode) → MayMerge out (rest (shape u p)) → own_out u drop out p ≡ false
    own_false (repeat r q n g p) h = h.0
    own_false (leaf r f x) h = refl
    own_false (mark r f m) h = refl
    own_false (group r k p) h = refl
    own_false (nothing r) h = refl
    own_false (seq r ps) h = refl
    own_false (choice r bs) h = refl

    none_clean : (bs : Branches) → rest_branches bs ≡ s.no_branches → CleanBranches u drop out bs
    none_clean no_branches e = tt
    none_clean (more_branches r p bs) e = go (drop r) refl (none_clean bs)
      where
        go : (b : Bool) → drop r ≡ b → (rest_branches bs ≡ s.no_branches → CleanBranches u drop out bs) → CleanBranches u drop out (more_branches r p bs)
        go true x f = ((λ z. absurd (true≢false (sym x ∙ z))), f (sym (ap (λ b. if b then rest_branches bs else s.branch r (rest (shape u p)) (rest_branches bs)) x) ∙ e))
        go false x f = absurd (cc (sym (ap (λ b. if b then rest_branches bs else s.branch r (rest (shape u p)) (rest_branches bs)) x) ∙ e))

    -- One more branch, before others.
    one_clean : (r t : Span) (p : SyntaxNode) (bs : Branches) → drop r ≡ false → (x : s.BranchTrees) → rest_branches bs ≡ x → (Somewhere (rest (shape u p)) → Clean u drop out p) → (BranchesMayMerge out (rest_branches bs) → CleanBranches u drop out bs) → Somewhere (choice_of t (s.branch r (rest (shape u p)) x)) → CleanBranches u drop out (more_branches r p bs)
    one_clean r t p bs stays s.no_branches e f g h = ((λ z. f h), none_clean bs e)
    one_clean r t p bs stays (s.branch r2 q x) e f g h =
        let all = choice_somewhere t (s.branch r (rest (shape u p)) (s.branch r2 q x)) h in
        ((λ z. f (at_large all.0)), g (subst (BranchesMayMerge out) (sym e) all.1))

    chosen_clean : (r t : Span) (p : SyntaxNode) (bs : Branches) → (drop r ≡ false → Somewhere (rest (shape u p)) → Clean u drop out p) → (BranchesMayMerge out (rest_branches bs) → CleanBranches u drop out bs) → (Somewhere (choice_of t (rest_branches bs)) → CleanBranches u drop out bs) → Somewhere (choice_of t (if drop r then rest_branches bs else s.branch r (rest (shape u p)) (rest_branches bs))) → CleanBranches u drop out (more_branches r p bs)
    chosen_clean r t p bs f g k h = go (drop r) refl
      where
        go : (b : Bool) → drop r ≡ b → CleanBranches u drop out (more_branches r p bs)
        go true x = ((λ z. absurd (true≢false (sym x ∙ z))), k (subst (λ b. Somewhere (choice_of t (if b then rest_branches bs else s.branch r (rest (shape u p)) (rest_branches bs)))) x h))
        go false x = one_clean r t p bs x (rest_branches bs) refl (f x) g (subst (λ b. Somewhere (choice_of t (if b then rest_branches bs else s.branch r (rest (shape u p)) (rest_branches bs)))) x h)

    mutual
      -- Quantifiers that may be removed from what is left are the whole content of a branch.
      pub clean_of : (p : SyntaxNode) → Good u drop out p → Somewhere (rest (shape u p)) → Clean u drop out p
      clean_of (leaf r f x) gd h = tt
      clean_of (mark r f m) gd h = tt
      clean_of (repeat r q n g p) gd h = clean_of p gd (repeat_somewhere r q n.least n.most _ (rest (shape u p)) h)
      clean_of (group r k p) gd h = clean_of p gd.1 (group_somewhere r k (shape u p) gd.0 h)
      clean_of (nothing r) gd h = tt
      clean_of (seq r ps) gd h = items_clean ps gd (seq_somewhere r (remaining_items drop no_span (s.items_of (shapes u ps))) h)
      clean_of (choice r bs) gd h = choice_clean bs r gd.1 h

      pub items_clean : (ps : Nodes) → AllGood u drop out ps → AllMayMerge out (remaining_items drop no_span (s.items_of (shapes u ps))) → AllClean u drop out ps
      items_clean no_nodes gd h = tt
      items_clean (more_nodes p ps) gd h = (own_false p h.0, clean_of p gd.0 (at_large h.0), items_clean ps gd.1 h.1)

      many_clean : (bs : Branches) → GoodBranches u drop out bs → BranchesMayMerge out (rest_branches bs) → CleanBranches u drop out bs
      many_clean no_branches gd h = tt
      many_clean (more_branches r p bs) gd h = go (drop r) refl (λ e. clean_of p (gd.1 e)) (many_clean bs gd.2)
        where
          go : (b : Bool) → drop r ≡ b → (drop r ≡ false → Somewhere (rest (shape u p)) → Clean u drop out p) → (BranchesMayMerge out (rest_branches bs) → CleanBranches u drop out bs) → CleanBranches u drop out (more_branches r p bs)
          go true x f g = ((λ z. absurd (true≢false (sym x ∙ z))), g (subst (λ b. BranchesMayMerge out (if b then rest_branches bs else s.branch r (rest (shape u p)) (rest_branches bs))) x h))
          go false x f g = let both = subst (λ b. BranchesMayMerge out (if b then rest_branches bs else s.branch r (rest (shape u p)) (rest_branches bs))) x h in ((λ z. f x (at_large both.0)), g both.1)

      choice_clean : (bs : Branches) (t : Span) → GoodBranches u drop out bs → Somewhere (choice_of t (rest_branches bs)) → CleanBranches u drop out bs
      choice_clean no_branches t gd h = tt
      choice_clean (more_branches r p bs) t gd h = chosen_clean r t p bs (λ e. clean_of p (gd.1 e)) (many_clean bs gd.2) (choice_clean bs t gd.2) h
