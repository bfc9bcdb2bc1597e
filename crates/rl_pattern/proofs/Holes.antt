-- The holes of a syntax tree: the positions of the codes that are gone.
use Rattle.std.proofs.Common.{◌≡◌, ◌⊎◌, ℕ, suc, ◌-◌, ◌<◌, ◌≤◌, Bool, true, false, not, ◌||◌, ◌&&◌, if◌then◌else◌, nat_le, nat_lt, List, [], ◌∷◌, ◌++◌, refl, sym, ap, ◌∙◌, arith, true≢false}
use Rattle.std.proofs.lemmas.Bool.{leb-true, ltb-true, le-leb, lt-ltb}
use mathlib.Core.Logic.{inl, inr, ⊎_elim}
use Rattle.rl_ranges.specs.declared.universe.Universe.{Universe}
use Rattle.rl_syntax.specs.PatTree as s
use Rattle.rl_pattern.specs.declared.flags.Flags.{Flags}
use Rattle.rl_pattern.specs.Tree.{Span, span, Kind, capturing, named, scoped, lookaround, atomic, conditional, SyntaxNode, nodes, branches, Branch, branch_body, branch, whole_body, Assertion, caret, text_start, dollar, text_end, boundary}
use Rattle.rl_pattern.specs.Grammar.{Atom, literal, literal_brace, dotted, escaped, refers, bracketed, grouped, Item, once, repeated, edge_code, edge_escape, Items, no_items, pass_over, one_item, IsBranches, first_branch, next_branch}
use Rattle.rl_pattern.specs.Shape.{is_text, shape, shapes, branch_shapes, group_shape, mark_shape}
use Rattle.rl_pattern.specs.Cut.{lies_in, in_dropped, gone, gone_items, gone_branches}
use Rattle.rl_pattern.proofs.Tokens.{blanks_le, quantifier_lt, passed_lt, opening_lt}
use Rattle.rl_pattern.proofs.Locality.{atom_lt, item_lt, items_le, branches_le}

pub or_cases : (a b : Bool) → (a || b) ≡ true → (a ≡ true) ⊎ (b ≡ true)
or_cases true b h = inl refl
or_cases false b h = inr h

pub or_false : (a : Bool) → (a || false) ≡ a
or_false true = refl
or_false false = refl

pub or_assoc : (a b c : Bool) → ((a || b) || c) ≡ (a || (b || c))
or_assoc true b c = refl
or_assoc false b c = refl

and_cases : (a b : Bool) → (a && b) ≡ true → (a ≡ true) × (b ≡ true)
and_cases true b h = (refl, h)
and_cases false b h = absurd (true≢false (sym h))

pub lies_from : (i j t : ℕ) → lies_in i j t ≡ true → (i ≤ t) × (t < j)
lies_from i j t h = let r = and_cases (nat_le i t) (nat_lt t j) h in (leb-true i t r.0, ltb-true t j r.1)

pub lies_to : (i j t : ℕ) → i ≤ t → t < j → lies_in i j t ≡ true
lies_to i j t a b = ap (λ z. z && nat_lt t j) (le-leb i t a) ∙ lt-ltb t j b

or_true : (a : Bool) → (a || true) ≡ true
or_true true = refl
or_true false = refl

pub cond_cases : (x a b : Bool) → (if x then a else b) ≡ true → (x ≡ true) × (a ≡ true) ⊎ (x ≡ false) × (b ≡ true)
cond_cases true a b h = inl (refl, h)
cond_cases false a b h = inr (refl, h)

one_branch : (x before a b : Bool) (f : Bool → Bool) → (if x then (a || f before) else (b || f true)) ≡ ((if x then a else b) || f (before || not x))
one_branch true before a b f = ap (λ z. a || f z) (sym (or_false before))
one_branch false before a b f = ap (λ z. b || f z) (sym (or_true before))

module _ (u : Universe) (drop out : Span → Bool) where
  abbrev pub hole : SyntaxNode → ℕ → Bool
  hole p t = gone drop out (shape u p) t

  -- The holes of items, and of the branches of a body, where `d` says which are dropped.
  abbrev pub holes : List SyntaxNode → ℕ → Bool
  holes [] t = false
  holes (p ∷ ps) t = hole p t || holes ps t

  abbrev pub hole_of : (Span → Bool) → Bool → Branch → ℕ → Bool
  hole_of d before b t = if d b.place then in_dropped before b.place t else hole b.body t

  abbrev pub branch_holes : (Span → Bool) → List Branch → Bool → ℕ → Bool
  branch_holes d [] before t = false
  branch_holes d (b ∷ bs) before t = hole_of d before b t || branch_holes d bs (before || not (d b.place)) t

  abbrev pub some_left : (Span → Bool) → List Branch → Bool
  some_left d [] = false
  some_left d (b ∷ bs) = not (d b.place) || some_left d bs

  -- A body of one branch has no branch that could be dropped.
  abbrev pub drops_in : List Branch → Span → Bool
  drops_in [] = λ r. false
  drops_in (b ∷ []) = λ r. false
  drops_in (b ∷ c ∷ bs) = drop

  pub holes_snoc : (ps : List SyntaxNode) (p : SyntaxNode) (t : ℕ) → holes (ps ++ p ∷ []) t ≡ (holes ps t || hole p t)
  holes_snoc [] p t = or_false (hole p t)
  holes_snoc (q ∷ ps) p t = ap (λ b. hole q t || b) (holes_snoc ps p t) ∙ sym (or_assoc (hole q t) (holes ps t) (hole p t))

  pub branch_holes_snoc : (d : Span → Bool) (bs : List Branch) (b : Branch) (before : Bool) (t : ℕ) → branch_holes d (bs ++ b ∷ []) before t ≡ (branch_holes d bs before t || hole_of d (before || some_left d bs) b t)
  branch_holes_snoc d [] b before t = or_false (hole_of d before b t) ∙ ap (λ z. hole_of d z b t) (sym (or_false before))
  branch_holes_snoc d (c ∷ bs) b before t =
      ap (λ z. hole_of d before c t || z) (branch_holes_snoc d bs b (before || not (d c.place)) t ∙ ap (λ z. branch_holes d bs (before || not (d c.place)) t || hole_of d z b t) (or_assoc before (not (d c.place)) (some_left d bs))) ∙ sym (or_assoc (hole_of d before c t) (branch_holes d bs (before || not (d c.place)) t) (hole_of d (before || (not (d c.place) || some_left d bs)) b t))

  pub some_left_snoc : (d : Span → Bool) (bs : List Branch) (b : Branch) → some_left d (bs ++ b ∷ []) ≡ (some_left d bs || not (d b.place))
  some_left_snoc d [] b = or_false (not (d b.place))
  some_left_snoc d (c ∷ bs) b = ap (λ z. not (d c.place) || z) (some_left_snoc d bs b) ∙ sym (or_assoc (not (d c.place)) (some_left d bs) (not (d b.place)))

  -- The holes of a branch and of a body.
  gone_nodes : (ps : List SyntaxNode) (t : ℕ) → gone_items drop out (s.items_of (shapes u (nodes ps))) t ≡ holes ps t
  gone_nodes [] t = refl
  gone_nodes (p ∷ ps) t = ap (λ b. hole p t || b) (gone_nodes ps t)

  pub body_holes : (r : Span) (ps : List SyntaxNode) (t : ℕ) → hole (branch_body r ps) t ≡ holes ps t
  body_holes r [] t = refl
  body_holes r (p ∷ []) t = sym (or_false (hole p t))
  body_holes r (p ∷ q ∷ ps) t = gone_nodes (p ∷ q ∷ ps) t

  gone_list : (bs : List Branch) (before : Bool) (t : ℕ) → gone_branches drop out (s.branches_of (branch_shapes u (branches bs))) before t ≡ branch_holes drop bs before t
  gone_list [] before t = refl
  gone_list (b ∷ bs) before t =
      one_branch (drop b.place) before (in_dropped before b.place t) (hole b.body t) (λ z. gone_branches drop out (s.branches_of (branch_shapes u (branches bs))) z t) ∙ ap (λ z. hole_of drop before b t || z) (gone_list bs (before || not (drop b.place)) t)

  pub whole_holes : (r : Span) (bs : List Branch) (t : ℕ) → hole (whole_body r bs) t ≡ branch_holes (drops_in bs) bs false t
  whole_holes r [] t = refl
  whole_holes r (b ∷ []) t = sym (or_false (hole b.body t))
  whole_holes r (b ∷ c ∷ bs) t = gone_list (b ∷ c ∷ bs) false t

  pub group_hole : (r : Span) (kd : Kind) (q : s.PatTree) (t : ℕ) → gone drop out (group_shape r kd q) t ≡ true → gone drop out q t ≡ true
  group_hole r capturing q t h = h
  group_hole r (named n) q t h = h
  group_hole r (scoped f g) q t h = h
  group_hole r (lookaround b n) q t h = absurd (true≢false (sym h))
  group_hole r atomic q t h = absurd (true≢false (sym h))
  group_hole r conditional q t h = absurd (true≢false (sym h))

  pub mark_hole : (r : Span) (f : Flags) (m : Assertion) (t : ℕ) → gone drop out (mark_shape u r f m) t ≡ true → ⊥
  mark_hole r f caret t h = true≢false (sym h)
  mark_hole r f text_start t h = true≢false (sym h)
  mark_hole r f dollar t h = true≢false (sym h)
  mark_hole r f text_end t h = true≢false (sym h)
  mark_hole r f (boundary n) t h = true≢false (sym h)

  module _ (w : List ℕ) where
    pub dropped_within : (j k : ℕ) (some : Bool) (t : ℕ) → j < k → in_dropped some (span (suc j) k) t ≡ true → (j ≤ t) × (t ≤ k) × (t ≡ k → some ≡ false)
    dropped_within j k true t l h = let r = lies_from (suc j - 1) k t h in (omega (arith, r.0), omega (arith, r.1), λ e. absurd (omega (arith, r.1, e)))
    dropped_within j k false t l h = let r = lies_from (suc j) (suc k) t h in (omega (arith, r.0), omega (arith, r.1), λ e. refl)

    first_within : (i j : ℕ) (t : ℕ) → in_dropped false (span i j) t ≡ true → (i ≤ t) × (t ≤ j)
    first_within i j t h = let r = lies_from i (suc j) t h in (r.0, omega (arith, r.1))

    mutual
      pub atom_within : {fl : Flags} {i j : ℕ} {p : SyntaxNode} → Atom (is_text u) w fl i j p → (t : ℕ) → hole p t ≡ true → (i ≤ t) × (t < j)
      atom_within (literal a z) t h = absurd (true≢false (sym h))
      atom_within (literal_brace a z) t h = absurd (true≢false (sym h))
      atom_within (dotted a) t h = absurd (true≢false (sym h))
      atom_within (escaped e) t h = absurd (true≢false (sym h))
      atom_within (refers q n z) t h = absurd (true≢false (sym h))
      atom_within (bracketed e ms z) t h = absurd (true≢false (sym h))
      atom_within (grouped {i = i} {j = j} {k = k} {kd = kd} {bs = bs} o hs z) t h =
          let inner = sym (whole_holes (span j k) bs t) ∙ group_hole (span i (suc k)) kd (shape u (whole_body (span j k) bs)) t h in
          let r = branches_within hs (drops_in bs) t inner in
          (omega (arith, r.0, opening_lt (is_text u) w o), omega (arith, r.1))

      pub item_within : {fl : Flags} {i j : ℕ} {p : SyntaxNode} → Item (is_text u) w fl i j p → (t : ℕ) → hole p t ≡ true → (i ≤ t) × (t < j)
      item_within (once a) t h = atom_within a t h
      item_within (repeated {j = j} {k = k} {l = l} {p = p} a bl q) t h =
          let le = blanks_le (is_text u) w bl in
          let lt = quantifier_lt (is_text u) w q in
          ⊎_elim (λ (z : (out (span k l) && lies_in k l t) ≡ true). let r = lies_from k l t (and_cases (out (span k l)) (lies_in k l t) z).1 in (omega (arith, le, atom_lt (is_text u) w a, r.0), r.1))
          (λ (z : hole p t ≡ true). let r = atom_within a t z in (r.0, omega (arith, r.1, le, lt))) (or_cases (out (span k l) && lies_in k l t) (hole p t) h)
      item_within {fl} (edge_code {i = i} {m = m} a z) t h = absurd (mark_hole (span i (suc i)) fl m t h)
      item_within {fl} (edge_escape {i = i} {m = m} a) t h = absurd (mark_hole (span i (suc (suc i))) fl m t h)

      pub items_within : {fl : Flags} {i j : ℕ} {ps : List SyntaxNode} → Items (is_text u) w fl i j ps → (t : ℕ) → holes ps t ≡ true → (i ≤ t) × (t < j)
      items_within no_items t h = absurd (true≢false (sym h))
      items_within (pass_over a p) t h = let r = items_within a t h in (r.0, omega (arith, r.1, passed_lt (is_text u) w p))
      items_within (one_item {ps = ps} {p = p} a b) t h =
          ⊎_elim (λ (z : holes ps t ≡ true). let r = items_within a t z in (r.0, omega (arith, r.1, item_lt (is_text u) w b))) (λ (z : hole p t ≡ true). let r = item_within b t z in (omega (arith, r.0, items_le (is_text u) w a), r.1)) (or_cases (holes ps t) (hole p t) (sym (holes_snoc ps p t) ∙ h))

      -- The `|` after some branches is gone if none of them is left.
      pub branches_within : {kd : Kind} {fl : Flags} {i j : ℕ} {bs : List Branch} → IsBranches (is_text u) w kd fl i j bs → (d : Span → Bool) (t : ℕ) → branch_holes d bs false t ≡ true → (i ≤ t) × (t ≤ j) × (t ≡ j → some_left d bs ≡ false)
      branches_within (first_branch {i = i} {j = j} {ps = ps} a) d t h =
          ⊎_elim (λ (z : (d (span i j) ≡ true) × (in_dropped false (span i j) t ≡ true)). let r = first_within i j t z.1 in (r.0, r.1, λ e. ap (λ x. not x || false) z.0))
          (λ (z : (d (span i j) ≡ false) × (hole (branch_body (span i j) ps) t ≡ true)). let r = items_within a t (sym (body_holes (span i j) ps t) ∙ z.1) in (r.0, omega (arith, r.1), λ e. absurd (omega (arith, e, r.1))))
          (cond_cases (d (span i j)) (in_dropped false (span i j) t) (hole (branch_body (span i j) ps) t) (sym (or_false (hole_of d false (branch (span i j) ps) t)) ∙ h))
      branches_within {i = i} (next_branch {j = j} {k = k} {bs = bs} {ps = ps} a at_j may b) d t h =
          let b0 = branch (span (suc j) k) ps in
          let le = items_le (is_text u) w b in
          ⊎_elim (λ (z : branch_holes d bs false t ≡ true). let r = branches_within a d t z in (r.0, omega (arith, r.1, le), λ e. absurd (omega (arith, e, r.1, le))))
          (λ (z : hole_of d (some_left d bs) b0 t ≡ true).
          ⊎_elim (λ (y : (d (span (suc j) k) ≡ true) × (in_dropped (some_left d bs) (span (suc j) k) t ≡ true)). let r = dropped_within j k (some_left d bs) t le y.1 in (omega (arith, r.0, branches_le (is_text u) w a), r.1, λ e. some_left_snoc d bs b0 ∙ ap (λ x. x || not (d (span (suc j) k))) (r.2 e) ∙ ap not y.0))
          (λ (y : (d (span (suc j) k) ≡ false) × (hole (branch_body (span (suc j) k) ps) t ≡ true)). let r = items_within b t (sym (body_holes (span (suc j) k) ps t) ∙ y.1) in (omega (arith, r.0, branches_le (is_text u) w a), omega (arith, r.1), λ e. absurd (omega (arith, e, r.1))))
          (cond_cases (d (span (suc j) k)) (in_dropped (some_left d bs) (span (suc j) k) t) (hole (branch_body (span (suc j) k) ps) t) z))
          (or_cases (branch_holes d bs false t) (hole_of d (some_left d bs) b0 t) (sym (branch_holes_snoc d bs b0 false t) ∙ h))
