-- A pattern from which nothing is dropped keeps a branch in each choice.
use Rattle.std.proofs.Common.{◌≡◌, ℕ, suc, Bool, true, ◌&&◌, List, [], ◌∷◌, ◌++◌, length, refl, sym, ap, ◌∙◌, subst, Ok}
use Rattle.rl_ranges.specs.declared.universe.Universe.{Universe}
use Rattle.rl_syntax.specs.declared.pattern.Pattern.{Pattern}
use Rattle.rl_syntax.specs.Pattern.{body_of}
use Rattle.rl_syntax.specs.PatTree as s
use Rattle.rl_pattern.specs.declared.flags.Flags.{Flags}
use Rattle.rl_pattern.specs.Tree.{Span, span, Kind, capturing, named, scoped, lookaround, atomic, conditional, Assertion, caret, text_start, dollar, text_end, boundary, SyntaxNode, nodes, branches, Branch, branch_body, branch, whole_body, Whole}
use Rattle.rl_pattern.specs.Grammar.{Atom, literal, literal_brace, dotted, escaped, refers, bracketed, grouped, Item, once, repeated, edge_code, edge_escape, Items, no_items, pass_over, one_item, IsBranches, first_branch, next_branch, spelled, Spells}
use Rattle.rl_pattern.specs.Found.{inner_items, inner_of, inner}
use Rattle.rl_pattern.specs.Parsed.{IsParsed}
use Rattle.rl_pattern.specs.Shape.{is_text, shape, shapes, branch_shapes, group_shape, mark_shape}
use Rattle.rl_pattern.specs.Suggested.{among, may_go, items_may_go, branches_may_go}
use Rattle.rl_pattern.proofs.InnerBare.{items_are, branch_items}
use Rattle.rl_pattern.proofs.Final.{inner_part, several_body, some_branch}

both_true : (a b : Bool) → a ≡ true → b ≡ true → (a && b) ≡ true
both_true a b p q = ap (λ z. z && b) p ∙ q

module _ (u : Universe) where
  abbrev Goes : s.PatTree → Type 0
  Goes t = may_go (among []) t ≡ true

  abbrev AllGo : List SyntaxNode → Type 0
  AllGo [] = Unit {0}
  AllGo (p ∷ ps) = Goes (shape u p) × AllGo ps

  abbrev SomeGo : List Branch → Type 0
  SomeGo [] = Unit {0}
  SomeGo (b ∷ bs) = Goes (shape u b.body) × SomeGo bs

  all_snoc : (ps : List SyntaxNode) (p : SyntaxNode) → AllGo ps → Goes (shape u p) → AllGo (ps ++ p ∷ [])
  all_snoc [] p h x = (x, tt)
  all_snoc (q ∷ ps) p (h, hs) x = (h, all_snoc ps p hs x)

  some_snoc : (bs : List Branch) (b : Branch) → SomeGo bs → Goes (shape u b.body) → SomeGo (bs ++ b ∷ [])
  some_snoc [] b h x = (x, tt)
  some_snoc (c ∷ bs) b (h, hs) x = (h, some_snoc bs b hs x)

  all_front : (xs ys : List SyntaxNode) → AllGo (xs ++ ys) → AllGo xs
  all_front [] ys h = tt
  all_front (x ∷ xs) ys (h, hs) = (h, all_front xs ys hs)

  all_back : (xs ys : List SyntaxNode) → AllGo (xs ++ ys) → AllGo ys
  all_back [] ys h = h
  all_back (x ∷ xs) ys (h, hs) = all_back xs ys hs

  nodes_go : (ps : List SyntaxNode) → AllGo ps → items_may_go (among []) (s.items_of (shapes u (nodes ps))) ≡ true
  nodes_go [] h = refl
  nodes_go (p ∷ ps) (h, hs) = both_true (may_go (among []) (shape u p)) (items_may_go (among []) (s.items_of (shapes u (nodes ps)))) h (nodes_go ps hs)

  body_goes : (r : Span) (ps : List SyntaxNode) → AllGo ps → Goes (shape u (branch_body r ps))
  body_goes r [] h = refl
  body_goes r (p ∷ []) h = h.0
  body_goes r (p ∷ q ∷ ps) h = nodes_go (p ∷ q ∷ ps) h

  list_goes : (bs : List Branch) → SomeGo bs → branches_may_go (among []) (s.branches_of (branch_shapes u (branches bs))) ≡ true
  list_goes [] h = refl
  list_goes (b ∷ bs) (h, hs) = both_true (may_go (among []) (shape u b.body)) (branches_may_go (among []) (s.branches_of (branch_shapes u (branches bs)))) h (list_goes bs hs)

  whole_goes : (r : Span) (bs : List Branch) → SomeGo bs → Goes (shape u (whole_body r bs))
  whole_goes r [] h = refl
  whole_goes r (b ∷ []) h = h.0
  whole_goes r (b ∷ c ∷ bs) h = list_goes (b ∷ c ∷ bs) h

  mark_goes : (r : Span) (f : Flags) (m : Assertion) → Goes (mark_shape u r f m)
  mark_goes r f caret = refl
  mark_goes r f text_start = refl
  mark_goes r f dollar = refl
  mark_goes r f text_end = refl
  mark_goes r f (boundary n) = refl

  group_goes : (r : Span) (kd : Kind) (t : s.PatTree) → Goes t → Goes (group_shape r kd t)
  group_goes r capturing t h = h
  group_goes r (named n) t h = h
  group_goes r (scoped f g) t h = h
  group_goes r (lookaround b n) t h = refl
  group_goes r atomic t h = refl
  group_goes r conditional t h = refl

  module _ (text : Bool) (w : List ℕ) where
    mutual
      atom_goes : {fl : Flags} {i j : ℕ} {p : SyntaxNode} → Atom text w fl i j p → Goes (shape u p)
      atom_goes (literal a z) = refl
      atom_goes (literal_brace a z) = refl
      atom_goes (dotted a) = refl
      atom_goes (escaped e) = refl
      atom_goes (refers q n z) = refl
      atom_goes (bracketed e ms z) = refl
      atom_goes (grouped {i = i} {j = j} {k = k} {kd = kd} {bs = bs} o hs z) = group_goes (span i (suc k)) kd (shape u (whole_body (span j k) bs)) (whole_goes (span j k) bs (branches_go hs))

      item_goes : {fl : Flags} {i j : ℕ} {p : SyntaxNode} → Item text w fl i j p → Goes (shape u p)
      item_goes (once a) = atom_goes a
      item_goes (repeated a bl q) = atom_goes a
      item_goes {fl} (edge_code {i = i} {m = m} a z) = mark_goes (span i (suc i)) fl m
      item_goes {fl} (edge_escape {i = i} {m = m} a) = mark_goes (span i (suc (suc i))) fl m

      items_go : {fl : Flags} {i j : ℕ} {ps : List SyntaxNode} → Items text w fl i j ps → AllGo ps
      items_go no_items = tt
      items_go (pass_over h p) = items_go h
      items_go (one_item {ps = ps} {p = p} h it) = all_snoc ps p (items_go h) (item_goes it)

      branches_go : {kd : Kind} {fl : Flags} {i j : ℕ} {bs : List Branch} → IsBranches text w kd fl i j bs → SomeGo bs
      branches_go (first_branch {i = i} {j = j} {ps = ps} h) = (body_goes (span i j) ps (items_go h), tt)
      branches_go (next_branch {j = j} {k = k} {bs = bs} {ps = ps} h at_j may hs) = some_snoc bs (branch (span (suc j) k) ps) (branches_go h) (body_goes (span (suc j) k) ps (items_go hs))

    inner_goes : (call : Flags) (p : Whole) → Spells call text w p → Goes (shape u (inner p).body)
    inner_goes call p (spelled {i = i} f (first_branch {ps = ps} its)) =
        let r = span i (length w) in
        let cut = inner_part text w ps in
        let mid = all_front (inner_items ps) cut.1 (all_back cut.0 (inner_items ps ++ cut.1) (subst AllGo cut.2 (items_go its))) in
        subst (λ o. Goes (shape u (inner_of r (branch_body r ps) o).body)) (sym (branch_items r ps (items_are its))) (body_goes r (inner_items ps) mid)
    inner_goes call p (spelled {i = i} f (next_branch {j = j} {bs = bs} {ps = ps} h at_j may hs)) =
        let n = length w in
        let r = span i n in
        let b = branch (span (suc j) n) ps in
        subst (λ o. Goes (shape u (inner_of r (whole_body r (bs ++ b ∷ [])) o).body)) (sym (several_body r bs b (some_branch text w h))) (whole_goes r (bs ++ b ∷ []) (branches_go (next_branch h at_j may hs)))

-- A pattern as it was parsed.
pub read_goes : (flags : Flags) (u : Universe) (w : List ℕ) (found : Pattern) → IsParsed flags u w (Ok found) → may_go (among []) (body_of found) ≡ true
read_goes flags u w found (whole, sp) = ap (may_go (among [])) sp.pattern.body ∙ inner_goes u (is_text u) w flags whole sp.read.spelled
