-- The premises of the law, from what holds for a pattern without its outer anchors.
use Rattle.std.proofs.Common.{◌≡◌, ℕ, Bool, true, false, ◌||◌, if◌then◌else◌, List, [], ◌∷◌, ◌++◌, reverse, Option, Some, None, refl, sym, ap, ◌∙◌, subst, true≢false}
use Rattle.std.proofs.lemmas.List.{reverse-append, reverse-reverse}
use Rattle.rl_ranges.specs.declared.universe.Universe.{Universe}
use Rattle.rl_syntax.specs.PatTree as s
use Rattle.rl_pattern.specs.Tree.{Span, SyntaxNode, leaf, mark, repeat, group, nothing, seq, choice, nodes, branches, Branch, branch_body, whole_body, caret, text_start, dollar, text_end, boundary}
use Rattle.rl_pattern.specs.internal.Judged.{without_leading, without_trailing}
use Rattle.rl_pattern.specs.Found.{is_leading, trail_of, is_some_trail, no_trail, inner_items, items_of, inner_of}
use Rattle.rl_pattern.specs.Shape.{shape, shapes, branch_shapes}
use Rattle.rl_pattern.specs.Suggested.{holds_guard, some_guard, branch_guard}
use Rattle.rl_pattern.proofs.Holes.{hole, holes, body_holes, mark_hole, holes_snoc}
use Rattle.rl_pattern.proofs.Linking.{Good, AllGood, or_none, no_true}
use Rattle.rl_pattern.proofs.OuterAnchors.{AllBare, BareSome}

-- All items of a list.
abbrev pub AllOf : (SyntaxNode → Type 0) → List SyntaxNode → Type 0
AllOf P [] = Unit {0}
AllOf P (p ∷ ps) = P p × AllOf P ps

all_snoc : (P : SyntaxNode → Type 0) (ps : List SyntaxNode) (p : SyntaxNode) → AllOf P ps → P p → AllOf P (ps ++ p ∷ [])
all_snoc P [] p h x = (x, tt)
all_snoc P (q ∷ ps) p (h, hs) x = (h, all_snoc P ps p hs x)

all_reverse : (P : SyntaxNode → Type 0) (ps : List SyntaxNode) → AllOf P ps → AllOf P (reverse ps)
all_reverse P [] h = tt
all_reverse P (p ∷ ps) (h, hs) = subst (AllOf P) (sym (reverse-append (p ∷ []) ps)) (all_snoc P (reverse ps) p (all_reverse P ps hs) h)

leading_back : (P : SyntaxNode → Type 0) → ((p : SyntaxNode) → is_leading p ≡ true → P p) → (ps : List SyntaxNode) → AllOf P (without_leading ps) → AllOf P ps
leading_back P f [] h = tt
leading_back P f (p ∷ ps) h = go (is_leading p) refl (leading_back P f ps)
  where
    go : (b : Bool) → is_leading p ≡ b → (AllOf P (without_leading ps) → AllOf P ps) → AllOf P (p ∷ ps)
    go true e rest = (f p e, rest (subst (λ b. AllOf P (if b then without_leading ps else p ∷ ps)) e h))
    go false e rest = subst (λ b. AllOf P (if b then without_leading ps else p ∷ ps)) e h

trailing_back : (P : SyntaxNode → Type 0) → ((p : SyntaxNode) → is_some_trail (trail_of p) ≡ true → P p) → (ps : List SyntaxNode) → AllOf P (without_trailing ps) → AllOf P ps
trailing_back P f [] h = tt
trailing_back P f (p ∷ ps) h = go (is_some_trail (trail_of p)) refl (trailing_back P f ps)
  where
    go : (b : Bool) → is_some_trail (trail_of p) ≡ b → (AllOf P (without_trailing ps) → AllOf P ps) → AllOf P (p ∷ ps)
    go true e rest = (f p e, rest (subst (λ b. AllOf P (if b then without_trailing ps else p ∷ ps)) e h))
    go false e rest = subst (λ b. AllOf P (if b then without_trailing ps else p ∷ ps)) e h

-- What holds for outer anchors and for the items between them holds for all items.
pub all_back : (P : SyntaxNode → Type 0) → ((p : SyntaxNode) → is_leading p ≡ true → P p) → ((p : SyntaxNode) → is_some_trail (trail_of p) ≡ true → P p) → (ps : List SyntaxNode) → AllOf P (inner_items ps) → AllOf P ps
all_back P f g ps h =
    let back : AllOf P (without_trailing (reverse (without_leading ps))) = subst (AllOf P) (reverse-reverse (without_trailing (reverse (without_leading ps)))) (all_reverse P (inner_items ps) h) in
    leading_back P f ps (subst (AllOf P) (reverse-reverse (without_leading ps)) (all_reverse P (reverse (without_leading ps)) (trailing_back P g (reverse (without_leading ps)) back)))

module _ (u : Universe) (drop out : Span → Bool) where
  lead_good : (p : SyntaxNode) → is_leading p ≡ true → Good u drop out p
  lead_good (mark r f m) h = tt
  lead_good (leaf r f x) h = tt
  lead_good (repeat r q n g p) h = absurd (true≢false (sym h))
  lead_good (group r k p) h = absurd (true≢false (sym h))
  lead_good (nothing r) h = tt
  lead_good (seq r ps) h = absurd (true≢false (sym h))
  lead_good (choice r bs) h = absurd (true≢false (sym h))

  trail_good : (p : SyntaxNode) → is_some_trail (trail_of p) ≡ true → Good u drop out p
  trail_good (mark r f m) h = tt
  trail_good (leaf r f x) h = tt
  trail_good (repeat r q n g p) h = absurd (true≢false (sym h))
  trail_good (group r k p) h = absurd (true≢false (sym h))
  trail_good (nothing r) h = tt
  trail_good (seq r ps) h = absurd (true≢false (sym h))
  trail_good (choice r bs) h = absurd (true≢false (sym h))

  good_items : (ps : List SyntaxNode) → AllOf (Good u drop out) ps → AllGood u drop out (nodes ps)
  good_items [] h = tt
  good_items (p ∷ ps) (h, hs) = (h, good_items ps hs)

  body_good : (r : Span) (ps : List SyntaxNode) → AllOf (Good u drop out) ps → Good u drop out (branch_body r ps)
  body_good r [] h = tt
  body_good r (p ∷ []) h = h.0
  body_good r (p ∷ q ∷ ps) h = good_items (p ∷ q ∷ ps) h

  items_each : (ps : List SyntaxNode) → AllGood u drop out (nodes ps) → AllOf (Good u drop out) ps
  items_each [] h = tt
  items_each (p ∷ ps) (h, hs) = (h, items_each ps hs)

  pub body_each : (r : Span) (ps : List SyntaxNode) → Good u drop out (branch_body r ps) → AllOf (Good u drop out) ps
  body_each r [] h = tt
  body_each r (p ∷ []) h = (h, tt)
  body_each r (p ∷ q ∷ ps) h = items_each (p ∷ q ∷ ps) h

  -- For a body with or without outer anchors.
  pub good_outer : (r t : Span) (p : SyntaxNode) (o : Option (List SyntaxNode)) → items_of p ≡ o → ((ps : List SyntaxNode) → o ≡ Some ps → p ≡ branch_body r ps) → Good u drop out (inner_of t p o).body → Good u drop out p
  good_outer r t p None e f h = h
  good_outer r t p (Some ps) e f h = subst (Good u drop out) (sym (f ps refl)) (body_good r ps (all_back (Good u drop out) lead_good trail_good ps (body_each t (inner_items ps) h)))

  -- Items without a guard aren't outer anchors.
  item_bare : (p : SyntaxNode) → holds_guard (shape u p) ≡ false → (is_leading p ≡ false) × (trail_of p ≡ no_trail)
  item_bare (leaf r f x) h = (refl, refl)
  item_bare (mark r f caret) h = absurd (true≢false h)
  item_bare (mark r f text_start) h = absurd (true≢false h)
  item_bare (mark r f dollar) h = absurd (true≢false h)
  item_bare (mark r f text_end) h = absurd (true≢false h)
  item_bare (mark r f (boundary n)) h = absurd (true≢false h)
  item_bare (repeat r q n g p) h = (refl, refl)
  item_bare (group r k p) h = (refl, refl)
  item_bare (nothing r) h = (refl, refl)
  item_bare (seq r ps) h = (refl, refl)
  item_bare (choice r bs) h = (refl, refl)

  list_bare : (ps : List SyntaxNode) → some_guard (s.items_of (shapes u (nodes ps))) ≡ false → AllBare ps
  list_bare [] h = tt
  list_bare (p ∷ ps) h =
      let c = or_none (holds_guard (shape u p)) (some_guard (s.items_of (shapes u (nodes ps)))) h in
      let b = item_bare p c.0 in
      (b.0, b.1, list_bare ps c.1)

  body_bare : (r : Span) (ps : List SyntaxNode) → holds_guard (shape u (branch_body r ps)) ≡ false → AllBare ps
  body_bare r [] h = tt
  body_bare r (p ∷ []) h = let b = item_bare p h in (b.0, b.1, tt)
  body_bare r (p ∷ q ∷ ps) h = list_bare (p ∷ q ∷ ps) h

  some_bare : (bs : List Branch) → branch_guard (s.branches_of (branch_shapes u (branches bs))) ≡ false → BareSome u drop out bs
  some_bare [] h = tt
  some_bare (b ∷ bs) h =
      let c = or_none (holds_guard (shape u b.body)) (branch_guard (s.branches_of (branch_shapes u (branches bs)))) h in
      ((λ r ps e. body_bare r ps (sym (ap (λ x. holds_guard (shape u x.body)) e) ∙ c.0)), some_bare bs c.1)

  pub whole_bare : (r : Span) (bs : List Branch) → holds_guard (shape u (whole_body r bs)) ≡ false → BareSome u drop out bs
  whole_bare r [] h = tt
  whole_bare r (b ∷ []) h = ((λ t ps e. body_bare t ps (sym (ap (λ x. holds_guard (shape u x.body)) e) ∙ h)), tt)
  whole_bare r (b ∷ c ∷ bs) h = some_bare (b ∷ c ∷ bs) h

  -- Outer anchors have no holes.
  lead_hole : (p : SyntaxNode) (t : ℕ) → is_leading p ≡ true → hole u drop out p t ≡ false
  lead_hole (mark r f m) t h = no_true (hole u drop out (mark r f m) t) (mark_hole u drop out r f m t)
  lead_hole (leaf r f x) t h = refl
  lead_hole (repeat r q n g p) t h = absurd (true≢false (sym h))
  lead_hole (group r k p) t h = absurd (true≢false (sym h))
  lead_hole (nothing r) t h = refl
  lead_hole (seq r ps) t h = absurd (true≢false (sym h))
  lead_hole (choice r bs) t h = absurd (true≢false (sym h))

  trail_hole : (p : SyntaxNode) (t : ℕ) → is_some_trail (trail_of p) ≡ true → hole u drop out p t ≡ false
  trail_hole (mark r f m) t h = no_true (hole u drop out (mark r f m) t) (mark_hole u drop out r f m t)
  trail_hole (leaf r f x) t h = refl
  trail_hole (repeat r q n g p) t h = absurd (true≢false (sym h))
  trail_hole (group r k p) t h = absurd (true≢false (sym h))
  trail_hole (nothing r) t h = refl
  trail_hole (seq r ps) t h = absurd (true≢false (sym h))
  trail_hole (choice r bs) t h = absurd (true≢false (sym h))

  leading_holes : (ps : List SyntaxNode) (t : ℕ) → holes u drop out (without_leading ps) t ≡ holes u drop out ps t
  leading_holes [] t = refl
  leading_holes (p ∷ ps) t = go (is_leading p) refl (leading_holes ps t)
    where
      go : (b : Bool) → is_leading p ≡ b → holes u drop out (without_leading ps) t ≡ holes u drop out ps t → holes u drop out (if is_leading p then without_leading ps else p ∷ ps) t ≡ holes u drop out (p ∷ ps) t
      go true e rest = ap (λ b. holes u drop out (if b then without_leading ps else p ∷ ps) t) e ∙ rest ∙ ap (λ b. b || holes u drop out ps t) (sym (lead_hole p t e))
      go false e rest = ap (λ b. holes u drop out (if b then without_leading ps else p ∷ ps) t) e

  trailing_holes : (ps : List SyntaxNode) (t : ℕ) → holes u drop out (without_trailing ps) t ≡ holes u drop out ps t
  trailing_holes [] t = refl
  trailing_holes (p ∷ ps) t = go (is_some_trail (trail_of p)) refl (trailing_holes ps t)
    where
      go : (b : Bool) → is_some_trail (trail_of p) ≡ b → holes u drop out (without_trailing ps) t ≡ holes u drop out ps t → holes u drop out (if is_some_trail (trail_of p) then without_trailing ps else p ∷ ps) t ≡ holes u drop out (p ∷ ps) t
      go true e rest = ap (λ b. holes u drop out (if b then without_trailing ps else p ∷ ps) t) e ∙ rest ∙ ap (λ b. b || holes u drop out ps t) (sym (trail_hole p t e))
      go false e rest = ap (λ b. holes u drop out (if b then without_trailing ps else p ∷ ps) t) e

  or_swap : (a b : Bool) → (a || b) ≡ (b || a)
  or_swap true true = refl
  or_swap true false = refl
  or_swap false true = refl
  or_swap false false = refl

  reverse_holes : (ps : List SyntaxNode) (t : ℕ) → holes u drop out (reverse ps) t ≡ holes u drop out ps t
  reverse_holes [] t = refl
  reverse_holes (p ∷ ps) t =
      ap (λ qs. holes u drop out qs t) (reverse-append (p ∷ []) ps) ∙ holes_snoc u drop out (reverse ps) p t ∙ ap (λ b. b || hole u drop out p t) (reverse_holes ps t) ∙ or_swap (holes u drop out ps t) (hole u drop out p t)

  inner_holes : (ps : List SyntaxNode) (t : ℕ) → holes u drop out (inner_items ps) t ≡ holes u drop out ps t
  inner_holes ps t = reverse_holes (without_trailing (reverse (without_leading ps))) t ∙ trailing_holes (reverse (without_leading ps)) t ∙ reverse_holes (without_leading ps) t ∙ leading_holes ps t

  pub outer_holes : (r t : Span) (p : SyntaxNode) (o : Option (List SyntaxNode)) → items_of p ≡ o → ((ps : List SyntaxNode) → o ≡ Some ps → p ≡ branch_body r ps) → (k : ℕ) → hole u drop out (inner_of t p o).body k ≡ hole u drop out p k
  outer_holes r t p None e f k = refl
  outer_holes r t p (Some ps) e f k = body_holes u drop out t (inner_items ps) k ∙ inner_holes ps k ∙ sym (body_holes u drop out r ps k) ∙ ap (λ x. hole u drop out x k) (sym (f ps refl))
