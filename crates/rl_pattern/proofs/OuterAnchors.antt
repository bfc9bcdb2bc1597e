-- What is left of a whole pattern without its outer anchors, and that nothing in it is refused.
use Rattle.std.proofs.Common.{bytes_eq, ◌≡◌, ◌⊎◌, ℕ, Bool, true, false, not, ◌||◌, ◌&&◌, if◌then◌else◌, List, [], ◌∷◌, ◌++◌, map, reverse, Some, None, refl, sym, ap, ◌∙◌, subst, true≢false}
use Rattle.std.proofs.lemmas.List.{map-append, reverse-append, reverse-reverse}
use mathlib.Core.Logic.{⊎_elim}
use Rattle.rl_ranges.specs.declared.universe.Universe.{Universe}
use Rattle.rl_pattern.specs.declared.flags.Flags.{Flags}
use Rattle.rl_pattern.specs.Tree.{Span, SyntaxNode, Branch, branch_body, branch, whole_body, Front, Whole}
use Rattle.rl_pattern.specs.Codes.{joined}
use Rattle.rl_pattern.specs.internal.Judged.{is_among, without_leading, without_trailing}
use Rattle.rl_pattern.specs.Found.{fault_if, Called, name_faults, node_names, node_faults, is_leading, trail_of, no_trail, run_of, is_some_trail, begins_leading, trailing_run, inner_items, items_of, Inner, inner_of, inner, front_own, front_faults, whole_faults, refused, first_fault, is_locale, is_flag_clash, is_duplicate_name}
use Rattle.rl_pattern.specs.Shape.{is_text}
use Rattle.rl_pattern.specs.internal.Left.{moved_front}
use Rattle.rl_pattern.proofs.InnerBare.{AllItems, branch_items}
use Rattle.rl_pattern.proofs.ShapeParts.{none_first}
use Rattle.rl_pattern.proofs.Leaves.{nil_parts, nil_join, fault_moved, two_moved, name_of, tree, left_tree, Leaves, LeavesAll, all_none, all_more, all_snoc, body_leaves, LeavesSome, some_none, some_stays, some_goes}

-- If two trees have the same names, names occur twice in both or in neither.
among_same : (n : List ℕ) (cs ds : List Called) → map name_of cs ≡ map name_of ds → is_among n cs ≡ is_among n ds
among_same n [] [] e = refl
among_same n [] (d ∷ ds) e = absurd (cc e)
among_same n (c ∷ cs) [] e = absurd (cc e)
among_same n (c ∷ cs) (d ∷ ds) e = let h : c.name ≡ d.name = cc e in let t : map name_of cs ≡ map name_of ds = cc e in ap (λ m. bytes_eq n m || is_among n cs) h ∙ ap (λ b. bytes_eq n d.name || b) (among_same n cs ds t)

names_once : (bs cs ds es : List Called) → map name_of bs ≡ map name_of ds → map name_of cs ≡ map name_of es → name_faults bs cs ≡ [] → name_faults ds es ≡ []
names_once bs [] ds [] e f h = refl
names_once bs [] ds (x ∷ es) e f h = absurd (cc f)
names_once bs (c ∷ cs) ds [] e f h = absurd (cc f)
names_once bs (c ∷ cs) ds (x ∷ es) e f h =
    let same : c.name ≡ x.name = cc f in
    let rest : map name_of cs ≡ map name_of es = cc f in
    let a = nil_parts (fault_if (is_among c.name bs) c.place is_duplicate_name) (name_faults (bs ++ c ∷ []) cs) h in
    let one : is_among c.name bs ≡ is_among x.name ds = among_same c.name bs ds e ∙ ap (λ n. is_among n ds) same in
    let longer : map name_of (bs ++ c ∷ []) ≡ map name_of (ds ++ x ∷ []) = map-append name_of bs (c ∷ []) ∙ ap (λ z. z ++ c.name ∷ []) e ∙ ap (λ z. map name_of ds ++ z ∷ []) same ∙ sym (map-append name_of ds (x ∷ [])) in
    nil_join (fault_if (is_among x.name ds) x.place is_duplicate_name) (name_faults (ds ++ x ∷ []) es) (fault_moved (is_among x.name ds) c.place x.place is_duplicate_name (subst (λ b. fault_if b c.place is_duplicate_name ≡ []) one a.0)) (names_once (bs ++ c ∷ []) cs (ds ++ x ∷ []) es longer rest a.1)

fronts_fine : (g : ℕ → ℕ) (text : Bool) (f : Flags) (gs : List Front) → front_faults text f gs ≡ [] → front_faults text f (map (moved_front g) gs) ≡ []
fronts_fine g text f [] h = refl
fronts_fine g text f (x ∷ gs) h =
    let a = nil_parts (front_own text f x) (front_faults text (joined f x.letters) gs) h in
    nil_join (front_own text f (moved_front g x)) (front_faults text (joined f x.letters) (map (moved_front g) gs)) (two_moved x.letters.locale (x.letters.ascii && (f.unicode || x.letters.unicode) || x.letters.unicode && (f.ascii || not text)) x.place.from (g x.place.from) is_locale is_flag_clash a.0) (fronts_fine g text (joined f x.letters) gs a.1)

-- Items none of which is an outer anchor.
abbrev pub AllBare : List SyntaxNode → Type 0
AllBare [] = Unit {0}
AllBare (p ∷ ps) = (is_leading p ≡ false) × (trail_of p ≡ no_trail) × AllBare ps

bare_snoc : (ps : List SyntaxNode) (p : SyntaxNode) → AllBare ps → is_leading p ≡ false → trail_of p ≡ no_trail → AllBare (ps ++ p ∷ [])
bare_snoc [] p h e f = (e, f, tt)
bare_snoc (q ∷ ps) p (x, z, hs) e f = (x, z, bare_snoc ps p hs e f)

turned : (p : SyntaxNode) (ps : List SyntaxNode) → reverse (p ∷ ps) ≡ reverse ps ++ p ∷ []
turned p ps = reverse-append (p ∷ []) ps

bare_reverse : (ps : List SyntaxNode) → AllBare ps → AllBare (reverse ps)
bare_reverse [] h = tt
bare_reverse (p ∷ ps) (x, z, hs) = subst AllBare (sym (turned p ps)) (bare_snoc (reverse ps) p (bare_reverse ps hs) x z)

bare_leading : (ps : List SyntaxNode) → AllBare ps → without_leading ps ≡ ps
bare_leading [] h = refl
bare_leading (p ∷ ps) (x, z, hs) = ap (λ b. if b then without_leading ps else p ∷ ps) x

bare_trailing : (ps : List SyntaxNode) → AllBare ps → (without_trailing ps ≡ ps) × (trailing_run ps ≡ no_trail)
bare_trailing [] h = (refl, refl)
bare_trailing (p ∷ ps) (x, z, hs) = (ap (λ t. if is_some_trail t then without_trailing ps else p ∷ ps) z, ap (λ t. run_of t (trailing_run ps)) z)

begins_bare : (ps : List SyntaxNode) → AllBare ps → begins_leading ps ≡ false
begins_bare [] h = refl
begins_bare (p ∷ ps) h = h.0

bare_inner : (ps : List SyntaxNode) → AllBare ps → (inner_items ps ≡ ps) × (begins_leading ps ≡ false) × (trailing_run (reverse ps) ≡ no_trail)
bare_inner ps h =
    let t = bare_trailing (reverse ps) (bare_reverse ps h) in
    (ap (λ qs. reverse (without_trailing (reverse qs))) (bare_leading ps h) ∙ ap reverse t.0 ∙ reverse-reverse ps, begins_bare ps h, t.1)

module _ (u : Universe) (drop out : Span → Bool) where
  all_items : {ps qs : List SyntaxNode} → LeavesAll u drop out ps qs → AllItems qs
  all_items all_none = tt
  all_items (all_more h e hs) = (e.stays_item, all_items hs)

  all_bare : {ps qs : List SyntaxNode} → LeavesAll u drop out ps qs → AllBare ps → AllBare qs
  all_bare all_none b = tt
  all_bare (all_more h e hs) (x, z, bs) = (e.leads ∙ x, e.trails ∙ z, all_bare hs bs)

  all_reverse : {ps qs : List SyntaxNode} → LeavesAll u drop out ps qs → LeavesAll u drop out (reverse ps) (reverse qs)
  all_reverse all_none = all_none
  all_reverse (all_more {p = p} {q = q} {ps = ps} {qs = qs} h e hs) = subst (λ xs. LeavesAll u drop out xs (reverse (q ∷ qs))) (sym (turned p ps)) (subst (λ xs. LeavesAll u drop out (reverse ps ++ p ∷ []) xs) (sym (turned q qs)) (all_snoc u drop out (all_reverse hs) h e))

  all_leading : {ps qs : List SyntaxNode} → LeavesAll u drop out ps qs → LeavesAll u drop out (without_leading ps) (without_leading qs)
  all_leading all_none = all_none
  all_leading (all_more {p = p} {q = q} {ps = ps} {qs = qs} h e hs) = go (all_leading hs) (is_leading p) refl
    where
      go : LeavesAll u drop out (without_leading ps) (without_leading qs) → (b : Bool) → is_leading p ≡ b → LeavesAll u drop out (if is_leading p then without_leading ps else p ∷ ps) (if is_leading q then without_leading qs else q ∷ qs)
      go rest true x = subst (λ b. LeavesAll u drop out (if b then without_leading ps else p ∷ ps) (if is_leading q then without_leading qs else q ∷ qs)) (sym x) (subst (λ b. LeavesAll u drop out (without_leading ps) (if b then without_leading qs else q ∷ qs)) (sym (e.leads ∙ x)) rest)
      go rest false x = subst (λ b. LeavesAll u drop out (if b then without_leading ps else p ∷ ps) (if is_leading q then without_leading qs else q ∷ qs)) (sym x) (subst (λ b. LeavesAll u drop out (p ∷ ps) (if b then without_leading qs else q ∷ qs)) (sym (e.leads ∙ x)) (all_more h e hs))

  all_trailing : {ps qs : List SyntaxNode} → LeavesAll u drop out ps qs → LeavesAll u drop out (without_trailing ps) (without_trailing qs)
  all_trailing all_none = all_none
  all_trailing (all_more {p = p} {q = q} {ps = ps} {qs = qs} h e hs) = go (all_trailing hs) (is_some_trail (trail_of p)) refl
    where
      go : LeavesAll u drop out (without_trailing ps) (without_trailing qs) → (b : Bool) → is_some_trail (trail_of p) ≡ b → LeavesAll u drop out (if is_some_trail (trail_of p) then without_trailing ps else p ∷ ps) (if is_some_trail (trail_of q) then without_trailing qs else q ∷ qs)
      go rest true x = subst (λ b. LeavesAll u drop out (if b then without_trailing ps else p ∷ ps) (if is_some_trail (trail_of q) then without_trailing qs else q ∷ qs)) (sym x) (subst (λ b. LeavesAll u drop out (without_trailing ps) (if b then without_trailing qs else q ∷ qs)) (sym (ap is_some_trail e.trails ∙ x)) rest)
      go rest false x = subst (λ b. LeavesAll u drop out (if b then without_trailing ps else p ∷ ps) (if is_some_trail (trail_of q) then without_trailing qs else q ∷ qs)) (sym x) (subst (λ b. LeavesAll u drop out (p ∷ ps) (if b then without_trailing qs else q ∷ qs)) (sym (ap is_some_trail e.trails ∙ x)) (all_more h e hs))

  all_run : {ps qs : List SyntaxNode} → LeavesAll u drop out ps qs → trailing_run qs ≡ trailing_run ps
  all_run all_none = refl
  all_run (all_more {p = p} {q = q} {ps = ps} {qs = qs} h e hs) = ap (λ t. run_of t (trailing_run qs)) e.trails ∙ ap (run_of (trail_of p)) (all_run hs)

  all_begin : {ps qs : List SyntaxNode} → LeavesAll u drop out ps qs → begins_leading qs ≡ begins_leading ps
  all_begin all_none = refl
  all_begin (all_more h e hs) = e.leads

  all_inner : {ps qs : List SyntaxNode} → LeavesAll u drop out ps qs → LeavesAll u drop out (inner_items ps) (inner_items qs)
  all_inner hs = all_reverse (all_trailing (all_reverse (all_leading hs)))

  -- The patterns without their outer anchors.
  pub record LeavesInner (a b : Inner) : Type 0 where
    pub same : tree u drop out b.body ≡ left_tree u drop out a.body
    pub leading : b.leading ≡ a.leading
    pub trail : b.trail ≡ a.trail
    pub faultless : node_faults (is_text u) a.body ≡ [] → node_faults (is_text u) b.body ≡ []

  pub one_inner : (r t r2 t2 : Span) {ps qs : List SyntaxNode} → AllItems ps → LeavesAll u drop out ps qs → LeavesInner (inner_of r (branch_body r2 ps) (items_of (branch_body r2 ps))) (inner_of t (branch_body t2 qs) (items_of (branch_body t2 qs)))
  one_inner r t r2 t2 {ps} {qs} i h =
      subst (λ o. LeavesInner (inner_of r (branch_body r2 ps) o) (inner_of t (branch_body t2 qs) (items_of (branch_body t2 qs)))) (sym (branch_items r2 ps i)) (subst (λ o. LeavesInner (inner_of r (branch_body r2 ps) (Some ps)) (inner_of t (branch_body t2 qs) o)) (sym (branch_items t2 qs (all_items h))) made)
    where
      made : LeavesInner (inner_of r (branch_body r2 ps) (Some ps)) (inner_of t (branch_body t2 qs) (Some qs))
      made = let b = body_leaves u drop out r t (all_inner h) in record { same = b.same; leading = all_begin h; trail = all_run (all_reverse h); faultless = b.faultless }

  -- The body that is left when branches of the whole pattern were dropped.
  abbrev pub BareSome : List Branch → Type 0
  BareSome [] = Unit {0}
  BareSome (b ∷ bs) = ((r : Span) (ps : List SyntaxNode) → b ≡ branch r ps → AllBare ps) × BareSome bs

  abbrev BareLeft : List Branch → Type 0
  BareLeft [] = Unit {0}
  BareLeft (c ∷ cs) = ((t : Span) × (qs : List SyntaxNode) × (c ≡ branch t qs) × AllItems qs × AllBare qs) × BareLeft cs

  bare_left : {d : Span → Bool} {bs cs : List Branch} → LeavesSome u drop out d bs cs → BareSome bs → BareLeft cs
  bare_left some_none b = tt
  bare_left (some_stays {r = r} {t = t} {ps = ps} {qs = qs} e i h hs) (x, bs) = ((t, qs, refl, all_items h, all_bare h (x r ps refl)), bare_left hs bs)
  bare_left (some_goes e h hs) (x, bs) = bare_left hs bs

  abbrev Alone : SyntaxNode → Inner → Type 0
  Alone p i = (tree u drop out i.body ≡ tree u drop out p) × (i.leading ≡ false) × (i.trail ≡ no_trail) × (node_faults (is_text u) p ≡ [] → node_faults (is_text u) i.body ≡ [])

  body_tree : (r t : Span) (ps : List SyntaxNode) → (tree u drop out (branch_body r ps) ≡ tree u drop out (branch_body t ps)) × (node_faults (is_text u) (branch_body t ps) ≡ [] → node_faults (is_text u) (branch_body r ps) ≡ [])
  body_tree r t [] = (refl, λ h. h)
  body_tree r t (p ∷ []) = (refl, λ h. h)
  body_tree r t (p ∷ q ∷ ps) = (refl, λ h. h)

  alone_bare : (r t : Span) (qs : List SyntaxNode) → AllItems qs → AllBare qs → Alone (branch_body t qs) (inner_of r (branch_body t qs) (items_of (branch_body t qs)))
  alone_bare r t qs i b = subst (λ o. Alone (branch_body t qs) (inner_of r (branch_body t qs) o)) (sym (branch_items t qs i)) made
    where
      made : Alone (branch_body t qs) (inner_of r (branch_body t qs) (Some qs))
      made =
          let x = bare_inner qs b in
          let z = body_tree r t qs in
          (ap (λ ps. tree u drop out (branch_body r ps)) x.0 ∙ z.0, x.1, x.2, λ h. subst (λ ps. node_faults (is_text u) (branch_body r ps) ≡ []) (sym x.0) (z.1 h))

  alone_whole : (r t : Span) (cs : List Branch) → BareLeft cs → Alone (whole_body t cs) (inner_of r (whole_body t cs) (items_of (whole_body t cs)))
  alone_whole r t [] b = (refl, refl, refl, λ h. refl)
  alone_whole r t (c ∷ []) ((t2, qs, e, i, bare), rest) = subst (λ x. Alone x.body (inner_of r x.body (items_of x.body))) (sym e) (alone_bare r t2 qs i bare)
  alone_whole r t (c ∷ c2 ∷ cs) b = (refl, refl, refl, λ h. h)

  alone_many : (r t : Span) {b b2 : Branch} {bs cs : List Branch} → LeavesSome u drop out drop (b ∷ b2 ∷ bs) cs → ((x : Span) → drop x ≡ false) → Alone (whole_body t cs) (inner_of r (whole_body t cs) (items_of (whole_body t cs)))
  alone_many r t (some_goes {b = b} e h hs) none = absurd (true≢false (sym e ∙ none b.place))
  alone_many r t (some_stays e i h (some_goes {b = b} e2 h2 hs)) none = absurd (true≢false (sym e2 ∙ none b.place))
  alone_many r t (some_stays e i h (some_stays e2 i2 h2 hs)) none = (refl, refl, refl, λ h. h)

  -- If nothing is dropped, or no branch has an outer anchor at an end.
  pub several_inner : (r t : Span) (p : SyntaxNode) (bs cs : List Branch) {b b2 : Branch} → items_of p ≡ None → Leaves u drop out p (whole_body t cs) → LeavesSome u drop out drop (b ∷ b2 ∷ bs) cs → ((x : Span) → drop x ≡ false) ⊎ BareSome (b ∷ b2 ∷ bs) → LeavesInner (inner_of r p (items_of p)) (inner_of t (whole_body t cs) (items_of (whole_body t cs)))
  several_inner r t p bs cs several h hs free =
      let a : Alone (whole_body t cs) (inner_of t (whole_body t cs) (items_of (whole_body t cs))) = ⊎_elim (λ (z : (x : Span) → drop x ≡ false). alone_many t t hs z) (λ z. alone_whole t t cs (bare_left hs z)) free in
      subst (λ o. LeavesInner (inner_of r p o) (inner_of t (whole_body t cs) (items_of (whole_body t cs)))) (sym several) (record { same = a.0 ∙ h.same; leading = a.1; trail = a.2; faultless = λ fine. a.3 (h.faultless fine) })

  -- Nothing is refused in what is left.
  pub left_allowed : (call : Flags) (g : ℕ → ℕ) (p q : Whole) → q.fronts ≡ map (moved_front g) p.fronts → Leaves u drop out p.body q.body → LeavesInner (inner p) (inner q) → refused call (is_text u) p ≡ None → refused call (is_text u) q ≡ None
  left_allowed call g p q e h i fine =
      let all = none_first (whole_faults call (is_text u) p) fine in
      let a = nil_parts (front_faults (is_text u) call p.fronts) (name_faults [] (node_names p.body) ++ node_faults (is_text u) (inner p).body) all in
      let b = nil_parts (name_faults [] (node_names p.body)) (node_faults (is_text u) (inner p).body) a.1 in
      ap first_fault (nil_join (front_faults (is_text u) call q.fronts) (name_faults [] (node_names q.body) ++ node_faults (is_text u) (inner q).body) (ap (front_faults (is_text u) call) e ∙ fronts_fine g (is_text u) call p.fronts a.0) (nil_join (name_faults [] (node_names q.body)) (node_faults (is_text u) (inner q).body) (names_once [] (node_names p.body) [] (node_names q.body) refl (sym h.names) b.0) (i.faultless b.1)))
