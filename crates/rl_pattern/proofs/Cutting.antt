-- The codes that aren't gone spell what is left.
use Rattle.std.proofs.Common.{◌≡◌, ◌⊎◌, ℕ, zero, suc, ◌+◌, Bool, true, false, not, if◌then◌else◌, List, [], ◌∷◌, ◌++◌, length, map, Some, None, refl, sym, ap, ◌∙◌, arith, slice_get}
use Rattle.std.proofs.lemmas.Option.{slice_get_within}
use mathlib.Core.Logic.{inl, inr, ⊎_elim}
use Rattle.rl_ranges.specs.declared.universe.Universe.{Universe}
use Rattle.rl_pattern.specs.declared.flags.Flags.{Flags}
use Rattle.rl_pattern.specs.Tree.{Span, span, SyntaxNode, Branch, branch, branch_body, whole_body, Front, Whole}
use Rattle.rl_pattern.specs.Grammar.{IsBranches, first_branch, next_branch, Fronts, outermost, spelled, Spells}
use Rattle.rl_pattern.specs.Shape.{is_text, shape}
use Rattle.rl_pattern.specs.Thinned.{kept_from}
use Rattle.rl_pattern.specs.internal.Meeting.{MayMeet, Thinned}
use Rattle.rl_pattern.proofs.Sifted.{Sifted, count_from}
use Rattle.rl_pattern.specs.Cut.{gone}
use Rattle.rl_pattern.specs.Found.{items_of, inner_of, inner}
use Rattle.rl_pattern.specs.internal.Left.{moved_front, AllKept, left_first, left_whole}
use Rattle.rl_pattern.proofs.Locality.{whole_left}
use Rattle.rl_pattern.proofs.Holes.{hole, branch_holes, drops_in, some_left, whole_holes, body_holes, branches_within}
use Rattle.rl_pattern.proofs.InnerBare.{items_are}
use Rattle.rl_pattern.proofs.OuterAnchors.{LeavesInner, BareSome, one_inner, several_inner}
use Rattle.rl_pattern.proofs.Leaves.{Leaves, whole_leaves, LeavesSome, some_none, some_stays}
use Rattle.rl_pattern.proofs.Linking.{Good, GoodSome, Agrees, SomeLink, items_links, good_body, cons_some, not_false, no_true, good_whole, no_branch, plain_kind, branches_links, some_of}
use Rattle.rl_pattern.proofs.Seams.{Clean, clean_whole, branches_meet, fronts_end}

module _ (kept : ℕ → Bool) where
  count_more : (i k : ℕ) → count_from kept k (suc i) ≡ (if kept (k + i) then suc (count_from kept k i) else count_from kept k i)
  count_more zero k = let e : k ≡ k + 0 = omega arith in ap (λ m. if kept m then suc zero else zero) e
  count_more (suc i) k = let e : suc k + i ≡ k + suc i = omega arith in go (count_more i (suc k) ∙ ap (λ m. if kept m then suc (count_from kept (suc k) i) else count_from kept (suc k) i) e) (kept k) refl
    where
      swap : (b : Bool) (x : ℕ) → suc (if b then suc x else x) ≡ (if b then suc (suc x) else suc x)
      swap true x = refl
      swap false x = refl

      go : count_from kept (suc k) (suc i) ≡ (if kept (k + suc i) then suc (count_from kept (suc k) i) else count_from kept (suc k) i) → (b : Bool) → kept k ≡ b → (if kept k then suc (count_from kept (suc k) (suc i)) else count_from kept (suc k) (suc i)) ≡ (if kept (k + suc i) then suc (if kept k then suc (count_from kept (suc k) i) else count_from kept (suc k) i) else (if kept k then suc (count_from kept (suc k) i) else count_from kept (suc k) i))
      go rest true e =
          ap (λ b. if b then suc (count_from kept (suc k) (suc i)) else count_from kept (suc k) (suc i)) e ∙ ap suc rest ∙ swap (kept (k + suc i)) (count_from kept (suc k) i) ∙ ap (λ b. if kept (k + suc i) then suc (if b then suc (count_from kept (suc k) i) else count_from kept (suc k) i) else (if b then suc (count_from kept (suc k) i) else count_from kept (suc k) i)) (sym e)
      go rest false e =
          ap (λ b. if b then suc (count_from kept (suc k) (suc i)) else count_from kept (suc k) (suc i)) e ∙ rest ∙ ap (λ b. if kept (k + suc i) then suc (if b then suc (count_from kept (suc k) i) else count_from kept (suc k) i) else (if b then suc (count_from kept (suc k) i) else count_from kept (suc k) i)) (sym e)

  same_codes : (w : List ℕ) (k i : ℕ) → kept (k + i) ≡ true → slice_get (kept_from kept k w) (count_from kept k i) ≡ slice_get w i
  same_codes [] k i h = refl
  same_codes (c ∷ w) k zero h = let e : k + 0 ≡ k = omega arith in ap (λ b. slice_get (if b then c ∷ kept_from kept (suc k) w else kept_from kept (suc k) w) 0) (ap kept (sym e) ∙ h)
  same_codes (c ∷ w) k (suc i) h = let e : suc k + i ≡ k + suc i = omega arith in go (same_codes w (suc k) i (ap kept e ∙ h)) (kept k) refl
    where
      go : slice_get (kept_from kept (suc k) w) (count_from kept (suc k) i) ≡ slice_get w i → (b : Bool) → kept k ≡ b → slice_get (if kept k then c ∷ kept_from kept (suc k) w else kept_from kept (suc k) w) (if kept k then suc (count_from kept (suc k) i) else count_from kept (suc k) i) ≡ slice_get w i
      go rest true e = ap (λ b. slice_get (if b then c ∷ kept_from kept (suc k) w else kept_from kept (suc k) w) (if b then suc (count_from kept (suc k) i) else count_from kept (suc k) i)) e ∙ rest
      go rest false e = ap (λ b. slice_get (if b then c ∷ kept_from kept (suc k) w else kept_from kept (suc k) w) (if b then suc (count_from kept (suc k) i) else count_from kept (suc k) i)) e ∙ rest

  last_code : (w : List ℕ) (k : ℕ) → count_from kept k (length w) ≡ length (kept_from kept k w)
  last_code [] k = refl
  last_code (c ∷ w) k = go (last_code w (suc k)) (kept k) refl
    where
      go : count_from kept (suc k) (length w) ≡ length (kept_from kept (suc k) w) → (b : Bool) → kept k ≡ b → (if kept k then suc (count_from kept (suc k) (length w)) else count_from kept (suc k) (length w)) ≡ length (if kept k then c ∷ kept_from kept (suc k) w else kept_from kept (suc k) w)
      go rest true e = ap (λ b. if b then suc (count_from kept (suc k) (length w)) else count_from kept (suc k) (length w)) e ∙ ap suc rest ∙ ap (λ b. length (if b then c ∷ kept_from kept (suc k) w else kept_from kept (suc k) w)) (sym e)
      go rest false e = ap (λ b. if b then suc (count_from kept (suc k) (length w)) else count_from kept (suc k) (length w)) e ∙ rest ∙ ap (λ b. length (if b then c ∷ kept_from kept (suc k) w else kept_from kept (suc k) w)) (sym e)

  pub sifted : (w : List ℕ) → Sifted w (kept_from kept 0 w) kept (count_from kept 0)
  sifted w =
      record {
        first = refl;
        one_more = λ i h. count_more i 0 ∙ ap (λ b. if b then suc (count_from kept 0 i) else count_from kept 0 i) (at_zero i ∙ h);
        no_more = λ i h. count_more i 0 ∙ ap (λ b. if b then suc (count_from kept 0 i) else count_from kept 0 i) (at_zero i ∙ h);
        same = λ i h. same_codes w 0 i (at_zero i ∙ h);
        last = last_code w 0;
      }
    where
      at_zero : (i : ℕ) → kept (0 + i) ≡ kept i
      at_zero i = let e : 0 + i ≡ i = omega arith in ap kept e

-- The positions that are kept when branches and quantifiers are removed from a tree.
abbrev pub stays : Universe → (Span → Bool) → (Span → Bool) → SyntaxNode → ℕ → Bool
stays u drop out p t = not (gone drop out (shape u p) t)

module _ (u : Universe) (drop out : Span → Bool) (call : Flags) (w : List ℕ) where
  -- What the remaining codes spell.
  pub record Cuts (p : Whole) : Type 0 where
    pub what : Whole
    pub is_spelled : Spells call (is_text u) (kept_from (stays u drop out p.body) 0 w) what
    pub leaves : Leaves u drop out p.body what.body
    pub places : ℕ → ℕ
    pub fronts : what.fronts ≡ map (moved_front places) p.fronts
    pub anchors : LeavesInner u drop out (inner p) (inner what)

  several_none : (r : Span) (bs : List Branch) (b : Branch) → (bs ≡ [] → ⊥) → items_of (whole_body r (bs ++ b ∷ [])) ≡ None
  several_none r [] b some = absurd (some refl)
  several_none r (c ∷ []) b some = refl
  several_none r (c ∷ c2 ∷ bs) b some = refl

  several_at : (r t : Span) (bs cs : List Branch) → items_of (whole_body r bs) ≡ None → Leaves u drop out (whole_body r bs) (whole_body t cs) → LeavesSome u drop out (drops_in u drop out bs) bs cs → ((x : Span) → drop x ≡ false) ⊎ BareSome u drop out bs → (bs ≡ [] → ⊥) → ((b : Branch) → bs ≡ b ∷ [] → ⊥) → LeavesInner u drop out (inner_of r (whole_body r bs) (items_of (whole_body r bs))) (inner_of t (whole_body t cs) (items_of (whole_body t cs)))
  several_at r t [] cs e h hs free none one = absurd (none refl)
  several_at r t (b ∷ []) cs e h hs free none one = absurd (one b refl)
  several_at r t (b ∷ b2 ∷ bs) cs e h hs free none one = several_inner u drop out r t (whole_body r (b ∷ b2 ∷ bs)) bs cs e h hs free

  two_no_one : (bs : List Branch) (b c : Branch) → (bs ≡ [] → ⊥) → bs ++ b ∷ [] ≡ c ∷ [] → ⊥
  two_no_one [] b c some e = some refl
  two_no_one (x ∷ []) b c some e = cc e
  two_no_one (x ∷ z ∷ bs) b c some e = cc e

  -- Nothing is dropped, or no branch of the body begins or ends with an outer anchor.
  abbrev pub Free : Whole → Type 0
  Free p = ((x : Span) → drop x ≡ false) ⊎ (items_of p.body ≡ None → (bs : List Branch) → p.body ≡ whole_body p.place bs → BareSome u drop out bs)

  module _ {i : ℕ} {fl : Flags} {gs : List Front} {bs : List Branch} (f : Fronts (is_text u) w call i fl gs) (hs : IsBranches (is_text u) w outermost fl i (length w) bs) where
    n : ℕ
    n = length w

    abbrev the_body : SyntaxNode
    the_body = whole_body (span i (length w)) bs

    abbrev the_kept : ℕ → Bool
    the_kept = stays u drop out the_body

    abbrev the_places : ℕ → ℕ
    the_places = count_from the_kept 0

    abbrev the_holes : ℕ → Bool
    the_holes = branch_holes u drop out (drops_in u drop out bs) bs false

    same_holes : (t : ℕ) → hole u drop out the_body t ≡ the_holes t
    same_holes t = whole_holes u drop out (span i (length w)) bs t

    goods : Good u drop out the_body → (some_left u drop out (drops_in u drop out bs) bs ≡ true) × GoodSome u drop out (drops_in u drop out bs) bs
    goods gd = good_whole u drop out (span i (length w)) bs (no_branch u drop out w the_kept the_places hs) gd

    agrees : Agrees u drop out w the_kept the_places i (length w) the_holes
    agrees t x z = ap not (same_holes t)

    fronts_stay : AllKept (is_text u) w the_kept the_places 0 i
    fronts_stay t x z = ap not (no_true (hole u drop out the_body t) (λ (e : hole u drop out the_body t ≡ true). omega (arith, z, (branches_within u drop out w hs (drops_in u drop out bs) t (sym (same_holes t) ∙ e)).0)))

    thinned : Good u drop out the_body → Clean u drop out the_body → Thinned w (kept_from the_kept 0 w) the_kept the_places
    thinned gd cl =
        let sf = sifted the_kept w in
        let v = kept_from the_kept 0 w in
        let good = goods gd in
        let meets : (t c e : ℕ) → the_kept t ≡ true → the_kept (suc t) ≡ false → slice_get w t ≡ Some c → slice_get v (the_places (suc t)) ≡ Some e → MayMeet c e = λ t c e kt ks at_c at_e. branches_meet u drop out w v the_kept the_places sf hs (drops_in u drop out bs) good.1 (clean_whole u drop out w v the_kept the_places sf (span i (length w)) bs cl) agrees good.0 (fronts_end (is_text u) w f) (λ x at_x. absurd (omega (arith, slice_get_within v (the_places (length w)) x at_x, sf.last))) t (sym (same_holes (suc t)) ∙ not_false (hole u drop out the_body (suc t)) ks) c e kt at_c at_e in
        record { first = sf.first; one_more = sf.one_more; no_more = sf.no_more; same = sf.same; last = sf.last; seams = meets }

    cut_of : Good u drop out the_body → Clean u drop out the_body → (some : SomeLink u drop out w the_kept the_places outermost fl (drops_in u drop out bs) i (length w) bs)
        → LeavesInner u drop out (inner_of (span i (length w)) the_body (items_of the_body)) (inner_of (span (the_places i) (the_places (length w))) (whole_body (span (the_places i) (the_places (length w))) some.what) (items_of (whole_body (span (the_places i) (the_places (length w))) some.what))) → Cuts (record { fronts = gs; place = span i (length w); body = the_body })
    cut_of gd cl some anchors =
        let r = span (the_places i) (the_places (length w)) in
        let q : Whole = record { fronts = map (moved_front the_places) gs; place = r; body = whole_body r some.what } in
        record {
          what = q;
          is_spelled = whole_left call (is_text u) w (kept_from the_kept 0 w) the_kept the_places q (thinned gd cl) (left_whole f fronts_stay some.is_left);
          leaves = whole_leaves u drop out (span i (length w)) r bs some.what some.leaves;
          places = the_places;
          fronts = refl;
          anchors = anchors;
        }

  pub cut_spells : (p : Whole) → Spells call (is_text u) w p → Good u drop out p.body → Clean u drop out p.body → Free p → Cuts p
  cut_spells p (spelled {i = i} {fl = fl} {gs = gs} f (first_branch {ps = ps} its)) gd cl free =
      let n = length w in
      let b = branch (span i n) ps in
      let bs = b ∷ [] in
      let kept = stays u drop out (branch_body (span i n) ps) in
      let g = count_from kept 0 in
      let r = items_links u drop out w kept g its (good_body u drop out (span i n) ps gd) (λ t x z. ap not (body_holes u drop out (span i n) ps t)) in
      let some : SomeLink u drop out w kept g outermost fl (λ x. false) i n bs = record { what = branch (span (g i) (g n)) r.what ∷ []; some = refl; is_left = left_first (omega arith, λ t x z. absurd (omega (arith, x, z))) r.is_left; leaves = some_stays refl (items_are its) r.leaves some_none } in
      cut_of f (first_branch its) gd cl some (one_inner u drop out (span i n) (span (g i) (g n)) (span i n) (span (g i) (g n)) (items_are its) r.leaves)
  cut_spells p (spelled {i = i} {fl = fl} {gs = gs} f (next_branch {j = j} {bs = bs0} {ps = ps} hs at_j may its)) gd cl free =
      let n = length w in
      let b = branch (span (suc j) n) ps in
      let bs = bs0 ++ b ∷ [] in
      let whole = next_branch hs at_j may its in
      let kept = stays u drop out (whole_body (span i n) bs) in
      let g = count_from kept 0 in
      let d = drops_in u drop out bs in
      let good = goods f whole gd in
      let some = some_of u drop out w kept g d good.0 (branches_links u drop out w kept g whole d good.1 (plain_kind u drop out outermost refl) (agrees f whole)) in
      let nonempty = no_branch u drop out w kept g hs in
      let r2 = span (g i) (g n) in
      cut_of f whole gd cl some (several_at (span i n) r2 bs some.what (several_none (span i n) bs0 b nonempty) (whole_leaves u drop out (span i n) r2 bs some.what some.leaves) some.leaves (⊎_elim (λ (z : (x : Span) → drop x ≡ false). inl z) (λ (z : items_of (whole_body (span i n) bs) ≡ None → (cs : List Branch) → whole_body (span i n) bs ≡ whole_body (span i n) cs → BareSome u drop out cs). inr (z (several_none (span i n) bs0 b nonempty) bs refl)) free) (cons_some u drop out bs0 b) (λ c e. two_no_one bs0 b c nonempty e))
