-- Lemmas on the lists of a tree as the program makes them: part by part, with the guards of an item as a set.
use Rattle.std.proofs.Common.{◌≡◌, ℕ, ◌+◌, ◌-◌, ◌<◌, ◌≤◌, ◌⊎◌, inl, inr, Bool, true, false, List, [], ◌∷◌, ◌++◌, length, map, get_or, refl, sym, ap, ap₂, subst, ◌∙◌, append_assoc, arith, length-append, Result, Ok, Err, IfOk, IfErr, OnOk}
use Rattle.std.proofs.lemmas.Bool.{cases_lt}
use Rattle.std.proofs.lemmas.List.{append-nil, length-map, map-append, ext_get_or, get_or-append_right, get_or_append_left, get_or-map}
use Rattle.rl_ranges.specs.Letters.{LetterTable}
use Rattle.rl_syntax.specs.declared.anchors.Guard.{Guard}
use Rattle.rl_syntax.specs.Tree.{Tree, empty, guard, both, either, many, places}
use Rattle.rl_syntax.specs.Run.{one_more}
use Rattle.rl_syntax.specs.declared.limits.TheConstants.{MOST_MOVES}
use Rattle.rl_prio.specs.Items.{Item, test_at, pass, guarded, all_guarded, replaced, first}
use Rattle.rl_prio.specs.internal.GuardSets.{no_guards, only, guard_set}
use Rattle.rl_prio.specs.internal.Attempts.{attempt, attempts, behind, ends_replaced, followed, lists_of, widest, width_of, AreReplaced, AreEntered, AreShort, IsTooWide}
use Rattle.rl_prio.specs.declared.build.attempts.ListError.{ListError}
use Rattle.rl_prio.specs.declared.build.attempts.ListError.TheVariants.{TooLong}
use Rattle.rl_prio.specs.declared.build.attempts.Attempt.{Attempt}
use Rattle.rl_prio.specs.declared.build.attempts.Attempt.TheVariants.{Test, End}
use Rattle.rl_prio.proofs.GuardLemmas.{guard_set-append, joined-none, only-joined}
use Rattle.rl_prio.proofs.WidthLemmas.{widest-within, widest-at, widest-all, widest-left, length-lists_of, length-followed, get_or-followed, width-both_left, width-both_right, width-either_left, width-either_right, width-many}

behind-none_one : (a : Attempt) → behind no_guards a ≡ a
behind-none_one (Test gs p) = ap (λ x. Test x p) (joined-none gs)
behind-none_one (End gs) = ap End (joined-none gs)

pub behind-none : (l : List Attempt) → map (behind no_guards) l ≡ l
behind-none [] = refl
behind-none (a ∷ l) = ap₂ (λ x y. x ∷ y) (behind-none_one a) (behind-none l)

-- ---- replaced lists, part by part

pub replaced_parts : (further : List Attempt) (xs ys zs old new : List (List Attempt)) (from to : ℕ) → AreReplaced further from to old new
    → old ≡ (xs ++ ys) ++ zs → from ≡ length xs → to ≡ length xs + length ys → new ≡ (xs ++ map (λ l. ends_replaced l further) ys) ++ zs
replaced_parts further xs ys zs old new from to r is from_is to_is =
    let f : List Attempt → List Attempt = λ l. ends_replaced l further in
    let size_old : length old ≡ length xs + length ys + length zs = omega (arith, ap length is, length-append (xs ++ ys) zs, length-append xs ys) in
    let size_ys : length (map f ys) ≡ length ys = length-map ys f in
    let size_front : length (xs ++ map f ys) ≡ to = omega (arith, length-append xs (map f ys)) in
    let size_old_front : length (xs ++ ys) ≡ to = omega (arith, length-append xs ys) in
    ext_get_or [] new ((xs ++ map f ys) ++ zs)
    (omega (arith, r.same_count, length-append (xs ++ map f ys) zs))
    (λ i lt. elim (cases_lt i to) [
      | inr le ↦
          r.outside i (inr le) ∙ ap (λ l. get_or l i []) is
          ∙ get_or-append_right (xs ++ ys) zs to i [] size_old_front le
          ∙ sym (get_or-append_right (xs ++ map f ys) zs to i [] size_front le)
      | inl below ↦
          let in_front : i < length (xs ++ map f ys) = omega arith in
          let in_old : i < length (xs ++ ys) = omega arith in
          let old_is : get_or old i [] ≡ get_or (xs ++ ys) i [] = ap (λ l. get_or l i []) is ∙ get_or_append_left (xs ++ ys) zs [] i in_old in
          elim (cases_lt i from) [
            | inl early ↦
                let here : i < length xs = omega arith in
                r.outside i (inl early) ∙ old_is ∙ get_or_append_left xs ys [] i here
                ∙ sym (get_or_append_left (xs ++ map f ys) zs [] i in_front ∙ get_or_append_left xs (map f ys) [] i here)
            | inr late ↦
                let here : i - from < length ys = omega arith in
                r.inside i late below ∙ ap f (old_is ∙ get_or-append_right xs ys from i [] (sym from_is) late)
                ∙ sym (get_or-map f ys (i - from) [] [] here)
                ∙ sym (get_or_append_left (xs ++ map f ys) zs [] i in_front ∙ get_or-append_right xs (map f ys) from i [] (sym from_is) late)
          ]
    ])

pub wide-both_left : (e f : Tree) (b : ℕ) → MOST_MOVES < width_of e b → MOST_MOVES < width_of (both e f) b
wide-both_left e f b over = omega (arith, width-both_left e f b)

pub wide-either_left : (e f : Tree) (b : ℕ) → MOST_MOVES < width_of e b → MOST_MOVES < width_of (either e f) b
wide-either_left e f b over = omega (arith, width-either_left e f b)

pub wide-many_body : (e : Tree) (greedy : Bool) (b : ℕ) → MOST_MOVES < width_of e b → MOST_MOVES < width_of (many e greedy) b
wide-many_body e greedy b over = omega (arith, width-many e greedy b)

-- ---- items as attempts

-- The kinds of a tree, of which the trees here are parts.
module _ (kinds : LetterTable) where
  attempt-guarded : (gs : List Guard) (m : Item) → attempt kinds (guarded gs m) ≡ behind (guard_set kinds gs) (attempt kinds m)
  attempt-guarded gs (test_at hs p) = ap (λ x. Test x p) (guard_set-append kinds gs hs)
  attempt-guarded gs (pass hs) = ap End (guard_set-append kinds gs hs)

  attempts-guarded : (gs : List Guard) (l : List Item) → attempts kinds (all_guarded gs l) ≡ map (behind (guard_set kinds gs)) (attempts kinds l)
  attempts-guarded gs [] = refl
  attempts-guarded gs (m ∷ l) = ap₂ (λ x y. x ∷ y) (attempt-guarded gs m) (attempts-guarded gs l)

  pub attempts-replaced : (l m : List Item) → attempts kinds (replaced l m) ≡ ends_replaced (attempts kinds l) (attempts kinds m)
  attempts-replaced [] m = refl
  attempts-replaced (test_at gs p ∷ l) m = ap (λ x. Test (guard_set kinds gs) p ∷ x) (attempts-replaced l m)
  attempts-replaced (pass gs ∷ l) m =
      map-append (attempt kinds) (all_guarded gs m) (replaced l m) ∙ ap₂ (λ x y. x ++ y) (attempts-guarded gs m) (attempts-replaced l m)

  attempts-followed : (ls : List (List Item)) (m : List Item) → map (attempts kinds) (followed ls m) ≡ map (λ l. ends_replaced l (attempts kinds m)) (map (attempts kinds) ls)
  attempts-followed [] m = refl
  attempts-followed (l ∷ ls) m = ap₂ (λ x y. x ∷ y) (attempts-replaced l m) (attempts-followed ls m)

  attempts-one_more : (greedy : Bool) (l : List Item) → attempts kinds (one_more greedy (pass []) l) ≡ one_more greedy (End no_guards) (attempts kinds l)
  attempts-one_more true l = map-append (attempt kinds) l (pass [] ∷ [])
  attempts-one_more false l = refl

  pub length-attempts : (l : List Item) → length (attempts kinds l) ≡ length l
  length-attempts l = length-map l (attempt kinds)

  -- Lists of no more items than a list may have.
  short_part : (ls : List (List Item)) (old zs new : List (List Attempt)) (to : ℕ) → new ≡ (old ++ map (attempts kinds) ls) ++ zs → to ≡ length old + length ls
      → AreShort (length old) to new → widest ls ≤ MOST_MOVES
  short_part ls old zs new to is to_is short =
      widest-all ls MOST_MOVES (λ k lt.
      let size : length (map (attempts kinds) ls) ≡ length ls = length-map ls (attempts kinds) in
      let in_front : length old + k < length (old ++ map (attempts kinds) ls) = omega (arith, length-append old (map (attempts kinds) ls)) in
      let back : (length old + k) - length old ≡ k = omega arith in
      let at : get_or new (length old + k) [] ≡ attempts kinds (get_or ls k []) =
      ap (λ l. get_or l (length old + k) []) is
      ∙ get_or_append_left (old ++ map (attempts kinds) ls) zs [] (length old + k) in_front
      ∙ get_or-append_right old (map (attempts kinds) ls) (length old) (length old + k) [] refl (omega arith)
      ∙ ap (λ j. get_or (map (attempts kinds) ls) j []) back
      ∙ get_or-map (attempts kinds) ls k [] [] lt in
      omega (arith, ap length at, length-attempts (get_or ls k []), short (length old + k) (omega arith) (omega arith)))

  -- A list that would be longer.
  wide_part : (ls : List (List Item)) (m : List Item) (old zs lists : List (List Attempt)) (k : ℕ) → lists ≡ (old ++ map (attempts kinds) ls) ++ zs
      → length old ≤ k → k < length old + length ls → MOST_MOVES < length (ends_replaced (get_or lists k []) (attempts kinds m)) → MOST_MOVES < widest (followed ls m)
  wide_part ls m old zs lists k is from to over =
      let size : length (map (attempts kinds) ls) ≡ length ls = length-map ls (attempts kinds) in
      let in_front : k < length (old ++ map (attempts kinds) ls) = omega (arith, length-append old (map (attempts kinds) ls)) in
      let here : k - length old < length ls = omega arith in
      let at : get_or lists k [] ≡ attempts kinds (get_or ls (k - length old) []) =
      ap (λ l. get_or l k []) is
      ∙ get_or_append_left (old ++ map (attempts kinds) ls) zs [] k in_front
      ∙ get_or-append_right old (map (attempts kinds) ls) (length old) k [] refl from
      ∙ get_or-map (attempts kinds) ls (k - length old) [] [] here in
      let same : ends_replaced (get_or lists k []) (attempts kinds m) ≡ attempts kinds (get_or (followed ls m) (k - length old) []) =
      ap (λ l. ends_replaced l (attempts kinds m)) at ∙ sym (attempts-replaced (get_or ls (k - length old) []) m)
      ∙ ap (attempts kinds) (sym (get_or-followed ls m (k - length old) here)) in
      omega (
        arith,
        ap length same,
        length-attempts (get_or (followed ls m) (k - length old) []),
        widest-at (followed ls m) (k - length old) (omega (arith, length-followed ls m)),
      )

  -- ---- the lists of a tree, made from the lists of its parts

  pub entered-short : (t : Tree) (old new : List (List Attempt)) (list : List Attempt) → AreEntered kinds t old new list → length list ≤ MOST_MOVES
  entered-short t old new list h = omega (arith, h.short, ap length h.entering, length-attempts (first t (length old)))

  module _ (e : Tree) (old mid : List (List Attempt)) (l1 : List Attempt) (h : AreEntered kinds e old mid l1) where
    size_after : length mid ≡ length old + places e
    size_after =
        omega (arith, ap length h.lists, length-append old (map (attempts kinds) (lists_of e (length old))), length-map (lists_of e (length old)) (attempts kinds), length-lists_of e (length old))

    size_lists : length mid ≡ length old + length (lists_of e (length old))
    size_lists = omega (arith, size_after, length-lists_of e (length old))

    pub in_order : (i j : ℕ) → i ≡ length old → j ≡ length mid → i ≤ j
    in_order i j p q = omega (arith, size_after)

    pub in_lists : (i : ℕ) → i ≡ length old → i ≤ length mid
    in_lists i p = omega (arith, size_after)

    module _ (f : Tree) (mid2 : List (List Attempt)) (l2 : List Attempt) (k : AreEntered kinds f mid mid2 l2) where
      further_is : l2 ≡ attempts kinds (first f (length old + places e))
      further_is = k.entering ∙ ap (λ b. attempts kinds (first f b)) size_after

      parts_are : mid2 ≡ (old ++ map (attempts kinds) (lists_of e (length old))) ++ map (attempts kinds) (lists_of f (length old + places e))
      parts_are = k.lists ∙ ap₂ (λ x b. x ++ map (attempts kinds) (lists_of f b)) h.lists size_after

      short_second : widest (lists_of f (length old + places e)) ≤ MOST_MOVES
      short_second = let s = subst (λ b. width_of f b ≤ MOST_MOVES) size_after k.short in omega (arith, s)

      list_is : ends_replaced l1 l2 ≡ attempts kinds (first (both e f) (length old))
      list_is = ap₂ ends_replaced h.entering further_is ∙ sym (attempts-replaced (first e (length old)) (first f (length old + places e)))

      pub entered-both : (new : List (List Attempt)) (list : List Attempt) → list ≡ ends_replaced l1 l2 → length list ≤ MOST_MOVES
          → AreReplaced l2 (length old) (length mid) mid2 new → AreShort (length old) (length mid) new → AreEntered kinds (both e f) old new list
      entered-both new list is short r shorts =
          let b = length old in
          let m = first f (b + places e) in
          let ls = lists_of e b in
          let zs = map (attempts kinds) (lists_of f (b + places e)) in
          let all : list ≡ attempts kinds (first (both e f) b) = is ∙ list_is in
          let size : length mid ≡ b + length (map (attempts kinds) ls) = omega (arith, size_lists, length-map ls (attempts kinds)) in
          let new_is : new ≡ (old ++ map (attempts kinds) (followed ls m)) ++ zs =
          replaced_parts l2 old (map (attempts kinds) ls) zs mid2 new b (length mid) r parts_are refl size
          ∙ ap (λ x. (old ++ x) ++ zs) (ap (λ x. map (λ l. ends_replaced l x) (map (attempts kinds) ls)) further_is ∙ sym (attempts-followed ls m)) in
          record {
            entering = all;
            lists = new_is ∙ append_assoc old (map (attempts kinds) (followed ls m)) zs ∙ ap (λ x. old ++ x) (sym (map-append (attempts kinds) (followed ls m) (lists_of f (b + places e))));
            short =
                let first_short : length (first (both e f) b) ≤ MOST_MOVES = omega (arith, ap length all, length-attempts (first (both e f) b)) in
                let front_short : widest (followed ls m) ≤ MOST_MOVES =
                short_part (followed ls m) old zs new (length mid) new_is (omega (arith, size_lists, length-followed ls m)) shorts in
                omega (arith, first_short, widest-within (followed ls m) (lists_of f (b + places e)) MOST_MOVES front_short short_second);
          }

      pub wide-both : IsTooWide l1 l2 (length old) (length mid) mid2 → MOST_MOVES < width_of (both e f) (length old)
      wide-both (inl over) = omega (arith, ap length list_is, length-attempts (first (both e f) (length old)))
      wide-both (inr w) =
          let b = length old in
          let m = first f (b + places e) in
          let ls = lists_of e b in
          let over = subst (λ x. MOST_MOVES < length (ends_replaced (get_or mid2 w.0 []) x)) further_is w.3 in
          let wide : MOST_MOVES < widest (followed ls m) =
          wide_part ls m old (map (attempts kinds) (lists_of f (b + places e))) mid2 w.0 parts_are w.1 (omega (arith, w.2, size_lists)) over in
          omega (arith, wide, widest-left (followed ls m) (lists_of f (b + places e)))

      pub entered-either : (list : List Attempt) → list ≡ l1 ++ l2 → length list ≤ MOST_MOVES → AreEntered kinds (either e f) old mid2 list
      entered-either list is short =
          let b = length old in
          let all : list ≡ attempts kinds (first (either e f) b) =
          is ∙ ap₂ (λ x y. x ++ y) h.entering further_is ∙ sym (map-append (attempt kinds) (first e b) (first f (b + places e))) in
          record {
            entering = all;
            lists = parts_are ∙ append_assoc old (map (attempts kinds) (lists_of e b)) (map (attempts kinds) (lists_of f (b + places e)))
                ∙ ap (λ x. old ++ x) (sym (map-append (attempts kinds) (lists_of e b) (lists_of f (b + places e))));
            short =
                let first_short : length (first (either e f) b) ≤ MOST_MOVES = omega (arith, ap length all, length-attempts (first (either e f) b)) in
                let front_short : widest (lists_of e b) ≤ MOST_MOVES = omega (arith, h.short) in
                omega (arith, first_short, widest-within (lists_of e b) (lists_of f (b + places e)) MOST_MOVES front_short short_second);
          }

      pub wide-either : MOST_MOVES < length (l1 ++ l2) → MOST_MOVES < width_of (either e f) (length old)
      wide-either over =
          let b = length old in
          let all : l1 ++ l2 ≡ attempts kinds (first (either e f) b) =
          ap₂ (λ x y. x ++ y) h.entering further_is ∙ sym (map-append (attempt kinds) (first e b) (first f (b + places e))) in
          omega (arith, ap length all, length-attempts (first (either e f) b))

      -- The same of what a call returns; its arguments are the lists and their numbers.
      pub both-made : (new : List (List Attempt)) (s1 s2 : List Attempt) (i j : ℕ) (r : Result (List Attempt) ListError) → s1 ≡ l1 → s2 ≡ l2 → i ≡ length old → j ≡ length mid
          → IfOk r (λ l. l ≡ ends_replaced s1 s2) → IfOk r (λ l. length l ≤ MOST_MOVES) → OnOk r (AreReplaced s2 i j mid2 new) → OnOk r (AreShort i j new) → IfOk r (λ l. AreEntered kinds (both e f) old new l)
      both-made new s1 s2 i j (Err x) p q ie je is short made shorts = tt
      both-made new s1 s2 i j (Ok l) p q ie je is short made shorts =
          entered-both new l (is ∙ ap₂ ends_replaced p q) short
          (subst (λ x. AreReplaced x (length old) (length mid) mid2 new) q (subst (λ x. AreReplaced s2 x (length mid) mid2 new) ie (subst (λ x. AreReplaced s2 i x mid2 new) je made)))
          (subst (λ x. AreShort x (length mid) new) ie (subst (λ x. AreShort i x new) je shorts))

      pub both-wide : (s1 s2 : List Attempt) (i j : ℕ) (r : Result (List Attempt) ListError) → s1 ≡ l1 → s2 ≡ l2 → i ≡ length old → j ≡ length mid
          → IfErr r (λ x. x ≡ TooLong → IsTooWide s1 s2 i j mid2) → IfErr r (λ x. x ≡ TooLong → MOST_MOVES < width_of (both e f) (length old))
      both-wide s1 s2 i j (Ok l) p q ie je wide = tt
      both-wide s1 s2 i j (Err x) p q ie je wide = λ is.
          wide-both (subst (λ l. IsTooWide l l2 (length old) (length mid) mid2) p (subst (λ l. IsTooWide s1 l (length old) (length mid) mid2) q
          (subst (λ k. IsTooWide s1 s2 k (length mid) mid2) ie (subst (λ k. IsTooWide s1 s2 i k mid2) je (wide is)))))

      pub either-made : (s2 : List Attempt) (r : Result (List Attempt) ListError) → s2 ≡ l2
          → IfOk r (λ l. l ≡ l1 ++ s2) → IfOk r (λ l. length l1 ≤ MOST_MOVES → length l ≤ MOST_MOVES) → IfOk r (λ l. AreEntered kinds (either e f) old mid2 l)
      either-made s2 (Err x) q is short = tt
      either-made s2 (Ok l) q is short = entered-either l (is ∙ ap (λ x. l1 ++ x) q) (short (entered-short e old mid l1 h))

      pub either-wide : (s2 : List Attempt) (r : Result (List Attempt) ListError) → s2 ≡ l2
          → IfErr r (λ x. x ≡ TooLong → MOST_MOVES < length (l1 ++ s2)) → IfErr r (λ x. x ≡ TooLong → MOST_MOVES < width_of (either e f) (length old))
      either-wide s2 (Ok l) q wide = tt
      either-wide s2 (Err x) q wide = λ is. wide-either (subst (λ l. MOST_MOVES < length (l1 ++ l)) q (wide is))

    pub wide-both_right : (f : Tree) → MOST_MOVES < width_of f (length mid) → MOST_MOVES < width_of (both e f) (length old)
    wide-both_right f over = omega (arith, subst (λ b. MOST_MOVES < width_of f b) size_after over, width-both_right e f (length old))

    pub wide-either_right : (f : Tree) → MOST_MOVES < width_of f (length mid) → MOST_MOVES < width_of (either e f) (length old)
    wide-either_right f over = omega (arith, subst (λ b. MOST_MOVES < width_of f b) size_after over, width-either_right e f (length old))

    module _ (greedy : Bool) where
      more_is : one_more greedy (End no_guards) l1 ≡ attempts kinds (first (many e greedy) (length old))
      more_is = ap (one_more greedy (End no_guards)) h.entering ∙ sym (attempts-one_more greedy (first e (length old)))

      part_is : mid ≡ (old ++ map (attempts kinds) (lists_of e (length old))) ++ []
      part_is = h.lists ∙ sym (append-nil (old ++ map (attempts kinds) (lists_of e (length old))))

      pub entered-many : (new : List (List Attempt)) (list : List Attempt) → list ≡ one_more greedy (End no_guards) l1 → length list ≤ MOST_MOVES
          → AreReplaced (one_more greedy (End no_guards) l1) (length old) (length mid) mid new → AreShort (length old) (length mid) new → AreEntered kinds (many e greedy) old new list
      entered-many new list is short r shorts =
          let b = length old in
          let m = first (many e greedy) b in
          let ls = lists_of e b in
          let all : list ≡ attempts kinds m = is ∙ more_is in
          let size : length mid ≡ b + length (map (attempts kinds) ls) = omega (arith, size_lists, length-map ls (attempts kinds)) in
          let new_is : new ≡ (old ++ map (attempts kinds) (followed ls m)) ++ [] =
          replaced_parts (one_more greedy (End no_guards) l1) old (map (attempts kinds) ls) [] mid new b (length mid) r part_is refl size
          ∙ ap (λ x. (old ++ x) ++ []) (ap (λ x. map (λ l. ends_replaced l x) (map (attempts kinds) ls)) more_is ∙ sym (attempts-followed ls m)) in
          record {
            entering = all;
            lists = new_is ∙ append-nil (old ++ map (attempts kinds) (followed ls m));
            short =
                let first_short : length m ≤ MOST_MOVES = omega (arith, ap length all, length-attempts m) in
                let front_short : widest (followed ls m) ≤ MOST_MOVES =
                short_part (followed ls m) old [] new (length mid) new_is (omega (arith, size_lists, length-followed ls m)) shorts in
                omega (arith, first_short, front_short);
          }

      pub wide-many : (MOST_MOVES < length (one_more greedy (End no_guards) l1)) ⊎ IsTooWide [] (one_more greedy (End no_guards) l1) (length old) (length mid) mid
          → MOST_MOVES < width_of (many e greedy) (length old)
      wide-many (inl over) = omega (arith, ap length more_is, length-attempts (first (many e greedy) (length old)))
      wide-many (inr (inl over)) = absurd (omega arith)
      wide-many (inr (inr w)) =
          let b = length old in
          let m = first (many e greedy) b in
          let ls = lists_of e b in
          let over = subst (λ x. MOST_MOVES < length (ends_replaced (get_or mid w.0 []) x)) more_is w.3 in
          let wide : MOST_MOVES < widest (followed ls m) = wide_part ls m old [] mid w.0 part_is w.1 (omega (arith, w.2, size_lists)) over in
          omega (arith, wide)

      pub many-made : (new : List (List Attempt)) (i : ℕ) (r : Result (List Attempt) ListError) → i ≡ length old
          → IfOk r (λ l. l ≡ one_more greedy (End no_guards) l1) → IfOk r (λ l. length l ≤ MOST_MOVES) → OnOk r (AreReplaced (one_more greedy (End no_guards) l1) i (length mid) mid new)
          → OnOk r (AreShort i (length mid) new) → IfOk r (λ l. AreEntered kinds (many e greedy) old new l)
      many-made new i (Err x) ie is short made shorts = tt
      many-made new i (Ok l) ie is short made shorts =
          entered-many new l is short (subst (λ k. AreReplaced (one_more greedy (End no_guards) l1) k (length mid) mid new) ie made) (subst (λ k. AreShort k (length mid) new) ie shorts)

      pub many-wide : (i : ℕ) (r : Result (List Attempt) ListError) → i ≡ length old
          → IfErr r (λ x. x ≡ TooLong → (MOST_MOVES < length (one_more greedy (End no_guards) l1)) ⊎ IsTooWide [] (one_more greedy (End no_guards) l1) i (length mid) mid)
          → IfErr r (λ x. x ≡ TooLong → MOST_MOVES < width_of (many e greedy) (length old))
      many-wide i (Ok l) ie wide = tt
      many-wide i (Err x) ie wide = λ is.
          wide-many (subst (λ k. (MOST_MOVES < length (one_more greedy (End no_guards) l1)) ⊎ IsTooWide [] (one_more greedy (End no_guards) l1) k (length mid) mid) ie (wide is))

  pub entered-empty : (old : List (List Attempt)) (list : List Attempt) → list ≡ End no_guards ∷ [] → AreEntered kinds empty old old list
  entered-empty old list is = record { entering = is; lists = sym (append-nil old); short = omega arith }

  pub entered-guard : (g : Guard) (old : List (List Attempt)) (list : List Attempt) → list ≡ End (only kinds g) ∷ [] → AreEntered kinds (guard g) old old list
  entered-guard g old list is = record {
    entering = is ∙ ap (λ x. End x ∷ []) (sym (only-joined kinds g));
    lists = sym (append-nil old);
    short = omega arith;
  }
