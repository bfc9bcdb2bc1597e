-- Closed relations by letters are closed: codes that the sets of both trees don't tell apart make the same steps.
use Rattle.std.proofs.Common.{◌≡◌, ℕ, zero, suc, ◌+◌, Bool, true, false, ◌&&◌, List, [], ◌∷◌, ◌++◌, Option, None, Some, nat_lt, Contains, if◌then◌else◌, refl, sym, ap, ap₂, subst, ◌∙◌}
use Rattle.std.proofs.lemmas.Bool.{cond_both}
use Rattle.rl_ranges.specs.declared.universe.Universe.{Universe}
use Rattle.rl_ranges.specs.Letters.{alike}
use Rattle.rl_ranges.proofs.LetterLemmas.{alike-itself, alike-onward}
use Rattle.rl_marks.specs.declared.threads.Origin.{Origin}
use Rattle.rl_syntax.specs.Guards.{sets_named}
use Rattle.rl_syntax.specs.Tree.{sets_in, guard_sets}
use Rattle.rl_syntax.specs.Run.{one_more}
use Rattle.rl_prio.specs.Letters.{all_sets}
use Rattle.rl_prio.proofs.LikenessLemmas.{Finer, Finer-left, Finer-right, Finer-first, Finer-second, holds-like, set_of-alike}
use Rattle.rl_prio.proofs.LikenessLemmas as Likeness
use Rattle.rl_marks.specs.Marked.{Marked, empty, one, guard, both, either, many, further, mark, plain}
use Rattle.rl_marks.specs.Hits.{MatchEnding, AtEnd, AtLastLine, Anywhere, Matcher}
use Rattle.rl_marks.specs.internal.Seeking.{SameFrom}
use Rattle.rl_marks.specs.internal.Caps.{Caps}
use Rattle.rl_marks.specs.internal.MarkItems.{Act, check, open_group, close_group, MarkItem, test_at, pass, all_prefixed, replaced, places, set_of, first, after, allowed, performed}
use Rattle.rl_marks.specs.internal.Walk.{Try, goes, stops, tries}
use Rattle.rl_marks.specs.internal.Threads.{Thread, thread, items_at, spread, taken, stopped, distinct, moved, halted, named}
use Rattle.rl_marks.specs.internal.Pairs.{ThreadPair, begin, ends_before, stops_at, stops_last, Agrees, AgreesBefore, last_pair, KeepsLast, Keeps, IsClosed}
use Rattle.rl_marks.specs.internal.PairLetters.{sets_of_both, guards_of_both, SameKind, KeepsLetters, IsClosedOver}
use Rattle.rl_marks.proofs.Following.{followed-alike}
use Rattle.rl_marks.proofs.PairLaws.{relation-sound}

SameKind-finer : (sets others : List (ℕ → Bool)) (o n : Option ℕ) → Finer sets others → SameKind sets o n → SameKind others o n
SameKind-finer sets others None None f h = tt
SameKind-finer sets others None (Some d) f h = absurd h
SameKind-finer sets others (Some c) None f h = absurd h
SameKind-finer sets others (Some c) (Some d) f h = f c d h

SameKind-like : (sets : List (ℕ → Bool)) (o n : Option ℕ) → SameKind sets o n → Likeness.Like sets o n
SameKind-like sets None None h = tt
SameKind-like sets None (Some d) h = absurd h
SameKind-like sets (Some c) None h = absurd h
SameKind-like sets (Some c) (Some d) h = h

SameKind-onward : (sets : List (ℕ → Bool)) (c d : ℕ) (o : Option ℕ) → alike sets c d ≡ true → SameKind sets (Some d) o → SameKind sets (Some c) o
SameKind-onward sets c d None h k = absurd k
SameKind-onward sets c d (Some e) h k = alike-onward sets c d e h k

-- The sets tell apart what the acts do.
abbrev ActsKnown : List (ℕ → Bool) → List Act → Type 0
ActsKnown sets [] = Unit {0}
ActsKnown sets (check g ∷ acts) = Finer sets (sets_named g) × ActsKnown sets acts
ActsKnown sets (open_group ∷ acts) = ActsKnown sets acts
ActsKnown sets (close_group n ∷ acts) = ActsKnown sets acts

abbrev ItemsKnown : List (ℕ → Bool) → List MarkItem → Type 0
ItemsKnown sets [] = Unit {0}
ItemsKnown sets (test_at acts p ∷ l) = ActsKnown sets acts × ItemsKnown sets l
ItemsKnown sets (pass acts ∷ l) = ActsKnown sets acts × ItemsKnown sets l

module _ (sets : List (ℕ → Bool)) where
  ActsKnown-append : (acts bs : List Act) → ActsKnown sets acts → ActsKnown sets bs → ActsKnown sets (acts ++ bs)
  ActsKnown-append [] bs p q = q
  ActsKnown-append (check g ∷ acts) bs p q = (p.0, ActsKnown-append acts bs p.1 q)
  ActsKnown-append (open_group ∷ acts) bs p q = ActsKnown-append acts bs p q
  ActsKnown-append (close_group n ∷ acts) bs p q = ActsKnown-append acts bs p q

  ItemsKnown-append : (l m : List MarkItem) → ItemsKnown sets l → ItemsKnown sets m → ItemsKnown sets (l ++ m)
  ItemsKnown-append [] m p q = q
  ItemsKnown-append (test_at acts k ∷ l) m p q = (p.0, ItemsKnown-append l m p.1 q)
  ItemsKnown-append (pass acts ∷ l) m p q = (p.0, ItemsKnown-append l m p.1 q)

  ItemsKnown-prefixed : (acts : List Act) (l : List MarkItem) → ActsKnown sets acts → ItemsKnown sets l → ItemsKnown sets (all_prefixed acts l)
  ItemsKnown-prefixed acts [] k p = tt
  ItemsKnown-prefixed acts (test_at bs b ∷ l) k p = (ActsKnown-append acts bs k p.0, ItemsKnown-prefixed acts l k p.1)
  ItemsKnown-prefixed acts (pass bs ∷ l) k p = (ActsKnown-append acts bs k p.0, ItemsKnown-prefixed acts l k p.1)

  ItemsKnown-replaced : (l m : List MarkItem) → ItemsKnown sets l → ItemsKnown sets m → ItemsKnown sets (replaced l m)
  ItemsKnown-replaced [] m p q = tt
  ItemsKnown-replaced (test_at acts b ∷ l) m p q = (p.0, ItemsKnown-replaced l m p.1 q)
  ItemsKnown-replaced (pass acts ∷ l) m p q =
      ItemsKnown-append (all_prefixed acts m) (replaced l m) (ItemsKnown-prefixed acts m p.0 q) (ItemsKnown-replaced l m p.1 q)

  ItemsKnown-more : (greedy : Bool) (l : List MarkItem) → ItemsKnown sets l → ItemsKnown sets (one_more greedy (pass []) l)
  ItemsKnown-more true l p = ItemsKnown-append l (pass [] ∷ []) p (tt, tt)
  ItemsKnown-more false l p = (tt, p)

  first-known : (e : Marked) (b : ℕ) → Finer sets (guard_sets (plain e)) → ItemsKnown sets (first e b)
  first-known empty b f = (tt, tt)
  first-known (one s) b f = (tt, tt)
  first-known (guard g) b f = ((f, tt), tt)
  first-known (both e h) b f =
      ItemsKnown-replaced (first e b) (first h (b + places e))
      (first-known e b (Finer-left sets (guard_sets (plain e)) (guard_sets (plain h)) f))
      (first-known h (b + places e) (Finer-right sets (guard_sets (plain e)) (guard_sets (plain h)) f))
  first-known (either e h) b f =
      ItemsKnown-append (first e b) (first h (b + places e))
      (first-known e b (Finer-left sets (guard_sets (plain e)) (guard_sets (plain h)) f))
      (first-known h (b + places e) (Finer-right sets (guard_sets (plain e)) (guard_sets (plain h)) f))
  first-known (many e greedy) b f = ItemsKnown-more greedy (first e b) (first-known e b f)
  first-known (further e h) b f = first-known e b (Finer-left sets (guard_sets (plain e)) (guard_sets (plain h)) f)
  first-known (mark n e) b f =
      ItemsKnown-prefixed (open_group ∷ []) (replaced (first e b) (pass (close_group n ∷ []) ∷ [])) tt
      (ItemsKnown-replaced (first e b) (pass (close_group n ∷ []) ∷ []) (first-known e b f) (tt, tt))

  after-known : (e : Marked) (b p : ℕ) → Finer sets (guard_sets (plain e)) → ItemsKnown sets (after e b p)
  after-known empty b p f = tt
  after-known (one s) b p f = (tt, tt)
  after-known (guard g) b p f = tt
  after-known (both e h) b p f =
      cond_both (nat_lt p (b + places e)) (replaced (after e b p) (first h (b + places e))) (after h (b + places e) p) (ItemsKnown sets)
      (λ _. ItemsKnown-replaced (after e b p) (first h (b + places e))
      (after-known e b p (Finer-left sets (guard_sets (plain e)) (guard_sets (plain h)) f))
      (first-known h (b + places e) (Finer-right sets (guard_sets (plain e)) (guard_sets (plain h)) f)))
      (λ _. after-known h (b + places e) p (Finer-right sets (guard_sets (plain e)) (guard_sets (plain h)) f))
  after-known (either e h) b p f =
      cond_both (nat_lt p (b + places e)) (after e b p) (after h (b + places e) p) (ItemsKnown sets)
      (λ _. after-known e b p (Finer-left sets (guard_sets (plain e)) (guard_sets (plain h)) f))
      (λ _. after-known h (b + places e) p (Finer-right sets (guard_sets (plain e)) (guard_sets (plain h)) f))
  after-known (many e greedy) b p f =
      ItemsKnown-replaced (after e b p) (first (many e greedy) b) (after-known e b p f) (first-known (many e greedy) b f)
  after-known (further e h) b p f =
      cond_both (nat_lt p (b + places e)) (replaced (after e b p) (first h (b + places e))) (after h (b + places e) p) (ItemsKnown sets)
      (λ _. ItemsKnown-replaced (after e b p) (first h (b + places e))
      (after-known e b p (Finer-left sets (guard_sets (plain e)) (guard_sets (plain h)) f))
      (first-known h (b + places e) (Finer-right sets (guard_sets (plain e)) (guard_sets (plain h)) f)))
      (λ _. after-known h (b + places e) p (Finer-right sets (guard_sets (plain e)) (guard_sets (plain h)) f))
  after-known (mark n e) b p f = ItemsKnown-replaced (after e b p) (pass (close_group n ∷ []) ∷ []) (after-known e b p f) (tt, tt)

  items_at-known : (e : Marked) (q : ℕ) → Finer sets (guard_sets (plain e)) → ItemsKnown sets (items_at e q)
  items_at-known e zero f = first-known e 0 f
  items_at-known e (suc p) f = after-known e 0 p f

  module _ (before other next last : Option ℕ) (like : SameKind sets before other) (like_next : SameKind sets next last) where
    allowed-like : (acts : List Act) → ActsKnown sets acts → allowed acts before next ≡ allowed acts other last
    allowed-like [] k = refl
    allowed-like (check g ∷ acts) k =
        ap₂ (λ a b. a && b)
        (holds-like g before other next last
        (SameKind-like (sets_named g) before other (SameKind-finer sets (sets_named g) before other k.0 like))
        (SameKind-like (sets_named g) next last (SameKind-finer sets (sets_named g) next last k.0 like_next)))
        (allowed-like acts k.1)
    allowed-like (open_group ∷ acts) k = allowed-like acts k
    allowed-like (close_group n ∷ acts) k = allowed-like acts k

    tries-like : (i : ℕ) (l : List MarkItem) (c : Caps) → ItemsKnown sets l → tries before next i l c ≡ tries other last i l c
    tries-like i [] c k = refl
    tries-like i (test_at acts p ∷ l) c k =
        ap₂ (λ b m. (if b then goes p (performed acts i c) ∷ [] else []) ++ m) (allowed-like acts k.0) (tries-like i l c k.1)
    tries-like i (pass acts ∷ l) c k =
        ap₂ (λ b m. (if b then stops (performed acts i c) ∷ [] else []) ++ m) (allowed-like acts k.0) (tries-like i l c k.1)

    spread-like : (m : Marked) → Finer sets (guard_sets (plain m)) → (i : ℕ) (l : List Thread) → spread m before next i l ≡ spread m other last i l
    spread-like m f i l =
        followed-alike (λ (t : Thread). tries before next i (items_at m t.state) t.caps) (λ (t : Thread). tries other last i (items_at m t.state) t.caps)
        (λ (t : Thread). tries-like i (items_at m t.state) t.caps (items_at-known m t.state f)) l

    halted-like : (m : Marked) → Finer sets (guard_sets (plain m)) → (accepts : Bool) (i : ℕ) (l : List Thread)
        → halted m accepts before next i l ≡ halted m accepts other last i l
    halted-like m f accepts i l = ap (stopped accepts) (spread-like m f i l)

taken-like : (m : Marked) (accepts : Bool) (c d : ℕ) → ((p : ℕ) → set_of m 0 p c ≡ set_of m 0 p d) → (l : List Try) → taken m accepts c l ≡ taken m accepts d l
taken-like m accepts c d h [] = refl
taken-like m accepts c d h (goes p k ∷ l) = ap₂ (λ b n. (if b then thread (suc p) k ∷ [] else []) ++ n) (h p) (taken-like m accepts c d h l)
taken-like m accepts c d h (stops k ∷ l) = ap (λ n. if accepts then [] else n) (taken-like m accepts c d h l)

ends-like : (ending : MatchEnding) (c d : ℕ) → ends_before ending (Some c) ≡ ends_before ending (Some d)
ends-like AtEnd c d = refl
ends-like AtLastLine c d = refl
ends-like Anywhere c d = refl

module _ (s t : Matcher) (m : Marked) (of_both : Finer (sets_of_both s t) (all_sets (plain m))) (guards : Finer (guards_of_both s t) (guard_sets (plain m))) where
  moved-like : (accepts : Bool) (before other : Option ℕ) (c d : ℕ) → SameKind (guards_of_both s t) before other → alike (guards_of_both s t) c d ≡ true → alike (sets_of_both s t) c d ≡ true
      → (i : ℕ) (l : List Thread) → moved m accepts before c i l ≡ moved m accepts other d i l
  moved-like accepts before other c d like like_next same i l =
      ap distinct (ap (taken m accepts c) (spread-like (guards_of_both s t) before other (Some c) (Some d) like like_next m guards i l)
      ∙ taken-like m accepts c d
      (λ p. set_of-alike (sets_of_both s t) (plain m) 0 p c d (Finer-left (sets_of_both s t) (sets_in (plain m)) (guard_sets (plain m)) of_both) same)
      (spread m other (Some d) i l))

module _ (u : Universe) (origin : Origin) (s t : Matcher) (R : ThreadPair → Type 0) (closed : IsClosedOver u origin s t R) where
  s_sets : Finer (sets_of_both s t) (all_sets (plain s.tree))
  s_sets = Finer-first (all_sets (plain s.tree)) (all_sets (plain t.tree))

  t_sets : Finer (sets_of_both s t) (all_sets (plain t.tree))
  t_sets = Finer-second (all_sets (plain s.tree)) (all_sets (plain t.tree))

  s_guards : Finer (guards_of_both s t) (guard_sets (plain s.tree))
  s_guards = Finer-first (guard_sets (plain s.tree)) (guard_sets (plain t.tree))

  t_guards : Finer (guards_of_both s t) (guard_sets (plain t.tree))
  t_guards = Finer-second (guard_sets (plain s.tree)) (guard_sets (plain t.tree))

  all_guards : Finer (sets_of_both s t) (guards_of_both s t)
  all_guards = Likeness.Finer-both (sets_of_both s t) (guard_sets (plain s.tree)) (guard_sets (plain t.tree))
      (Finer-right (sets_of_both s t) (sets_in (plain s.tree)) (guard_sets (plain s.tree)) s_sets)
      (Finer-right (sets_of_both s t) (sets_in (plain t.tree)) (guard_sets (plain t.tree)) t_sets)

  -- The pair after another code of the same kind.
  abbrev after_other : ThreadPair → Option ℕ → ThreadPair
  after_other p o = record { left = p.left; right = p.right; agree = p.agree; before = o }

  abbrev Related : ThreadPair → Type 0
  Related p = (o : Option ℕ) × SameKind (guards_of_both s t) p.before o × R (after_other p o)

  agrees_like : (ends other : MatchEnding → Bool) → ends s.ending ≡ other s.ending → ends t.ending ≡ other t.ending
      → (p : ThreadPair) (o next last : Option ℕ) → SameKind (guards_of_both s t) p.before o → SameKind (guards_of_both s t) next last
      → AgreesBefore s t other (after_other p o) last → AgreesBefore s t ends p next
  agrees_like ends other same_s same_t p o next last like like_next h =
      subst (λ x. Agrees p.agree x (halted t.tree (ends t.ending) p.before next 0 (named suc p.right)))
      (sym (ap (λ b. halted s.tree b p.before next 0 (named suc p.left)) same_s
      ∙ halted-like (guards_of_both s t) p.before o next last like like_next s.tree s_guards (other s.ending) 0 (named suc p.left)))
      (subst (λ x. Agrees p.agree (halted s.tree (other s.ending) o last 0 (named suc p.left)) x)
      (sym (ap (λ b. halted t.tree b p.before next 0 (named suc p.right)) same_t
      ∙ halted-like (guards_of_both s t) p.before o next last like like_next t.tree t_guards (other t.ending) 0 (named suc p.right)))
      h)

  -- The pair behind a last line feed doesn't depend on which code of its kind is before.
  last_pair-like : (accepts : Bool) (p : ThreadPair) (o : Option ℕ) → SameKind (guards_of_both s t) p.before o → (agree : Bool)
      → last_pair s t accepts p agree ≡ last_pair s t accepts (after_other p o) agree
  last_pair-like accepts p o like agree =
      ap₂ (λ (l r : List Thread). record { left = l; right = r; agree = agree; before = Some 10 })
      (moved-like s t s.tree s_sets s_guards (stops_last accepts s.ending) p.before o 10 10 like (alike-itself (guards_of_both s t) 10) (alike-itself (sets_of_both s t) 10) 0 (named suc p.left))
      (moved-like s t t.tree t_sets t_guards (stops_last accepts t.ending) p.before o 10 10 like (alike-itself (guards_of_both s t) 10) (alike-itself (sets_of_both s t) 10) 0 (named suc p.right))

  keeps_last-like : (accepts : Bool) (p : ThreadPair) (o : Option ℕ) → SameKind (guards_of_both s t) p.before o → (agree : Bool)
      → KeepsLast s t accepts (after_other p o) agree → KeepsLast s t accepts p agree
  keeps_last-like accepts p o like agree keeps = record {
    agrees = λ e. agrees_like (stops_last accepts) (stops_last accepts) refl refl p o (Some 10) (Some 10) like (alike-itself (guards_of_both s t) 10) (keeps.agrees e);
    at_end = subst (λ q. AgreesBefore s t (stops_at true None) q None) (sym (last_pair-like accepts p o like agree)) keeps.at_end;
  }

  keeps-like : (accepts : Bool) (p : ThreadPair) (o : Option ℕ) → SameKind (guards_of_both s t) p.before o
      → KeepsLetters u s t R accepts (after_other p o) → Keeps u s t Related accepts p
  keeps-like accepts p o like keeps = record {
    at_end = agrees_like (stops_at accepts None) (stops_at accepts None) refl refl p o None None like tt keeps.at_end;
    at_last = λ tells. (let last = keeps.at_last tells in (last.0, keeps_last-like accepts p o like last.0 last.1));
    on = λ code lt.
        let step = keeps.on code lt in
        let r = step.0 in
        let q = step.3 in
        let kind : alike (guards_of_both s t) code r ≡ true = all_guards code r step.1 in
        let same : (ending : MatchEnding) → stops_at accepts (Some code) ending ≡ stops_at accepts (Some r) ending = λ ending. ap (λ b. accepts && b) (ends-like ending code r) in
        let taken = step.5 in (
          step.2,
          after_other q (Some code),
          (q.before, SameKind-onward (guards_of_both s t) code r q.before kind taken.same_kind, step.4),
          record {
            same_left = taken.same_left
                ∙ ap (λ b. moved s.tree b o r 0 (named suc p.left)) (sym (same s.ending))
                ∙ sym (moved-like s t s.tree s_sets s_guards (stops_at accepts (Some code) s.ending) p.before o code r like kind step.1 0 (named suc p.left));
            same_right = taken.same_right
                ∙ ap (λ b. moved t.tree b o r 0 (named suc p.right)) (sym (same t.ending))
                ∙ sym (moved-like s t t.tree t_sets t_guards (stops_at accepts (Some code) t.ending) p.before o code r like kind step.1 0 (named suc p.right));
            same_before = refl;
            agrees = λ e. agrees_like (stops_at accepts (Some code)) (stops_at accepts (Some r)) (same s.ending) (same t.ending) p o (Some code) (Some r) like kind (taken.agrees e);
          },
        );
  }

  related-closed : IsClosed u origin s t Related
  related-closed = record {
    begins = λ before lt accepts asked. (let o = closed.begins before lt accepts asked in keeps-like accepts (begin before) o.0 o.1 o.2);
    kept = λ p related. keeps-like true p related.0 related.1 (closed.kept (after_other p related.0) related.2);
  }

  sound-over : SameFrom origin u s t
  sound-over = relation-sound u origin s t Related related-closed

pub closed_over-sound : (u : Universe) (origin : Origin) (s t : Matcher) (relation : List ThreadPair) → IsClosedOver u origin s t (Contains relation) → SameFrom origin u s t
closed_over-sound u origin s t relation closed = sound-over u origin s t (Contains relation) closed
