-- Lists of items. Those of a part of a tree are no longer than the longest one of the tree.
use Rattle.std.proofs.Common.{◌≡◌, ℕ, suc, ◌+◌, ◌<◌, ◌≤◌, Bool, true, false, List, [], ◌∷◌, ◌++◌, length, nat_lt, inl, inr, refl, sym, ap, subst, arith, length-append}
use Rattle.std.proofs.lemmas.Bool.{cases_lt, cond-true, cond-false, lt-ltb, le-ltb}
use Rattle.rl_syntax.specs.Run.{one_more}
use Rattle.rl_marks.specs.Marked.{Marked, empty, one, guard, both, either, many, further, mark}
use Rattle.rl_marks.specs.declared.threads.Act.{Act}
use Rattle.rl_marks.specs.declared.threads.Act.TheVariants.{OpenGroup as open_group, CloseGroup as close_group}
use Rattle.rl_marks.specs.declared.threads.MarkItem.{MarkItem}
use Rattle.rl_marks.specs.declared.threads.MarkItem.TheVariants.{Test as test_at, Pass as pass}
use Rattle.rl_marks.specs.MarkItems.{all_prefixed, replaced, places, first, after}
use Rattle.rl_spans.specs.Limits.{IsShort, IsShortBehind}

-- The list has an end.
abbrev HasEnd : List MarkItem → Type 0
HasEnd [] = ⊥
HasEnd (test_at acts p ∷ l) = HasEnd l
HasEnd (pass acts ∷ l) = Unit {0}

end-left : (l m : List MarkItem) → HasEnd l → HasEnd (l ++ m)
end-left [] m h = absurd h
end-left (test_at acts p ∷ l) m h = end-left l m h
end-left (pass acts ∷ l) m h = tt

end-right : (l m : List MarkItem) → HasEnd m → HasEnd (l ++ m)
end-right [] m h = h
end-right (test_at acts p ∷ l) m h = end-right l m h
end-right (pass acts ∷ l) m h = tt

end-prefixed : (acts : List Act) (l : List MarkItem) → HasEnd l → HasEnd (all_prefixed acts l)
end-prefixed acts [] h = absurd h
end-prefixed acts (test_at bs p ∷ l) h = end-prefixed acts l h
end-prefixed acts (pass bs ∷ l) h = tt

end-replaced : (l m : List MarkItem) → HasEnd l → HasEnd m → HasEnd (replaced l m)
end-replaced [] m h k = absurd h
end-replaced (test_at acts p ∷ l) m h k = end-replaced l m h k
end-replaced (pass acts ∷ l) m h k = end-left (all_prefixed acts m) (replaced l m) (end-prefixed acts m k)

end-more : (greedy : Bool) (l : List MarkItem) → HasEnd (one_more greedy (pass []) l)
end-more true l = end-right l (pass [] ∷ []) tt
end-more false l = tt

-- The lengths of lists that are put together.
pub length-prefixed : (acts : List Act) (l : List MarkItem) → length (all_prefixed acts l) ≡ length l
length-prefixed acts [] = refl
length-prefixed acts (m ∷ l) = ap suc (length-prefixed acts l)

pub replaced-longer : (l m : List MarkItem) → 1 ≤ length m → length l ≤ length (replaced l m)
replaced-longer [] m some = omega arith
replaced-longer (test_at acts p ∷ l) m some = omega (arith, replaced-longer l m some)
replaced-longer (pass acts ∷ l) m some =
    omega (arith, length-append (all_prefixed acts m) (replaced l m), length-prefixed acts m, replaced-longer l m some)

pub replaced-further : (l m : List MarkItem) → HasEnd l → length m ≤ length (replaced l m)
replaced-further [] m h = absurd h
replaced-further (test_at acts p ∷ l) m h = omega (arith, replaced-further l m h)
replaced-further (pass acts ∷ l) m h = omega (arith, length-append (all_prefixed acts m) (replaced l m), length-prefixed acts m)

pub length-more : (greedy : Bool) (x : MarkItem) (l : List MarkItem) → length (one_more greedy x l) ≡ suc (length l)
length-more true x l = omega (arith, length-append l (x ∷ []))
length-more false x l = refl

pub first-some : (t : Marked) (b : ℕ) → 1 ≤ length (first t b)
first-some empty b = omega arith
first-some (one s) b = omega arith
first-some (guard g) b = omega arith
first-some (both e f) b =
    omega (arith, first-some e b, replaced-longer (first e b) (first f (b + places e)) (first-some f (b + places e)))
first-some (either e f) b = omega (arith, first-some e b, length-append (first e b) (first f (b + places e)))
first-some (many e greedy) b = omega (arith, length-more greedy (pass []) (first e b))
first-some (further e f) b = first-some e b
first-some (mark n e) b =
    let close : List MarkItem = pass (close_group n ∷ []) ∷ [] in
    let some : 1 ≤ length close = omega arith in
    omega (arith, first-some e b, replaced-longer (first e b) close some, length-prefixed (open_group ∷ []) (replaced (first e b) close))

-- The items behind a place of the first of two parts, and of the second.
module _ (e f : Marked) (b p : ℕ) where
  pub after-left : p < b + places e → after (both e f) b p ≡ replaced (after e b p) (first f (b + places e))
  after-left lt = cond-true (nat_lt p (b + places e)) (replaced (after e b p) (first f (b + places e))) (after f (b + places e) p) (lt-ltb p (b + places e) lt)

  pub after-right : b + places e ≤ p → after (both e f) b p ≡ after f (b + places e) p
  after-right le = cond-false (nat_lt p (b + places e)) (replaced (after e b p) (first f (b + places e))) (after f (b + places e) p) (le-ltb p (b + places e) le)

  pub after-one : p < b + places e → after (either e f) b p ≡ after e b p
  after-one lt = cond-true (nat_lt p (b + places e)) (after e b p) (after f (b + places e) p) (lt-ltb p (b + places e) lt)

  pub after-other : b + places e ≤ p → after (either e f) b p ≡ after f (b + places e) p
  after-other le = cond-false (nat_lt p (b + places e)) (after e b p) (after f (b + places e) p) (le-ltb p (b + places e) le)

-- A place of the tree whose items have an end.
pub record EndsBehind (t : Marked) (b : ℕ) : Type 0 where
  pub place : ℕ
  pub from : b ≤ place
  pub below : place < b + places t
  pub end : HasEnd (after t b place)

-- A tree without places has an end on entering.
end-first : (t : Marked) (b : ℕ) → places t ≡ 0 → HasEnd (first t b)
end-first empty b none = tt
end-first (one s) b none = absurd (omega arith)
end-first (guard g) b none = tt
end-first (both e f) b none =
    end-replaced (first e b) (first f (b + places e)) (end-first e b (omega arith)) (end-first f (b + places e) (omega arith))
end-first (either e f) b none = end-left (first e b) (first f (b + places e)) (end-first e b (omega arith))
end-first (many e greedy) b none = end-more greedy (first e b)
end-first (further e f) b none = end-first e b (omega arith)
end-first (mark n e) b none =
    let close : List MarkItem = pass (close_group n ∷ []) ∷ [] in
    end-prefixed (open_group ∷ []) (replaced (first e b) close) (end-replaced (first e b) close (end-first e b none) tt)

module _ (e f : Marked) (b : ℕ) where
  ends-left : EndsBehind e b → HasEnd (first f (b + places e)) → EndsBehind (both e f) b
  ends-left x h = record {
    place = x.place;
    from = x.from;
    below = omega (arith, x.below);
    end = subst HasEnd (sym (after-left e f b x.place x.below)) (end-replaced (after e b x.place) (first f (b + places e)) x.end h);
  }

  ends-right : EndsBehind f (b + places e) → EndsBehind (both e f) b
  ends-right x = record {
    place = x.place;
    from = omega (arith, x.from);
    below = omega (arith, x.below);
    end = subst HasEnd (sym (after-right e f b x.place x.from)) x.end;
  }

  ends-both : (0 < places e → EndsBehind e b) → (0 < places f → EndsBehind f (b + places e)) → 0 < places e + places f → EndsBehind (both e f) b
  ends-both x y some = elim (cases_lt 0 (places f)) [
    | inl h ↦ ends-right (y h)
    | inr h ↦ ends-left (x (omega arith)) (end-first f (b + places e) (omega arith))
  ]

  ends-either : (0 < places e → EndsBehind e b) → (0 < places f → EndsBehind f (b + places e)) → 0 < places e + places f → EndsBehind (either e f) b
  ends-either x y some = elim (cases_lt 0 (places e)) [
    | inl h ↦ let k = x h in record {
      place = k.place;
      from = k.from;
      below = omega (arith, k.below);
      end = subst HasEnd (sym (after-one e f b k.place k.below)) k.end;
    }
    | inr h ↦ let k = y (omega arith) in record {
      place = k.place;
      from = omega (arith, k.from);
      below = omega (arith, k.below);
      end = subst HasEnd (sym (after-other e f b k.place k.from)) k.end;
    }
  ]

-- A tree with places has one whose items have an end.
ends-behind : (t : Marked) (b : ℕ) → 0 < places t → EndsBehind t b
ends-behind empty b some = absurd (omega arith)
ends-behind (one s) b some = record { place = b; from = omega arith; below = omega arith; end = tt }
ends-behind (guard g) b some = absurd (omega arith)
ends-behind (both e f) b some = ends-both e f b (ends-behind e b) (ends-behind f (b + places e)) some
ends-behind (either e f) b some = ends-either e f b (ends-behind e b) (ends-behind f (b + places e)) some
ends-behind (many e greedy) b some =
    let k = ends-behind e b some in
    record {
      place = k.place;
      from = k.from;
      below = k.below;
      end = end-replaced (after e b k.place) (first (many e greedy) b) k.end (end-more greedy (first e b));
    }
ends-behind (further e f) b some =
    let k = ends-both e f b (ends-behind e b) (ends-behind f (b + places e)) some in
    record { place = k.place; from = k.from; below = k.below; end = k.end }
ends-behind (mark n e) b some =
    let k = ends-behind e b some in
    record { place = k.place; from = k.from; below = k.below; end = end-replaced (after e b k.place) (pass (close_group n ∷ []) ∷ []) k.end tt }

-- ---- the parts of a tree

module _ (e f : Marked) (b : ℕ) where
  pub behind-left : IsShortBehind (both e f) b → IsShortBehind e b
  behind-left s p from below =
      omega (
        arith,
        s p from (omega arith),
        ap length (after-left e f b p below),
        replaced-longer (after e b p) (first f (b + places e)) (first-some f (b + places e)),
      )

  pub behind-right : IsShortBehind (both e f) b → IsShortBehind f (b + places e)
  behind-right s p from below = omega (arith, s p (omega arith) (omega arith), ap length (after-right e f b p from))

  -- If the first part has a place, the second one is entered behind one.
  pub behind-entered : 0 < places e → IsShortBehind (both e f) b → IsShort f (b + places e)
  behind-entered some s =
      let k = ends-behind e b some in
      record {
        entering = omega (
          arith,
          s k.place k.from (omega (arith, k.below)),
          ap length (after-left e f b k.place k.below),
          replaced-further (after e b k.place) (first f (b + places e)) k.end,
        );
        behind = behind-right s;
      }

  pub short-left : IsShort (both e f) b → IsShort e b
  short-left s = record {
    entering = omega (arith, s.entering, replaced-longer (first e b) (first f (b + places e)) (first-some f (b + places e)));
    behind = behind-left s.behind;
  }

  pub short-right : IsShort (both e f) b → IsShort f (b + places e)
  short-right s = elim (cases_lt 0 (places e)) [
    | inl h ↦ behind-entered h s.behind
    | inr h ↦ record {
      entering = omega (arith, s.entering, replaced-further (first e b) (first f (b + places e)) (end-first e b (omega arith)));
      behind = behind-right s.behind;
    }
  ]

  pub behind-one : IsShortBehind (either e f) b → IsShortBehind e b
  behind-one s p from below = omega (arith, s p from (omega arith), ap length (after-one e f b p below))

  pub behind-other : IsShortBehind (either e f) b → IsShortBehind f (b + places e)
  behind-other s p from below = omega (arith, s p (omega arith) (omega arith), ap length (after-other e f b p from))

  pub short-one : IsShort (either e f) b → IsShort e b
  short-one s = record { entering = omega (arith, s.entering, length-append (first e b) (first f (b + places e))); behind = behind-one s.behind }

  pub short-other : IsShort (either e f) b → IsShort f (b + places e)
  short-other s = record { entering = omega (arith, s.entering, length-append (first e b) (first f (b + places e))); behind = behind-other s.behind }

  pub short-further : IsShort (further e f) b → IsShort e b
  short-further s = record { entering = s.entering; behind = behind-left s.behind }

module _ (e : Marked) (greedy : Bool) (b : ℕ) where
  pub behind-many : IsShortBehind (many e greedy) b → IsShortBehind e b
  behind-many s p from below =
      omega (arith, s p from below, replaced-longer (after e b p) (first (many e greedy) b) (first-some (many e greedy) b))

  pub behind-again : 0 < places e → IsShortBehind (many e greedy) b → IsShort (many e greedy) b
  behind-again some s =
      let k = ends-behind e b some in
      record {
        entering = omega (arith, s k.place k.from k.below, replaced-further (after e b k.place) (first (many e greedy) b) k.end);
        behind = s;
      }

  pub short-many : IsShort (many e greedy) b → IsShort e b
  short-many s = record { entering = omega (arith, s.entering, length-more greedy (pass []) (first e b)); behind = behind-many s.behind }

module _ (n : ℕ) (e : Marked) (b : ℕ) where
  pub behind-mark : IsShortBehind (mark n e) b → IsShortBehind e b
  behind-mark s p from below =
      let close : List MarkItem = pass (close_group n ∷ []) ∷ [] in
      let some : 1 ≤ length close = omega arith in
      omega (arith, s p from below, replaced-longer (after e b p) close some)

  pub short-mark : IsShort (mark n e) b → IsShort e b
  short-mark s =
      let close : List MarkItem = pass (close_group n ∷ []) ∷ [] in
      let some : 1 ≤ length close = omega arith in
      record {
        entering = omega (
          arith,
          s.entering,
          replaced-longer (first e b) close some,
          length-prefixed (open_group ∷ []) (replaced (first e b) close),
        );
        behind = behind-mark s.behind;
      }
