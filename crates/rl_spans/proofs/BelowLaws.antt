-- Items of a tree test its own places alone.
use Rattle.std.proofs.Common.{ℕ, zero, suc, ◌+◌, ◌<◌, ◌≤◌, Bool, true, false, List, [], ◌∷◌, ◌++◌, Option, nat_lt, if◌then◌else◌, arith}
use Rattle.std.proofs.lemmas.Bool.{cond_both}
use Rattle.rl_syntax.specs.Run.{one_more}
use Rattle.rl_marks.specs.Marked.{Marked, empty, one, guard, both, either, many, further, mark}
use Rattle.rl_marks.specs.internal.MarkItems.{all_prefixed, replaced, places, first, after, allowed, performed}
use Rattle.rl_marks.specs.internal.Walk.{tries}
use Rattle.rl_marks.specs.internal.Threads.{items_at, spread}
use Rattle.rl_spans.proofs.ShownLaws.{AreBelow}
use Rattle.rl_marks.specs.declared.threads.Caps.{Caps}
use Rattle.rl_marks.specs.declared.threads.Act.{Act}
use Rattle.rl_marks.specs.declared.threads.MarkItem.{MarkItem}
use Rattle.rl_marks.specs.declared.threads.Try.{Try}
use Rattle.rl_marks.specs.declared.threads.Thread.{Thread}
use Rattle.rl_marks.specs.declared.threads.Act.TheVariants.{OpenGroup as open_group, CloseGroup as close_group}
use Rattle.rl_marks.specs.declared.threads.MarkItem.TheVariants.{Test as test_at, Pass as pass}
use Rattle.rl_marks.specs.declared.threads.Try.TheVariants.{Goes as goes, Stops as stops}

abbrev pub ItemsBelow : ℕ → List MarkItem → Type 0
ItemsBelow n [] = Unit {0}
ItemsBelow n (test_at acts p ∷ l) = (p < n) × ItemsBelow n l
ItemsBelow n (pass acts ∷ l) = ItemsBelow n l

module _ (n : ℕ) where
  below-append : (l m : List MarkItem) → ItemsBelow n l → ItemsBelow n m → ItemsBelow n (l ++ m)
  below-append [] m p q = q
  below-append (test_at acts k ∷ l) m p q = (p.0, below-append l m p.1 q)
  below-append (pass acts ∷ l) m p q = below-append l m p q

  below-prefixed : (acts : List Act) (l : List MarkItem) → ItemsBelow n l → ItemsBelow n (all_prefixed acts l)
  below-prefixed acts [] p = tt
  below-prefixed acts (test_at bs k ∷ l) p = (p.0, below-prefixed acts l p.1)
  below-prefixed acts (pass bs ∷ l) p = below-prefixed acts l p

  below-replaced : (l m : List MarkItem) → ItemsBelow n l → ItemsBelow n m → ItemsBelow n (replaced l m)
  below-replaced [] m p q = tt
  below-replaced (test_at acts k ∷ l) m p q = (p.0, below-replaced l m p.1 q)
  below-replaced (pass acts ∷ l) m p q = below-append (all_prefixed acts m) (replaced l m) (below-prefixed acts m q) (below-replaced l m p q)

  below-more : (greedy : Bool) (l : List MarkItem) → ItemsBelow n l → ItemsBelow n (one_more greedy (pass []) l)
  below-more true l p = below-append l (pass [] ∷ []) p tt
  below-more false l p = p

  first-below : (e : Marked) (b : ℕ) → b + places e ≤ n → ItemsBelow n (first e b)
  first-below empty b le = tt
  first-below (one s) b le = (omega arith, tt)
  first-below (guard g) b le = tt
  first-below (both e h) b le =
      below-replaced (first e b) (first h (b + places e)) (first-below e b (omega arith)) (first-below h (b + places e) (omega arith))
  first-below (either e h) b le =
      below-append (first e b) (first h (b + places e)) (first-below e b (omega arith)) (first-below h (b + places e) (omega arith))
  first-below (many e greedy) b le = below-more greedy (first e b) (first-below e b le)
  first-below (further e h) b le = first-below e b (omega arith)
  first-below (mark k e) b le =
      below-prefixed (open_group ∷ []) (replaced (first e b) (pass (close_group k ∷ []) ∷ []))
      (below-replaced (first e b) (pass (close_group k ∷ []) ∷ []) (first-below e b le) tt)

  after-below : (e : Marked) (b p : ℕ) → b + places e ≤ n → ItemsBelow n (after e b p)
  after-below empty b p le = tt
  after-below (one s) b p le = tt
  after-below (guard g) b p le = tt
  after-below (both e h) b p le =
      cond_both (nat_lt p (b + places e)) (replaced (after e b p) (first h (b + places e))) (after h (b + places e) p) (ItemsBelow n)
      (λ _. below-replaced (after e b p) (first h (b + places e)) (after-below e b p (omega arith)) (first-below h (b + places e) (omega arith)))
      (λ _. after-below h (b + places e) p (omega arith))
  after-below (either e h) b p le =
      cond_both (nat_lt p (b + places e)) (after e b p) (after h (b + places e) p) (ItemsBelow n)
      (λ _. after-below e b p (omega arith)) (λ _. after-below h (b + places e) p (omega arith))
  after-below (many e greedy) b p le =
      below-replaced (after e b p) (first (many e greedy) b) (after-below e b p le) (first-below (many e greedy) b le)
  after-below (further e h) b p le =
      cond_both (nat_lt p (b + places e)) (replaced (after e b p) (first h (b + places e))) (after h (b + places e) p) (ItemsBelow n)
      (λ _. below-replaced (after e b p) (first h (b + places e)) (after-below e b p (omega arith)) (first-below h (b + places e) (omega arith)))
      (λ _. after-below h (b + places e) p (omega arith))
  after-below (mark k e) b p le = below-replaced (after e b p) (pass (close_group k ∷ []) ∷ []) (after-below e b p le) tt

  items_at-below : (e : Marked) (q : ℕ) → places e ≤ n → ItemsBelow n (items_at e q)
  items_at-below e zero le = first-below e 0 (omega arith)
  items_at-below e (suc p) le = after-below e 0 p (omega arith)

  tries_join : (l m : List Try) → AreBelow n l → AreBelow n m → AreBelow n (l ++ m)
  tries_join [] m p q = q
  tries_join (goes k c ∷ l) m p q = (p.0, tries_join l m p.1 q)
  tries_join (stops c ∷ l) m p q = tries_join l m p q

  when : (b : Bool) (t : Try) → AreBelow n (t ∷ []) → AreBelow n (if b then t ∷ [] else [])
  when true t p = p
  when false t p = tt

  tries-below : (before next : Option ℕ) (i : ℕ) (l : List MarkItem) (c : Caps) → ItemsBelow n l → AreBelow n (tries before next i l c)
  tries-below before next i [] c p = tt
  tries-below before next i (test_at acts k ∷ l) c p =
      tries_join (if allowed acts before next then goes k (performed acts i c) ∷ [] else []) (tries before next i l c)
      (when (allowed acts before next) (goes k (performed acts i c)) (p.0, tt)) (tries-below before next i l c p.1)
  tries-below before next i (pass acts ∷ l) c p =
      tries_join (if allowed acts before next then stops (performed acts i c) ∷ [] else []) (tries before next i l c)
      (when (allowed acts before next) (stops (performed acts i c)) tt) (tries-below before next i l c p)

  -- What threads of a tree try names its places alone.
  pub spread-below : (m : Marked) → places m ≤ n → (before next : Option ℕ) (i : ℕ) (l : List Thread) → AreBelow n (spread m before next i l)
  spread-below m le before next i [] = tt
  spread-below m le before next i (t ∷ l) =
      tries_join (tries before next i (items_at m t.state) t.caps) (spread m before next i l)
      (tries-below before next i (items_at m t.state) t.caps (items_at-below m t.state le)) (spread-below m le before next i l)
