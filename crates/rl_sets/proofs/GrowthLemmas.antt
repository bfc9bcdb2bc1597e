-- Lemmas on walks that grow, and on what a search found on them.
use Rattle.std.proofs.Common.{◌≡◌, ◌≢◌, ℕ, ◌<◌, ◌≤◌, ◌⊎◌, List, [], ◌∷◌, ◌++◌, length, get_or, All, Contains, sym, ap, ◌∙◌, subst, inl, inr, arith}
use Rattle.std.proofs.lemmas.List.{append-nil, append_assoc, length-append, length_push, get_or_append_left, get_or_default}
use Rattle.std.proofs.lemmas.List.Elements.{All-nil, All-append, All-cons, All-push, All-weaker, All-contains, All-contains_itself}
use Rattle.std.proofs.lemmas.List.Quantifiers.{all_pairs_push}
use Rattle.rl_prio.specs.Automaton.{Automaton}
use Rattle.rl_sets.specs.Rests.{Reached, IsGrown, IsOver}
use Rattle.rl_sets.specs.Walk.{Walk, IsMadeFor, IsListed, IsFull}

pub IsGrown-same : (a : Automaton) (from : List ℕ) (old new : List (List ℕ)) → new ≡ old → IsGrown a from old new
IsGrown-same a from old new e = record { added = []; more = e ∙ sym (append-nil old); reached = All-nil (Reached a from) }

pub IsGrown-trans : (a : Automaton) (from : List ℕ) (old mid new : List (List ℕ)) → IsGrown a from old mid → IsGrown a from mid new → IsGrown a from old new
IsGrown-trans a from old mid new g h = record {
  added = g.added ++ h.added;
  more = h.more ∙ ap (λ l. l ++ h.added) g.more ∙ append_assoc old g.added h.added;
  reached = All-append (Reached a from) g.added h.added g.reached h.reached;
}

pub IsGrown-listed : (a : Automaton) (from set : List ℕ) (old new : List (List ℕ)) (n : ℕ) → Reached a from set → IsListed old new set n → IsGrown a from old new
IsGrown-listed a from set old new n r listed =
    elim listed.grown [
      | inl same ↦ IsGrown-same a from old new same
      | inr more ↦ record {
        added = set ∷ [];
        more = more.1;
        reached = All-cons (Reached a from) set [] r (All-nil (Reached a from));
      }
    ]

pub grown-length : {a : Automaton} {from : List ℕ} {old new : List (List ℕ)} → IsGrown a from old new → length old ≤ length new
grown-length {old = old} g = omega (arith, ap length g.more, length-append old g.added)

-- A set keeps its number.
pub set-kept : {a : Automaton} {from : List ℕ} {old new : List (List ℕ)} (n : ℕ) → IsGrown a from old new → n < length old → get_or new n [] ≡ get_or old n []
set-kept {old = old} n g lt = ap (λ l. get_or l n []) g.more ∙ get_or_append_left old g.added [] n lt

-- Each set of a grown list is an old one or reached.
pub each-grown : (a : Automaton) (from : List ℕ) (old new : List (List ℕ)) → IsGrown a from old new → All (λ s. Contains old s ⊎ Reached a from s) new
each-grown a from old new g =
    subst (All (λ s. Contains old s ⊎ Reached a from s)) (sym g.more) (All-append (λ s. Contains old s ⊎ Reached a from s) old g.added (All-weaker (Contains old) (λ s. Contains old s ⊎ Reached a from s) (λ s h. inl h) old (All-contains_itself old)) (All-weaker (Reached a from) (λ s. Contains old s ⊎ Reached a from s) (λ s h. inr h) g.added g.reached))

-- A full list and one more set are too many.
pub IsOver-full : (a : Automaton) (from set : List ℕ) (old : List (List ℕ)) (w : Walk) → IsMadeFor w a → IsGrown a from old w.sets → Reached a from set → IsFull w.sets w.limit set → IsOver a from old w.limit
IsOver-full a from set old w made g r full = record {
  sets = w.sets ++ set ∷ [];
  many = length_push w.sets set ∙ omega (arith, full.full);
  apart = all_pairs_push ◌≢◌ w.sets set (λ i j d lt below e. made.apart i j lt below (get_or_default w.sets i [] d (omega arith) ∙ e ∙ get_or_default w.sets j d [] below)) (λ k d lt e. full.absent (k, lt, get_or_default w.sets k set d lt ∙ e));
  each = All-push (λ s. Contains old s ⊎ Reached a from s) w.sets set (each-grown a from old w.sets g) (inr r);
}

-- Too many for a list that had grown are too many for the old one.
pub IsOver-grown : (a : Automaton) (from : List ℕ) (old mid : List (List ℕ)) (limit : ℕ) → IsGrown a from old mid → IsOver a from mid limit → IsOver a from old limit
IsOver-grown a from old mid limit g over = record {
  sets = over.sets;
  many = over.many;
  apart = over.apart;
  each = All-weaker (λ s. Contains mid s ⊎ Reached a from s) (λ s. Contains old s ⊎ Reached a from s) (λ s h. by s h) over.sets over.each;
}
  where
    by : (s : List ℕ) → Contains mid s ⊎ Reached a from s → Contains old s ⊎ Reached a from s
    by s (inl there) = All-contains (λ x. Contains old x ⊎ Reached a from x) mid s (each-grown a from old mid g) there
    by s (inr r) = inr r
