-- Trees that find the same from each place find the same in each search and each sequence of searches.
use Rattle.std.proofs.Common.{◌≡◌, ℕ, zero, suc, ◌+◌, ◌-◌, ◌≤◌, Bool, false, ◌==◌, List, [], ◌∷◌, length, Option, None, Some, refl, ap₂, subst, arith}
use Rattle.std.proofs.lemmas.Bool.{cond_both}
use Rattle.rl_ranges.specs.declared.universe.Universe.{Universe}
use Rattle.rl_ranges.specs.Text.{IsText}
use Rattle.rl_syntax.proofs.RunLaws.{Goes}
use Rattle.rl_marks.specs.Finds.{Found, finds, ends}
use Rattle.rl_marks.specs.Hits.{Matcher, first_hit, is_hit_from, match_at, SameHit}
use Rattle.rl_marks.specs.Searches.{Match, begun, sought, search_from, with_next, matches, SameSearch, SameMatches}
use Rattle.rl_marks.specs.SameFinds.{SameFinds}
use Rattle.rl_marks.proofs.GoLaws.{Each, finds_go}

abbrev OnEnd : (ℕ → Type 0) → Option Found → Type 0
OnEnd P None = Unit {0}
OnEnd P (Some x) = P x.end

first_hit-end : (P : ℕ → Type 0) (hit : ℕ → Bool) (l : List Found) → Each P (ends l) → OnEnd P (first_hit hit l)
first_hit-end P hit [] p = tt
first_hit-end P hit (x ∷ l) p = cond_both (hit x.end) (Some x) (first_hit hit l) (OnEnd P) (λ _. p.0) (λ _. first_hit-end P hit l p.1)

match_goes : (m : Matcher) (advance : Bool) (w : List ℕ) (i : ℕ) → OnEnd (Goes w i) (match_at m w advance i)
unfolding match_at
match_goes m advance w i = first_hit-end (Goes w i) (is_hit_from m.ending advance w i) (finds m.tree w i) (finds_go m.tree w i)

-- A match ends in the text.
abbrev Within : List ℕ → Option Match → Type 0
Within w None = Unit {0}
Within w (Some x) = x.found.end ≤ length w

begun-within : (w : List ℕ) (i : ℕ) → i ≤ length w → (x : Option Found) → OnEnd (Goes w i) x → (p : Option Match) → Within w p → Within w (begun i x p)
begun-within w i le None g p h = h
begun-within w i le (Some x) g p h = grind (arith, le, g.0, g.1)

sought-within : (m : Matcher) (w : List ℕ) (n : ℕ) (advance : Bool) (i : ℕ) → i + n ≡ length w → Within w (sought m w n advance i)
sought-within m w zero advance i e =
    begun-within w i (omega (arith, e)) (match_at m w advance i) (match_goes m advance w i) None tt
sought-within m w (suc n) advance i e =
    begun-within w i (omega (arith, e)) (match_at m w advance i) (match_goes m advance w i) (sought m w n false (suc i))
    (sought-within m w n false (suc i) (omega (arith, e)))

begun-same : (i : ℕ) (x y : Option Found) (p q : Option Match) → SameHit x y → SameSearch p q → SameSearch (begun i x p) (begun i y q)
begun-same i None None p q h s = s
begun-same i (Some x) (Some y) p q h s = record { same_start = refl; same_found = h }
begun-same i None (Some y) p q h s = absurd h
begun-same i (Some x) None p q h s = absurd h

module _ (u : Universe) (s t : Matcher) (same : SameFinds u s t) (w : List ℕ) (text : IsText u w) where
  sought-same : (n : ℕ) (advance : Bool) (i : ℕ) → i + n ≡ length w → SameSearch (sought s w n advance i) (sought t w n advance i)
  sought-same zero advance i e =
      begun-same i (match_at s w advance i) (match_at t w advance i) None None (same w text i (omega (arith, e)) advance) tt
  sought-same (suc n) advance i e =
      begun-same i (match_at s w advance i) (match_at t w advance i) (sought s w n false (suc i)) (sought t w n false (suc i))
      (same w text i (omega (arith, e)) advance)
      (sought-same n false (suc i) (omega (arith, e)))

  search_both : (i : ℕ) → i ≤ length w → (advance : Bool) → SameSearch (search_from s w advance i) (search_from t w advance i)
  search_both i le advance = sought-same (length w - i) advance i (omega arith)

  with_next-same : (f g : Bool → ℕ → List Match) → ((advance : Bool) (i : ℕ) → i ≤ length w → SameMatches (f advance i) (g advance i))
      → (p q : Option Match) → SameSearch p q → Within w p → SameMatches (with_next f p) (with_next g q)
  with_next-same f g h None None e in_text = tt
  with_next-same f g h (Some x) (Some y) e in_text = (
    e,
    subst (λ l. SameMatches (f (x.start == x.found.end) x.found.end) l)
        (ap₂ (λ a b. g (a == b) b) e.same_start e.same_found.same_end)
        (h (x.start == x.found.end) x.found.end in_text),
  )
  with_next-same f g h None (Some y) e in_text = absurd e
  with_next-same f g h (Some x) None e in_text = absurd e

  matches_both : (n : ℕ) (advance : Bool) (i : ℕ) → i ≤ length w → SameMatches (matches s w n advance i) (matches t w n advance i)
  matches_both zero advance i le = tt
  matches_both (suc n) advance i le =
      with_next-same (matches s w n) (matches t w n) (matches_both n)
      (search_from s w advance i) (search_from t w advance i)
      (search_both i le advance) (sought-within s w (length w - i) advance i (omega arith))

pub search-same : (u : Universe) (s t : Matcher) → SameFinds u s t → (w : List ℕ) → IsText u w
    → (i : ℕ) → i ≤ length w → (advance : Bool) → SameSearch (search_from s w advance i) (search_from t w advance i)
search-same u s t same w text i le advance = search_both u s t same w text i le advance

pub matches-same : (u : Universe) (s t : Matcher) → SameFinds u s t → (w : List ℕ) → IsText u w
    → (n i : ℕ) → i ≤ length w → (advance : Bool) → SameMatches (matches s w n advance i) (matches t w n advance i)
matches-same u s t same w text n i le advance = matches_both u s t same w text n advance i le
