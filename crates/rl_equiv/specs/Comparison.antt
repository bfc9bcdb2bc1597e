-- What the texts of a comparison say about two languages. A comparison of two patterns looks for a text that only the first
-- matches, one that only the second matches, and one that both match; each of these three classes of texts is a region. It
-- looks at set pairs, which are two sets of states, one of each pattern's automaton, to which the same word leads; their
-- number may be limited.
use Rattle.std.specs.Prelude.{◌≡◌, ℕ, Bool, false, true, not, ◌&&◌, List, Option, None, Some}
use Rattle.rl_ranges.specs.declared.universe.Universe.{Universe}
use Rattle.rl_ranges.specs.Text.{IsText}
use Rattle.rl_equiv.specs.declared.compared.Compared.{Compared}

-- The region is the set of the texts of the universe that pass `test`; `more` says whether more set pairs are reached than
-- were looked at. If there is a text in `text`, it is one of the region. If there is none and `more` is false, the region is
-- empty. If there is none and `more` is true, nothing is required.
pub record IsOfRegion (u : Universe) (test : List ℕ → Bool) (more : Bool) (text : Option (List ℕ)) : Type 0 where
  pub some : (w : List ℕ) → text ≡ Some w → IsText u w × (test w ≡ true)
  pub none : more ≡ false → text ≡ None → (w : List ℕ) → IsText u w → test w ≡ false

-- What the texts of a comparison say about two patterns is true; `p` and `q` are tests: whether the first and the second
-- pattern match a text. Each text is in its region, and if all set pairs were looked at, a region without a text is empty.
pub record IsTrueComparison (u : Universe) (p q : List ℕ → Bool) (c : Compared) : Type 0 where
  pub first : IsOfRegion u (λ w. p w && not (q w)) c.more c.first
  pub second : IsOfRegion u (λ w. not (p w) && q w) c.more c.second
  pub both : IsOfRegion u (λ w. p w && q w) c.more c.both
