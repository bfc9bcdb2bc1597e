-- For the proofs of trials: the states of a tree without some of its branches are the kept states of the whole tree,
-- renumbered. The automaton of a tree without guards has the start, state 0, a state `p + 1` for each place `p`, then the
-- accepting state and the dead state. The list `keep` has a flag for each place, which says whether it is kept.
use Rattle.std.specs.Prelude.{◌≡◌, ℕ, zero, suc, ◌+◌, ◌<◌, Bool, true, List, [], ◌∷◌, length, if◌then◌else◌}
use Rattle.rl_syntax.specs.declared.re.Ending.TheVariants.{AtEnd}
use Rattle.rl_syntax.specs.Tree.{Tree, places}
use Rattle.rl_prio.specs.States.{dead, state_count, moves_over}
use Rattle.rl_sets.specs.Live.{holds}
use Rattle.rl_trim.specs.Twins.{is_kept}

-- How many of the first `p` places are kept; `p` is the second argument. Places without a flag count as kept.
abbrev pub kept_before : List Bool → ℕ → ℕ
kept_before keep zero = 0
kept_before [] (suc p) = suc (kept_before [] p)
kept_before (k ∷ keep) (suc p) = (if k then 1 else 0) + kept_before keep p

-- The number that a kept state of the whole tree has in the tree without the branches: the same number, less the number of
-- states before it that aren't kept.
abbrev pub sunk : List Bool → ℕ → ℕ
sunk keep zero = 0
sunk keep (suc p) = suc (kept_before keep p)

-- Holds if the states of the tree `s` are the kept states of the tree `t`, renumbered by `sunk`, and `s` has the same moves
-- between them as `t`. The letters are the classes of codes that `sets` doesn't tell apart; `n` is the number of codes. Both
-- trees have only the states that trees without guards have.
pub record AreSunk (sets : List (ℕ → Bool)) (n : ℕ) (keep : List Bool) (s t : Tree) : Type 0 where
  pub flags : length keep ≡ places t
  pub kept : places s ≡ kept_before keep (places t)
  pub first_states : state_count s n ≡ suc (suc (suc (places s)))
  pub second_states : state_count t n ≡ suc (suc (suc (places t)))
  pub moves : (q r letter : ℕ) → r < dead t n → is_kept keep q ≡ true → is_kept keep r ≡ true
      → holds (moves_over sets s AtEnd n (sunk keep q) letter) (sunk keep r) ≡ holds (moves_over sets t AtEnd n q letter) r
