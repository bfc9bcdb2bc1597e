-- One more cell of a column.
use Rattle.std.proofs.Common.{All, ◌≡◌, ℕ, ◌+◌, ◌<◌, ◌≤◌, ◌⊎◌, inl, inr, List, Bool, ◌∷◌, length, slice_index_or, slice_set, ◌∙◌, arith, refl, map, drop, ◌-◌}
use Rattle.std.proofs.lemmas.Grind.{get_or-set_at}
use Rattle.std.proofs.lemmas.List.{get_or-set_other, length-set, drop_more}
use Rattle.rl_prio.specs.Automaton.{Automaton, accepting_state, moves_at}
use Rattle.rl_prio.specs.Walk.{stepped, walk}
use Rattle.rl_machine.specs.declared.steps.Counted.{Counted}
use Rattle.rl_prio.specs.StandsFor.{StandsFor}
use Rattle.rl_prio.proofs.WalkLemmas.{walk_cost-cost, walk-matched}
use Rattle.rl_syntax.specs.declared.re.Ending.{Ending}
use Rattle.rl_syntax.specs.Tree.{Tree}
use Rattle.rl_machine.specs.Counts.{Shows, ShowsCost}
use Rattle.rl_machine.specs.Columns.{StandAt, StandBelow, ShowsText}

lt_or_eq : (q n : ℕ) → q < n + 1 → (q < n) ⊎ (q ≡ n)
lt_or_eq q n less = grind (arith, less)

pub none_yet : (a : Automaton) (cells into : List Counted) (letter : ℕ) → length into ≡ a.states → StandBelow a cells into letter 0
none_yet a cells into letter size = record { size = size; cell = λ letters stand q other below. absurd (omega (arith, below)) }

pub one_more : (a : Automaton) (cells into : List Counted) (letter n : ℕ) (x : Counted) → length cells ≡ a.states → n < a.states
    → ((next : ℕ → List Bool) → ((q : ℕ) (other : Counted) → q < length cells → Shows (slice_index_or cells q other) (next q))
    → Shows x (stepped (accepting_state a) next (moves_at a n letter)))
    → StandBelow a cells into letter n → StandBelow a cells (slice_set into n x) letter (n + 1)
one_more a cells into letter n x size below right stand = record {
  size = length-set into n x ∙ stand.size;
  cell = λ letters at q other less. by_place letters at q other less (lt_or_eq q n less);
}
  where
    by_place : (letters : List ℕ) → StandAt a cells letters → (q : ℕ) (other : Counted) → q < n + 1 → (q < n) ⊎ (q ≡ n)
        → Shows (slice_index_or (slice_set into n x) q other) (walk a q (letter ∷ letters))
    by_place letters at q other less (inl before) =
        rw (get_or-set_other into n q x other (λ e. absurd (omega (arith, e, before)))) (stand.cell letters at q other before)
    by_place letters at q other less (inr here) =
        rw (get_or-set_at into n q x other here (rw stand.size below), here) (right (λ r. walk a r letters) (λ r d within. at.cell r d (rw (← size) within)))

pub whole : (a : Automaton) (cells into : List Counted) (letter n : ℕ) → a.states ≤ n → StandBelow a cells into letter n
    → (letters : List ℕ) → StandAt a cells letters → StandAt a into (letter ∷ letters)
whole a cells into letter n all stand letters at = record {
  size = stand.size;
  cell = λ q other below. stand.cell letters at q other (omega (arith, below, all));
}

-- The values of a function at what is left of a list, one item earlier.
pub letters_before : (f : ℕ → ℕ) (codes : List ℕ) (left other : ℕ) → 0 < left → left ≤ length codes
    → map f (drop (left - 1) codes) ≡ f (slice_index_or codes (left - 1) other) ∷ map f (drop left codes)
letters_before f codes left other some within =
    rw (drop_more codes (left - 1) other (omega (arith, some, within)), same) refl
  where
    same : left - 1 + 1 ≡ left
    same = omega (arith, some)

-- An answer that shows the walk on a text shows the cost of the text for each tree for which the automaton stands.
pub shows_cost : (c : Counted) (a : Automaton) (t : Tree) (ending : Ending) (text : List ℕ) → StandsFor a t ending → All (λ code. code < a.table.codes) text
    → ShowsText c a text → ShowsCost c t ending text
shows_cost c a t ending text stands inside shown = record {
  steps = rw (← walk_cost-cost a t ending text stands inside) shown.steps;
  matches = shown.matches ∙ walk-matched a t ending text stands inside;
}
