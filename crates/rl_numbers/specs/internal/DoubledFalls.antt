-- For the contracts of private functions: what the check of the numbers of doubles requires. `at` looks up the number
-- of the double of two states; it gives `None` if the list doesn't have the double. A row lists the targets of the
-- moves of a state on a letter. A double is a pair of states with a number.
use Rattle.std.specs.Prelude.{◌≡◌, ◌≢◌, ℕ, ◌+◌, ◌<◌, List, Option, Some, slice_get}
use Rattle.rl_graph.specs.Paths.{Has}
use Rattle.rl_numbers.specs.declared.double.Double.{Double}
use Rattle.rl_numbers.specs.Doubled.{IsInside}

-- Holds if the list has the double of `x` and `y`, with a number less than `most`.
abbrev pub FallsBelow : (ℕ → ℕ → Option ℕ) → ℕ → ℕ → ℕ → Type 0
FallsBelow at most x y = (k : ℕ) × (at x y ≡ Some k) × (k < most)

-- Holds if the list has the double of `x` and each state in the row, with numbers less than `most`.
abbrev pub SecondsFall : (ℕ → ℕ → Option ℕ) → ℕ → ℕ → List ℕ → Type 0
SecondsFall at most x row = (y : ℕ) → Has y row → FallsBelow at most x y

-- Holds if the list has the double of each state in `row` and each state in `second`, with numbers less than `most`.
abbrev pub FirstsFall : (ℕ → ℕ → Option ℕ) → ℕ → List ℕ → List ℕ → Type 0
FirstsFall at most row second = (x : ℕ) → Has x row → SecondsFall at most x second

-- Holds if any two moves of the states of the double on one letter lead to a double of the list with a number that is
-- no greater.
abbrev pub StepsFall : (ℕ → ℕ → List ℕ) → (ℕ → ℕ → Option ℕ) → Double → Type 0
StepsFall next at d = (letter : ℕ) → FirstsFall at (d.number + 1) (next d.p letter) (next d.q letter)

-- Holds if the list has the double of `x` and the target of each move of the row except the move with the number `i`,
-- with numbers less than `most`.
abbrev pub OthersFall : (ℕ → ℕ → Option ℕ) → ℕ → ℕ → ℕ → List ℕ → Type 0
OthersFall at most i x row = (j y : ℕ) → i ≢ j → slice_get row j ≡ Some y → FallsBelow at most x y

-- Holds if the list has the double of the targets of any two different moves of the row, with numbers less than `most`.
abbrev pub ApartsFall : (ℕ → ℕ → Option ℕ) → ℕ → List ℕ → Type 0
ApartsFall at most row = (i x : ℕ) → slice_get row i ≡ Some x → OthersFall at most i x row

-- Holds if the two states of the double are different, or any two different moves of the state on one letter lead to a
-- double of the list with a smaller number.
abbrev pub LeavesFall : (ℕ → ℕ → List ℕ) → (ℕ → ℕ → Option ℕ) → Double → Type 0
LeavesFall next at d = d.p ≡ d.q → (letter : ℕ) → ApartsFall at d.number (next d.p letter)

-- Holds if the double passes the check: its states are below `n`, any two moves of its states on one letter lead to a
-- double with a number that is no greater, and, if it is a state with itself, any two different moves of that state on
-- one letter lead to a double with a smaller number.
abbrev pub HoldsIn : (ℕ → ℕ → List ℕ) → ℕ → (ℕ → ℕ → Option ℕ) → Double → Type 0
HoldsIn next n at d = IsInside n d × StepsFall next at d × LeavesFall next at d
