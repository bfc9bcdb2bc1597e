-- Removing some codes from a list.
use Rattle.std.specs.Prelude.{ℕ, suc, Bool, if◌then◌else◌, List, [], ◌∷◌}

-- The codes of the list whose positions satisfy `kept`, in order. The first code of the list has position `k`, the next one
-- `k + 1`.
abbrev pub kept_from : (ℕ → Bool) → ℕ → List ℕ → List ℕ
kept_from kept k [] = []
kept_from kept k (c ∷ w) = if kept k then c ∷ kept_from kept (suc k) w else kept_from kept (suc k) w
