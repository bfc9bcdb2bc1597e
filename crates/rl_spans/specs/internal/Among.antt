-- Which states a list of threads has.
use Rattle.std.specs.Prelude.{ℕ, Bool, false, ◌==◌, ◌||◌, List, [], ◌∷◌}
use Rattle.rl_marks.specs.declared.threads.Thread.{Thread}

-- Whether one of the threads is in the state `q`.
abbrev pub is_among : ℕ → List Thread → Bool
is_among q [] = false
is_among q (t ∷ l) = t.state == q || is_among q l
