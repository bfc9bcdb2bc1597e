-- Which part of a text a sink, to which bytes are written, has received: given the bytes that it revealed before and those
-- that it reveals afterwards. Both are `None` if it reveals none.
use Rattle.std.specs.Prelude.{◌≡◌, ℕ, ◌<◌, ◌≤◌, List, ◌++◌, length, take, Option, Some, None, ⊤}

-- Holds if the bytes of the sink afterwards are those before with a proper prefix of the text appended, perhaps the empty one,
-- or if the sink revealed no bytes before. It doesn't hold if the sink revealed bytes only before.
abbrev pub GainsLess : Option (List ℕ) → Option (List ℕ) → List ℕ → Type 0
GainsLess None new text = ⊤
GainsLess (Some held) None text = ⊥
GainsLess (Some held) (Some now) text = (n : ℕ) × (n < length text) × (now ≡ held ++ take n text)

-- Holds if the bytes of the sink afterwards are those before with a prefix of the text appended, perhaps the empty one or all
-- of the text, or if the sink revealed no bytes before. It doesn't hold if the sink revealed bytes only before.
abbrev pub GainsSome : Option (List ℕ) → Option (List ℕ) → List ℕ → Type 0
GainsSome None new text = ⊤
GainsSome (Some held) None text = ⊥
GainsSome (Some held) (Some now) text = (n : ℕ) × (n ≤ length text) × (now ≡ held ++ take n text)
