-- Finds: what a backtracking matcher finds in a text from a position on. A find is a position at which the tree has ended,
-- with the spans of the groups that were closed on the way, in order. Finds are listed in the order in which the matcher
-- tries. Positions count codes from 0, and `w` is the text. A round of `many` that took no code isn't followed by another. In
-- a tree without `further`, the positions are those at which the run of the same tree without groups ends: the run of
-- `rl_syntax` lists what such a matcher does, in order.
use Rattle.std.specs.Prelude.{ℕ, zero, suc, ◌-◌, Bool, ◌==◌, nat_lt, List, [], ◌∷◌, ◌++◌, length, map, Option, None, Some, slice_get, if◌then◌else◌}
use Rattle.rl_syntax.specs.Guards.{is_in, holds_at}
use Rattle.rl_syntax.specs.Run.{one_more}
pub use Rattle.rl_marks.specs.declared.spans.GroupSpan.{GroupSpan}
use Rattle.rl_marks.specs.Marked.{Marked, empty, one, guard, both, either, many, further, mark}

-- A find: the position at which the tree has ended, and the spans of the groups that were closed on the way, in the order in
-- which they were closed.
pub record Found : Type 0 where
  pub end : ℕ
  pub spans : List GroupSpan

-- The lists that `next` gives for the items of a list, joined in order.
abbrev pub followed : {A B : Type 0} → List A → (A → List B) → List B
followed [] next = []
followed (x ∷ l) next = next x ++ followed l next

-- The find at position `i` on whose way no group was closed.
abbrev pub ended : ℕ → Found
ended i = record { end = i; spans = [] }

-- The find `x` with the spans of an earlier part of the tree in front of its own.
abbrev pub later : List GroupSpan → Found → Found
later spans x = record { end = x.end; spans = spans ++ x.spans }

-- The finds `l` of a part of the tree, each replaced by the finds that follow from its end. `next` gives the finds of the rest
-- of the tree from a position on. The spans of the replaced find are in front.
abbrev pub onward : List Found → (ℕ → List Found) → List Found
onward l next = followed l (λ x. map (later x.spans) (next x.end))

-- The find `x` of the body of the group `n`, which was entered at position `i`, with the group's span added as the last one.
abbrev pub closed : ℕ → ℕ → Found → Found
closed n i x = record { end = x.end; spans = x.spans ++ record { number = n; from = i; upto = x.end } ∷ [] }

-- What a loop of at most `n + 1` rounds finds from position `i` on. `body` gives the finds of one round from a position on. A
-- round that took no code is the last one. If `greedy` is `true`, another round is tried before stopping; otherwise stopping
-- is tried first.
abbrev pub rounds : (ℕ → List Found) → Bool → ℕ → ℕ → List Found
rounds body greedy zero i = one_more greedy (ended i) (body i)
rounds body greedy (suc n) i =
    one_more greedy (ended i) (onward (body i) (λ j. if nat_lt i j then rounds body greedy n j else ended j ∷ []))

-- What the tree finds in the text `w` from position `i` on, in the order in which it is tried. In `many` each round except the
-- last takes a code, so the number of codes left bounds the rounds.
abbrev pub finds : Marked → List ℕ → ℕ → List Found
finds empty w i = ended i ∷ []
finds (one set) w i = if is_in set (slice_get w i) then ended (suc i) ∷ [] else []
finds (guard g) w i = if holds_at g w i then ended i ∷ [] else []
finds (both e f) w i = onward (finds e w i) (finds f w)
finds (either e f) w i = finds e w i ++ finds f w i
finds (many e greedy) w i = rounds (finds e w) greedy (length w - i) i
finds (further e f) w i = onward (finds e w i) (λ j. if nat_lt i j then finds f w j else ended j ∷ [])
finds (mark n e) w i = map (closed n i) (finds e w i)

-- The positions of the finds, in order.
abbrev pub ends : List Found → List ℕ
ends l = map (λ (x : Found). x.end) l

-- The start and end of the span if it belongs to the group `n`, otherwise `known`.
abbrev pub span_or : ℕ → Option (ℕ × ℕ) → GroupSpan → Option (ℕ × ℕ)
span_or n known s = if n == s.number then Some (s.from, s.upto) else known

-- The start and end of the last span of the group `n` in the list, or `known` if the group has no span there.
abbrev pub group_after : ℕ → Option (ℕ × ℕ) → List GroupSpan → Option (ℕ × ℕ)
group_after n known [] = known
group_after n known (s ∷ spans) = group_after n (span_or n known s) spans

-- The value of the group `n`: the start and end of its last span in the list, or `None` if it has no span there.
abbrev pub group : ℕ → List GroupSpan → Option (ℕ × ℕ)
group n spans = group_after n None spans

-- The number of the group of the last span in the list, or `known` if the list is empty.
abbrev pub last_after : Option ℕ → List GroupSpan → Option ℕ
last_after known [] = known
last_after known (s ∷ spans) = last_after (Some s.number) spans

-- The number of the group that was closed last (`lastindex` in Python), or `None` if no group was closed.
abbrev pub last_group : List GroupSpan → Option ℕ
last_group spans = last_after None spans
