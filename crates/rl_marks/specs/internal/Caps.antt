-- Caps: what is known of the groups on a way through a tree. `opens` has the positions at which the groups that are still open
-- were opened, the innermost one first. `held` has the last span of each group that was closed, by ascending numbers. `last`
-- is the number of the group that was closed last.
use Rattle.std.specs.Prelude.{◌≡◌, ℕ, ◌==◌, nat_lt, List, [], ◌∷◌, map, Option, None, Some, if◌then◌else◌}
use Rattle.rl_marks.specs.Finds.{GroupSpan}
pub use Rattle.rl_marks.specs.declared.threads.Caps.{Caps}

-- What is known at the start: no group has been opened or closed.
abbrev pub no_caps : Caps
no_caps = record { opens = []; held = []; last = None }

-- The list of spans, sorted by ascending numbers, with the span `s` put in its place. It replaces a span with the same number.
abbrev pub put : GroupSpan → List GroupSpan → List GroupSpan
put s [] = s ∷ []
put s (t ∷ l) = if nat_lt s.number t.number then s ∷ t ∷ l else (if s.number == t.number then s ∷ l else t ∷ put s l)

-- What is known after a group is opened at position `i`.
abbrev pub opened : ℕ → Caps → Caps
opened i c = record { opens = i ∷ c.opens; held = c.held; last = c.last }

-- What is known after the span `s` of a closed group is added. The open groups stay as they are.
abbrev pub added : GroupSpan → Caps → Caps
added s c = record { opens = c.opens; held = put s c.held; last = Some s.number }

-- What is known after the group `n` is closed at position `i`, given the positions at which the open groups were opened, the
-- innermost one first. Its span begins at the first of them, which is no longer open afterwards. If no group is open, nothing
-- changes.
abbrev pub closed_from : List ℕ → ℕ → ℕ → Caps → Caps
closed_from [] n i c = c
closed_from (j ∷ opens) n i c = record { opens = opens; held = put (record { number = n; from = j; upto = i }) c.held; last = Some n }

-- What is known after the innermost open group, which has the number `n`, is closed at position `i`. If no group is open,
-- nothing changes.
abbrev pub closed_at : ℕ → ℕ → Caps → Caps
closed_at n i c = closed_from c.opens n i c

-- What is known after the spans of the list are added in order.
abbrev pub caps_after : List GroupSpan → Caps → Caps
caps_after [] c = c
caps_after (s ∷ spans) c = caps_after spans (added s c)

-- The start and end of the first span of the group `n` in the list, or `None` if it has no span there.
abbrev pub span_of_group : ℕ → List GroupSpan → Option (ℕ × ℕ)
span_of_group n [] = None
span_of_group n (s ∷ l) = if n == s.number then Some (s.from, s.upto) else span_of_group n l

-- The span with `f` applied to its start and its end.
abbrev pub span_named : (ℕ → ℕ) → GroupSpan → GroupSpan
span_named f s = record { number = s.number; from = f s.from; upto = f s.upto }

-- What is known of the groups, with `f` applied to each position.
abbrev pub caps_named : (ℕ → ℕ) → Caps → Caps
caps_named f c = record { opens = map f c.opens; held = map (span_named f) c.held; last = c.last }

-- Holds if both have the same last span of each closed group, and the same group was closed last. Open groups aren't compared.
pub record SameCaps (c d : Caps) : Type 0 where
  pub same_held : c.held ≡ d.held
  pub same_last : c.last ≡ d.last
