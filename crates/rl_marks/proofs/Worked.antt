-- Worked finds, as CPython 3.11 has them.
use Rattle.std.proofs.Common.{◌≡◌, ℕ, Bool, true, false, ◌==◌, [], ◌∷◌, Option, None, Some, refl}
use Rattle.rl_syntax.specs.Guards.{is_in}
use Rattle.rl_marks.specs.Marked.{Marked, empty, one, both, either, many, further, mark}
use Rattle.rl_marks.specs.Finds.{Found, group, last_group}
use Rattle.rl_marks.specs.Hits.{MatchEnding, AtEnd, AtLastLine, Anywhere, Matcher, match_at}

a : ℕ → Bool
a code = code == 97

b : ℕ → Bool
b code = code == 98

abbrev matcher : Marked → MatchEnding → Matcher
matcher tree ending = record { tree = tree; ending = ending }

abbrev group_of : ℕ → Option Found → Option (ℕ × ℕ)
group_of n None = None
group_of n (Some x) = group n x.spans

abbrev last_of : Option Found → Option ℕ
last_of None = None
last_of (Some x) = last_group x.spans

-- `(a|b*)*` on `aa`.
empty_round : group_of 1 (match_at (matcher (many (mark 1 (either (one a) (many (one b) true))) true) Anywhere) (97 ∷ 97 ∷ []) false 0) ≡ Some (2, 2)
unfolding match_at is_in a b
empty_round = refl

-- `(?:(a)|b)*` on `ab`.
kept_group : group_of 1 (match_at (matcher (many (either (mark 1 (one a)) (one b)) true) Anywhere) (97 ∷ 98 ∷ []) false 0) ≡ Some (0, 1)
unfolding match_at is_in a b
kept_group = refl

-- `((a)b?)` on `a`: the outer group was closed last.
outer_last : last_of (match_at (matcher (mark 1 (both (mark 2 (one a)) (either (one b) empty))) AtEnd) (97 ∷ []) false 0) ≡ Some 1
unfolding match_at is_in a b
outer_last = refl

-- `a*` on `a` from its end, for a match that may not be empty.
no_empty : match_at (matcher (many (one a) true) Anywhere) (97 ∷ []) true 1 ≡ None
unfolding match_at is_in a
no_empty = refl

abbrev end_of : Option Found → Option ℕ
end_of None = None
end_of (Some x) = Some x.end

-- `a$` on `a` and a line feed: the match ends before it; with another line feed behind there is no match.
last_line : end_of (match_at (matcher (one a) AtLastLine) (97 ∷ 10 ∷ []) false 0) ≡ Some 1
unfolding match_at is_in a
last_line = refl

two_feeds : match_at (matcher (one a) AtLastLine) (97 ∷ 10 ∷ 10 ∷ []) false 0 ≡ None
unfolding match_at is_in a
two_feeds = refl

-- `(?:()|(a)){0,2}b` on `ab`: the empty group is behind the `a`.
counted : Marked
counted = further (either (mark 1 empty) (mark 2 (one a))) (either (either (mark 1 empty) (mark 2 (one a))) empty)

empty_behind : group_of 1 (match_at (matcher (both (either counted empty) (one b)) Anywhere) (97 ∷ 98 ∷ []) false 0) ≡ Some (1, 1)
unfolding match_at is_in a b counted
empty_behind = refl
