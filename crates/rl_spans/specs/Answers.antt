-- Answers: what each answer of `same_finds` promises of the two patterns that it was asked about.
use Rattle.std.specs.Prelude.{◌≡◌, ℕ, ◌<◌, ◌^◌, Bool, false, List, length}
use Rattle.rl_marks.specs.declared.asked.How.{How}
use Rattle.rl_marks.specs.declared.asked.How.TheVariants.{Fullmatch, Match, OneSearch}
use Rattle.rl_marks.specs.declared.pattern.MarkedPattern.{MarkedPattern}
use Rattle.rl_marks.specs.SameFinds.{FindAlike, DifferFrom, DifferInSearch, matcher_in}
use Rattle.rl_spans.specs.declared.comparing.SameFinds.{SameFinds}
use Rattle.rl_spans.specs.declared.comparing.SameFinds.TheVariants.{Same, Differ, Exceeded}

-- Holds if two patterns, `a` and `b`, find different matches on the text `w`, a text of `a`'s universe. With `Fullmatch` and
-- `Match` these are the matches that begin at position `i`, which is counted in codes from 0 and is at most the text's length;
-- `advance` says that only matches that aren't empty count. With `OneSearch` they are what one search from the text's start
-- finds, and then `i` is 0 and `advance` is false. A match and none are different, too.
abbrev pub DifferOn : How → MarkedPattern → MarkedPattern → List ℕ → ℕ → Bool → Type 0
DifferOn Fullmatch a b w i advance = DifferFrom a.universe (matcher_in Fullmatch a) (matcher_in Fullmatch b) w advance i
DifferOn Match a b w i advance = DifferFrom a.universe (matcher_in Match a) (matcher_in Match b) w advance i
DifferOn OneSearch a b w i advance = DifferInSearch a.universe (matcher_in OneSearch a) (matcher_in OneSearch b) w × (i ≡ 0) × (advance ≡ false)

-- What an answer promises of two patterns, `a` and `b`. `Same`: they find the same in every text. `Differ`: they find
-- different matches on its text, which has fewer than 2^32 codes. `Exceeded`: nothing.
abbrev pub IsAnswer : How → MarkedPattern → MarkedPattern → SameFinds → Type 0
IsAnswer how a b (Same relation) = FindAlike how a b
IsAnswer how a b (Differ text from advance) = DifferOn how a b text from advance × (length text < 2 ^ 32)
IsAnswer how a b Exceeded = Unit {0}
