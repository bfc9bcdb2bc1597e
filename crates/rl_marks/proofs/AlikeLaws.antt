-- Two patterns find alike if a relation on the pairs of thread lists of their matchers is closed.
use Rattle.std.proofs.Common.{◌≡◌, ℕ, ◌<◌, true, List, Contains}
use Rattle.std.proofs.lemmas.Bool.{ltb-true}
use Rattle.rl_ranges.specs.declared.universe.Universe.{Universe}
use Rattle.rl_ranges.specs.Text.{code_count}
use Rattle.rl_syntax.specs.Modes.{is_code}
use Rattle.rl_syntax.specs.Tree.{IsOver}
use Rattle.rl_marks.specs.Marked.{plain}
use Rattle.rl_marks.specs.Hits.{Matcher}
use Rattle.rl_marks.specs.declared.asked.How.{How}
use Rattle.rl_marks.specs.declared.asked.How.TheVariants.{Fullmatch, Match, OneSearch}
use Rattle.rl_marks.specs.declared.pattern.MarkedPattern.{MarkedPattern}
use Rattle.rl_marks.specs.declared.threads.Origin.TheVariants.{EachPlace, TextStart}
use Rattle.rl_marks.specs.SameFinds.{matcher_in, FindAlike}
use Rattle.rl_marks.specs.internal.Seeking.{seeking, asked_in, origin_in}
use Rattle.rl_marks.specs.internal.Pairs.{ThreadPair}
use Rattle.rl_marks.specs.internal.PairLetters.{IsClosedOver}
use Rattle.rl_marks.proofs.LikeLaws.{closed_over-sound}
use Rattle.rl_marks.proofs.SeekLaws.{seeking-searches}

pub closed_over-alike : (how : How) (p q : MarkedPattern) (relation : List ThreadPair)
    → IsClosedOver p.universe (origin_in how) (asked_in how p.universe (matcher_in how p)) (asked_in how p.universe (matcher_in how q)) (Contains relation)
    → FindAlike how p q
closed_over-alike Fullmatch p q relation closed = closed_over-sound p.universe EachPlace (matcher_in Fullmatch p) (matcher_in Fullmatch q) relation closed
closed_over-alike Match p q relation closed = closed_over-sound p.universe EachPlace (matcher_in Match p) (matcher_in Match q) relation closed
closed_over-alike OneSearch p q relation closed =
    seeking-searches p.universe (matcher_in OneSearch p) (matcher_in OneSearch q) p.judged.numbered q.judged.numbered
    (closed_over-sound p.universe TextStart (seeking p.universe (matcher_in OneSearch p)) (seeking p.universe (matcher_in OneSearch q)) relation closed)

code-lies : (u : Universe) (code : ℕ) → is_code u code ≡ true → code < code_count u
unfolding is_code
code-lies u code e = ltb-true code (code_count u) e

-- The sets of the matcher whose matches are looked at lie in the universe.
pub asked-over : (how : How) (u : Universe) (m : Matcher) → IsOver u (plain m.tree) → IsOver u (plain (asked_in how u m).tree)
asked-over Fullmatch u m h = h
asked-over Match u m h = h
asked-over OneSearch u m h = (code-lies u, h)
