-- The message on a refused pattern, the line of `cost` on its steps, and the line on an exceeded limit. A live pair, whose
-- number one of the limits bounds, is a state of a pattern's automaton with the set of states that were tried before it.
use Rattle.std.specs.Prelude.{ℕ, ◌^◌, Bool, ◌++◌, codes, if◌then◌else◌, nat_lt}
use Rattle.std.specs.Fmt.{decimal}
use Rattle.rl_syntax.specs.declared.verdict.Limit.{Limit}
use Rattle.rl_syntax.specs.declared.verdict.Verdict.TheVariants.{Undecided}
use Rattle.rl_report.specs.Verdicts.{verdict_text}
use Rattle.rl_report.specs.Names.{Text}

-- The message, with its line feed, on a pattern that is refused, such as `relint: refused syntax at 3`. `cause` is the name of
-- the reason, and `place` the number of the code point, counted from 0.
abbrev pub refused_at : Text → ℕ → Text
refused_at cause place = codes "relint: refused " ++ (cause ++ (codes " at " ++ (decimal place ++ codes "\n")))

-- The line on the number of steps that a match takes and on whether it matches (`matched`) or not (`refused`). A number above
-- 2^128 - 1 isn't written out.
abbrev pub steps_line : ℕ → Bool → Text
steps_line steps is_matched =
    (if nat_lt steps (2 ^ 128) then codes "steps " ++ decimal steps else codes "steps over 340282366920938463463374607431768211455")
    ++ (if is_matched then codes " matched\n" else codes " refused\n")

-- The line on an exceeded limit, such as `undecided moves over 256`. `max_pairs` is the limit of live pairs, and it is used
-- only if that limit is exceeded.
abbrev pub undecided_line : ℕ → Limit → Text
undecided_line max_pairs passed = verdict_text max_pairs (Undecided passed) ++ codes "\n"
