-- A copy was appended in each round, and there aren't too many codes.
use Rattle.std.proofs.Common.{◌≡◌, ◌≤◌, ◌++◌, length}
use Rattle.rl_syntax.specs.Family.{copies}
use Rattle.rl_ask.specs.declared.limits.TheConstants.{MOST_TEXT_CODES}
use Rattle.rl_ask.proofs.family.push_copies.Given as goal

abbrev pub invariant-loop : goal.invariant-loop
invariant-loop l = record { copied : l.text.items ≡ l.fn.text.items ++ copies l.counter l.part; within : length l.text.items ≤ MOST_TEXT_CODES }
