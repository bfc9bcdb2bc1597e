-- What is there so far, and the string of the rest behind it, are the string. There aren't too many codes.
use Rattle.std.proofs.Common.{◌≡◌, ◌≤◌, ◌++◌, length, drop}
use Rattle.rl_syntax.specs.Family.{family_text, pumped}
use Rattle.rl_ask.specs.declared.limits.TheConstants.{MOST_TEXT_CODES}
use Rattle.rl_ask.proofs.family.string_of.Given as goal

abbrev pub invariant-loop-index : goal.invariant-loop-index
invariant-loop-index l = record { whole : l.text.items ++ pumped l.k (drop l.index l.family.heads) (drop l.index l.family.pumps) ≡ family_text l.family l.k; within : length l.text.items ≤ MOST_TEXT_CODES }
