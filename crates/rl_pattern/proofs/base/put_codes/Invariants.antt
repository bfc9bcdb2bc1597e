-- The codes so far are literals, and the others follow.
use Rattle.std.proofs.Common.{◌≡◌, ◌+◌, drop}
use Rattle.rl_pattern.specs.internal.Views.{base_of}
use Rattle.rl_pattern.specs.internal.Machine as m
use Rattle.rl_pattern.proofs.base.put_codes.Given as goal

abbrev pub invariant-loop-code : goal.invariant-loop-code
invariant-loop-code l = record {
  codes : m.put_codes (base_of l.base) l.place (drop l.code-index l.codes) ≡ m.put_codes (base_of l.fn.base) l.fn.from l.codes;
  place : l.place ≡ l.fn.from + l.code-index;
}
