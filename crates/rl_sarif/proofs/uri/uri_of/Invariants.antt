-- The text is that of the bytes so far.
use Rattle.std.proofs.Common.{◌≡◌, take, string_bytes}
use Rattle.std.specs.List.{flat_map}
use Rattle.rl_sarif.specs.Sarif.{uri_byte}
use Rattle.rl_sarif.proofs.uri.uri_of.Given as goal

abbrev pub invariant-loop-byte : goal.invariant-loop-byte
invariant-loop-byte l = string_bytes l.uri ≡ flat_map uri_byte (take l.byte-index l.byte-items)
