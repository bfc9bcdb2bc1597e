use Rattle.std.proofs.Common.{ap, ◌∙◌}
use Rattle.rl_sarif.specs.Sarif.{uri_byte, uri_text}
use Rattle.rl_sarif.proofs.UriLemmas.{piece-more, pieces-all}
use Rattle.rl_sarif.proofs.uri.uri_of.Goals as goal

pub loop-byte-preserved : goal.loop-byte-preserved
loop-byte-preserved c =
    piece-more uri_byte _ _ c.as_bytes-byte-items.result.now c.loop-byte.byte-index c.loop-byte-test.true c.loop-byte.invariant c.in_ok-push_byte.ensures

pub returns : goal.returns
returns c =
    pieces-all uri_byte _ c.as_bytes-byte-items.result.now c.loop-byte.byte-index c.loop-byte-test.false c.loop-byte.invariant
    ∙ ap uri_text c.as_bytes-byte-items.ensures.value
