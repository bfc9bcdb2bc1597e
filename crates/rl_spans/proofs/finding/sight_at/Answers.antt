use Rattle.std.proofs.Common.{◌∙◌, ap, option_map}
use Rattle.rl_spans.specs.internal.HeldSights.{held_sight}
use Rattle.rl_spans.specs.internal.Hits.{ended_of}
use Rattle.rl_spans.proofs.SightLaws.{found-sight}
use Rattle.rl_spans.proofs.finding.sight_at.Goals as goal

pub returns-clause-sight : goal.returns-clause-sight
returns-clause-sight c =
    found-sight c.args.side.now c.args.count c.args.start c.args.text.now c.args.advance (ended_of c.in_ok-hit.hit) c.in_ok-sight.sight c.in_ok-hit.ensures.found
    (c.in_ok-sight.ensures ∙ ap (λ i. option_map (held_sight c.args.count i) (ended_of c.in_ok-hit.hit)) c.in_ok-place.ensures.place)
