use Rattle.std.proofs.Common.{map}
use Rattle.rl_ranges.specs.Codes.{has}
use Rattle.rl_spans.proofs.KindLaws.{same-kind}
use Rattle.rl_spans.proofs.machine.is_same_kind.Goals as goal

pub returns : goal.returns
returns c =
    λ alike s t same.
    same-kind c.args.code c.args.before c.shown-shown.result c.shown-seen.result c.shown-shown.ensures.shown c.shown-seen.ensures.shown
    c.shown-shown.ensures.code c.shown-seen.ensures.code (c.are_seen_alike.ensures.line_feed alike)
    (c.are_seen_alike.ensures.word alike) (c.are_seen_alike.ensures.ascii_word alike)
    (map has c.args.looks.now) (c.are_seen_alike.ensures.kind alike) s t same
