use Rattle.std.proofs.Common.{◌∙◌}
use Rattle.rl_marks.specs.SameFinds.{matcher_in}
use Rattle.rl_marks.specs.declared.asked.How.TheVariants.{Match}
use Rattle.rl_spans.specs.Sights.{sight_of}
use Rattle.rl_ask.proofs.FoundLemmas.{none-of, search-later}
use Rattle.rl_ask.proofs.found.searched.Goals as goal

pub loop-place-preserved : goal.loop-place-preserved
loop-place-preserved c =
    c.loop-place.invariant
    ∙ search-later (sight_of c.args.pattern.now.groups) (matcher_in Match c.args.pattern.now) c.args.text.now c.loop-place.advance c.loop-place.place c.in_ok-sight.field-0
    c.loop-place-test.true c.in_ok-sight.ensures.found (none-of c.in_ok-sight.field-0 c.in_default.not-Some)
