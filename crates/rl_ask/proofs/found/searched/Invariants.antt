-- A search from the place on finds what a search from the first place finds.
use Rattle.std.proofs.Common.{◌≡◌}
use Rattle.rl_marks.specs.SameFinds.{matcher_in}
use Rattle.rl_marks.specs.Searches.{search_from}
use Rattle.rl_marks.specs.declared.asked.How.TheVariants.{Match}
use Rattle.rl_ask.proofs.found.searched.Given as goal

abbrev pub invariant-loop-place : goal.invariant-loop-place
invariant-loop-place l =
    search_from (matcher_in Match l.pattern) l.text l.fn.asking.advance l.fn.asking.from ≡ search_from (matcher_in Match l.pattern) l.text l.advance l.place
