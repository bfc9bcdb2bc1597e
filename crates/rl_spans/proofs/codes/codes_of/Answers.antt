use Rattle.std.proofs.Common.{◌++◌, map}
use Rattle.rl_ranges.specs.Codes.{has}
use Rattle.rl_ranges.specs.Text.{code_count}
use Rattle.rl_prio.specs.Letters.{all_sets}
use Rattle.rl_marks.specs.Marked.{marked_of, plain}
use Rattle.rl_spans.proofs.CodeLaws.{samples-enough}
use Rattle.rl_spans.proofs.codes.codes_of.Goals as goal

pub returns-clause-enough : goal.returns-clause-enough
returns-clause-enough c =
    samples-enough (map has c.in_ok-sets.sets.items) (all_sets (plain (marked_of c.args.first.now)) ++ all_sets (plain (marked_of c.args.second.now)))
    (code_count c.args.universe) c.in_ok-letters.letters c.in_ok-codes.codes c.in_ok-sets.ensures.sets c.in_ok-letters.ensures.ok c.in_ok-codes.ensures
