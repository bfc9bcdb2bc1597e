use Rattle.std.proofs.Common.{codes, ap, ◌∙◌, ◌++◌}
use Rattle.rl_sample.specs.Generator.{line_of, pattern_of}
use Rattle.rl_sample.proofs.SourceLemmas.{joined}
use Rattle.rl_sample.proofs.source.push_line.Goals as goal

pub returns : goal.returns
unfolding line_of
returns c =
    let chosen = c.as_bytes.ensures.value ∙ c.pattern_of.ensures in
    joined c.args.text.now.items (codes "re.fullmatch(r\"") (pattern_of c.args.value) (codes "\", s)\n") _ _ _
    c.in_ok-extend_from_slice.ensures.items
    (c.in_ok-extend_from_slice-2.ensures.items ∙ ap (λ l. c.extend_from_slice.new.self.items ++ l) chosen)
    c.in_ok-extend_from_slice-3.ensures.items
