-- The run ends at the first byte of another class, or at the end.
use Rattle.std.proofs.Common.{ℕ, not, length, ap, ◌∙◌, rules, tests}
use Rattle.std.specs.Prelude.{unwrap_or}
use Rattle.std.proofs.lemmas.Iterator.{YieldsList-from_slice}
use Rattle.std.proofs.lemmas.Iterator.Search.{position_from_yields_List}
use Rattle.rl_pylex.specs.Bytes.{in_name}
use Rattle.rl_pylex.proofs.Runs.{run}
use Rattle.rl_pylex.proofs.rules.name_size.Goals as goal

pub returns : goal.returns
returns c =
    let text = c.args.text.now in
    c.unwrap_or.ensures
    ∙ ap (λ o. unwrap_or o (length text)) (position_from_yields_List (λ (x : ℕ). not (in_name x)) _ _ c.position.result c.position.ensures.ran (YieldsList-from_slice _ c.iter.ensures.rest) (λ x b q k. search (rules, tests)))
    ∙ run in_name text
