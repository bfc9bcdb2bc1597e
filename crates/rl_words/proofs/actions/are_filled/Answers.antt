use Rattle.std.proofs.Common.{◌∙◌, sym, rules, tests}
use Rattle.std.specs.Borrow.{Bor}
use Rattle.std.proofs.lemmas.Iterator.{YieldsList-from_slice}
use Rattle.std.proofs.lemmas.Iterator.Search.{all_from_yields_List}
use Rattle.std.proofs.lemmas.List.Folds.{list_all-map}
use Rattle.clap.specs.Walk.{Text}
use Rattle.rl_words.specs.Values.{is_filled}
use Rattle.rl_words.proofs.actions.are_filled.Goals as goal

pub returns : goal.returns
returns c =
    all_from_yields_List (λ (t : Bor Text). is_filled t.now) _ _ c.all.result c.all.ensures.ran (YieldsList-from_slice c.args.texts.now cc) (λ x b q k. search (rules, tests))
    ∙ sym (list_all-map is_filled (λ (t : Bor Text). t.now) c.args.texts.now)
