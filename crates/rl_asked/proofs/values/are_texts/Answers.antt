use Rattle.std.proofs.Common.{◌∙◌, rules, tests}
use Rattle.std.proofs.lemmas.Iterator.{YieldsList-from_slice}
use Rattle.std.proofs.lemmas.Iterator.Search.{all_from_yields_List}
use Rattle.serde_json.specs.View.{view}
use Rattle.serde_json.specs.declared.value.Value.{Value}
use Rattle.rl_asked.specs.Values.{is_text_value}
use Rattle.rl_asked.proofs.ValueLemmas.{are_texts-view}
use Rattle.rl_asked.proofs.values.are_texts.Goals as goal

pub returns : goal.returns
returns c =
    all_from_yields_List (λ (v : Value). is_text_value c.args.universe (view v)) _ _ c.all.result c.all.ensures.ran
    (YieldsList-from_slice _ c.iter.ensures.rest) (λ x b q k. search (rules, tests))
    ∙ are_texts-view c.args.universe c.args.values.now
