use Rattle.std.proofs.Common.{◌∙◌, Global, String, string_bytes, rules, tests}
use Rattle.std.specs.List.{list_any}
use Rattle.std.specs.Str.{bytes_eq}
use Rattle.std.specs.Map.{keys_of}
use Rattle.std.proofs.lemmas.Iterator.Consumers.{YieldsList-from_rest}
use Rattle.std.proofs.lemmas.Iterator.Search.{all_from_yields_List}
use Rattle.rl_settings.specs.Settings.{known_keys}
use Rattle.rl_settings.proofs.KeyLemmas.{has_known_keys-view}
use Rattle.rl_settings.proofs.keys.has_known_keys.Goals as goal

pub returns : goal.returns
returns c =
    all_from_yields_List (λ (key : String Global). list_any (bytes_eq (string_bytes key)) known_keys) _ _ c.all.result c.all.ensures.ran
    (YieldsList-from_rest (keys_of c.args.table.now.entries) c.keys.ensures.rest) (λ x b q k. search (rules, tests))
    ∙ has_known_keys-view c.args.table.now.entries
