use Rattle.std.proofs.Common.{◌∙◌, ap, not, option_map, sym, Global, String, string_bytes, rules, tests}
use Rattle.std.specs.List.{list_any}
use Rattle.std.specs.Map.{keys_of as map_keys}
use Rattle.std.specs.Str.{bytes_eq}
use Rattle.std.proofs.lemmas.Iterator.Consumers.{YieldsList-from_rest}
use Rattle.std.proofs.lemmas.Iterator.Search.{find_from_yields_List}
use Rattle.rl_asked.specs.Keys.{keys_of}
use Rattle.rl_asked.proofs.ValueLemmas.{unknown-view, mapped-twice}
use Rattle.rl_asked.proofs.keys.unknown_key.Goals as goal

pub returns : goal.returns
returns c =
    mapped-twice c.find.result
    ∙ ap (option_map string_bytes)
    (find_from_yields_List (λ (key : String Global). not (list_any (bytes_eq (string_bytes key)) (keys_of c.args.ask))) _ _ c.find.result c.find.ensures.ran
    (YieldsList-from_rest (map_keys c.args.members.now.entries) c.keys.ensures.rest) (λ x b q k. search (rules, tests)))
    ∙ unknown-view c.args.ask c.args.members.now.entries
