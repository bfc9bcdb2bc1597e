-- The values are those of the texts so far.
use Rattle.std.proofs.Common.{◌≡◌, map, take}
use Rattle.serde_json.specs.View.{view}
use Rattle.serde_json.specs.Data.{string}
use Rattle.rl_report.specs.Verdicts.{quoted_text}
use Rattle.rl_ask.proofs.members.texts_value.Given as goal

abbrev pub invariant-loop-text : goal.invariant-loop-text
invariant-loop-text l = map view l.values.items ≡ map (λ text. string (quoted_text l.universe text)) (take l.text-index l.texts)
