use Rattle.std.proofs.Common.{rules, ◌∙◌, sym}
use Rattle.std.proofs.lemmas.List.{map-id}
use Rattle.std.proofs.lemmas.Iterator.{YieldsList-from_chars, YieldsList-from_map, items_from_drains}
use Rattle.rl_ask.proofs.codes.codes_of.Goals as goal

pub returns : goal.returns
returns c =
    let e = c.in_ok-codes.ensures.ran in
    c.from_vec.ensures ∙ e.2.0 ∙ sym (map-id e.0)
    ∙ items_from_drains e.0 e.1 (YieldsList-from_map _ (λ x. x) (YieldsList-from_chars c.args.word.now c.utf8.word cc) c.map.ensures.closure (λ x r q k. search rules))
    ∙ map-id _
