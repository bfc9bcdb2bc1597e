use Rattle.std.proofs.Common.{◌∙◌, ◌-◌, ℕ, List, [], ◌∷◌, ◌++◌, length, take, ap, ap₂}
use Rattle.rl_pairs.specs.PairTable.{moves_in, pair_in, lead_in, rest_in}
use Rattle.rl_growth.proofs.FamilyLaws.{twin-pushed}
use Rattle.rl_growth.proofs.words.twin_words.Goals as goal

pub returns : goal.returns
returns c =
    let g = c.args.g.now in
    let t = c.args.twin.now in
    let last = take (length (rest_in g t.state) - 1) (rest_in g t.state) in
    let heads = c.in_ok-put_cycle.ensures.heads ∙ ap₂ (λ (h : List (List ℕ)) (w : List ℕ). h ++ (w ∷ (last ∷ []))) c.new-words.ensures.heads (c.in_ok-lead.ensures ∙ c.lead.ensures) in
    let pumps = c.in_ok-put_cycle.ensures.pumps ∙ ap (λ (h : List (List ℕ)). h ++ t.word ∷ []) c.new-words.ensures.pumps in
    λ a led. twin-pushed a (moves_in g) (pair_in g) g.graph.states (lead_in g) (rest_in g) t.state t.word t.first t.second _ _ c.requires.state_in c.requires.twin heads pumps led
