use Rattle.std.proofs.Common.{◌∙◌, List, ℕ, [], ◌∷◌, ◌++◌, ap₂}
use Rattle.rl_pairs.specs.PairTable.{moves_in, pair_in, lead_in, rest_in}
use Rattle.rl_growth.proofs.FamilyLaws.{twin-pushed}
use Rattle.rl_why.proofs.explaining.words_of_twin.Goals as goal

pub returns-clause-words : goal.returns-clause-words
returns-clause-words c =
    let g = c.args.g.now in
    let t = c.args.twin.now in
    let push = λ (h : List (List ℕ)) (x : List ℕ). h ++ x ∷ [] in
    let heads = c.in_ok-push-2.ensures.pushed ∙ ap₂ push (c.in_ok-push.ensures.pushed ∙ ap₂ push c.new-heads.ensures (c.in_ok-lead.ensures ∙ c.as_slice.ensures ∙ c.lead.ensures)) c.in_ok-last.ensures in
    let pumps = c.in_ok-push-3.ensures.pushed ∙ ap₂ push c.new-pumps.ensures (c.in_ok-round.ensures ∙ c.as_slice-2.ensures) in
    λ a led. twin-pushed a (moves_in g) (pair_in g) g.graph.states (lead_in g) (rest_in g) t.state t.word t.first t.second _ _ c.requires.state_in c.requires.twin heads pumps led
