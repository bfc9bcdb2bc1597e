use Rattle.std.proofs.Common.{◌≡◌, [], ◌∷◌, ◌++◌, Bool, if◌then◌else◌, ap, ◌∙◌}
use Rattle.rl_pairs.proofs.FindingLaws.{keys-absent}
use Rattle.rl_pairs.proofs.finder.Finder.add.Goals as goal

pub returns : goal.returns
returns c =
    let keys = c.args.self.now.keys.keys in
    let e : c.insert.new.self.keys ≡ keys ++ c.args.key ∷ [] = c.in_ok-insert.ensures.keys ∙ ap (λ (b : Bool). if b then keys else keys ++ c.args.key ∷ []) (keys-absent c.args.key keys c.requires) in
    λ i. record { limit = c.args.self.now.limit; keys = e i; leads = c.in_ok-push.ensures.items i; rests = c.in_ok-push-2.ensures.items i; rows = c.args.self.now.rows }
