use Rattle.std.proofs.Common.{◌∙◌, [], ◌∷◌, ◌++◌, Bool, if◌then◌else◌, inl, inr, refl, sym, ap, arith}
use Rattle.rl_numbers.proofs.ReachLaws.{any-has, any-none}
use Rattle.rl_numbers.proofs.reach.add.Goals as goal

pub returns-then-contains-clause-put : goal.returns-then-contains-clause-put
returns-then-contains-clause-put c = inl (any-has c.args.state c.args.keys.now.keys (sym c.contains.ensures ∙ c.if-contains.true), refl)

pub returns-then-len-limit-clause-too_many : goal.returns-then-len-limit-clause-too_many
returns-then-len-limit-clause-too_many c e =
    (omega (arith, c.requires, c.len.ensures.len, c.if-len-limit.true), any-none c.args.state c.args.keys.now.keys (sym c.contains.ensures ∙ c.if-contains.false))

pub returns-clause-put : goal.returns-clause-put
returns-clause-put c =
    let keys = c.args.keys.now.keys in
    let none = sym c.contains.ensures ∙ c.if-contains.false in
    inr (any-none c.args.state keys none, c.in_ok-insert.ensures.keys ∙ ap (λ (b : Bool). if b then keys else keys ++ c.args.state ∷ []) none)
