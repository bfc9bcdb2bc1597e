use Rattle.std.proofs.Common.{ℕ, refl, subst}
use Rattle.rl_equiv.specs.internal.Searching.{state_of, IsSeen, IsThrough}
use Rattle.rl_equiv.proofs.region_texts.texts_by.Goals as goal

pub texts_of-requires-clause-seen : goal.texts_of-requires-clause-seen
texts_of-requires-clause-seen c =
    subst (λ (n : ℕ). IsSeen c.args.a.now c.args.b.now n (state_of c.look.new.self) c.in_ok-seen.seen.items) c.requires.limit c.in_ok-seen.ensures.seen

pub texts_of-requires-clause-through : goal.texts_of-requires-clause-through
texts_of-requires-clause-through c =
    subst (λ (n : ℕ). IsThrough n (state_of c.look.new.self) c.in_ok-seen.seen.items) c.requires.limit (c.in_ok-seen.ensures.through refl)
