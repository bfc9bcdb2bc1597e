use Rattle.std.proofs.Common.{ℕ, ap, nat_lt, sym, subst}
use Rattle.rl_equiv.specs.internal.Searching.{state_of, IsSeen}
use Rattle.rl_equiv.proofs.RegionLaws.{regions-are}
use Rattle.rl_equiv.proofs.region_texts.texts_of.Goals as goal

pub text_of-requires-clause-seen : goal.text_of-requires-clause-seen
text_of-requires-clause-seen c =
    subst (λ (n : ℕ). IsSeen c.args.a.now c.args.b.now n (state_of c.args.search.now) c.args.seen.now.items) (sym c.requires.seen.limit_is) c.requires.seen

pub text_of-requires-2-clause-seen : goal.text_of-requires-2-clause-seen
text_of-requires-2-clause-seen c =
    subst (λ (n : ℕ). IsSeen c.args.a.now c.args.b.now n (state_of c.args.search.now) c.args.seen.now.items) (sym c.requires.seen.limit_is) c.requires.seen

pub text_of-requires-3-clause-seen : goal.text_of-requires-3-clause-seen
text_of-requires-3-clause-seen c =
    subst (λ (n : ℕ). IsSeen c.args.a.now c.args.b.now n (state_of c.args.search.now) c.args.seen.now.items) (sym c.requires.seen.limit_is) c.requires.seen

pub returns : goal.returns
returns c = λ u s t stand.
    regions-are u s t c.args.a.now c.args.b.now stand c.args.limit (state_of c.args.search.now) c.args.seen.now.items c.requires.seen c.requires.through _ c.in_ok-first.ensures c.in_ok-second.ensures c.in_ok-both.ensures
    (ap (nat_lt c.args.limit) c.len.ensures.len)
