use Rattle.std.proofs.Common.{◌≡◌, ℕ, suc, ◌-◌, ◌<◌, false, length}
use Rattle.rl_equiv.specs.internal.Searching.{state_of, is_apart, ends_in, IsSeen}
use Rattle.rl_equiv.proofs.searching.PairSearch.look.Given as goal

abbrev pub invariant-loop-seen : goal.invariant-loop-seen
invariant-loop-seen l =
    IsSeen l.a l.b (state_of l.fn.self).limit (state_of l.self) l.seen.items
    × (l.all ≡ false → (k : ℕ) → k < length l.seen.items → is_apart (ends_in l.seen.items k) ≡ false)

abbrev pub decreases-loop-seen : goal.decreases-loop-seen
decreases-loop-seen l = suc l.fn.self.limit - length l.seen.items
