-- What trying the branches preserves: the language, and that each choice keeps a branch.
use Rattle.std.proofs.Common.{◌≡◌, Bool, true, false, List, [], ◌∷◌, true≢false}
use Rattle.std.proofs.lemmas.Bool.{cond_both}
use Rattle.rl_ranges.specs.declared.universe.Universe.{Universe}
use Rattle.rl_syntax.specs.declared.span.Span.{Span}
use Rattle.rl_syntax.specs.Tree.{Tree}
use Rattle.rl_syntax.specs.Lowering.{lowered, items_lowered, branches_lowered}
use Rattle.rl_syntax.specs.PatTree.{PatTree, PatTrees, BranchTrees, nothing, class, seq, choice, repeat, group, anchor, boundary, look, outside, no_items, item, no_branches, branch}
use Rattle.rl_syntax.specs.SameSpans.{Unguarded, OneLanguage}
use Rattle.rl_syntax.proofs.Guardless.{AllUnguarded, turn_unguarded, one_unguarded, times_unguarded}
use Rattle.rl_pattern.specs.Cut.{choice_of, remaining, remaining_items, remaining_branches}
use Rattle.rl_pattern.specs.Suggested.{among, holds_guard, some_guard, branch_guard, may_go, without, Verdict, equal, Tried, none_tried, left_alone, dropped_one, kept_one, undecided_one}
use Rattle.rl_pattern.proofs.Linking.{or_none}
use Rattle.rl_pattern.proofs.Rising.{Fewer, none_fewer, left_out, taken}

-- The language stays the same.
pub tried_language : (Answers : Tree → Tree → Verdict → Type 0) (u : Universe) → ((s t : Tree) → Answers s t equal → OneLanguage u s t) → (body : PatTree) {bs dropped passed : List Span} → Tried Answers body bs dropped passed → OneLanguage u (without [] body) (without dropped body)
tried_language Answers u sound body none_tried w is = (λ h. h, λ h. h)
tried_language Answers u sound body (left_alone h e) w is = tried_language Answers u sound body h w is
tried_language Answers u sound body (dropped_one {dropped = d} {b = b} h m a) w is =
    let before = tried_language Answers u sound body h w is in
    let step = sound (without d body) (without (b ∷ d) body) a w is in
    (λ x. step.0 (before.0 x), λ x. before.1 (step.1 x))
tried_language Answers u sound body (kept_one h m a) w is = tried_language Answers u sound body h w is
tried_language Answers u sound body (undecided_one h m a) w is = tried_language Answers u sound body h w is

-- What was dropped may be dropped.
pub tried_goes : (Answers : Tree → Tree → Verdict → Type 0) (body : PatTree) {bs dropped passed : List Span} → Tried Answers body bs dropped passed → may_go (among []) body ≡ true → may_go (among dropped) body ≡ true
tried_goes Answers body none_tried e = e
tried_goes Answers body (left_alone h m) e = tried_goes Answers body h e
tried_goes Answers body (dropped_one h m a) e = m
tried_goes Answers body (kept_one h m a) e = tried_goes Answers body h e
tried_goes Answers body (undecided_one h m a) e = tried_goes Answers body h e

-- The branches that were dropped, and those that exceeded the limit, are among the branches that were tried.
pub dropped_fewer : (Answers : Tree → Tree → Verdict → Type 0) (body : PatTree) {bs dropped passed : List Span} → Tried Answers body bs dropped passed → Fewer dropped bs
dropped_fewer Answers body none_tried = none_fewer
dropped_fewer Answers body (left_alone h m) = left_out (dropped_fewer Answers body h)
dropped_fewer Answers body (dropped_one h m a) = taken (dropped_fewer Answers body h)
dropped_fewer Answers body (kept_one h m a) = left_out (dropped_fewer Answers body h)
dropped_fewer Answers body (undecided_one h m a) = left_out (dropped_fewer Answers body h)

pub passed_fewer : (Answers : Tree → Tree → Verdict → Type 0) (body : PatTree) {bs dropped passed : List Span} → Tried Answers body bs dropped passed → Fewer passed bs
passed_fewer Answers body none_tried = none_fewer
passed_fewer Answers body (left_alone h m) = left_out (passed_fewer Answers body h)
passed_fewer Answers body (dropped_one h m a) = left_out (passed_fewer Answers body h)
passed_fewer Answers body (kept_one h m a) = left_out (passed_fewer Answers body h)
passed_fewer Answers body (undecided_one h m a) = taken (passed_fewer Answers body h)

module _ (drop out : Span → Bool) where
  choice_unguarded : (s : Span) (bs : BranchTrees) → AllUnguarded (branches_lowered bs) → Unguarded (lowered (choice_of s bs))
  choice_unguarded s no_branches h = tt
  choice_unguarded s (branch r p no_branches) h = h.0
  choice_unguarded s (branch r p (branch t q bs)) h = one_unguarded (branches_lowered (branch r p (branch t q bs))) h

  mutual
    pub left_unguarded : (p : PatTree) → holds_guard p ≡ false → Unguarded (lowered (remaining drop out p))
    left_unguarded (nothing s) h = tt
    left_unguarded (class s set) h = tt
    left_unguarded (seq s ps) h = turn_unguarded (items_lowered (remaining_items drop out ps)) (items_unguarded ps h)
    left_unguarded (choice s bs) h = choice_unguarded s (remaining_branches drop out bs) (branches_unguarded bs h)
    left_unguarded (repeat s q l m g p) h = let k = left_unguarded p h in cond_both (out q) (remaining drop out p) (repeat s q l m g (remaining drop out p)) (λ t. Unguarded (lowered t)) (λ z. k) (λ z. times_unguarded l m g (lowered (remaining drop out p)) k)
    left_unguarded (group s c p) h = left_unguarded p h
    left_unguarded (anchor s k m) h = absurd (true≢false h)
    left_unguarded (boundary s n a) h = absurd (true≢false h)
    left_unguarded (look s behind negated ranges) h = absurd (true≢false h)
    left_unguarded (outside s f) h = tt

    items_unguarded : (ps : PatTrees) → some_guard ps ≡ false → AllUnguarded (items_lowered (remaining_items drop out ps))
    items_unguarded no_items h = tt
    items_unguarded (item p ps) h = let c = or_none (holds_guard p) (some_guard ps) h in (left_unguarded p c.0, items_unguarded ps c.1)

    branches_unguarded : (bs : BranchTrees) → branch_guard bs ≡ false → AllUnguarded (branches_lowered (remaining_branches drop out bs))
    branches_unguarded no_branches h = tt
    branches_unguarded (branch s p bs) h =
        let c = or_none (holds_guard p) (branch_guard bs) h in
        let k = left_unguarded p c.0 in
        let ks = branches_unguarded bs c.1 in
        cond_both (drop s) (remaining_branches drop out bs) (branch s (remaining drop out p) (remaining_branches drop out bs)) (λ t. AllUnguarded (branches_lowered t)) (λ z. ks) (λ z. (k, ks))
