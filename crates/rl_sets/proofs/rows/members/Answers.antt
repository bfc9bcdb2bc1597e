use Rattle.std.proofs.Common.{◌++◌, ◌∷◌, [], false, List, ℕ, get_or, length, ap, sym, ◌∙◌, arith}
use Rattle.rl_sets.specs.Rows.{members_of}
use Rattle.rl_sets.proofs.SetLemmas.{filter_gap, filter_next}
use Rattle.rl_sets.proofs.rows.members.Goals as goal

pub loop-state-preserved : goal.loop-state-preserved
loop-state-preserved c =
    let row = c.args.row.now in
    let least = c.in-Some.ensures.found in (
      c.in_ok-push.ensures.items
          ∙ ap (λ (l : List ℕ). l ++ c.in-Some.state ∷ []) c.loop-state.invariant.0
          ∙ sym (filter_next (λ q. get_or row q false) c.loop-state.from c.in-Some.state least.after least.before least.member),
      omega (arith, least.within),
    )

pub returns : goal.returns
unfolding members_of
returns c =
    let row = c.args.row.now in
    c.from_vec.ensures
    ∙ c.loop-state.invariant.0
    ∙ sym (filter_gap (λ q. get_or row q false) c.loop-state.from (length row) c.loop-state.invariant.1 (λ k from lt. c.in_default.ensures.none k from))
