use Rattle.std.proofs.Common.{[], ◌∷◌, length, ap, sym, ◌∙◌}
use Rattle.std.proofs.lemmas.Result.{err_from_is_err_and, IfOk-weaker}
use Rattle.rl_syntax.specs.Tree.{tree_of}
use Rattle.rl_prio.specs.declared.build.attempts.Attempt.TheVariants.{End}
use Rattle.rl_prio.proofs.EnterLemmas.{wide-both_left, wide-both_right, wide-either_left, wide-either_right, wide-many_body, entered-empty, entered-guard, both-made, both-wide, either-made, either-wide, many-made, many-wide, in_order, in_lists, entered-short}
use Rattle.rl_prio.proofs.build.lists.+enter.Goals as goal

pub returns-in-Empty-clause-ok : goal.returns-in-Empty-clause-ok
returns-in-Empty-clause-ok t c =
    rw c.in-Empty.is (IfOk-weaker c.single.result _ _ (λ l is. entered-empty c.args.kinds.now c.args.lists.now.items l (is ∙ ap (λ x. End x ∷ []) c.none.ensures)) c.single.ensures.list)

pub returns-in-Guard-clause-ok : goal.returns-in-Guard-clause-ok
returns-in-Guard-clause-ok t c =
    rw c.in-Guard.is (IfOk-weaker c.single-in-Guard.result _ _ (λ l is. entered-guard c.args.kinds.now c.in-Guard.guard c.args.lists.now.items l (is ∙ ap (λ x. End x ∷ []) c.only.ensures)) c.single-in-Guard.ensures.list)

pub returns-in_err-list-in-Both-clause-moves : goal.returns-in_err-list-in-Both-clause-moves
returns-in_err-list-in-Both-clause-moves t c =
    let p = err_from_is_err_and c.from_residual.result c.from_residual.ensures.1 in
    rw (c.in-Both.is, ← c.deref.ensures, p.1) (λ e.
    wide-both_left (tree_of c.deref.result.now) (tree_of c.in-Both.second.value) (length c.args.lists.now.items)
    (c.in_err-list-in-Both.ensures.moves (sym p.2 ∙ e)))

pub returns-in_err-further-in-Both-clause-moves : goal.returns-in_err-further-in-Both-clause-moves
returns-in_err-further-in-Both-clause-moves t c =
    let p = err_from_is_err_and c.from_residual-in_err-further-in-Both.result c.from_residual-in_err-further-in-Both.ensures.1 in
    rw (c.in-Both.is, ← c.deref.ensures, ← c.deref-in-Both.ensures, p.1) (λ e.
    wide-both_right c.args.kinds.now (tree_of c.deref.result.now) c.args.lists.now.items c.enter.new.lists.items c.in_ok-list-in-Both.list c.in_ok-list-in-Both.ensures.ok
    (tree_of c.deref-in-Both.result.now) (c.in_err-further-in-Both.ensures.moves (sym p.2 ∙ e)))

pub in_turn-requires-clause-in_order : goal.in_turn-requires-clause-in_order
in_turn-requires-clause-in_order t c =
    in_order c.args.kinds.now (tree_of c.deref.result.now) c.args.lists.now.items c.enter.new.lists.items c.in_ok-list-in-Both.list c.in_ok-list-in-Both.ensures.ok
    c.len-from.result c.len-to.result (c.len-from.ensures ∙ c.args.lists.now.ok.0) (c.len-to.ensures ∙ c.enter.new.lists.ok.0)

pub in_turn-requires-clause-in_lists : goal.in_turn-requires-clause-in_lists
in_turn-requires-clause-in_lists t c =
    in_lists c.args.kinds.now (tree_of c.deref-in-Both.result.now) c.enter.new.lists.items c.enter-in-Both.new.lists.items c.in_ok-further-in-Both.further c.in_ok-further-in-Both.ensures.ok
    c.len-to.result (c.len-to.ensures ∙ c.enter.new.lists.ok.0)

pub returns-in_ok-further-in-Both-clause-ok : goal.returns-in_ok-further-in-Both-clause-ok
returns-in_ok-further-in-Both-clause-ok t c =
    let made = c.in_turn.ensures in
    rw (c.in-Both.is, ← c.deref.ensures, ← c.deref-in-Both.ensures)
    (both-made c.args.kinds.now (tree_of c.deref.result.now) c.args.lists.now.items c.enter.new.lists.items c.in_ok-list-in-Both.list c.in_ok-list-in-Both.ensures.ok
    (tree_of c.deref-in-Both.result.now) c.enter-in-Both.new.lists.items c.in_ok-further-in-Both.further c.in_ok-further-in-Both.ensures.ok
    c.in_turn.new.lists.items c.as_slice.result.now c.as_slice-in-Both.result.now c.len-from.result c.len-to.result c.in_turn.result
    c.as_slice.ensures c.as_slice-in-Both.ensures (c.len-from.ensures ∙ c.args.lists.now.ok.0) (c.len-to.ensures ∙ c.enter.new.lists.ok.0)
    made.list made.list_short made.lists made.lists_short)

pub returns-in_ok-further-in-Both-clause-moves : goal.returns-in_ok-further-in-Both-clause-moves
returns-in_ok-further-in-Both-clause-moves t c =
    rw (c.in-Both.is, ← c.deref.ensures, ← c.deref-in-Both.ensures)
    (both-wide c.args.kinds.now (tree_of c.deref.result.now) c.args.lists.now.items c.enter.new.lists.items c.in_ok-list-in-Both.list c.in_ok-list-in-Both.ensures.ok
    (tree_of c.deref-in-Both.result.now) c.enter-in-Both.new.lists.items c.in_ok-further-in-Both.further c.in_ok-further-in-Both.ensures.ok
    c.as_slice.result.now c.as_slice-in-Both.result.now c.len-from.result c.len-to.result c.in_turn.result
    c.as_slice.ensures c.as_slice-in-Both.ensures (c.len-from.ensures ∙ c.args.lists.now.ok.0) (c.len-to.ensures ∙ c.enter.new.lists.ok.0)
    c.in_turn.ensures.moves)

pub returns-in_err-list-in-Either-clause-moves : goal.returns-in_err-list-in-Either-clause-moves
returns-in_err-list-in-Either-clause-moves t c =
    let p = err_from_is_err_and c.from_residual-in_err-list-in-Either.result c.from_residual-in_err-list-in-Either.ensures.1 in
    rw (c.in-Either.is, ← c.deref-in-Either.ensures, p.1) (λ e.
    wide-either_left (tree_of c.deref-in-Either.result.now) (tree_of c.in-Either.second.value) (length c.args.lists.now.items)
    (c.in_err-list-in-Either.ensures.moves (sym p.2 ∙ e)))

pub returns-in_err-others-in-Either-clause-moves : goal.returns-in_err-others-in-Either-clause-moves
returns-in_err-others-in-Either-clause-moves t c =
    let p = err_from_is_err_and c.from_residual-in_err-others-in-Either.result c.from_residual-in_err-others-in-Either.ensures.1 in
    rw (c.in-Either.is, ← c.deref-in-Either.ensures, ← c.deref-in-Either-2.ensures, p.1) (λ e.
    wide-either_right c.args.kinds.now (tree_of c.deref-in-Either.result.now) c.args.lists.now.items c.enter-in-Either.new.lists.items c.in_ok-list-in-Either.list c.in_ok-list-in-Either.ensures.ok
    (tree_of c.deref-in-Either-2.result.now) (c.in_err-others-in-Either.ensures.moves (sym p.2 ∙ e)))

pub returns-in_ok-others-in-Either-clause-ok : goal.returns-in_ok-others-in-Either-clause-ok
returns-in_ok-others-in-Either-clause-ok t c =
    rw (c.in-Either.is, ← c.deref-in-Either.ensures, ← c.deref-in-Either-2.ensures)
    (either-made c.args.kinds.now (tree_of c.deref-in-Either.result.now) c.args.lists.now.items c.enter-in-Either.new.lists.items c.in_ok-list-in-Either.list c.in_ok-list-in-Either.ensures.ok
    (tree_of c.deref-in-Either-2.result.now) c.enter-in-Either-2.new.lists.items c.in_ok-others-in-Either.others c.in_ok-others-in-Either.ensures.ok
    c.as_slice-in-Either.result.now c.alternatives.result c.as_slice-in-Either.ensures c.alternatives.ensures.ok c.alternatives.ensures.short)

pub returns-in_ok-others-in-Either-clause-moves : goal.returns-in_ok-others-in-Either-clause-moves
returns-in_ok-others-in-Either-clause-moves t c =
    rw (c.in-Either.is, ← c.deref-in-Either.ensures, ← c.deref-in-Either-2.ensures)
    (either-wide c.args.kinds.now (tree_of c.deref-in-Either.result.now) c.args.lists.now.items c.enter-in-Either.new.lists.items c.in_ok-list-in-Either.list c.in_ok-list-in-Either.ensures.ok
    (tree_of c.deref-in-Either-2.result.now) c.enter-in-Either-2.new.lists.items c.in_ok-others-in-Either.others c.in_ok-others-in-Either.ensures.ok
    c.as_slice-in-Either.result.now c.alternatives.result c.as_slice-in-Either.ensures c.alternatives.ensures.moves)

pub returns-in_err-list-in-Many-clause-moves : goal.returns-in_err-list-in-Many-clause-moves
returns-in_err-list-in-Many-clause-moves t c =
    let p = err_from_is_err_and c.from_residual-in_err-list-in-Many.result c.from_residual-in_err-list-in-Many.ensures.1 in
    rw (c.in-Many.is, ← c.deref-in-Many.ensures, p.1) (λ e.
    wide-many_body (tree_of c.deref-in-Many.result.now) c.in-Many.greedy (length c.args.lists.now.items)
    (c.in_err-list-in-Many.ensures.moves (sym p.2 ∙ e)))

pub repeated-requires-clause-in_lists : goal.repeated-requires-clause-in_lists
repeated-requires-clause-in_lists t c =
    in_lists c.args.kinds.now (tree_of c.deref-in-Many.result.now) c.args.lists.now.items c.enter-in-Many.new.lists.items c.in_ok-list-in-Many.list c.in_ok-list-in-Many.ensures.ok
    c.len-from-in-Many.result (c.len-from-in-Many.ensures ∙ c.args.lists.now.ok.0)

pub repeated-requires-clause-short : goal.repeated-requires-clause-short
repeated-requires-clause-short t c =
    entered-short c.args.kinds.now (tree_of c.deref-in-Many.result.now) c.args.lists.now.items c.enter-in-Many.new.lists.items c.in_ok-list-in-Many.list c.in_ok-list-in-Many.ensures.ok

pub returns-in_ok-list-in-Many-clause-ok : goal.returns-in_ok-list-in-Many-clause-ok
returns-in_ok-list-in-Many-clause-ok t c =
    let made = c.repeated.ensures in
    rw (c.in-Many.is, ← c.deref-in-Many.ensures)
    (many-made c.args.kinds.now (tree_of c.deref-in-Many.result.now) c.args.lists.now.items c.enter-in-Many.new.lists.items c.in_ok-list-in-Many.list c.in_ok-list-in-Many.ensures.ok c.in-Many.greedy
    c.repeated.new.lists.items c.len-from-in-Many.result c.repeated.result (c.len-from-in-Many.ensures ∙ c.args.lists.now.ok.0) made.list made.list_short made.lists made.lists_short)

pub returns-in_ok-list-in-Many-clause-moves : goal.returns-in_ok-list-in-Many-clause-moves
returns-in_ok-list-in-Many-clause-moves t c =
    rw (c.in-Many.is, ← c.deref-in-Many.ensures)
    (many-wide c.args.kinds.now (tree_of c.deref-in-Many.result.now) c.args.lists.now.items c.enter-in-Many.new.lists.items c.in_ok-list-in-Many.list c.in_ok-list-in-Many.ensures.ok c.in-Many.greedy
    c.len-from-in-Many.result c.repeated.result (c.len-from-in-Many.ensures ∙ c.args.lists.now.ok.0) c.repeated.ensures.moves)
