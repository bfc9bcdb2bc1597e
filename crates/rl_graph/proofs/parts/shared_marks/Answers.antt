use Rattle.std.proofs.Common.{◌<◌, ◌+◌, ◌≡◌, true, false, length, get_or, set, sym, subst, ap, ◌∙◌, arith}
use Rattle.std.proofs.lemmas.List.{get_or_read}
use Rattle.rl_graph.specs.internal.InnerMoves.{AreSharedUpTo}
use Rattle.rl_graph.proofs.PartLaws.{met-more, shared-more, shared-kept}
use Rattle.rl_graph.proofs.parts.shared_marks.Goals as goal
use Rattle.rl_graph.proofs.parts.shared_marks.Goals.{then-index, else-index}

pub loop-number-preserved : goal.loop-number-preserved
loop-number-preserved c =
    let numbers = c.args.numbers.now in
    let n = c.loop-number.number-index in
    let part = get_or numbers n 0 in
    let met = c.loop-number.met.items in
    let shared = c.loop-number.shared.items in
    let i = c.loop-number.invariant in
    let within : n < length numbers = omega arith in
    let below = c.requires n 0 within in
    let read : c.index.result.now ≡ get_or met part false = get_or_read met part c.index.result.now (omega (arith, i.0.size, below)) c.index.ensures false in (
      met-more numbers n met below i.0,
      elim c.if-index.branch [
        | then-index w ↦
            let e : c.if-index.shared.items ≡ set shared part true = ap (λ z. z.items) w.shared-is in
            subst (AreSharedUpTo numbers (n + 1)) (sym e) (shared-more numbers n met shared within below i.0 (sym read ∙ w.if-index.true) i.1)
        | else-index w ↦
            let e : c.if-index.shared.items ≡ shared = ap (λ z. z.items) w.shared-is in
            subst (AreSharedUpTo numbers (n + 1)) (sym e) (shared-kept numbers n met shared i.0 (sym read ∙ w.if-index.false) i.1)
      ],
    )

pub index-requires : goal.index-requires
index-requires c = omega (arith, c.loop-number.invariant.0.size, c.requires c.loop-number.number-index 0 (omega arith), c.loop-number.met.ok.0)

pub index_mut-requires : goal.index_mut-requires
index_mut-requires c = omega (arith, c.loop-number.invariant.1.size, c.requires c.loop-number.number-index 0 (omega arith), c.loop-number.shared.ok.0)

pub index_mut-requires-in-loop-number : goal.index_mut-requires-in-loop-number
index_mut-requires-in-loop-number c = omega (arith, c.loop-number.invariant.0.size, c.requires c.loop-number.number-index 0 (omega arith), c.loop-number.met.ok.0)
