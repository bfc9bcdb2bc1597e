use Rattle.std.specs.Prelude.{filter_map, slice_get}
use Rattle.std.proofs.Common.{◌≡◌, ◌∙◌, ap, refl, length, sym, take, arith}
use Rattle.rl_sarif.specs.Known.{unknown_positions}
use Rattle.rl_lint.proofs.FilterLemmas.{Rises, below, few, moved-all, moved-more, moved-none, rises-of}
use Rattle.rl_lint.proofs.filter.unknown_entries.Goals as goal

pub loop-place-init : goal.loop-place-init
loop-place-init c = moved-none _ _ _ refl

pub swap-requires-clause-i_in_bounds : goal.swap-requires-clause-i_in_bounds
swap-requires-clause-i_in_bounds c =
    let ps = c.as_slice-position-items.result.now in
    let all = c.into_vec-moved.result.items in
    let rises : Rises 0 ps (length all) =
    rises-of c.args.keys.now ps c.args.entries all (c.as_slice-position-items.ensures ∙ c.in-Ok.ensures) c.into_vec-moved.ensures in
    omega (arith, c.loop-place-test.true, c.loop-place.auto.place-end, few ps (length all) rises, c.loop-place.invariant.len, c.loop-place.moved.ok.0, c.loop-place.moved.ok.1)

pub swap-requires-clause-j_in_bounds : goal.swap-requires-clause-j_in_bounds
swap-requires-clause-j_in_bounds c =
    let ps = c.as_slice-position-items.result.now in
    let all = c.into_vec-moved.result.items in
    let rises : Rises 0 ps (length all) =
    rises-of c.args.keys.now ps c.args.entries all (c.as_slice-position-items.ensures ∙ c.in-Ok.ensures) c.into_vec-moved.ensures in
    omega (arith, below 0 ps (length all) c.loop-place.place rises (omega (arith, c.loop-place-test.true)), c.loop-place.invariant.len, c.loop-place.moved.ok.0, c.loop-place.moved.ok.1)

pub loop-place-preserved : goal.loop-place-preserved
loop-place-preserved c =
    let ps = c.as_slice-position-items.result.now in
    let all = c.into_vec-moved.result.items in
    let rises : Rises 0 ps (length all) =
    rises-of c.args.keys.now ps c.args.entries all (c.as_slice-position-items.ensures ∙ c.in-Ok.ensures) c.into_vec-moved.ensures in
    moved-more ps all c.loop-place.moved.items _ c.loop-place.place rises (omega (arith, c.loop-place-test.true)) c.loop-place.invariant c.swap.ensures.by_index
    (omega (arith, c.swap.ensures.len, c.swap.new.self.ok.0, c.swap.new.self.ok.1, c.loop-place.moved.ok.0, c.loop-place.moved.ok.1))

pub returns : goal.returns
returns c =
    let keys = c.args.keys.now in
    let ps = c.as_slice-position-items.result.now in
    let all = c.into_vec-moved.result.items in
    let are : ps ≡ unknown_positions keys c.args.entries = c.as_slice-position-items.ensures ∙ c.in-Ok.ensures in
    let rises : Rises 0 ps (length all) = rises-of keys ps c.args.entries all are c.into_vec-moved.ensures in
    let many : c.len.result ≡ length ps = c.len.ensures ∙ ap length (sym c.as_slice-position-items.ensures) in
    c.from_vec.ensures ∙ c.truncate.ensures.items ∙ ap (λ n. take n c.loop-place.moved.items) many
    ∙ moved-all ps all c.loop-place.moved.items c.loop-place.place rises (omega (arith, c.loop-place-test.false)) c.loop-place.invariant
    ∙ ap (λ positions. filter_map (slice_get all) positions) are ∙ ap (λ es. filter_map (slice_get es) (unknown_positions keys c.args.entries)) c.into_vec-moved.ensures
