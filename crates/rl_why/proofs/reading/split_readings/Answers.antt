use Rattle.std.proofs.Common.{◌≡◌, ◌∙◌, ℕ, [], ◌∷◌, length, get_or, slice_get, sym, ap, subst, arith, length-append}
use Rattle.std.proofs.lemmas.List.{get_or_default}
use Rattle.rl_syntax.specs.Tree.{tree_of}
use Rattle.rl_degree.specs.declared.chains.Split.{Split}
use Rattle.rl_growth.specs.Routes.{split_at}
use Rattle.rl_why.specs.Readings.{SplitReading, AreSplitWays}
use Rattle.rl_why.specs.internal.Settings.{place_of}
use Rattle.rl_why.proofs.ReadingLaws.{push-at}
use Rattle.rl_why.proofs.reading.split_readings.Goals as goal

pub loop-k-preserved : goal.loop-k-preserved
loop-k-preserved c =
    let k = c.loop-k.k in
    let pumps = c.args.pumps.now in
    let t = tree_of c.args.tree.now in
    let nodes = c.args.sources.now.nodes in
    let place = place_of t c.args.a.now c.args.g.now in
    let splits = c.args.splits.now in
    let P = λ (j : ℕ) (r : SplitReading). AreSplitWays t nodes (get_or pumps j []) (place (split_at splits j).from) (place (split_at splits j).to) r in
    let more = c.in_ok-push.ensures.pushed in
    let text : c.as_slice-text.result.now ≡ get_or pumps k [] =
    c.as_slice-text.ensures ∙ c.index-pumps-k.is ∙ get_or_default pumps k c.index-pumps-k.result [] (omega (arith, c.loop-k-test.true, c.requires.many)) in
    let split : c.index-splits-k.result ≡ split_at splits k = c.index-splits-k.is ∙ get_or_default splits k c.index-splits-k.result (record { from = 0; to = 0; word = [] }) c.loop-k-test.true in
    let here : P (length c.loop-k.readings) c.in_ok-reading.reading =
    subst (λ j. P j c.in_ok-reading.reading) (sym c.loop-k.invariant.count)
    (subst (λ x. AreSplitWays t nodes x (place (split_at splits k).from) (place (split_at splits k).to) c.in_ok-reading.reading) text
    (subst (λ (x : Split). AreSplitWays t nodes c.as_slice-text.result.now (place x.from) (place x.to) c.in_ok-reading.reading) split c.in_ok-reading.ensures)) in
    record {
      count = omega (arith, ap length more, length-append c.loop-k.readings (c.in_ok-reading.reading ∷ []), c.loop-k.invariant.count);
      right = λ j r e. push-at P c.loop-k.readings c.in_ok-reading.reading c.loop-k.invariant.right here j r (sym (ap (λ l. slice_get l j) more) ∙ e);
    }
