use Rattle.std.proofs.Common.{List, arith, drop, get_or, length, subst, sym, take, ℕ, ◌+◌, ◌<◌, ◌∙◌, ◌∷◌, ◌≡◌, ◌≤◌, []}
use Rattle.std.proofs.lemmas.List.{length-replicate, length-set}
use Rattle.std.proofs.lemmas.List.Elements.{All-replicate, All-set, All-weaker}
use Rattle.std.proofs.lemmas.Result.{err_from_is_err_and}
use Rattle.rl_ranges.proofs.OrderLemmas.{many-later, many-more, picked-more, picked-passed, picked-rest, picked-splits, tells-known, tells-more, tells-none}
use Rattle.rl_ranges.specs.Codes.{has}
use Rattle.rl_ranges.specs.internal.Splitting.{HasTooMany, RefinesLetters}
use Rattle.rl_ranges.specs.internal.Order.{OccursBefore, is_taken, picked}
use Rattle.rl_ranges.specs.Text.{code_count}
use Rattle.rl_ranges.proofs.letters.refined_by.Goals.{then-is_taken+then-not-stands_before+in_ok-known, else-is_taken, else-is_taken-via-then-is_taken+else-not-stands_before, else-is_taken-via-else-is_taken}
use Rattle.rl_ranges.proofs.letters.refined_by.Goals as goal

stands_earlier : (sets : List (List (ℕ × ℕ))) (count k : ℕ) (s : List (ℕ × ℕ)) → OccursBefore sets count s → count ≤ k → OccursBefore sets k s
stands_earlier sets count k s h le = (h.0, omega (arith, h.1, le), h.2)

pub loop-place-init : goal.loop-place-init
loop-place-init c = record {
  table = c.requires.table;
  told = tells-none (code_count c.args.universe) c.args.first.stretches.items c.args.first.least.items;
  slots = length-replicate {A = ℕ} 128 0;
  taken = All-replicate (λ count. count ≤ 0) 128 0 (omega arith);
}

pub loop-place-preserved : goal.loop-place-preserved
loop-place-preserved c =
    let n = code_count c.args.universe in
    let old = c.args.first in
    let here = c.loop-place.known in
    let sets = c.args.sets.now.items in
    let k = c.loop-place.place in
    let s = c.index-set.result.now in
    let k_in : k < length sets = omega (arith, c.loop-place-test.true, c.len-place-end.ensures, c.args.sets.now.ok.0) in
    let at : s ≡ get_or sets k s = c.index-set.ensures in
    let taken = is_taken c.args.pass in
    let later = All-weaker (λ count. count ≤ k) (λ count. count ≤ k + 1) (λ x le. omega (arith, le)) c.loop-place.taken c.loop-place.invariant.taken in
    elim c.if-is_taken.branch [
      | then-is_taken+then-not-stands_before+in_ok-known w ↦
          let here_taken = sym c.is_taken.ensures ∙ w.if-is_taken.true in
          rw (w.known-is, w.taken-is) (record {
            table = w.in_ok-known.ensures.table;
            told = subst (λ more. RefinesLetters old.stretches.items old.least.items w.in_ok-known.known.stretches.items w.in_ok-known.known.least.items more n) (sym (picked-more taken sets k s k_in at here_taken))
                (tells-more (picked taken (take k sets)) (has s ∷ []) n old.stretches.items here.stretches.items w.in_ok-known.known.stretches.items old.least.items here.least.items w.in_ok-known.known.least.items c.loop-place.invariant.told w.in_ok-known.ensures.ok);
            slots = length-set c.loop-place.taken _ (k + 1) ∙ c.loop-place.invariant.slots;
            taken = All-set (λ count. count ≤ k + 1) c.loop-place.taken _ (k + 1) (omega arith) later;
          })
      | else-is_taken w ↦ elim w.else-is_taken.branch [
        | else-is_taken-via-then-is_taken+else-not-stands_before v ↦
            let here_taken = sym c.is_taken.ensures ∙ v.if-is_taken.true in
            let stands = stands_earlier sets _ k s (v.stands_before.ensures v.if-not-stands_before.false) (c.loop-place.invariant.taken _ _ (omega (arith, v.slot_of.ensures, c.loop-place.invariant.slots))) in
            rw (w.known-is, w.taken-is) (record {
              table = c.loop-place.invariant.table;
              told = subst (λ more. RefinesLetters old.stretches.items old.least.items here.stretches.items here.least.items more n) (sym (picked-more taken sets k s k_in at here_taken))
                  (tells-known (picked taken (take k sets)) (has s) n old.stretches.items here.stretches.items old.least.items here.least.items
                  (λ x y h. picked-splits taken sets stands.0 k s x y stands.1 (omega (arith, k_in)) stands.2 here_taken h) c.loop-place.invariant.told);
              slots = c.loop-place.invariant.slots;
              taken = later;
            })
        | else-is_taken-via-else-is_taken v ↦
            rw (w.known-is, w.taken-is) (record {
              table = c.loop-place.invariant.table;
              told = subst (λ more. RefinesLetters old.stretches.items old.least.items here.stretches.items here.least.items more n) (sym (picked-passed taken sets k s k_in at (sym c.is_taken.ensures ∙ v.if-is_taken.false))) c.loop-place.invariant.told;
              slots = c.loop-place.invariant.slots;
              taken = later;
            })
      ]
    ]

pub returns-in_err-known-clause-too_many : goal.returns-in_err-known-clause-too_many
returns-in_err-known-clause-too_many c =
    let n = code_count c.args.universe in
    let old = c.args.first in
    let here = c.loop-place.known in
    let sets = c.args.sets.now.items in
    let k = c.loop-place.place in
    let s = c.index-set.result.now in
    let k_in : k < length sets = omega (arith, c.loop-place-test.true, c.len-place-end.ensures, c.args.sets.now.ok.0) in
    let at : s ≡ get_or sets k s = c.index-set.ensures in
    let taken = is_taken c.args.pass in
    let p = err_from_is_err_and c.from_residual.result c.from_residual.ensures.1 in
    rw p.1 (λ e.
    let more = picked-more taken sets k s k_in at (sym c.is_taken.ensures ∙ c.if-is_taken.true) in
    let many = many-later (picked taken (take k sets)) (has s ∷ []) n old.stretches.items here.stretches.items old.least.items here.least.items c.loop-place.invariant.told (c.in_err-known.ensures.too_many (sym p.2 ∙ e)) in
    let next : HasTooMany old.stretches.items old.least.items (picked taken (take (k + 1) sets)) n = subst (λ x. HasTooMany old.stretches.items old.least.items x n) (sym more) many in
    subst (λ x. HasTooMany old.stretches.items old.least.items x n) (picked-rest taken sets (k + 1))
    (many-more (picked taken (take (k + 1) sets)) (picked taken (drop (k + 1) sets)) n old.stretches.items old.least.items next))
