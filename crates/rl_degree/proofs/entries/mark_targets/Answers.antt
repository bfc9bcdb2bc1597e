use Rattle.std.proofs.Common.{◌≡◌, ◌<◌, ℕ, length, get_or, refl, sym, ◌∙◌, subst, arith, length-set}
use Rattle.std.specs.Int.{bit_at}
use Rattle.std.proofs.lemmas.List.{get_or_read}
use Rattle.rl_graph.proofs.Sums.{at-has, at-short, at-get_or}
use Rattle.rl_degree.specs.internal.Entries.{HasLetter}
use Rattle.rl_degree.proofs.EnteredLaws.{letter-set, targets-more}
use Rattle.rl_degree.proofs.entries.mark_targets.Goals as goal

pub returns-clause-marked : goal.returns-clause-marked
returns-clause-marked c q h =
    let targets = c.args.targets.now in
    let i = at-has q targets h in
    let small = at-short targets i.0 q i.1 in
    subst (λ (z : ℕ). HasLetter c.loop-place.entries.items z c.args.letter) (at-get_or targets i.0 q 0 i.1)
    (c.loop-place.invariant.marked i.0 (omega (arith, small, c.loop-place-test.false)))

pub loop-place-init : goal.loop-place-init
loop-place-init c = record { size = refl; kept = λ q l h. h; marked = λ i h. absurd (omega arith) }

pub loop-place-preserved : goal.loop-place-preserved
loop-place-preserved c =
    let entries = c.loop-place.entries.items in
    let targets = c.args.targets.now in
    let k = c.loop-place.place in
    let t = get_or targets k 0 in
    let word = c.with_letter.result in
    let i = c.loop-place.invariant in
    let lt : t < length entries = omega (arith, c.requires k 0 (omega arith), i.size) in
    let read : c.index.result.now ≡ get_or entries t 0 = get_or_read entries t c.index.result.now lt c.index.ensures 0 in
    let kept = λ (b : ℕ) (h : bit_at (get_or entries t 0) b ≡ 1). c.with_letter.ensures.kept b (subst (λ (z : ℕ). bit_at z b ≡ 1) (sym read) h) in
    record {
      size = length-set entries t word ∙ i.size;
      kept = λ q l h. letter-set entries t word q l lt kept (i.kept q l h);
      marked = targets-more entries targets k word c.args.letter lt kept c.with_letter.ensures.set i.marked;
    }
