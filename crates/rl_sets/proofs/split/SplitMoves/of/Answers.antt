use Rattle.std.proofs.Common.{◌≡◌, Bool, List, All, length, ap, sym, subst, arith}
use Rattle.std.proofs.lemmas.List.{length_push}
use Rattle.std.proofs.lemmas.List.Elements.{All-push}
use Rattle.rl_ranges.specs.Letters.{LetterTable}
use Rattle.rl_sets.specs.Split.{IsSquare, AreSplit}
use Rattle.rl_sets.proofs.split.SplitMoves.of.Goals as goal

pub loop-letter-preserved : goal.loop-letter-preserved
loop-letter-preserved c =
    let wide = λ (row : List Bool). length row ≡ c.args.a.now.states in
    let barred = c.loop-letter.barred.items in
    record {
      square = c.add_targets.ensures.square;
      letters = omega (arith, ap length c.in_ok-push.ensures.items, length_push barred c.in_ok-row.row, c.loop-letter.invariant.letters);
      wide = subst (All wide) (sym c.in_ok-push.ensures.items) (All-push wide barred c.in_ok-row.row c.loop-letter.invariant.wide c.in_ok-row.ensures.wide);
    }

pub returns : goal.returns
returns c =
    let a = c.args.a.now in
    let barred = c.loop-letter.barred.items in
    record {
      shape = record {
        square = subst (IsSquare a.states) (sym c.find_runs.ensures) c.loop-letter.invariant.square;
        barred_wide = c.loop-letter.invariant.wide;
        unsplit_wide = c.in_ok-unsplit.ensures.wide;
      };
      letters = omega (arith, c.loop-letter.invariant.letters, c.count.ensures, ap (λ (t : LetterTable). length t.samples) c.letters.ensures);
      moves = subst (λ (t : List (List Bool)). AreSplit a t barred c.in_ok-unsplit.unsplit) (sym c.find_runs.ensures) (subst (λ (b : List (List Bool)). AreSplit a c.loop-letter.targets b c.in_ok-unsplit.unsplit) c.as_slice.ensures.value c.in_ok-unsplit.ensures.split);
    }
