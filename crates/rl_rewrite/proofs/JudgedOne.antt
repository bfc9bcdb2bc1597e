-- What a judgement on one automaton says of a trial of both trees.
use Rattle.std.proofs.Common.{ℕ}
use Rattle.rl_ranges.specs.declared.universe.Universe.{Universe}
use Rattle.rl_syntax.specs.Tree.{Tree}
use Rattle.rl_equiv.specs.SetPairs.{set_pairs}
use Rattle.rl_trim.specs.declared.judgement.Judgement.{Judgement}
use Rattle.rl_trim.specs.declared.judgement.Judgement.TheVariants as judgement
use Rattle.rl_trim.specs.Judged.{IsJudged, IsTrueJudgement as IsToldBy}
use Rattle.rl_rewrite.specs.Verdicts.{IsVerdict}
use Rattle.rl_rewrite.specs.internal.Trials.{verdict_of, trial_for, IsTrueTrial}

pub verdict_judged : (u : Universe) (limit : ℕ) (s t : Tree) (j : Judgement) → IsJudged (set_pairs u s t) limit j → IsVerdict u limit s t (verdict_of (trial_for j))
verdict_judged u limit s t judgement.Equal h = h
verdict_judged u limit s t judgement.Apart h = h
verdict_judged u limit s t judgement.Exceeded h = h

pub told_judged : (u : Universe) (s t : Tree) (j : Judgement) → IsToldBy u s t j → IsTrueTrial u s t (trial_for j)
told_judged u s t judgement.Equal h = h
told_judged u s t judgement.Apart h = h
told_judged u s t judgement.Exceeded h = h
