-- For the contracts of private functions: the meaning of the outcomes of trials, and what is known of the branches tried so
-- far and of the automaton on which branches are tried. A trial of a branch compares the language of a body with and without
-- the branch, up to a limit on set pairs, which are two sets of states to which the same word leads. Branches are identified
-- by their spans.
use Rattle.std.specs.Prelude.{◌≡◌, ℕ, true, List, [], ◌++◌}
use Rattle.rl_ranges.specs.declared.universe.Universe.{Universe}
use Rattle.rl_syntax.specs.declared.span.Span.{Span}
use Rattle.rl_syntax.specs.PatTree.{PatTree}
use Rattle.rl_syntax.specs.SameSpans.{OneLanguage}
use Rattle.rl_syntax.specs.Tree.{Tree}
use Rattle.rl_equiv.specs.Bases.{IsBase}
use Rattle.rl_pattern.specs.Suggested.{Verdict, equal, apart, undecided, Tried, among, may_go, without}
use Rattle.rl_trim.specs.declared.judgement.Judgement.{Judgement}
use Rattle.rl_trim.specs.declared.judgement.Judgement.TheVariants as judgement
use Rattle.rl_rewrite.specs.declared.trial.Trial.{Trial}
use Rattle.rl_rewrite.specs.declared.trial.Trial.TheVariants.{Equal, Apart, Exceeded}
use Rattle.rl_rewrite.specs.declared.trying.Trials.{Trials}
use Rattle.rl_rewrite.specs.Verdicts.{IsVerdict}

-- The verdict that has the same meaning as the outcome of a trial: `equal` for `Equal`, `apart` for `Apart`, and `undecided`
-- for `Exceeded`.
abbrev pub verdict_of : Trial → Verdict
verdict_of Equal = equal
verdict_of Apart = apart
verdict_of Exceeded = undecided

-- The outcome of a trial that has the same meaning as a judgement, which is what a trial on only one automaton returns.
abbrev pub trial_for : Judgement → Trial
trial_for judgement.Equal = Equal
trial_for judgement.Apart = Apart
trial_for judgement.Exceeded = Exceeded

-- Holds if what the outcome of a trial says about the languages of the two trees is true. Only `Equal` says something: the
-- languages are the same.
abbrev pub IsTrueTrial : Universe → Tree → Tree → Trial → Type 0
IsTrueTrial u s t Equal = OneLanguage u s t
IsTrueTrial u s t Apart = Unit {0}
IsTrueTrial u s t Exceeded = Unit {0}

-- Holds if trying the branches in the list `bs`, from last to first, may have dropped the branches in `dropped` and exceeded
-- the limit for those in `passed`, the rules allow the dropped branches to go, and the language of the body is the same
-- without them.
pub record AreTried (u : Universe) (limit : ℕ) (body : PatTree) (bs dropped passed : List Span) : Type 0 where
  pub tried : Tried (IsVerdict u limit) body bs dropped passed
  pub goes : may_go (among dropped) body ≡ true
  pub language : OneLanguage u (without [] body) (without dropped body)

-- Holds if the second list is the first one with some branches before it.
abbrev pub IsEndOf : List Span → List Span → Type 0
IsEndOf end all = (first : List Span) × (first ++ end ≡ all)

-- Holds if branches can be tried on the automaton after those in `dropped` were dropped: it is the automaton of the body
-- without the branches of `begun`, and these are the last ones of `dropped`. The branches before them were dropped since the
-- automaton was made.
pub record AreBegun (u : Universe) (body : PatTree) (dropped : List Span) (trials : Trials) : Type 0 where
  pub base : IsBase u (without trials.begun body) trials.trimmer
  pub last : IsEndOf trials.begun dropped
