-- For private contracts: the result of comparing two patterns, before `compare` writes it. The texts that only the first
-- pattern, only the second or both match are the three regions. The matched tree of a pattern is its tree, followed by any
-- text if a match may end anywhere.
use Rattle.std.specs.Prelude.{◌<◌, ⊤, IfSome}
use Rattle.rl_ranges.specs.Text.{IsText}
use Rattle.rl_ranges.specs.declared.universe.Universe.TheVariants.{Str}
use Rattle.rl_syntax.specs.Cost.{matched}
use Rattle.rl_syntax.specs.Tree.{Tree, size}
use Rattle.rl_syntax.specs.declared.limits.TheConstants.{MOST_SET_PAIRS}
use Rattle.rl_syntax.specs.declared.re.Ending.{Ending as MatchEnd}
use Rattle.rl_syntax.specs.declared.verdict.Limit.TheVariants as limit
use Rattle.rl_equiv.specs.Limits.{AreWithin}
use Rattle.rl_equiv.specs.Regions.{AreRegions}
use Rattle.rl_equiv.specs.declared.compared.Compared.{Compared}
use Rattle.rl_compare.specs.Matched.{matched_tree}
use Rattle.rl_compare.specs.Comparison.{IsTrueComparison}
use Rattle.rl_compare.specs.declared.error.CompareError.{CompareError}
use Rattle.rl_compare.specs.declared.error.CompareError.TheVariants as error
use Rattle.rl_report.specs.Names.{limit_number}

-- The error is that of nodes (`Size`), and the tree has more than `MOST_NODES` of them; this is the only limit that is checked
-- for one tree by itself. No other error fits, except that nothing is claimed if memory runs out.
abbrev pub ExceedsSize : Tree → CompareError → Type 0
ExceedsSize t error.Size = limit_number 0 limit.Size < size t
ExceedsSize t error.Letters = ⊥
ExceedsSize t error.Moves = ⊥
ExceedsSize t error.OutOfMemory = ⊤

-- `c` is a right comparison of two patterns, with the trees `s` and `t` and matches that may end as `e` and `f` say. `within`:
-- no limit is exceeded. `regions`: the search over set pairs gives the texts in `c`. `told`: each text is matched by exactly
-- the patterns that its region names, and a region without a text is empty unless the limit of set pairs was exceeded.
pub record IsFound (s : Tree) (e : MatchEnd) (t : Tree) (f : MatchEnd) (c : Compared) : Type 0 where
  pub within : AreWithin Str (matched_tree Str s e) (matched_tree Str t f)
  pub regions : AreRegions Str (matched_tree Str s e) (matched_tree Str t f) MOST_SET_PAIRS c
  pub told : IsTrueComparison Str (matched s e) (matched t f) c

-- Each region's text, if it has one, consists of code points of `str`.
pub record AreTexts (c : Compared) : Type 0 where
  pub first : IfSome c.first (IsText Str)
  pub second : IfSome c.second (IsText Str)
  pub both : IfSome c.both (IsText Str)
