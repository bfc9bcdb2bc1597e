-- The sets of a pattern, and their letters. A set is the test of its codes. Two codes of the pattern's universe, `str` or
-- `bytes`, belong to the same letter if each set of the pattern holds both or neither, so a set holds a letter whole or not at
-- all. A letter's sample is one of its codes: `specs/Letters.antt` of `rl_ranges` says which one, and how letters are
-- numbered, from 0.
use Rattle.std.specs.Prelude.{ℕ, Bool, List, [], ◌∷◌, ◌++◌}
use Rattle.rl_ranges.specs.Codes.{has}
use Rattle.rl_ranges.specs.Letters.{LetterTable, IsLetters}
use Rattle.rl_ranges.specs.Text.{code_count}
use Rattle.rl_syntax.specs.declared.pattern.Pattern.{Pattern}
use Rattle.rl_syntax.specs.Pattern.{body_of, universe_of}
use Rattle.rl_syntax.specs.PatTree.{PatTree, PatTrees, BranchTrees, nothing, class, seq, choice, repeat, group, anchor, boundary, look, outside, no_items, item, no_branches, branch}

abbrev mutual
  -- The sets of a part of a pattern, from left to right: those of classes and of lookarounds. Equal sets are repeated. The sets
  -- of word characters, which word boundaries use, aren't among them.
  pub sets_in : PatTree → List (ℕ → Bool)
  sets_in (nothing span) = []
  sets_in (class span set) = set ∷ []
  sets_in (seq span ps) = sets_in_items ps
  sets_in (choice span bs) = sets_in_branches bs
  sets_in (repeat span mark least most greedy p) = sets_in p
  sets_in (group span captures p) = sets_in p
  sets_in (anchor span kind multiline) = []
  sets_in (boundary span negated ascii) = []
  sets_in (look span behind negated ranges) = has ranges ∷ []
  sets_in (outside span what) = []

  -- The sets of the items of a sequence, in order.
  pub sets_in_items : PatTrees → List (ℕ → Bool)
  sets_in_items no_items = []
  sets_in_items (item p ps) = sets_in p ++ sets_in_items ps

  -- The sets of the branches of a choice, in order.
  pub sets_in_branches : BranchTrees → List (ℕ → Bool)
  sets_in_branches no_branches = []
  sets_in_branches (branch span p bs) = sets_in p ++ sets_in_branches bs

-- Holds if the table has the letters of the pattern's sets, with the sample of each.
abbrev pub AreLettersOf : Pattern → LetterTable → Type 0
AreLettersOf p table = IsLetters table (sets_in (body_of p)) (code_count (universe_of p))
