-- What the body of a lookaround says of one side of a place in a text: the side behind or the side ahead. On that side there is
-- a character, which is given by its code, or none (`None`) if the place is at that end of the text.
use Rattle.std.specs.Prelude.{ℕ, Bool, true, false, ◌||◌, ◌&&◌, Option, Some, None, is_none}
use Rattle.rl_ranges.specs.declared.universe.Universe.{Universe}
use Rattle.rl_syntax.specs.Guards.{is_line_feed}
use Rattle.rl_pattern.specs.declared.flags.Flags.{Flags}
use Rattle.rl_pattern.specs.Tree.{Assertion, caret, text_start, dollar, text_end, boundary, SyntaxNode, leaf, mark, repeat, group, nothing, seq, choice, Branches, no_branches, more_branches}
use Rattle.rl_pattern.specs.LeafCodes.{leaf_codes}

-- Whether a line ends on that side: there is no character, or, with MULTILINE, there is a line feed.
abbrev pub is_line_end : Bool → Option ℕ → Bool
is_line_end multiline None = true
is_line_end multiline (Some c) = multiline && is_line_feed c

-- Whether the anchor holds with this on the side to which it looks. A `$` without MULTILINE also holds before a line feed that
-- ends the text, which isn't said here. A word boundary looks to both sides and counts as `false`.
abbrev pub mark_beside : Flags → Assertion → Option ℕ → Bool
mark_beside f caret seen = is_line_end f.multiline seen
mark_beside f text_start seen = is_none seen
mark_beside f dollar seen = is_line_end f.multiline seen
mark_beside f text_end seen = is_none seen
mark_beside f (boundary negated) seen = false

-- Whether the body of a lookaround holds with this on the side to which it looks: a leaf if it matches the character there, an
-- anchor as above, a group if its body holds, and a choice if some branch does. Any other node counts as `false`.
abbrev mutual
  pub holds_beside : Universe → SyntaxNode → Option ℕ → Bool
  holds_beside u (leaf place f x) None = false
  holds_beside u (leaf place f x) (Some c) = leaf_codes u f x c
  holds_beside u (mark place f m) seen = mark_beside f m seen
  holds_beside u (group place k p) seen = holds_beside u p seen
  holds_beside u (choice place bs) seen = some_beside u bs seen
  holds_beside u _ seen = false

  -- Whether the body of some branch holds.
  pub some_beside : Universe → Branches → Option ℕ → Bool
  some_beside u no_branches seen = false
  some_beside u (more_branches place p bs) seen = holds_beside u p seen || some_beside u bs seen
