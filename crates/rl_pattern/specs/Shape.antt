-- Turning a syntax tree in which nothing is refused into a pattern over a universe. A group that is refused becomes `outside`.
use Rattle.std.specs.Prelude.{ℕ, Bool, true, false, not, if◌then◌else◌, ◌||◌, List, [], ◌∷◌, Some, None}
use Rattle.std.proofs.Math.Bool.{xor}
use Rattle.rl_ranges.specs.Text.{code_count}
use Rattle.rl_ranges.specs.Listed.{ranges_below}
use Rattle.rl_ranges.specs.declared.universe.Universe.{Universe}
use Rattle.rl_syntax.specs.declared.anchors.AnchorKind.TheVariants as anchor
use Rattle.rl_syntax.specs.Guards.{is_line_feed}
use Rattle.rl_syntax.specs.PatTree as s
use Rattle.rl_pattern.specs.declared.flags.Flags.{Flags}
use Rattle.rl_pattern.specs.Tree.{Span, Greed, greedy, Assertion, caret, text_start, dollar, text_end, boundary, Kind, scoped, lookaround, atomic, conditional, SyntaxNode, leaf, mark, repeat, group, nothing, seq, choice, Nodes, no_nodes, more_nodes, Branches, no_branches, more_branches}
use Rattle.rl_pattern.specs.Profile.{Dollar, Refused, Dropped, LastLine, Profile, Narrow, Wide, before_end, for_item}
pub use Rattle.rl_pattern.specs.LeafCodes.{is_text}
use Rattle.rl_pattern.specs.LeafCodes.{leaf_codes}
use Rattle.rl_pattern.specs.Looks.{holds_beside}
use Rattle.rl_pattern.specs.Found.{is_lookaround, is_atomic, is_conditional, looks_to, reads_look, is_end}

-- The anchor with the MULTILINE flag that is in force, or the word boundary. Its words are ASCII words under ASCII and in
-- `bytes`.
abbrev pub mark_shape : Universe → Span → Flags → Assertion → s.PatTree
mark_shape u place f caret = s.anchor place anchor.Caret f.multiline
mark_shape u place f text_start = s.anchor place anchor.TextStart f.multiline
mark_shape u place f dollar = s.anchor place anchor.Dollar f.multiline
mark_shape u place f text_end = s.anchor place anchor.TextEnd f.multiline
mark_shape u place f (boundary negated) = s.boundary place negated (f.ascii || not (is_text u))

-- What becomes of a `$` without MULTILINE that ends the pattern. Where it is dropped, an empty body remains. In place of
-- `LastLine` there are an optional line feed, which is lazy, and a `\Z`, as at the end of a pattern (`trailed` of `rl_syntax`).
abbrev pub dollar_shape : Dollar → Span → s.PatTree
dollar_shape Refused place = s.anchor place anchor.Dollar false
dollar_shape Dropped place = s.nothing place
dollar_shape LastLine place =
    s.seq place (s.item (s.repeat place place 0 (Some 1) false (s.class place is_line_feed)) (s.item (s.anchor place anchor.TextEnd false) s.no_items))

-- The anchor or word boundary under the profile. Only a `$` without MULTILINE depends on it.
abbrev pub mark_shape_in : Profile → Universe → Span → Flags → Assertion → s.PatTree
mark_shape_in Narrow u place f m = mark_shape u place f m
mark_shape_in (Wide d) u place f dollar = if f.multiline then mark_shape u place f dollar else dollar_shape d place
mark_shape_in (Wide d) u place f m = mark_shape u place f m

-- The lookaround of this kind that is read, with the body `p`. It looks to the side to which its body does. Where there is no
-- character on that side, only a negated lookaround holds (`sees` of `rl_syntax`). So if the body holds there, the set has the
-- codes for which it doesn't hold, and the lookaround is negated once more. A group of any other kind is no lookaround.
abbrev pub look_shape : Universe → Span → Kind → SyntaxNode → s.PatTree
look_shape u place (lookaround behind negated) p =
    s.look place (looks_to (is_text u) behind true p) (xor (holds_beside u p None) negated) (ranges_below (code_count u) (λ c. xor (holds_beside u p None) (holds_beside u p (Some c))))
look_shape u place _ p = s.outside place is_lookaround

-- Whether the quantifier is greedy: it tries more repetitions first and may take fewer. A lazy or possessive one isn't.
abbrev pub is_greedy : Greed → Bool
is_greedy greedy = true
is_greedy _ = false

-- The group of this kind around the body `p`. A `capturing` or `named` group captures, a `scoped` one doesn't. A lookaround
-- that isn't read, an atomic group or a conditional, all of which are refused, becomes `outside`, without its body.
abbrev pub group_shape : Span → Kind → s.PatTree → s.PatTree
group_shape place (scoped on off) p = s.group place false p
group_shape place (lookaround behind negated) p = s.outside place is_lookaround
group_shape place atomic p = s.outside place is_atomic
group_shape place conditional p = s.outside place is_conditional
group_shape place _ p = s.group place true p

abbrev mutual
  -- The pattern part of a node of the syntax tree, over the universe and under the profile.
  pub shape_in : Profile → Universe → SyntaxNode → s.PatTree
  shape_in r u (leaf place f x) = s.class place (leaf_codes u f x)
  shape_in r u (mark place f m) = mark_shape_in r u place f m
  shape_in r u (repeat place q n g p) = s.repeat place q n.least n.most (is_greedy g) (shape_in (before_end r) u p)
  shape_in r u (group place k p) = if reads_look r (is_text u) k p then look_shape u place k p else group_shape place k (shape_in r u p)
  shape_in r u (nothing place) = s.nothing place
  shape_in r u (seq place ps) = s.seq place (s.items_of (shapes_in r u ps))
  shape_in r u (choice place bs) = s.choice place (s.branches_of (branch_shapes_in r u bs))

  -- The pattern parts of a sequence of nodes, in order. Only the last node may end the pattern.
  pub shapes_in : Profile → Universe → Nodes → List s.PatTree
  shapes_in r u no_nodes = []
  shapes_in r u (more_nodes p ps) = shape_in (for_item r (is_end ps)) u p ∷ shapes_in r u ps

  -- The pattern parts of the branches of a choice, each with its span, in order.
  pub branch_shapes_in : Profile → Universe → Branches → List (Span × s.PatTree)
  branch_shapes_in r u no_branches = []
  branch_shapes_in r u (more_branches place p bs) = (place, shape_in r u p) ∷ branch_shapes_in r u bs

-- The pattern part of a node of the syntax tree, over the universe and under the narrow profile.
abbrev pub shape : Universe → SyntaxNode → s.PatTree
shape = shape_in Narrow

-- The pattern parts of a sequence of nodes under the narrow profile, in order.
abbrev pub shapes : Universe → Nodes → List s.PatTree
shapes = shapes_in Narrow

-- The pattern parts of the branches of a choice under the narrow profile, each with its span, in order.
abbrev pub branch_shapes : Universe → Branches → List (Span × s.PatTree)
branch_shapes = branch_shapes_in Narrow
