-- What is refused in a syntax tree, and what is left of the tree if nothing is refused. What is refused depends on a profile
-- (`Profile.antt`). A fault is a feature that is refused, with its position. Positions count codes from 0. Of several faults
-- the one that is reported is the first by position and, at the same position, by rank. The outer anchors of a pattern with
-- only one branch are the leading ones at its start, `\A` or `^`, and the trailing ones at its end, `\Z` or `$`. `^` and `$`
-- are among them only where MULTILINE isn't in force.
use Rattle.std.specs.Prelude.{ℕ, Bool, true, false, not, ◌&&◌, ◌||◌, if◌then◌else◌, nat_lt, nat_le, ◌==◌, List, [], ◌∷◌, ◌++◌, reverse, flat_map, Option, Some, None, is_none}
use Rattle.std.specs.List.{list_any}
use Rattle.std.specs.Str.{bytes_eq}
use Rattle.rl_pattern.specs.declared.flags.Flags.{Flags}
pub use Rattle.rl_syntax.specs.declared.feature.Feature.{Feature}
pub use Rattle.rl_syntax.specs.declared.feature.Feature.TheVariants.{Locale as is_locale, FlagClash as is_flag_clash, DuplicateName as is_duplicate_name, CodeTooLarge as is_code_too_large, ReversedRange as is_reversed_range, RepeatTooLarge as is_repeat_too_large, RepeatOrder as is_repeat_order, Possessive as is_possessive_count, Backreference as is_backreference, Lookaround as is_lookaround, Conditional as is_conditional, Atomic as is_atomic, NamedEscape as is_named_escape, InnerAnchor as is_inner_anchor}
pub use Rattle.rl_syntax.specs.declared.anchors.Trail.{Trail}
pub use Rattle.rl_syntax.specs.declared.anchors.Trail.TheVariants.{None as no_trail, Dollar as dollar_trail, End as end_trail}
pub use Rattle.rl_pattern.specs.declared.faults.Fault.{Fault}
use Rattle.rl_pattern.specs.Tree.{Span, Count, Greed, possessive, Escaped, code, too_large, by_name, reference, Member, one, range, Leaf, any, glyph, members, Assertion, caret, text_start, dollar, text_end, boundary, Kind, named, scoped, lookaround, atomic, conditional, SyntaxNode, leaf, mark, repeat, group, nothing, seq, choice, Nodes, no_nodes, more_nodes, Branches, no_branches, more_branches, branch_body, Front, Whole}
use Rattle.rl_pattern.specs.Codes.{joined}
use Rattle.rl_pattern.specs.Profile.{Profile, Narrow, Wide, before_end, for_item, for_body, reads_dollar}
use Rattle.rl_pattern.specs.LeafCodes.{universe_for}
use Rattle.rl_pattern.specs.Looks.{holds_beside}

-- The rank of a feature. Of two features at the same position, the one with the lower rank is reported.
abbrev pub rank : Feature → ℕ
rank is_locale = 0
rank is_flag_clash = 1
rank is_duplicate_name = 2
rank is_code_too_large = 3
rank is_reversed_range = 4
rank is_repeat_too_large = 5
rank is_repeat_order = 6
rank is_possessive_count = 7
rank is_backreference = 8
rank is_lookaround = 9
rank is_conditional = 10
rank is_atomic = 11
rank is_named_escape = 12
rank is_inner_anchor = 13

-- The fault of the feature `f` at position `i`.
abbrev pub fault : ℕ → Feature → Fault
fault i f = record { place = i; what = f }

-- A list with only the fault of the feature `f` at position `i` if the flag is `true`, otherwise the empty list.
abbrev pub fault_if : Bool → ℕ → Feature → List Fault
fault_if true i f = fault i f ∷ []
fault_if false i f = []

-- Whether the fault `a` is reported rather than `b`: its position is less, or the positions are equal and its rank isn't
-- greater.
abbrev pub comes_first : Fault → Fault → Bool
comes_first a b = nat_lt a.place b.place || (a.place == b.place && nat_le (rank a.what) (rank b.what))

-- The one of two faults that is reported, either of which may be missing. If both are missing, the result is `None`.
abbrev pub earlier : Option Fault → Option Fault → Option Fault
earlier None b = b
earlier a None = a
earlier (Some a) (Some b) = if comes_first a b then Some a else Some b

-- The fault in a list that is reported: the first by position, and among those at the same position the one with the lowest
-- rank. It is `None` if the list is empty.
abbrev pub first_fault : List Fault → Option Fault
first_fault [] = None
first_fault (a ∷ faults) = earlier (Some a) (first_fault faults)

-- The faults of a character or escape at position `i`. A number that is too large to be a code, a character by name (`\N{..}`)
-- and a reference to a group are refused. Anything else has none.
abbrev pub escaped_faults : ℕ → Escaped → List Fault
escaped_faults i too_large = fault i is_code_too_large ∷ []
escaped_faults i by_name = fault i is_named_escape ∷ []
escaped_faults i reference = fault i is_backreference ∷ []
escaped_faults i _ = []

-- Whether both sides of a range are codes and the first is greater than the last.
abbrev pub reversed : Escaped → Escaped → Bool
reversed (code c) (code d) = nat_lt d c
reversed _ _ = false

-- The faults of a class member, all at the position at which it begins: those of its sides, and that it is a range whose first
-- code is greater than its last.
abbrev pub member_faults : Member → List Fault
member_faults (one s e) = escaped_faults s.from e
member_faults (range s e d) = escaped_faults s.from e ++ (escaped_faults s.from d ++ fault_if (reversed e d) s.from is_reversed_range)

-- The faults of a leaf with span `s`: for a character, an escape or a reference its own, at the start of the span; for a class
-- those of its members, in order. A `.` has none.
abbrev pub leaf_faults : Span → Leaf → List Fault
leaf_faults s any = []
leaf_faults s (glyph e) = escaped_faults s.from e
leaf_faults s (members inverse ms) = flat_map member_faults ms

-- The faults of an anchor or word boundary with span `s` and flags `f`: only a `$` without MULTILINE is refused. Outer anchors
-- have been removed before.
abbrev pub mark_faults : Span → Flags → Assertion → List Fault
mark_faults s f dollar = fault_if (not f.multiline) s.from is_inner_anchor
mark_faults s f _ = []

-- Whether the maximum of a quantifier satisfies the test. It is `false` if there is no maximum (`None`).
abbrev pub is_bound : (ℕ → Bool) → Option ℕ → Bool
is_bound test None = false
is_bound test (Some n) = test n

-- Whether the quantifier is possessive.
abbrev pub is_possessive : Greed → Bool
is_possessive possessive = true
is_possessive _ = false

-- The faults of a quantifier at position `i`: a bound that is too large (4294967295, which represents all larger numbers too),
-- a maximum less than the minimum, or being possessive.
abbrev pub count_faults : ℕ → Count → Greed → List Fault
count_faults i n g =
    fault_if (n.least == 4294967295 || is_bound (λ m. m == 4294967295) n.most) i is_repeat_too_large ++ (fault_if (is_bound (λ m. nat_lt m n.least) n.most) i is_repeat_order ++ fault_if (is_possessive g) i is_possessive_count)

-- Whether one of the letters `imsx` is in both lists of flag letters, those before the `-` of a group and those after it.
abbrev pub overlap : Flags → Flags → Bool
overlap f g = (f.ignore_case && g.ignore_case) || ((f.multiline && g.multiline) || ((f.dot_all && g.dot_all) || (f.verbose && g.verbose)))

-- The faults at the head of a group of this kind at position `i`, except a duplicate name: the letter `L`, letters that
-- exclude each other, or that the group is a lookaround, an atomic group or a conditional. The letters exclude each other if
-- `u` comes with `a` or in a `bytes`, or if a letter is on both sides of the `-`. `text` says whether the pattern is a `str`.
abbrev pub kind_faults : Bool → ℕ → Kind → List Fault
kind_faults text i (scoped on off) = fault_if on.locale i is_locale ++ fault_if (on.unicode && (on.ascii || not text) || overlap on off) i is_flag_clash
kind_faults text i (lookaround behind negated) = fault i is_lookaround ∷ []
kind_faults text i atomic = fault i is_atomic ∷ []
kind_faults text i conditional = fault i is_conditional ∷ []
kind_faults text i _ = []

-- Whether it is the kind of a group that doesn't capture, such as `(?:..)` or `(?i:..)`.
abbrev pub is_scoped : Kind → Bool
is_scoped (scoped on off) = true
is_scoped _ = false

-- Whether an anchor looks to this side of a place: behind it if the flag is `true`, otherwise ahead. `^` and `\A` look behind,
-- `$` and `\Z` ahead. A word boundary looks to both sides and counts as `false`.
abbrev pub mark_looks : Bool → Assertion → Bool
mark_looks behind caret = behind
mark_looks behind text_start = behind
mark_looks behind dollar = not behind
mark_looks behind text_end = not behind
mark_looks behind (boundary negated) = false

-- Whether the body of a lookaround tests no more than this side of a place, and nothing in it is refused: behind the place if
-- the flag `behind` is `true`, otherwise ahead. The body is a leaf, an anchor, a group that doesn't capture around such a body,
-- or a choice between such bodies. A leaf looks to the lookaround's own side, and `own` says whether that is behind. `text`
-- says whether the pattern is a `str`.
abbrev mutual
  pub looks_to : Bool → Bool → Bool → SyntaxNode → Bool
  looks_to text own behind (leaf s f x) = is_none (first_fault (leaf_faults s x)) && (if own then behind else not behind)
  looks_to text own behind (mark s f m) = mark_looks behind m
  looks_to text own behind (group s k p) = is_scoped k && (is_none (first_fault (kind_faults text s.from k)) && looks_to text own behind p)
  looks_to text own behind (choice s bs) = all_look_to text own behind bs
  looks_to text own behind _ = false

  -- Whether the body of each branch does so.
  pub all_look_to : Bool → Bool → Bool → Branches → Bool
  all_look_to text own behind no_branches = true
  all_look_to text own behind (more_branches s p bs) = looks_to text own behind p && all_look_to text own behind bs

-- Whether the body of a lookaround has a `$` without MULTILINE.
abbrev mutual
  pub has_dollar : SyntaxNode → Bool
  has_dollar (mark s f dollar) = not f.multiline
  has_dollar (group s k p) = has_dollar p
  has_dollar (choice s bs) = some_dollar bs
  has_dollar _ = false

  -- Whether the body of some branch has one.
  pub some_dollar : Branches → Bool
  some_dollar no_branches = false
  some_dollar (more_branches s p bs) = has_dollar p || some_dollar bs

-- Whether each way through the body of a lookaround is of one width: one character if the flag is `true`, otherwise none. An
-- anchor has no width.
abbrev mutual
  pub is_wide : Bool → SyntaxNode → Bool
  is_wide wide (leaf s f x) = wide
  is_wide wide (mark s f m) = not wide
  is_wide wide (group s k p) = is_wide wide p
  is_wide wide (choice s bs) = all_wide wide bs
  is_wide wide _ = false

  -- Whether the body of each branch is so.
  pub all_wide : Bool → Branches → Bool
  all_wide wide no_branches = true
  all_wide wide (more_branches s p bs) = is_wide wide p && all_wide wide bs

-- Whether a lookaround with the body `p` is read. `own` says whether it looks behind. Its body tests one side of a place and no
-- more, and a lookbehind must be of one width. A `$` without MULTILINE holds at the end of the text and before a line feed that
-- ends it, but one side of a place doesn't tell whether a line feed ends the text. So a body with such a `$` is read only if it
-- holds before each line feed.
abbrev pub tests_a_side : Bool → Bool → SyntaxNode → Bool
tests_a_side text own p =
    (looks_to text own true p || looks_to text own false p) && ((not own || (is_wide true p || is_wide false p)) && (not (has_dollar p) || holds_beside (universe_for text) p (Some 10)))

-- Whether a group of this kind with the body `p` is a lookaround that the profile reads. `text` says whether the pattern is a
-- `str`.
abbrev pub reads_look : Profile → Bool → Kind → SyntaxNode → Bool
reads_look Narrow text k p = false
reads_look (Wide d) text (lookaround behind negated) p = tests_a_side text behind p
reads_look (Wide d) text _ p = false

-- Whether there are no further nodes.
abbrev pub is_end : Nodes → Bool
is_end no_nodes = true
is_end (more_nodes p ps) = false

-- The faults of a node and the nodes in it under the profile, except duplicate group names. `text` says whether the pattern is
-- a `str`.
abbrev mutual
  pub node_faults_in : Profile → Bool → SyntaxNode → List Fault
  node_faults_in r text (leaf s f x) = leaf_faults s x
  node_faults_in r text (mark s f m) = if reads_dollar r then [] else mark_faults s f m
  node_faults_in r text (repeat s q n g p) = count_faults q.from n g ++ node_faults_in (before_end r) text p
  node_faults_in r text (group s k p) = if reads_look r text k p then [] else kind_faults text s.from k ++ node_faults_in r text p
  node_faults_in r text (nothing s) = []
  node_faults_in r text (seq s ps) = nodes_faults_in r text ps
  node_faults_in r text (choice s bs) = branches_faults_in r text bs

  -- The faults in a sequence of nodes, in order. Only the last node may end the pattern.
  pub nodes_faults_in : Profile → Bool → Nodes → List Fault
  nodes_faults_in r text no_nodes = []
  nodes_faults_in r text (more_nodes p ps) = node_faults_in (for_item r (is_end ps)) text p ++ nodes_faults_in r text ps

  -- The faults in the branches of a choice, in order.
  pub branches_faults_in : Profile → Bool → Branches → List Fault
  branches_faults_in r text no_branches = []
  branches_faults_in r text (more_branches s p bs) = node_faults_in r text p ++ branches_faults_in r text bs

-- The faults of a node and the nodes in it under the narrow profile, except duplicate group names. `text` says whether the
-- pattern is a `str`.
abbrev pub node_faults : Bool → SyntaxNode → List Fault
node_faults = node_faults_in Narrow

-- The faults in a sequence of nodes under the narrow profile, in order.
abbrev pub nodes_faults : Bool → Nodes → List Fault
nodes_faults = nodes_faults_in Narrow

-- The faults in the branches of a choice under the narrow profile, in order.
abbrev pub branches_faults : Bool → Branches → List Fault
branches_faults = branches_faults_in Narrow

-- A group name in a pattern: the codes of the name, and as `place` the position of the opening parenthesis of its group.
pub record Called : Type 0 where
  pub place : ℕ
  pub name : List ℕ

-- A list with only the name of a group of this kind whose parenthesis is at position `i`, or the empty list if the group has
-- no name.
abbrev pub kind_names : ℕ → Kind → List Called
kind_names i (named n) = record { place = i; name = n } ∷ []
kind_names i _ = []

-- The group names in a node, in the order of their parentheses.
abbrev mutual
  pub node_names : SyntaxNode → List Called
  node_names (leaf s f x) = []
  node_names (mark s f m) = []
  node_names (repeat s q n g p) = node_names p
  node_names (group s k p) = kind_names s.from k ++ node_names p
  node_names (nothing s) = []
  node_names (seq s ps) = nodes_names ps
  node_names (choice s bs) = branches_names bs

  -- The group names in a sequence of nodes.
  pub nodes_names : Nodes → List Called
  nodes_names no_nodes = []
  nodes_names (more_nodes p ps) = node_names p ++ nodes_names ps

  -- The group names in the branches of a choice.
  pub branches_names : Branches → List Called
  branches_names no_branches = []
  branches_names (more_branches s p bs) = node_names p ++ branches_names bs

-- The duplicate names in the second list, as faults at the positions of their groups, in order. A name is a duplicate if it
-- occurs earlier in that list or in the list `before`.
abbrev pub name_faults : List Called → List Called → List Fault
name_faults before [] = []
name_faults before (c ∷ cs) = fault_if (list_any (λ d. bytes_eq c.name d.name) before) c.place is_duplicate_name ++ name_faults (before ++ c ∷ []) cs

-- The faults of one flag group `g` at the front, at its position, if the flags `f` are in force before it: `L`; one of `a` and
-- `u` if the other is set too, in the group or before it; and `u` in a `bytes`. `text` says whether the pattern is a `str`.
abbrev pub front_own : Bool → Flags → Front → List Fault
front_own text f g = fault_if g.letters.locale g.place.from is_locale ++ fault_if (g.letters.ascii && (f.unicode || g.letters.unicode) || g.letters.unicode && (f.ascii || not text)) g.place.from is_flag_clash

-- The faults of the flag groups at the front. The flags `f` are in force before the first of them. `text` says whether the
-- pattern is a `str`.
abbrev pub front_faults : Bool → Flags → List Front → List Fault
front_faults text f [] = []
front_faults text f (g ∷ gs) = front_own text f g ++ front_faults text (joined f g.letters) gs

-- Whether the node is an anchor that can be a leading one: `\A`, or `^` without MULTILINE.
abbrev pub is_leading : SyntaxNode → Bool
is_leading (mark s f text_start) = true
is_leading (mark s f caret) = not f.multiline
is_leading _ = false

-- The trailing anchor that the node is: `end_trail` for `\Z`, `dollar_trail` for `$` without MULTILINE, and `no_trail` for any
-- other node.
abbrev pub trail_of : SyntaxNode → Trail
trail_of (mark s f text_end) = end_trail
trail_of (mark s f dollar) = if f.multiline then no_trail else dollar_trail
trail_of _ = no_trail

-- The list without its longest prefix of items that all satisfy the test.
abbrev pub without_run : {X : Type 0} → (X → Bool) → List X → List X
without_run test [] = []
without_run test (x ∷ xs) = if test x then without_run test xs else x ∷ xs

-- Whether the first item is an anchor that can be a leading one. If there are no items, it is `false`.
abbrev pub begins_leading : List SyntaxNode → Bool
begins_leading [] = false
begins_leading (p ∷ ps) = is_leading p

-- The trailing anchor that a run of trailing anchors amounts to, given its first one, and what the rest of the run amounts to
-- (`no_trail` if there is no rest): `\Z` if either is `\Z`, otherwise `$`. If the first one is `no_trail`, there is no run,
-- and the result is `no_trail`.
abbrev pub run_of : Trail → Trail → Trail
run_of dollar_trail end_trail = end_trail
run_of t _ = t

-- The trailing anchor that the longest run of them at the end of a branch amounts to, or `no_trail` if there is none. The
-- items are in reverse order, so the run is at the front.
abbrev pub trailing_run : List SyntaxNode → Trail
trailing_run [] = no_trail
trailing_run (p ∷ ps) = run_of (trail_of p) (trailing_run ps)

-- Whether the trailing anchor isn't `no_trail`.
abbrev pub is_some_trail : Trail → Bool
is_some_trail no_trail = false
is_some_trail _ = true

-- The items without the longest run of leading anchors at their start, and without the longest run of trailing anchors at
-- their end.
abbrev pub inner_items : List SyntaxNode → List SyntaxNode
inner_items ps = reverse (without_run (λ p. is_some_trail (trail_of p)) (reverse (without_run is_leading ps)))

-- The nodes as a list.
abbrev pub listed : Nodes → List SyntaxNode
listed no_nodes = []
listed (more_nodes p ps) = p ∷ listed ps

-- The items of a body of one branch, or `None` if the body is a choice. An empty body has no items, and a node that is neither
-- a sequence nor a choice is the only item.
abbrev pub items_of : SyntaxNode → Option (List SyntaxNode)
items_of (nothing s) = Some []
items_of (seq s ps) = Some (listed ps)
items_of (choice s bs) = None
items_of p = Some (p ∷ [])

-- A pattern without its outer anchors: what is left of its body, whether there was a leading anchor, and the trailing anchor
-- that its trailing anchors amount to (`no_trail` if there were none).
pub record Inner : Type 0 where
  pub body : SyntaxNode
  pub leading : Bool
  pub trail : Trail

-- The body `p`, which has the span `s`, without its outer anchors. If the body has one branch, its items are given. If there
-- are several branches (`None`), nothing is removed.
abbrev pub inner_of : Span → SyntaxNode → Option (List SyntaxNode) → Inner
inner_of s p None = record { body = p; leading = false; trail = no_trail }
inner_of s p (Some ps) = record { body = branch_body s (inner_items ps); leading = begins_leading ps; trail = trailing_run (reverse ps) }

-- The whole pattern without its outer anchors: what is left of its body, and which anchors were removed.
abbrev pub inner : Whole → Inner
inner p = inner_of p.place p.body (items_of p.body)

-- All faults of a whole pattern under the profile: in its flag groups, in its group names, and in the nodes that are left
-- without the outer anchors. `call` has the flags of the call, and `text` says whether the pattern is a `str`.
abbrev pub whole_faults_in : Profile → Flags → Bool → Whole → List Fault
whole_faults_in r call text p = front_faults text call p.fronts ++ (name_faults [] (node_names p.body) ++ node_faults_in (for_body r (inner p).trail) text (inner p).body)

-- The fault that is reported of a whole pattern under the profile, or `None` if nothing in it is refused. `call` has the flags
-- of the call, and `text` says whether the pattern is a `str`.
abbrev pub refused_in : Profile → Flags → Bool → Whole → Option Fault
refused_in r call text p = first_fault (whole_faults_in r call text p)

-- All faults of a whole pattern under the narrow profile.
abbrev pub whole_faults : Flags → Bool → Whole → List Fault
whole_faults = whole_faults_in Narrow

-- The fault that is reported of a whole pattern under the narrow profile, or `None` if nothing in it is refused.
abbrev pub refused : Flags → Bool → Whole → Option Fault
refused = refused_in Narrow

-- The reason to refuse the flags `f` of the call, or `None`: LOCALE, or UNICODE together with ASCII or for a `bytes` pattern.
-- `text` says whether the pattern is a `str`.
abbrev pub refused_flags : Flags → Bool → Option Feature
refused_flags f text =
    if f.locale then Some is_locale else (if f.unicode && (f.ascii || not text) then Some is_flag_clash else None)
