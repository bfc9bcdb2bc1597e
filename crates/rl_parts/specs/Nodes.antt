-- The parts of a pattern as objects of JSON. Each object has the kind of its part, its span as `start` and `end`, and what
-- else belongs to the kind. Positions count codes of the pattern from 0: `start` is that of the first code, `end` the one
-- after the last. A set is given by the numbers of its letters (`Sets.antt`). `put` keeps the keys of an object in the order
-- of their bytes.
use Rattle.std.specs.Prelude.{ℕ, suc, ◌+◌, Bool, true, false, List, [], ◌∷◌, map, Option, None, Some, is_some, codes, if◌then◌else◌}
use Rattle.serde_json.specs.Data.{Data, Members, boolean, string, object, no_members, put}
use Rattle.rl_ranges.specs.Codes.{has}
use Rattle.rl_syntax.specs.declared.anchors.AnchorKind.{AnchorKind}
use Rattle.rl_syntax.specs.declared.anchors.AnchorKind.TheVariants.{Caret, TextStart, Dollar, TextEnd}
use Rattle.rl_syntax.specs.declared.span.Span.{Span}
use Rattle.rl_syntax.specs.PatTree.{PatTree, PatTrees, BranchTrees, nothing, class, seq, choice, repeat, group, anchor, boundary, look, outside, no_items, item, no_branches, branch}
use Rattle.rl_marks.specs.Marking.{groups_in}
use Rattle.rl_parts.specs.Members.{whole, list_data, number_data, span_data}

-- The members that each part has: its kind and its span.
abbrev pub part_members : List ℕ → Span → Members
part_members kind span =
    put (codes "end") (whole span.upto) (put (codes "start") (whole span.from) (put (codes "kind") (string kind) no_members))

-- The numbers of the letters that the set holds, in ascending order, given the samples of the letters from the number `n` on.
abbrev pub letters_from : ℕ → (ℕ → Bool) → List ℕ → List ℕ
letters_from n set [] = []
letters_from n set (sample ∷ samples) =
    if set sample then n ∷ letters_from (suc n) set samples else letters_from (suc n) set samples

-- The members of a set: the numbers of its letters, given the samples of all letters.
abbrev pub set_members : List ℕ → Span → (ℕ → Bool) → Members
set_members samples span set = put (codes "letters") (list_data (map whole (letters_from 0 set samples))) (part_members (codes "set") span)

-- The members of a repeat with this body: its bounds, where there is no maximum if it is `null`, whether it is greedy, and the
-- span of its quantifier as `mark`.
abbrev pub repeat_members : Span → Span → ℕ → Option ℕ → Bool → Data → Members
repeat_members span mark least most greedy body =
    put (codes "body") body
    (put (codes "mark") (span_data mark)
    (put (codes "greedy") (boolean greedy)
    (put (codes "max") (number_data most)
    (put (codes "min") (whole least) (part_members (codes "repeat") span)))))

-- The members of a group with this body: whether it captures, and its number, which is `null` if it doesn't.
abbrev pub group_members : Span → Option ℕ → Data → Members
group_members span n body =
    put (codes "body") body
    (put (codes "number") (number_data n)
    (put (codes "captures") (boolean (is_some n)) (part_members (codes "group") span)))

-- The name of an anchor.
abbrev pub anchor_name : AnchorKind → List ℕ
anchor_name Caret = codes "caret"
anchor_name TextStart = codes "text-start"
anchor_name Dollar = codes "dollar"
anchor_name TextEnd = codes "text-end"

-- The members of an anchor: its name, and whether MULTILINE is in force.
abbrev pub anchor_members : Span → AnchorKind → Bool → Members
anchor_members span kind multiline =
    put (codes "multiline") (boolean multiline) (put (codes "what") (string (anchor_name kind)) (part_members (codes "anchor") span))

-- The members of a word boundary: whether it is `\B`, and whether words are ASCII words.
abbrev pub boundary_members : Span → Bool → Bool → Members
boundary_members span negated ascii =
    put (codes "ascii") (boolean ascii) (put (codes "negated") (boolean negated) (part_members (codes "boundary") span))

-- The members of a lookaround of one character: whether it looks behind, whether it is negated, and the numbers of the letters
-- of its set, given the samples of all letters.
abbrev pub look_members : List ℕ → Span → Bool → Bool → (ℕ → Bool) → Members
look_members samples span behind negated set =
    put (codes "letters") (list_data (map whole (letters_from 0 set samples)))
    (put (codes "negated") (boolean negated) (put (codes "behind") (boolean behind) (part_members (codes "look") span)))

abbrev mutual
  -- The object of a part, given the samples of the letters. Its capturing groups are numbered from `n` on, in the order of
  -- their opening parentheses. A feature that isn't judged is of the kind `outside`, which no part of a `Pattern` is.
  pub node_data : List ℕ → PatTree → ℕ → Data
  node_data samples (nothing span) n = object (part_members (codes "nothing") span)
  node_data samples (class span set) n = object (set_members samples span set)
  node_data samples (seq span ps) n = object (put (codes "items") (list_data (items_data samples ps n)) (part_members (codes "sequence") span))
  node_data samples (choice span bs) n =
      object (put (codes "branches") (list_data (branches_data samples bs n)) (part_members (codes "choice") span))
  node_data samples (repeat span mark least most greedy p) n =
      object (repeat_members span mark least most greedy (node_data samples p n))
  node_data samples (group span true p) n = object (group_members span (Some n) (node_data samples p (suc n)))
  node_data samples (group span false p) n = object (group_members span None (node_data samples p n))
  node_data samples (anchor span kind multiline) n = object (anchor_members span kind multiline)
  node_data samples (boundary span negated ascii) n = object (boundary_members span negated ascii)
  node_data samples (look span behind negated ranges) n = object (look_members samples span behind negated (has ranges))
  node_data samples (outside span what) n = object (part_members (codes "outside") span)

  -- The objects of the items of a sequence, in order. Their groups are numbered from `n` on, through all items.
  pub items_data : List ℕ → PatTrees → ℕ → List Data
  items_data samples no_items n = []
  items_data samples (item p ps) n = node_data samples p n ∷ items_data samples ps (n + groups_in p)

  -- The objects of the bodies of the branches of a choice, in order. Their groups are numbered from `n` on, through all
  -- branches.
  pub branches_data : List ℕ → BranchTrees → ℕ → List Data
  branches_data samples no_branches n = []
  branches_data samples (branch span p bs) n = node_data samples p n ∷ branches_data samples bs (n + groups_in p)
