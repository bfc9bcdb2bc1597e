-- For private contracts: how the grammar and the machine see the program's values. The machine is the reader as the logic
-- describes it. The value that contracts see in place of a program's value has the same parts; a node in a box becomes that
-- node.
use Rattle.std.specs.Prelude.{◌≡◌, ℕ, suc, ◌+◌, List, map, reverse, length, Option, Some, None, if◌then◌else◌, ◌-◌}
use Rattle.rl_pattern.specs.declared.tree.SyntaxNode.{SyntaxNode}
use Rattle.rl_pattern.specs.declared.tree.SyntaxNode.TheOpen as Open
use Rattle.rl_pattern.specs.declared.tree.SyntaxNode.TheFolds.{fold-SyntaxNode, fold-Branch}
use Rattle.rl_pattern.specs.declared.tree.Branch.{Branch}
use Rattle.rl_pattern.specs.declared.tree.Whole.{Whole}
use Rattle.rl_pattern.specs.declared.state.Frame.{Frame}
use Rattle.rl_pattern.specs.declared.state.Last.{Last}
use Rattle.rl_pattern.specs.declared.state.Last.TheVariants.{NothingYet, AnAtom}
use Rattle.rl_pattern.specs.declared.state.Base.{Base}
use Rattle.rl_pattern.specs.declared.state.Lex.{Lex}
use Rattle.rl_pattern.specs.declared.state.Lex.TheVariants.{Between, Line, Comment, InBraces, Counted, AtSlash, InEscape, InHead, SetOpen, InClass}
use Rattle.rl_pattern.specs.declared.state.State.{State}
use Rattle.rl_pattern.specs.declared.lex.CountPart.{CountPart}
use Rattle.rl_pattern.specs.declared.lex.CountPart.TheVariants.{Least, Upper, Most}
use Rattle.rl_pattern.specs.Codes.{code_of, is, with_digit, least_of, upper_of, most_of}
use Rattle.rl_pattern.specs.Tree as t
use Rattle.rl_pattern.specs.internal.Machine as m

-- The node that contracts see in place of the program's value, if they see the given nodes and branches in place of its parts.
abbrev pub node_layer : Open.SyntaxNode-F t.SyntaxNode t.Branch → t.SyntaxNode
node_layer (Open.SyntaxNode-F.Leaf s f x) = t.leaf s f x
node_layer (Open.SyntaxNode-F.Assertion s f k) = t.mark s f k
node_layer (Open.SyntaxNode-F.Repeat s q n g body) = t.repeat s q n g body.value
node_layer (Open.SyntaxNode-F.Group s k body) = t.group s k body.value
node_layer (Open.SyntaxNode-F.Nothing s) = t.nothing s
node_layer (Open.SyntaxNode-F.Seq s ps) = t.seq s (t.nodes ps)
node_layer (Open.SyntaxNode-F.Choice s bs) = t.choice s (t.branches bs)

-- The branch that contracts see in place of the program's value, if they see the given node in place of its body.
abbrev pub branch_layer : Open.Branch-F t.SyntaxNode t.Branch → t.Branch
branch_layer b = record { place = b.place; body = b.body }

-- The node that contracts see in place of the program's value.
abbrev pub node_of : SyntaxNode → t.SyntaxNode
node_of = fold-SyntaxNode t.SyntaxNode t.Branch node_layer branch_layer

-- The branch that contracts see in place of the program's value.
abbrev pub branch_of : Branch → t.Branch
branch_of = fold-Branch t.SyntaxNode t.Branch node_layer branch_layer

-- The whole pattern that contracts see in place of the program's value.
abbrev pub whole_of : Whole → t.Whole
whole_of p = record { fronts = p.fronts; place = p.place; body = node_of p.body }

-- The open body that contracts see in place of the program's value.
abbrev pub frame_of : Frame → m.Frame
frame_of f = record { flags = f.flags; kind = f.kind; opened = f.opened; start = f.start; from = f.from; branches = map branch_of f.branches; items = map node_of f.items }

-- The last atom that contracts see in place of the program's value.
abbrev pub last_of : Last → m.Last
last_of NothingYet = m.nothing_yet
last_of (AnAtom a p) = m.an_atom a (node_of p)

-- What has been read, as contracts see it. The program keeps the innermost of the other open bodies last, the machine
-- first.
abbrev pub base_of : Base → m.Base
base_of b = record { top = frame_of b.top; last = last_of b.last; below = map frame_of (reverse b.below.items); fronts = b.fronts }

-- What the reader is in the middle of, as contracts see it.
abbrev pub lex_of : Lex → m.Lex
lex_of Between = m.between
lex_of Line = m.line
lex_of Comment = m.comment
lex_of (InBraces a t) = m.in_braces a t
lex_of (Counted a p q n) = m.counted a (node_of p) q n
lex_of (AtSlash a) = m.at_slash a
lex_of (InEscape a x) = m.in_escape a x
lex_of (InHead a h) = m.in_head a h
lex_of (SetOpen a) = m.set_open a
lex_of (InClass a v s) = m.in_class a v s

-- The state of the reader, as contracts see it.
abbrev pub state_of : State → m.State
state_of s = record { base = base_of s.base; lex = lex_of s.lex }

-- The machine's state with the base `b`, which is what has been read, and the reader's `Lex`, which is what it is in the
-- middle of, as the machine sees it. It is `None` if the reader can't continue (`None`).
abbrev pub state_with : m.Base → Option Lex → Option m.State
state_with b None = None
state_with b (Some x) = Some (m.at b (lex_of x))

-- Holds if the machine isn't in braces, or if the digits and commas that it has read after the brace end directly before
-- position `i`.
abbrev pub FitsAt : m.Lex → ℕ → Type 0
FitsAt (m.in_braces a t) i = i ≡ suc a + length t
FitsAt m.between i = Unit {0}
FitsAt m.line i = Unit {0}
FitsAt m.comment i = Unit {0}
FitsAt (m.counted a p q n) i = Unit {0}
FitsAt (m.at_slash a) i = Unit {0}
FitsAt (m.in_escape a x) i = Unit {0}
FitsAt (m.in_head a h) i = Unit {0}
FitsAt (m.set_open a) i = Unit {0}
FitsAt (m.in_class a v s) i = Unit {0}

-- The count that results if the part of a count that was read is followed by the given digits and commas, or `None` if they
-- make it no count.
abbrev pub part_rest : CountPart → List ℕ → Option t.Count
part_rest (Least m) cs = least_of m cs
part_rest (Upper m) cs = upper_of m cs
part_rest (Most m n) cs = most_of m n cs

-- The part of a count that results if `c`, a digit or a comma, follows, or `None` if it can't continue the count.
abbrev pub part_next : CountPart → ℕ → Option CountPart
part_next (Least m) c = if is "," c then Some (Upper m) else Some (Least (with_digit 10 m (c - code_of "0")))
part_next (Upper m) c = if is "," c then None else Some (Most m (with_digit 10 0 (c - code_of "0")))
part_next (Most m n) c = if is "," c then None else Some (Most m (with_digit 10 n (c - code_of "0")))
