-- The tree of a pattern over a universe uses only codes of the universe.
use Rattle.std.proofs.Common.{ℕ, zero, suc, ◌-◌, Bool, true, false, List, [], ◌∷◌, ◌++◌, Option, None, Some, replicate, arith}
use Rattle.std.proofs.lemmas.Bool.{ltb-true}
use Rattle.std.proofs.lemmas.Bool.Decides.{nat_tests}
use Rattle.rl_ranges.specs.declared.universe.Universe.{Universe}
use Rattle.rl_ranges.specs.declared.universe.Universe.TheVariants.{Str, Bytes}
use Rattle.rl_ranges.specs.Text.{code_count}
use Rattle.rl_syntax.specs.declared.anchors.AnchorKind.{AnchorKind}
use Rattle.rl_syntax.specs.declared.anchors.AnchorKind.TheVariants.{Caret, TextStart, Dollar, TextEnd}
use Rattle.rl_syntax.specs.declared.anchors.Trail.{Trail}
use Rattle.rl_syntax.specs.declared.anchors.Trail.TheVariants as trail
use Rattle.rl_syntax.specs.declared.re.Mode.{Mode}
use Rattle.rl_syntax.specs.declared.re.Mode.TheVariants.{Fullmatch, Match, Search}
use Rattle.rl_syntax.specs.Guards.{is_line_feed}
use Rattle.rl_syntax.specs.Tree.{Tree, guard, LiesIn, IsOver}
use Rattle.rl_syntax.specs.PatTree.{PatTree, PatTrees, BranchTrees, nothing, class, seq, choice, repeat, group, anchor, boundary, look, outside, no_items, item, no_branches, branch}
use Rattle.rl_syntax.specs.IsPattern.{IsPart, AreParts, AreBranches, IsPattern}
use Rattle.rl_syntax.specs.Lowering.{in_turn, one_of, option_of, options, tail_of, times, guard_of, lowered, items_lowered, branches_lowered}
use Rattle.rl_syntax.specs.Modes.{is_code, trailed, sought, wrapped, tree_in}

-- Each of the trees uses only codes of the universe.
abbrev AllOver : Universe → List Tree → Type 0
AllOver u [] = Unit {0}
AllOver u (t ∷ ts) = IsOver u t × AllOver u ts

AllOver-append : (u : Universe) (ts us : List Tree) → AllOver u ts → AllOver u us → AllOver u (ts ++ us)
AllOver-append u [] us p q = q
AllOver-append u (t ∷ ts) us p q = (p.0, AllOver-append u ts us p.1 q)

in_turn-over : (u : Universe) (ts : List Tree) → AllOver u ts → IsOver u (in_turn ts)
in_turn-over u [] p = tt
in_turn-over u (t ∷ []) p = p.0
in_turn-over u (t ∷ s ∷ ts) p = (p.0, in_turn-over u (s ∷ ts) p.1)

one_of-over : (u : Universe) (ts : List Tree) → AllOver u ts → IsOver u (one_of ts)
one_of-over u [] p = tt
one_of-over u (t ∷ []) p = p.0
one_of-over u (t ∷ s ∷ ts) p = (p.0, one_of-over u (s ∷ ts) p.1)

option_of-over : (u : Universe) (greedy : Bool) (t : Tree) → IsOver u t → IsOver u (option_of greedy t)
option_of-over u true t p = (p, tt)
option_of-over u false t p = (tt, p)

options-over : (u : Universe) (greedy : Bool) (t : Tree) (k : ℕ) → IsOver u t → AllOver u (options greedy t k)
options-over u greedy t zero p = tt
options-over u greedy t (suc k) p =
    (option_of-over u greedy (in_turn (t ∷ options greedy t k)) (in_turn-over u (t ∷ options greedy t k) (p, options-over u greedy t k p)), tt)

tail_of-over : (u : Universe) (greedy : Bool) (t : Tree) (least : ℕ) (most : Option ℕ) → IsOver u t → AllOver u (tail_of greedy t least most)
tail_of-over u greedy t least None p = (p, tt)
tail_of-over u greedy t least (Some most) p = options-over u greedy t (most - least) p

copies-over : (u : Universe) (n : ℕ) (t : Tree) → IsOver u t → AllOver u (replicate n t)
copies-over u zero t p = tt
copies-over u (suc n) t p = (p, copies-over u n t p)

times-over : (u : Universe) (least : ℕ) (most : Option ℕ) (greedy : Bool) (t : Tree) → IsOver u t → IsOver u (times least most greedy t)
times-over u least most greedy t p =
    in_turn-over u (replicate least t ++ tail_of greedy t least most)
    (AllOver-append u (replicate least t) (tail_of greedy t least most) (copies-over u least t p) (tail_of-over u greedy t least most p))

line_feed-over : (u : Universe) → LiesIn u is_line_feed
line_feed-over Str = λ c h. grind (arith, nat_tests)
line_feed-over Bytes = λ c h. grind (arith, nat_tests)

guard-over : (u : Universe) (kind : AnchorKind) (multiline : Bool) → IsOver u (guard (guard_of kind multiline))
guard-over u Caret true = (line_feed-over u, tt)
guard-over u Caret false = tt
guard-over u TextStart multiline = tt
guard-over u Dollar multiline = (line_feed-over u, tt)
guard-over u TextEnd multiline = tt

mutual
  part-over : (u : Universe) (p : PatTree) → IsPart u p → IsOver u (lowered p)
  part-over u (nothing span) h = tt
  part-over u (class span set) h = h
  part-over u (seq span ps) h = in_turn-over u (items_lowered ps) (parts-over u ps h)
  part-over u (choice span bs) h = one_of-over u (branches_lowered bs) (branches-over u bs h)
  part-over u (repeat span mark least most greedy p) h = times-over u least most greedy (lowered p) (part-over u p h.1)
  part-over u (group span captures p) h = part-over u p h
  part-over u (anchor span kind multiline) h = guard-over u kind multiline
  part-over u (boundary span true ascii) h = (h, tt)
  part-over u (boundary span false ascii) h = (h, tt)
  part-over u (look span behind negated ranges) h = (h, tt)
  part-over u (outside span what) h = tt

  parts-over : (u : Universe) (ps : PatTrees) → AreParts u ps → AllOver u (items_lowered ps)
  parts-over u no_items h = tt
  parts-over u (item p ps) h = (part-over u p h.0, parts-over u ps h.1)

  branches-over : (u : Universe) (bs : BranchTrees) → AreBranches u bs → AllOver u (branches_lowered bs)
  branches-over u no_branches h = tt
  branches-over u (branch span p bs) h = (part-over u p h.0, branches-over u bs h.1)

trailed-over : (u : Universe) (trailing : Trail) (t : Tree) → IsOver u t → IsOver u (trailed trailing t)
trailed-over u trail.None t p = p
trailed-over u trail.Dollar t p = (p, (tt, line_feed-over u))
trailed-over u trail.End t p = p

sought-over : (u : Universe) (leading : Bool) (t : Tree) → IsOver u t → IsOver u (sought u leading t)
unfolding is_code
sought-over u true t p = p
sought-over u false t p = (λ c h. ltb-true c (code_count u) h, p)

wrapped-over : (u : Universe) (mode : Mode) (leading : Bool) (trailing : Trail) (t : Tree) → IsOver u t → IsOver u (wrapped mode u leading trailing t)
wrapped-over u Fullmatch leading trailing t p = p
wrapped-over u Match leading trailing t p = trailed-over u trailing t p
wrapped-over u Search leading trailing t p = sought-over u leading (trailed trailing t) (trailed-over u trailing t p)

-- The tree of a pattern over a universe uses only codes of the universe, in every mode.
pub tree-over : (u : Universe) (mode : Mode) (leading : Bool) (trailing : Trail) (body : PatTree) → IsPattern u body → IsOver u (tree_in mode u leading trailing body)
tree-over u mode leading trailing body h = wrapped-over u mode leading trailing (lowered body) (part-over u body h.parts)
