-- The wide profiles extend the narrow one, and no pattern of the narrow one has a lookaround.
use Rattle.std.proofs.Common.{◌≡◌, ◌⊎◌, ℕ, zero, suc, ◌-◌, Bool, true, false, not, ◌||◌, List, [], ◌∷◌, ◌++◌, replicate, Option, Some, None, Result, Ok, Err, refl, sym, ap, ap₂, ◌∙◌, arith}
use Rattle.std.proofs.lemmas.Bool.{cond_both, true≢false}
use Rattle.std.proofs.lemmas.Option.{none-some}
use Rattle.std.specs.Prelude.{if◌then◌else◌}
use mathlib.Core.Logic.{inl, inr}
use Rattle.rl_ranges.specs.declared.universe.Universe.{Universe}
use Rattle.rl_syntax.specs.declared.anchors.Trail.{Trail}
use Rattle.rl_syntax.specs.declared.anchors.Guard.TheVariants.{Start, LineStart, Word as WordGuard, NotWord}
use Rattle.rl_syntax.specs.declared.re.Mode.{Mode}
use Rattle.rl_syntax.specs.declared.re.Mode.TheVariants.{Fullmatch, Match, Search}
use Rattle.rl_syntax.specs.declared.pattern.Pattern.{Pattern}
use Rattle.rl_syntax.specs.Guards.{is_look}
use Rattle.rl_syntax.specs.Tree.{Tree, has_look}
use Rattle.rl_syntax.specs.Lowering.{in_turn, one_of, option_of, options, tail_of, times, lowered, items_lowered, branches_lowered}
use Rattle.rl_syntax.specs.Modes.{trailed, sought, wrapped}
use Rattle.rl_syntax.specs.Pattern.{pattern_tree, is_anchored, trail_of as pattern_trail, universe_of, body_of}
use Rattle.rl_syntax.specs.PatTree as s
use Rattle.rl_pattern.specs.declared.flags.Flags.{Flags}
use Rattle.rl_pattern.specs.declared.parsing.PatError.{PatError}
use Rattle.rl_pattern.specs.declared.parsing.PatError.TheVariants as error
use Rattle.rl_pattern.specs.Tree.{Span, Assertion, caret, text_start, dollar, text_end, boundary, Kind, capturing, named, scoped, lookaround, atomic, conditional, SyntaxNode, leaf, mark, repeat, group, nothing, seq, choice, Nodes, no_nodes, more_nodes, Branches, no_branches, more_branches, Whole}
use Rattle.rl_pattern.specs.Profile.{Dollar, Profile, Narrow, Wide, Trail, no_trail, dollar_trail, end_trail, before_end, for_item, for_body, reads_dollar}
use Rattle.rl_pattern.specs.Found.{Fault, fault, first_fault, is_inner_anchor, mark_faults, count_faults, kind_faults, reads_look, is_end, node_faults, nodes_faults, branches_faults, node_faults_in, nodes_faults_in, branches_faults_in, front_faults, name_faults, node_names, refused, refused_in, inner}
use Rattle.rl_pattern.specs.Shape.{is_text, mark_shape, mark_shape_in, dollar_shape, look_shape, group_shape, is_greedy, shape, shapes, branch_shapes, shape_in, shapes_in, branch_shapes_in}
use Rattle.rl_pattern.specs.Parsed.{IsParsed, IsSpelled}
use Rattle.rl_pattern.specs.Beyond.{IsParsedBeyond, IsSpelledBeyond}
use Rattle.rl_pattern.specs.SameAnswer.{IsSamePattern}
use Rattle.rl_pattern.proofs.Reading.{one_is_spelled}
use Rattle.rl_pattern.proofs.ShapeParts.{none_first, empty_left, empty_right, no_fault}
use Rattle.rl_pattern.proofs.InnerBare.{none_inner}

-- A group that isn't refused isn't a lookaround, so no profile reads it as one.
unlooked : (r : Profile) (text : Bool) (i : ℕ) (k : Kind) (p : SyntaxNode) → kind_faults text i k ≡ [] → reads_look r text k p ≡ false
unlooked Narrow text i k p e = refl
unlooked (Wide d) text i capturing p e = refl
unlooked (Wide d) text i (named n) p e = refl
unlooked (Wide d) text i (scoped on off) p e = refl
unlooked (Wide d) text i (lookaround b n) p e = absurd (cc e)
unlooked (Wide d) text i atomic p e = refl
unlooked (Wide d) text i conditional p e = refl

mark_alike : (r : Profile) (u : Universe) (place : Span) (f : Flags) (m : Assertion) → mark_faults place f m ≡ [] → mark_shape_in r u place f m ≡ mark_shape u place f m
mark_alike Narrow u place f m e = refl
mark_alike (Wide d) u place f caret e = refl
mark_alike (Wide d) u place f text_start e = refl
mark_alike (Wide d) u place f dollar e =
    cond_both f.multiline (mark_shape u place f dollar) (dollar_shape d place) (λ t. t ≡ mark_shape u place f dollar) (λ z. refl) (λ z. absurd (true≢false (sym (ap not z) ∙ no_fault (not f.multiline) place.from is_inner_anchor e)))
mark_alike (Wide d) u place f text_end e = refl
mark_alike (Wide d) u place f (boundary negated) e = refl

-- A node in which nothing is refused has the same shape under each profile.
mutual
  shape_alike : (r : Profile) (u : Universe) (p : SyntaxNode) → node_faults (is_text u) p ≡ [] → shape_in r u p ≡ shape u p
  shape_alike r u (leaf place f x) e = refl
  shape_alike r u (mark place f m) e = mark_alike r u place f m e
  shape_alike r u (repeat place q n g p) e = ap (s.repeat place q n.least n.most (is_greedy g)) (shape_alike (before_end r) u p (empty_right (count_faults q.from n g) (node_faults (is_text u) p) e))
  shape_alike r u (group place k p) e =
      let own = kind_faults (is_text u) place.from k in
      let more = node_faults (is_text u) p in
      ap (λ b. if b then look_shape u place k p else group_shape place k (shape_in r u p)) (unlooked r (is_text u) place.from k p (empty_left own more e))
      ∙ ap (group_shape place k) (shape_alike r u p (empty_right own more e))
  shape_alike r u (nothing place) e = refl
  shape_alike r u (seq place ps) e = ap (λ l. s.seq place (s.items_of l)) (shapes_alike r u ps e)
  shape_alike r u (choice place bs) e = ap (λ l. s.choice place (s.branches_of l)) (branches_alike r u bs e)

  shapes_alike : (r : Profile) (u : Universe) (ps : Nodes) → nodes_faults (is_text u) ps ≡ [] → shapes_in r u ps ≡ shapes u ps
  shapes_alike r u no_nodes e = refl
  shapes_alike r u (more_nodes p ps) e =
      let own = node_faults (is_text u) p in
      let more = nodes_faults (is_text u) ps in
      ap₂ (λ t ts. t ∷ ts) (shape_alike (for_item r (is_end ps)) u p (empty_left own more e)) (shapes_alike r u ps (empty_right own more e))

  branches_alike : (r : Profile) (u : Universe) (bs : Branches) → branches_faults (is_text u) bs ≡ [] → branch_shapes_in r u bs ≡ branch_shapes u bs
  branches_alike r u no_branches e = refl
  branches_alike r u (more_branches place p bs) e =
      let own = node_faults (is_text u) p in
      let more = branches_faults (is_text u) bs in
      ap₂ (λ t ts. (place, t) ∷ ts) (shape_alike r u p (empty_left own more e)) (branches_alike r u bs (empty_right own more e))

both_empty : (xs ys : List Fault) → xs ≡ [] → ys ≡ [] → xs ++ ys ≡ []
both_empty xs ys e f = ap (λ l. l ++ ys) e ∙ f

if_empty : (b : Bool) (xs : List Fault) → xs ≡ [] → (if b then [] else xs) ≡ []
if_empty true xs e = refl
if_empty false xs e = e

-- Where nothing is refused under the narrow profile, nothing is under any other.
mutual
  still_none : (r : Profile) (text : Bool) (p : SyntaxNode) → node_faults text p ≡ [] → node_faults_in r text p ≡ []
  still_none r text (leaf place f x) e = e
  still_none r text (mark place f m) e = if_empty (reads_dollar r) (mark_faults place f m) e
  still_none r text (repeat place q n g p) e =
      let own = count_faults q.from n g in
      let more = node_faults text p in
      both_empty own (node_faults_in (before_end r) text p) (empty_left own more e) (still_none (before_end r) text p (empty_right own more e))
  still_none r text (group place k p) e =
      let own = kind_faults text place.from k in
      let more = node_faults text p in
      if_empty (reads_look r text k p) (own ++ node_faults_in r text p) (both_empty own (node_faults_in r text p) (empty_left own more e) (still_none r text p (empty_right own more e)))
  still_none r text (nothing place) e = refl
  still_none r text (seq place ps) e = none_of r text ps e
  still_none r text (choice place bs) e = none_in r text bs e

  none_of : (r : Profile) (text : Bool) (ps : Nodes) → nodes_faults text ps ≡ [] → nodes_faults_in r text ps ≡ []
  none_of r text no_nodes e = refl
  none_of r text (more_nodes p ps) e =
      let own = node_faults text p in
      let more = nodes_faults text ps in
      both_empty (node_faults_in (for_item r (is_end ps)) text p) (nodes_faults_in r text ps) (still_none (for_item r (is_end ps)) text p (empty_left own more e)) (none_of r text ps (empty_right own more e))

  none_in : (r : Profile) (text : Bool) (bs : Branches) → branches_faults text bs ≡ [] → branches_faults_in r text bs ≡ []
  none_in r text no_branches e = refl
  none_in r text (more_branches place p bs) e =
      let own = node_faults text p in
      let more = branches_faults text bs in
      both_empty (node_faults_in r text p) (branches_faults_in r text bs) (still_none r text p (empty_left own more e)) (none_in r text bs (empty_right own more e))

still_allowed : (r : Profile) (call : Flags) (text : Bool) (p : Whole) → refused call text p ≡ None → refused_in r call text p ≡ None
still_allowed r call text p e =
    let fronts = front_faults text call p.fronts in
    let names = name_faults [] (node_names p.body) in
    let own = node_faults text (inner p).body in
    let wide = for_body r (inner p).trail in
    let none = none_first (fronts ++ (names ++ own)) e in
    let rest = empty_right fronts (names ++ own) none in
    ap first_fault (both_empty fronts (names ++ node_faults_in wide text (inner p).body) (empty_left fronts (names ++ own) none) (both_empty names (node_faults_in wide text (inner p).body) (empty_left names own rest) (still_none wide text (inner p).body (empty_right names own rest))))

module _ (dollar : Dollar) (flags : Flags) (u : Universe) (w : List ℕ) where
  same_as : (found new : Pattern) (p q : Whole) → IsSpelled flags u w found p → IsSpelledBeyond dollar flags u w new q → IsSamePattern found new
  same_as found new p q h k =
      let e : p ≡ q = one_is_spelled flags (is_text u) w p q h.read.spelled k.read.spelled in
      record {
        body =
            h.pattern.body
            ∙ sym (shape_alike (for_body (Wide dollar) (inner p).trail) u (inner p).body (none_inner Narrow flags (is_text u) p h.allowed))
            ∙ ap (λ t. shape_in (for_body (Wide dollar) (inner t).trail) u (inner t).body) e
            ∙ sym k.pattern.body;
        leading = h.pattern.leading ∙ ap (λ t. (inner t).leading) e ∙ sym k.pattern.leading;
        trailing = h.pattern.trailing ∙ ap (λ t. (inner t).trail) e ∙ sym k.pattern.trailing;
        universe = h.pattern.universe ∙ sym k.pattern.universe;
      }

  pub beyond_reads : (found : Pattern) (r : Result Pattern PatError) → IsParsed flags u w (Ok found) → IsParsedBeyond dollar flags u w r → (r ≡ Err error.OutOfMemory) ⊎ ((new : Pattern) × (r ≡ Ok new) × IsSamePattern found new)
  beyond_reads found (Ok new) (p, h) (q, k) = inr (new, refl, same_as found new p q h k)
  beyond_reads found (Err error.OutOfMemory) (p, h) k = inl refl
  beyond_reads found (Err error.TooLong) (p, h) k = absurd (let short = h.read.asked.short in omega (arith, short, k))
  beyond_reads found (Err (error.Outside i f)) (p, h) (inl k) = absurd (none-some f (sym h.read.asked.allowed ∙ k.refused))
  beyond_reads found (Err (error.Outside i f)) (p, h) (inr (q, k)) =
      let e : q ≡ p = one_is_spelled flags (is_text u) w q p k.read.spelled h.read.spelled in
      absurd (none-some (fault i f) (sym (still_allowed (Wide dollar) flags (is_text u) p h.allowed) ∙ sym (ap (refused_in (Wide dollar) flags (is_text u)) e) ∙ k.first))
  beyond_reads found (Err (error.TooDeep i)) (p, h) k = absurd (h.read.shallow i k.deep)
  beyond_reads found (Err (error.Syntax n)) (p, h) k = absurd (k.none p h.read.spelled)

-- Trees without a lookaround.
abbrev AllLookless : List Tree → Type 0
AllLookless [] = Unit {0}
AllLookless (t ∷ ts) = (has_look t ≡ false) × AllLookless ts

neither : (a b : Bool) → a ≡ false → b ≡ false → (a || b) ≡ false
neither a b e f = ap (λ x. x || b) e ∙ f

in_turn_lookless : (ts : List Tree) → AllLookless ts → has_look (in_turn ts) ≡ false
in_turn_lookless [] h = refl
in_turn_lookless (t ∷ []) h = h.0
in_turn_lookless (t ∷ v ∷ vs) h = neither (has_look t) (has_look (in_turn (v ∷ vs))) h.0 (in_turn_lookless (v ∷ vs) h.1)

one_of_lookless : (ts : List Tree) → AllLookless ts → has_look (one_of ts) ≡ false
one_of_lookless [] h = refl
one_of_lookless (t ∷ []) h = h.0
one_of_lookless (t ∷ v ∷ vs) h = neither (has_look t) (has_look (one_of (v ∷ vs))) h.0 (one_of_lookless (v ∷ vs) h.1)

option_lookless : (greedy : Bool) (t : Tree) → has_look t ≡ false → has_look (option_of greedy t) ≡ false
option_lookless true t h = neither (has_look t) false h refl
option_lookless false t h = h

options_lookless : (greedy : Bool) (t : Tree) (k : ℕ) → has_look t ≡ false → AllLookless (options greedy t k)
options_lookless greedy t zero h = tt
options_lookless greedy t (suc k) h = (option_lookless greedy (in_turn (t ∷ options greedy t k)) (in_turn_lookless (t ∷ options greedy t k) (h, options_lookless greedy t k h)), tt)

tail_lookless : (greedy : Bool) (t : Tree) (least : ℕ) (most : Option ℕ) → has_look t ≡ false → AllLookless (tail_of greedy t least most)
tail_lookless greedy t least None h = (h, tt)
tail_lookless greedy t least (Some n) h = options_lookless greedy t (n - least) h

copies_lookless : (n : ℕ) (t : Tree) (ts : List Tree) → has_look t ≡ false → AllLookless ts → AllLookless (replicate n t ++ ts)
copies_lookless zero t ts h k = k
copies_lookless (suc n) t ts h k = (h, copies_lookless n t ts h k)

times_lookless : (least : ℕ) (most : Option ℕ) (greedy : Bool) (t : Tree) → has_look t ≡ false → has_look (times least most greedy t) ≡ false
times_lookless least most greedy t h = in_turn_lookless (replicate least t ++ tail_of greedy t least most) (copies_lookless least t (tail_of greedy t least most) h (tail_lookless greedy t least most h))

mark_lookless : (u : Universe) (place : Span) (f : Flags) (m : Assertion) → has_look (lowered (mark_shape u place f m)) ≡ false
mark_lookless u place f caret = cond_both f.multiline LineStart Start (λ g. is_look g ≡ false) (λ z. refl) (λ z. refl)
mark_lookless u place f text_start = refl
mark_lookless u place f dollar = refl
mark_lookless u place f text_end = refl
mark_lookless u place f (boundary negated) = let ascii = f.ascii || not (is_text u) in cond_both negated (NotWord ascii) (WordGuard ascii) (λ g. is_look g ≡ false) (λ z. refl) (λ z. refl)

group_lookless : (place : Span) (k : Kind) (t : s.PatTree) → has_look (lowered t) ≡ false → has_look (lowered (group_shape place k t)) ≡ false
group_lookless place capturing t h = h
group_lookless place (named n) t h = h
group_lookless place (scoped on off) t h = h
group_lookless place (lookaround b n) t h = refl
group_lookless place atomic t h = refl
group_lookless place conditional t h = refl

mutual
  shape_lookless : (u : Universe) (p : SyntaxNode) → has_look (lowered (shape u p)) ≡ false
  shape_lookless u (leaf place f x) = refl
  shape_lookless u (mark place f m) = mark_lookless u place f m
  shape_lookless u (repeat place q n g p) = times_lookless n.least n.most (is_greedy g) (lowered (shape u p)) (shape_lookless u p)
  shape_lookless u (group place k p) = group_lookless place k (shape u p) (shape_lookless u p)
  shape_lookless u (nothing place) = refl
  shape_lookless u (seq place ps) = in_turn_lookless (items_lowered (s.items_of (shapes u ps))) (shapes_lookless u ps)
  shape_lookless u (choice place bs) = one_of_lookless (branches_lowered (s.branches_of (branch_shapes u bs))) (branches_lookless u bs)

  shapes_lookless : (u : Universe) (ps : Nodes) → AllLookless (items_lowered (s.items_of (shapes u ps)))
  shapes_lookless u no_nodes = tt
  shapes_lookless u (more_nodes p ps) = (shape_lookless u p, shapes_lookless u ps)

  branches_lookless : (u : Universe) (bs : Branches) → AllLookless (branches_lowered (s.branches_of (branch_shapes u bs)))
  branches_lookless u no_branches = tt
  branches_lookless u (more_branches place p bs) = (shape_lookless u p, branches_lookless u bs)

trailed_lookless : (trail : Trail) (t : Tree) → has_look t ≡ false → has_look (trailed trail t) ≡ false
trailed_lookless no_trail t h = h
trailed_lookless dollar_trail t h = neither (has_look t) false h refl
trailed_lookless end_trail t h = h

sought_lookless : (u : Universe) (leading : Bool) (t : Tree) → has_look t ≡ false → has_look (sought u leading t) ≡ false
sought_lookless u true t h = h
sought_lookless u false t h = h

wrapped_lookless : (mode : Mode) (u : Universe) (leading : Bool) (trail : Trail) (t : Tree) → has_look t ≡ false → has_look (wrapped mode u leading trail t) ≡ false
wrapped_lookless Fullmatch u leading trail t h = h
wrapped_lookless Match u leading trail t h = trailed_lookless trail t h
wrapped_lookless Search u leading trail t h = sought_lookless u leading (trailed trail t) (trailed_lookless trail t h)

pub parsed_lookless : (flags : Flags) (u : Universe) (w : List ℕ) (found : Pattern) (mode : Mode) → IsParsed flags u w (Ok found) → has_look (pattern_tree found mode) ≡ false
parsed_lookless flags u w found mode (p, h) =
    wrapped_lookless mode (universe_of found) (is_anchored found) (pattern_trail found) (lowered (body_of found)) (ap (λ t. has_look (lowered t)) h.pattern.body ∙ shape_lookless u (inner p).body)
