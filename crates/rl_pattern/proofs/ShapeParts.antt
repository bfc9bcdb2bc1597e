-- If nothing in a node is refused, its pattern may occur in a pattern.
use Rattle.std.proofs.Common.{◌≡◌, ℕ, Bool, true, false, not, nat_lt, ◌||◌, ◌==◌, cond, List, [], ◌∷◌, ◌++◌, Option, Some, None, refl, sym, ap, ◌∙◌, arith}
use Rattle.std.specs.Prelude.{if◌then◌else◌}
use Rattle.std.proofs.lemmas.Bool.{and_parts, ltb-true, ltb-false, cond_both, true≢false}
use Rattle.std.proofs.lemmas.Bool.Decides.{nat_tests}
use Rattle.std.proofs.Math.Bool.{xor}
use Rattle.rl_ranges.specs.Codes.{has}
use Rattle.rl_ranges.specs.Listed.{ranges_below}
use Rattle.rl_ranges.specs.Text.{code_count}
use Rattle.rl_ranges.specs.Named.{is_named}
use Rattle.rl_ranges.specs.declared.named.Named.TheVariants.{Word}
use Rattle.rl_ranges.specs.declared.universe.Universe.{Universe}
use Rattle.rl_ranges.specs.declared.universe.Universe.TheVariants.{Str, Bytes}
use Rattle.rl_ranges.proofs.ListedLemmas.{has-ranges_below}
use Rattle.rl_ranges.proofs.TableLemmas.{named_inside}
use Rattle.rl_syntax.specs.Tree.{LiesIn}
use Rattle.rl_syntax.specs.Guards.{is_word, is_line_feed}
use Rattle.rl_syntax.specs.PatTree as s
use Rattle.rl_syntax.specs.IsPattern.{IsPart, AreParts, AreBranches, InOrder}
use Rattle.rl_pattern.specs.declared.flags.Flags.{Flags}
use Rattle.rl_pattern.specs.Tree.{Span, Count, Greed, Leaf, Assertion, caret, text_start, dollar, text_end, boundary, Kind, capturing, named, scoped, lookaround, atomic, conditional, SyntaxNode, leaf, mark, repeat, group, nothing, seq, choice, Nodes, no_nodes, more_nodes, Branches, no_branches, more_branches}
use Rattle.rl_pattern.specs.Found.{is_bound, Fault, Feature, fault_if, comes_first, earlier, first_fault, is_possessive, count_faults, kind_faults, mark_faults, reads_look, is_end, node_faults_in, nodes_faults_in, branches_faults_in, is_repeat_too_large, is_repeat_order, is_possessive_count, is_inner_anchor}
use Rattle.rl_pattern.specs.Profile.{Dollar, Refused, Dropped, LastLine, Profile, Narrow, Wide, before_end, for_item, reads_dollar}
use Rattle.rl_pattern.specs.Shape.{is_text, mark_shape, mark_shape_in, dollar_shape, look_shape, group_shape, shape_in, shapes_in, branch_shapes_in}
use Rattle.rl_pattern.specs.LeafCodes.{leaf_codes}
use Rattle.rl_pattern.specs.Looks.{holds_beside}
use Rattle.rl_pattern.proofs.LeafLaws.{ascii_rule}

-- If there is no first fault, there is no fault.
pub none_first : (fs : List Fault) → first_fault fs ≡ None → fs ≡ []
none_first [] e = refl
none_first (a ∷ fs) e = absurd (some_first a (first_fault fs) e)
  where
    some_chosen : (v : Bool) (a b : Fault) → cond v (Some a) (Some b) ≡ None → ⊥
    some_chosen true a b e = cc e
    some_chosen false a b e = cc e

    some_first : (a : Fault) (o : Option Fault) → earlier (Some a) o ≡ None → ⊥
    some_first a None e = cc e
    some_first a (Some b) e = some_chosen (comes_first a b) a b e

pub empty_left : (xs ys : List Fault) → xs ++ ys ≡ [] → xs ≡ []
empty_left [] ys e = refl
empty_left (x ∷ xs) ys e = absurd (cc e)

pub empty_right : (xs ys : List Fault) → xs ++ ys ≡ [] → ys ≡ []
empty_right [] ys e = e
empty_right (x ∷ xs) ys e = absurd (cc e)

pub no_fault : (b : Bool) (i : ℕ) (f : Feature) → fault_if b i f ≡ [] → b ≡ false
no_fault false i f e = refl
no_fault true i f e = absurd (cc e)

pub leaf_lies : (u : Universe) (f : Flags) (x : Leaf) → LiesIn u (leaf_codes u f x)
unfolding leaf_codes
leaf_lies u f x code h = ltb-true code (code_count u) (and_parts (nat_lt code (code_count u)) _ h).0

word_lies : (u : Universe) (ascii : Bool) → LiesIn u (is_word (ascii || not (is_text u)))
unfolding is_word
word_lies u ascii code h = named_inside Word ascii u code (sym (ap (λ a. is_named Word a code) (ascii_rule ascii u)) ∙ h)

mark_part : (u : Universe) (place : Span) (f : Flags) (m : Assertion) → mark_faults place f m ≡ [] → IsPart u (mark_shape u place f m)
mark_part u place f caret e = refl
mark_part u place f text_start e = refl
mark_part u place f text_end e = refl
mark_part u place f dollar e = is_true f.multiline (no_fault (not f.multiline) place.from _ e)
  where
    is_true : (b : Bool) → not b ≡ false → b ≡ true
    is_true true h = refl
    is_true false h = sym h
mark_part u place f (boundary negated) e = word_lies u f.ascii

in_order : (least : ℕ) (most : Option ℕ) → is_bound (λ m. nat_lt m least) most ≡ false → InOrder least most
in_order least None e = tt
in_order least (Some n) e = ltb-false n least e

count_part : (i : ℕ) (n : Count) (g : Greed) → count_faults i n g ≡ [] → InOrder n.least n.most
count_part i n g e =
    in_order n.least n.most (no_fault (is_bound (λ m. nat_lt m n.least) n.most) i is_repeat_order
    (empty_left (fault_if (is_bound (λ m. nat_lt m n.least) n.most) i is_repeat_order) (fault_if (is_possessive g) i is_possessive_count) (empty_right (fault_if (n.least == 4294967295 || is_bound (λ m. m == 4294967295) n.most) i is_repeat_too_large) _ e)))

group_part : (u : Universe) (place : Span) (k : Kind) (t : s.PatTree) → kind_faults (is_text u) place.from k ≡ [] → IsPart u t → IsPart u (group_shape place k t)
group_part u place capturing t e h = h
group_part u place (named n) t e h = h
group_part u place (scoped on off) t e h = h
group_part u place (lookaround b n) t e h = absurd (cc e)
group_part u place atomic t e h = absurd (cc e)
group_part u place conditional t e h = absurd (cc e)

pub line_feed_lies : (u : Universe) → LiesIn u is_line_feed
line_feed_lies Str code h = grind (arith, nat_tests, h)
line_feed_lies Bytes code h = grind (arith, nat_tests, h)

dollar_part : (d : Dollar) (u : Universe) (place : Span) (f : Flags) → (if reads_dollar (Wide d) then [] else mark_faults place f dollar) ≡ [] → IsPart u (mark_shape_in (Wide d) u place f dollar)
dollar_part d u place f e =
    cond_both f.multiline (mark_shape u place f dollar) (dollar_shape d place) (IsPart u) (λ z. z) (λ z. go d z e)
  where
    go : (d : Dollar) → f.multiline ≡ false → (if reads_dollar (Wide d) then [] else mark_faults place f dollar) ≡ [] → IsPart u (dollar_shape d place)
    go Refused z e = absurd (true≢false (sym (ap not z) ∙ no_fault (not f.multiline) place.from is_inner_anchor e))
    go Dropped z e = tt
    go LastLine z e = ((omega arith, line_feed_lies u), (refl, tt))

mark_part_in : (r : Profile) (u : Universe) (place : Span) (f : Flags) (m : Assertion) → (if reads_dollar r then [] else mark_faults place f m) ≡ [] → IsPart u (mark_shape_in r u place f m)
mark_part_in Narrow u place f m e = mark_part u place f m e
mark_part_in (Wide d) u place f caret e = refl
mark_part_in (Wide d) u place f text_start e = refl
mark_part_in (Wide d) u place f text_end e = refl
mark_part_in (Wide d) u place f dollar e = dollar_part d u place f e
mark_part_in (Wide d) u place f (boundary negated) e = word_lies u f.ascii

listed_lies : (u : Universe) (set : ℕ → Bool) → LiesIn u (has (ranges_below (code_count u) set))
listed_lies u set code h = ltb-true code (code_count u) (and_parts (nat_lt code (code_count u)) (set code) (sym (has-ranges_below (code_count u) set code) ∙ h)).0

look_part : (r : Profile) (u : Universe) (place : Span) (k : Kind) (p : SyntaxNode) → reads_look r (is_text u) k p ≡ true → IsPart u (look_shape u place k p)
look_part Narrow u place k p z = absurd (true≢false (sym z))
look_part (Wide d) u place capturing p z = absurd (true≢false (sym z))
look_part (Wide d) u place (named n) p z = absurd (true≢false (sym z))
look_part (Wide d) u place (scoped on off) p z = absurd (true≢false (sym z))
look_part (Wide d) u place (lookaround b n) p z = listed_lies u (λ c. xor (holds_beside u p None) (holds_beside u p (Some c)))
look_part (Wide d) u place atomic p z = absurd (true≢false (sym z))
look_part (Wide d) u place conditional p z = absurd (true≢false (sym z))

-- The faults of a group that isn't read as a lookaround.
pub unread : (b : Bool) (fs : List Fault) → b ≡ false → (if b then [] else fs) ≡ [] → fs ≡ []
unread false fs z e = e
unread true fs z e = absurd (true≢false z)

mutual
  pub part_in : (r : Profile) (u : Universe) (p : SyntaxNode) → node_faults_in r (is_text u) p ≡ [] → IsPart u (shape_in r u p)
  part_in r u (leaf place f x) e = leaf_lies u f x
  part_in r u (mark place f m) e = mark_part_in r u place f m e
  part_in r u (repeat place q n g p) e =
      (count_part q.from n g (empty_left (count_faults q.from n g) (node_faults_in (before_end r) (is_text u) p) e), part_in (before_end r) u p (empty_right (count_faults q.from n g) (node_faults_in (before_end r) (is_text u) p) e))
  part_in r u (group place k p) e =
      let own = kind_faults (is_text u) place.from k in
      let inner = node_faults_in r (is_text u) p in
      cond_both (reads_look r (is_text u) k p) (look_shape u place k p) (group_shape place k (shape_in r u p)) (IsPart u) (look_part r u place k p)
      (λ z. let h = unread (reads_look r (is_text u) k p) (own ++ inner) z e in group_part u place k (shape_in r u p) (empty_left own inner h) (part_in r u p (empty_right own inner h)))
  part_in r u (nothing place) e = tt
  part_in r u (seq place ps) e = parts_in r u ps e
  part_in r u (choice place bs) e = branch_parts_in r u bs e

  parts_in : (r : Profile) (u : Universe) (ps : Nodes) → nodes_faults_in r (is_text u) ps ≡ [] → AreParts u (s.items_of (shapes_in r u ps))
  parts_in r u no_nodes e = tt
  parts_in r u (more_nodes p ps) e =
      let own = for_item r (is_end ps) in
      (part_in own u p (empty_left (node_faults_in own (is_text u) p) (nodes_faults_in r (is_text u) ps) e), parts_in r u ps (empty_right (node_faults_in own (is_text u) p) (nodes_faults_in r (is_text u) ps) e))

  branch_parts_in : (r : Profile) (u : Universe) (bs : Branches) → branches_faults_in r (is_text u) bs ≡ [] → AreBranches u (s.branches_of (branch_shapes_in r u bs))
  branch_parts_in r u no_branches e = tt
  branch_parts_in r u (more_branches place p bs) e =
      (part_in r u p (empty_left (node_faults_in r (is_text u) p) (branches_faults_in r (is_text u) bs) e), branch_parts_in r u bs (empty_right (node_faults_in r (is_text u) p) (branches_faults_in r (is_text u) bs) e))
