-- The laws for the trees of a pattern in the modes `match` and `search`.
use Rattle.std.proofs.Common.{◌≡◌, ℕ, suc, ◌+◌, ◌*◌, ◌^◌, ◌<◌, ◌≤◌, max, Bool, true, false, ◌||◌, List, [], ◌∷◌, length, refl, ◌∙◌, arith, le_trans, le_refl, mul-le-mul, mul-pos, mul_assoc, if◌then◌else◌}
use Rattle.std.proofs.Math.Nat.{one-le-pow, pow-le-pow_right}
use Rattle.rl_ranges.specs.declared.universe.Universe.{Universe}
use Rattle.rl_ranges.specs.Text.{IsText, code_count}
use Rattle.rl_syntax.specs.declared.anchors.Trail.{Trail}
use Rattle.rl_syntax.specs.declared.anchors.Trail.TheVariants.{None as NoTrail, Dollar, End}
use Rattle.rl_syntax.specs.declared.re.Ending.{Ending}
use Rattle.rl_syntax.specs.declared.re.Mode.TheVariants.{Match, Search}
use Rattle.rl_syntax.specs.declared.pattern.Pattern.{Pattern}
use Rattle.rl_syntax.specs.declared.verdict.Family.{Family}
use Rattle.rl_syntax.specs.Tree.{Tree, size, has_look}
use Rattle.rl_prio.specs.Letters.{kinds}
use Rattle.rl_prio.specs.Measure.{measure}
use Rattle.rl_syntax.specs.Cost.{cost, matched}
use Rattle.rl_syntax.specs.Family.{family_text}
use Rattle.rl_syntax.specs.Modes.{trailed, sought, wrapped, ending_at}
use Rattle.rl_syntax.specs.Pattern.{pattern_tree, is_anchored, trail_of, universe_of}
use Rattle.rl_graph.specs.Bounds.{bound_c}
use Rattle.rl_pairs.specs.RightVerdict.{HasDegree, IsBounded, IsExpo}
use Rattle.rl_reach.specs.declared.bounds.AtLeast.{AtLeast}
use Rattle.rl_reach.specs.Behind.{looks_behind}
use Rattle.rl_reach.specs.Places.{cost_of_all, cost_in_turn, after_one}
use Rattle.rl_reach.specs.Bounds.{question_in, behind_one, IsAtLeast, IsAtMost}
use Rattle.rl_reach.proofs.Searches.{search-least, search-found, search-more, search-in-turn}
use Rattle.rl_reach.proofs.Afters.{search-after}
use Rattle.rl_reach.proofs.Sums.{turn-all, all-power}
use Rattle.rl_reach.proofs.Constants.{c-twice, c-some}

-- A search costs at least what a match costs.

pub least : (u : Universe) (leading : Bool) (trail : Trail) (t : Tree) (w : List ℕ)
    → cost (wrapped Match u leading trail t) (ending_at trail) w ≤ cost (wrapped Search u leading trail t) (ending_at trail) w
least u true trail t w = le_refl (cost (trailed trail t) (ending_at trail) w)
least u false trail t w = search-least u (trailed trail t) (ending_at trail) w

pub same : (u : Universe) (leading : Bool) (trail : Trail) (t : Tree) (w : List ℕ) → matched (wrapped Match u leading trail t) (ending_at trail) w ≡ true
    → cost (wrapped Search u leading trail t) (ending_at trail) w ≡ cost (wrapped Match u leading trail t) (ending_at trail) w
same u true trail t w h = refl
same u false trail t w h = search-found u (trailed trail t) (ending_at trail) w h

pub more : (u : Universe) (trail : Trail) (t : Tree) (w : List ℕ) → matched (wrapped Match u false trail t) (ending_at trail) w ≡ false
    → cost (wrapped Match u false trail t) (ending_at trail) w < cost (wrapped Search u false trail t) (ending_at trail) w
more u trail t w h = search-more u (trailed trail t) (ending_at trail) w h

-- A search is a match from each place.

or-false : (b : Bool) → (b || false) ≡ b
or-false true = refl
or-false false = refl

trailed-behind : (trail : Trail) (t : Tree) → looks_behind (trailed trail t) ≡ looks_behind t
trailed-behind NoTrail t = refl
trailed-behind Dollar t = or-false (looks_behind t)
trailed-behind End t = refl

pub exact : (u : Universe) (trail : Trail) (t : Tree) (w : List ℕ) → looks_behind t ≡ false → IsText u w
    → cost (wrapped Search u false trail t) (ending_at trail) w ≡ cost_in_turn (wrapped Match u false trail t) (ending_at trail) w
exact u trail t w h text = search-in-turn u (trailed trail t) (ending_at trail) (trailed-behind trail t ∙ h) w text

first-of-all : (t : Tree) (ending : Ending) (w : List ℕ) → cost t ending w ≤ cost_of_all t ending w
first-of-all t ending [] = le_refl (cost t ending [])
first-of-all t ending (c ∷ w) = omega arith

sought-all : (u : Universe) (leading : Bool) (t : Tree) (ending : Ending) (w : List ℕ) → looks_behind t ≡ false → IsText u w
    → cost (sought u leading t) ending w ≤ 1 + cost_of_all t ending w
sought-all u true t ending w h text = omega (arith, first-of-all t ending w)
sought-all u false t ending w h text = omega (arith, search-in-turn u t ending h w text, turn-all t ending w)

pub all : (u : Universe) (leading : Bool) (trail : Trail) (t : Tree) (w : List ℕ) → looks_behind t ≡ false → IsText u w
    → cost (wrapped Search u leading trail t) (ending_at trail) w ≤ 1 + cost_of_all (wrapped Match u leading trail t) (ending_at trail) w
all u leading trail t w h text = sought-all u leading (trailed trail t) (ending_at trail) w (trailed-behind trail t ∙ h) text

sought-power : (u : Universe) (leading : Bool) (t : Tree) (ending : Ending) (c d : ℕ) → looks_behind t ≡ false
    → ((v : List ℕ) → IsText u v → cost t ending v ≤ c * (length v + 1) ^ d)
    → (w : List ℕ) → IsText u w → cost (sought u leading t) ending w ≤ 1 + c * (length w + 1) ^ suc d
sought-power u leading t ending c d h most w text = omega (arith, sought-all u leading t ending w h text, all-power u t ending c d most w text)

pub power : (u : Universe) (leading : Bool) (trail : Trail) (t : Tree) (c d : ℕ) → looks_behind t ≡ false
    → ((v : List ℕ) → IsText u v → cost (wrapped Match u leading trail t) (ending_at trail) v ≤ c * (length v + 1) ^ d)
    → (w : List ℕ) → IsText u w → cost (wrapped Search u leading trail t) (ending_at trail) w ≤ 1 + c * (length w + 1) ^ suc d
power u leading trail t c d h = sought-power u leading (trailed trail t) (ending_at trail) c d (trailed-behind trail t ∙ h)

-- A search is a match behind each character.

sought-behind : (u : Universe) (leading : Bool) (t : Tree) (ending : Ending) (w : List ℕ) → IsText u w
    → cost (sought u leading t) ending w ≤ cost t ending w + cost_of_all (after_one u t) ending w
sought-behind u true t ending w text = omega arith
sought-behind u false t ending w text = search-after u ending t w text

pub behind : (u : Universe) (leading : Bool) (trail : Trail) (t : Tree) (w : List ℕ) → IsText u w
    → cost (wrapped Search u leading trail t) (ending_at trail) w
    ≤ cost (wrapped Match u leading trail t) (ending_at trail) w + cost_of_all (after_one u (wrapped Match u leading trail t)) (ending_at trail) w
behind u leading trail t w text = sought-behind u leading (trailed trail t) (ending_at trail) w text

-- A search grows like its match.

pub exponential : (p : Pattern) (m n : ℕ) (f : Family) → IsExpo (question_in Match p m) f → IsAtLeast (question_in Search p n) (AtLeast.Expo f)
exponential p m n f h = (h.family, λ k. le_trans (h.lower k) (least (universe_of p) (is_anchored p) (trail_of p) _ (family_text f k)))

pub degree : (p : Pattern) (m n d : ℕ) (f : Family) → 1 ≤ d → HasDegree (question_in Match p m) d f → IsAtLeast (question_in Search p n) (AtLeast.Degree d f)
degree p m n d f some h = (some, h.family, λ k. le_trans (h.lower k) (least (universe_of p) (is_anchored p) (trail_of p) _ (family_text f k)))

-- The measure of a tree over the codes of the universe.
abbrev measured : Universe → Tree → ℕ
measured u t = measure (code_count u) t

measure-more : (look : Bool) (k s r : ℕ) → s ≤ r → (if look then s * suc k else s) ≤ (if look then r * suc k else r)
measure-more true k s r le = mul-le-mul le (le_refl (suc k))
measure-more false k s r le = le

sought-size : (u : Universe) (leading : Bool) (t : Tree) → measured u t ≤ measured u (sought u leading t)
sought-size u true t = le_refl (measured u t)
sought-size u false t = measure-more (has_look t) (length (kinds t (code_count u))) (size t) (size (sought u false t)) (omega arith)

-- Half a constant, and a power that is not greater.
within-half : (c e p q x : ℕ) → 2 * c ≤ e → p ≤ q → x ≤ c * p → 2 * x ≤ e * q
within-half c e p q x half wider le =
    let most : 2 * c * p ≤ e * q = mul-le-mul half wider in
    let same : 2 * c * p ≡ 2 * (c * p) = mul_assoc 2 c p in
    omega (arith, most, same, le)

-- One more step is within the constant of a greater degree.
sought-bounded : (u : Universe) (leading : Bool) (t : Tree) (ending : Ending) (d : ℕ) → looks_behind t ≡ false
    → ((v : List ℕ) → IsText u v → cost t ending v ≤ bound_c (measured u t) d * (length v + 1) ^ d)
    → (w : List ℕ) → IsText u w → cost (sought u leading t) ending w ≤ bound_c (measured u (sought u leading t)) (suc d) * (length w + 1) ^ suc d
sought-bounded u leading t ending d h most w text =
    let c = bound_c (measured u t) d in
    let p = (length w + 1) ^ suc d in
    let some : 0 < c * p = mul-pos (c-some (measured u t) d) (one-le-pow (suc d) (length w + 1) (omega arith)) in
    let half = within-half c (bound_c (measured u (sought u leading t)) (suc d)) p p (c * p) (c-twice (measured u t) (measured u (sought u leading t)) d (suc d) (sought-size u leading t) (omega arith)) (le_refl p) (le_refl (c * p)) in
    omega (arith, some, half, sought-power u leading t ending c d h most w text)

behind-size : (u : Universe) (t : Tree) → measured u (after_one u t) ≤ measured u (sought u false t)
behind-size u t = measure-more (has_look t) (length (kinds t (code_count u))) (size (after_one u t)) (size (sought u false t)) (omega arith)

behind-bounded : (u : Universe) (leading : Bool) (t : Tree) (ending : Ending) (d e : ℕ)
    → ((v : List ℕ) → IsText u v → cost t ending v ≤ bound_c (measured u t) d * (length v + 1) ^ d)
    → ((v : List ℕ) → IsText u v → cost (after_one u t) ending v ≤ bound_c (measured u (after_one u t)) e * (length v + 1) ^ e)
    → (w : List ℕ) → IsText u w → cost (sought u leading t) ending w ≤ bound_c (measured u (sought u leading t)) (suc (max d e)) * (length w + 1) ^ suc (max d e)
behind-bounded u true t ending d e most most_behind w text =
    let n = length w + 1 in
    let positive : 0 < n = omega arith in
    let exponent : d ≤ suc (max d e) = omega arith in
    let half = within-half (bound_c (measured u t) d) (bound_c (measured u t) (suc (max d e))) (n ^ d) (n ^ suc (max d e)) (cost t ending w)
    (c-twice (measured u t) (measured u t) d (suc (max d e)) (le_refl (measured u t)) (omega arith)) (pow-le-pow_right positive exponent) (most w text) in
    omega (arith, half)
behind-bounded u false t ending d e most most_behind w text =
    let n = length w + 1 in
    let m = suc (max d e) in
    let s = measured u (sought u false t) in
    let positive : 0 < n = omega arith in
    let exponent : d ≤ m = omega arith in
    let exponent_behind : suc e ≤ m = omega arith in
    let one = within-half (bound_c (measured u t) d) (bound_c s m) (n ^ d) (n ^ m) (cost t ending w)
    (c-twice (measured u t) s d m (sought-size u false t) (omega arith)) (pow-le-pow_right positive exponent) (most w text) in
    let other = within-half (bound_c (measured u (after_one u t)) e) (bound_c s m) (n ^ suc e) (n ^ m) (cost_of_all (after_one u t) ending w)
    (c-twice (measured u (after_one u t)) s e m (behind-size u t) (omega arith)) (pow-le-pow_right positive exponent_behind)
    (all-power u (after_one u t) ending (bound_c (measured u (after_one u t)) e) e most_behind w text) in
    omega (arith, one, other, search-after u ending t w text)

pub bounded : (p : Pattern) (m n d : ℕ) → looks_behind (pattern_tree p Match) ≡ false → IsBounded (question_in Match p m) d → IsAtMost (question_in Search p n) (suc d)
bounded p m n d h most = sought-bounded (universe_of p) (is_anchored p) (pattern_tree p Match) (ending_at (trail_of p)) d h most

pub bounded-behind : (p : Pattern) (m k n d e : ℕ) → IsBounded (question_in Match p m) d → IsBounded (behind_one (question_in Match p k)) e → IsAtMost (question_in Search p n) (suc (max d e))
bounded-behind p m k n d e most most_behind = behind-bounded (universe_of p) (is_anchored p) (pattern_tree p Match) (ending_at (trail_of p)) d e most most_behind
