-- The bracket depth after a piece, given the first byte of the text.
use Rattle.std.proofs.Common.{◌≡◌, ℕ, ◌+◌, ◌-◌, ◌<◌, ◌≤◌, Bool, true, false, cond, List, length, get_or, refl, sym, ◌∙◌}
use Rattle.rl_pylex.specs.Bytes.{has_at, opens_bracket, closes_bracket}
use Rattle.rl_pylex.specs.Rules.{depth_after}
use Rattle.rl_pylex.proofs.Fronts.{has_at-here, has_at-beyond}

first : (A : Type 0) (b : Bool) (x y : A) → b ≡ true → x ≡ cond b x y
first A b x y e = rw e refl

second : (A : Type 0) (b c : Bool) (x y z : A) → b ≡ false → c ≡ true → y ≡ cond b x (cond c y z)
second A b c x y z e f = rw (e, f) refl

third : (A : Type 0) (b c : Bool) (x y z : A) → b ≡ false → c ≡ false → z ≡ cond b x (cond c y z)
third A b c x y z e f = rw (e, f) refl

-- The byte is an opening bracket.
pub depth-opens : (depth : ℕ) (text : List ℕ) → 0 < length text → true ≡ opens_bracket (get_or text 0 0) → depth + 1 ≡ depth_after depth text
unfolding depth_after
depth-opens depth text some opens =
    first ℕ (has_at opens_bracket 0 text) (depth + 1) (cond (has_at closes_bracket 0 text) (depth - 1) depth) (has_at-here opens_bracket 0 text some ∙ sym opens)

-- The byte is a closing bracket.
pub depth-closes : (depth : ℕ) (text : List ℕ) → 0 < length text → false ≡ opens_bracket (get_or text 0 0) → true ≡ closes_bracket (get_or text 0 0) → depth - 1 ≡ depth_after depth text
unfolding depth_after
depth-closes depth text some opens closes =
    second ℕ (has_at opens_bracket 0 text) (has_at closes_bracket 0 text) (depth + 1) (depth - 1) depth
    (has_at-here opens_bracket 0 text some ∙ sym opens) (has_at-here closes_bracket 0 text some ∙ sym closes)

-- The byte isn't a bracket.
pub depth-stays : (depth : ℕ) (text : List ℕ) → 0 < length text → false ≡ opens_bracket (get_or text 0 0) → false ≡ closes_bracket (get_or text 0 0) → depth ≡ depth_after depth text
unfolding depth_after
depth-stays depth text some opens closes =
    third ℕ (has_at opens_bracket 0 text) (has_at closes_bracket 0 text) (depth + 1) (depth - 1) depth
    (has_at-here opens_bracket 0 text some ∙ sym opens) (has_at-here closes_bracket 0 text some ∙ sym closes)

pub depth-ends : (depth : ℕ) (text : List ℕ) → length text ≤ 0 → depth ≡ depth_after depth text
unfolding depth_after
depth-ends depth text few =
    third ℕ (has_at opens_bracket 0 text) (has_at closes_bracket 0 text) (depth + 1) (depth - 1) depth
    (has_at-beyond opens_bracket 0 text few) (has_at-beyond closes_bracket 0 text few)
