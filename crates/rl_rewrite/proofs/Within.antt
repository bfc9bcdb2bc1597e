-- A trial exceeds no limit that its body doesn't exceed.
use Rattle.std.proofs.Common.{◌≡◌, ◌≤◌, Bool, true, false, ◌||◌, List, [], ◌∷◌, length, refl, sym, subst, true≢false, arith}
use Rattle.rl_ranges.specs.declared.universe.Universe.{Universe}
use Rattle.rl_ranges.specs.Letters.{classes}
use Rattle.rl_ranges.specs.Text.{code_count}
use Rattle.rl_syntax.specs.declared.span.Span.{Span}
use Rattle.rl_syntax.specs.Lowering.{lowered}
use Rattle.rl_syntax.specs.PatTree.{PatTree}
use Rattle.rl_syntax.specs.Tree.{size}
use Rattle.rl_ranges.specs.declared.letters.TheConstants.{MOST_LETTERS}
use Rattle.rl_syntax.specs.declared.limits.TheConstants.{MOST_NODES}
use Rattle.rl_prio.specs.Letters.{all_sets}
use Rattle.rl_equiv.specs.Bases.{DistinguishesNoMore}
use Rattle.rl_equiv.specs.Limits.{AreWithin, IsWithin}
use Rattle.rl_pattern.specs.Suggested.{same_span, among, no_span, may_go, without}
use Rattle.rl_rewrite.proofs.Fewer.{Fewer, fewer_nodes, fewer_moves, left_fewer}
use Rattle.rl_rewrite.proofs.FewerLetters.{all_fewer, joint_fewer, letters_fewer}
use Rattle.rl_rewrite.proofs.Stays.{none_left}

none_among : (more : Span → Bool) (s : Span) → among [] s ≡ true → more s ≡ true
none_among more s h = absurd (true≢false (sym h))

one_more : (b : Span) (dropped : List Span) (s : Span) → among dropped s ≡ true → among (b ∷ dropped) s ≡ true
one_more b dropped s h = go (same_span b s)
  where
    go : (a : Bool) → (a || among dropped s) ≡ true
    go true = refl
    go false = h

-- What is left has fewer alternatives than the body.
pub left_body : (dropped : List Span) (body : PatTree) → may_go (among dropped) body ≡ true → Fewer (without dropped body) (lowered body)
left_body dropped body may = subst (Fewer (without dropped body)) (none_left body) (left_fewer (among []) (among dropped) no_span (none_among (among dropped)) body may)

pub left_small : (u : Universe) (dropped : List Span) (body : PatTree) → IsWithin u (lowered body) → may_go (among dropped) body ≡ true → size (without dropped body) ≤ MOST_NODES
left_small u dropped body w may = let a = fewer_nodes (left_body dropped body may) in let b = w.small in omega (arith, a, b)

-- Nor does what is left.
pub left_within : (u : Universe) (dropped : List Span) (body : PatTree) → IsWithin u (lowered body) → may_go (among dropped) body ≡ true → IsWithin u (without dropped body)
left_within u dropped body w may =
    let f = left_body dropped body may in
    record {
      small = left_small u dropped body w may;
      few_letters = (let x = letters_fewer (code_count u) f in let y = w.few_letters in omega (arith, x, y));
      few_moves = (let x = fewer_moves f in let y = w.few_moves in omega (arith, x, y));
    }

-- What is left after one more branch is dropped distinguishes no more codes.
pub trial_letters : (b : Span) (dropped : List Span) (body : PatTree) → may_go (among (b ∷ dropped)) body ≡ true → DistinguishesNoMore (without dropped body) (without (b ∷ dropped) body)
trial_letters b dropped body more = all_fewer (left_fewer (among dropped) (among (b ∷ dropped)) no_span (one_more b dropped) body more)

pub trial_within : (u : Universe) (b : Span) (dropped : List Span) (body : PatTree) → IsWithin u (lowered body) → may_go (among dropped) body ≡ true → may_go (among (b ∷ dropped)) body ≡ true → AreWithin u (without dropped body) (without (b ∷ dropped) body)
trial_within u b dropped body w may more =
    let f = left_body dropped body may in
    let g = left_body (b ∷ dropped) body more in
    let h = left_fewer (among dropped) (among (b ∷ dropped)) no_span (one_more b dropped) body more in
    let letters : length (classes (all_sets (without dropped body)) (code_count u)) ≤ MOST_LETTERS = (let x = letters_fewer (code_count u) f in let y = w.few_letters in omega (arith, x, y)) in
    record {
      small = record { first_small = left_small u dropped body w may; second_small = left_small u (b ∷ dropped) body w more };
      few_letters = subst (λ l. length l ≤ MOST_LETTERS) (sym (joint_fewer u h)) letters;
      first_moves = (let x = fewer_moves f in let y = w.few_moves in omega (arith, x, y));
      second_moves = (let x = fewer_moves g in let y = w.few_moves in omega (arith, x, y));
    }
