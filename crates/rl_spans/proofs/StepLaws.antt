-- What a side's threads try is what its tree's threads try.
use Rattle.std.proofs.Common.{◌≡◌, ℕ, ◌<◌, ◌≤◌, Bool, true, false, List, length, All, Option, None, Some, Contains, suc, sym, ap, ap₂, subst, ◌∙◌, arith}
use Rattle.rl_marks.specs.Marked.{Marked}
use Rattle.rl_marks.specs.declared.threads.MarkItem.{MarkItem}
use Rattle.rl_marks.specs.declared.threads.Thread.{Thread}
use Rattle.rl_marks.specs.declared.threads.Try.{Try}
use Rattle.rl_syntax.specs.declared.limits.TheConstants.{MOST_NODES}
use Rattle.rl_marks.specs.internal.MarkItems.{places}
use Rattle.rl_marks.specs.Hits.{Matcher}
use Rattle.rl_marks.specs.declared.threads.ThreadPair.{ThreadPair}
use Rattle.rl_marks.specs.internal.Pairs.{stops_at, Agrees}
use Rattle.rl_marks.specs.internal.PairLetters.{guards_of_both, SameKind}
use Rattle.rl_marks.specs.internal.Threads.{spread, taken, stopped, moved, halted, named}
use Rattle.rl_spans.specs.internal.Names.{place_named}
use Rattle.rl_spans.specs.internal.Machines.{IsMove}
use Rattle.rl_spans.specs.declared.shown.Shown.{Shown}
use Rattle.rl_spans.specs.internal.Shown.{IsShown, shown_spread, taken_by}
use Rattle.rl_spans.specs.internal.Sides.{HasItems, tests_at}
use Rattle.rl_spans.proofs.ShownLaws.{spread_are, taken_are, stopped_none}
use Rattle.rl_spans.proofs.BelowLaws.{spread-below}
use Rattle.rl_spans.proofs.TestLaws.{tests-count, tests-are}

-- Threads in a side's states, which are other threads by another name of the list.
pub spread-side : (m : Marked) (rows : List (List MarkItem)) → HasItems m rows → (before next : Shown) → IsShown before → IsShown next
    → (states : ℕ) → states ≡ length rows → (threads others : List Thread) → All (λ (t : Thread). t.state < states) threads → threads ≡ others
    → shown_spread rows before next 0 threads ≡ spread m before.code next.code 0 others
spread-side m rows h before next p q states same threads others all e =
    spread_are m rows h.items before next p q 0 threads (subst (λ k. All (λ (t : Thread). t.state < k) threads) same all)
    ∙ ap (spread m before.code next.code 0) e

pub taken-side : (m : Marked) (b n : Option ℕ) (code : ℕ) (accepts : Bool) (threads : List Thread)
    → taken_by (tests_at m code) accepts (spread m b n 0 threads) ≡ taken m accepts code (spread m b n 0 threads)
taken-side m b n code accepts threads =
    taken_are m code (tests_at m code) (tests-are m code) accepts (spread m b n 0 threads)
    (spread-below (length (tests_at m code)) m (omega (arith, tests-count m code)) b n 0 threads)

pub none-where : (accepts : Bool) (l : List Try) → accepts ≡ false → None ≡ stopped accepts l
none-where accepts l e = sym (subst (λ a. stopped a l ≡ None) (sym e) (stopped_none l))

pub tests-few : (m : Marked) (code : ℕ) (tests : List Bool) → tests ≡ tests_at m code → places m ≤ MOST_NODES → length tests ≤ MOST_NODES
tests-few m code tests e few = subst (λ l. length l ≤ MOST_NODES) (sym e) (omega (arith, tests-count m code, few))

-- A pair that is the step of another one, but for names, is its move.
pub move-kept : (s t : Matcher) (pairs : List ThreadPair) (accepts : Bool) (p q : ThreadPair) (code : ℕ) (names : List ℕ) (before : Option ℕ) (sl sr agree : Bool) (left right : List Thread)
    → Contains pairs q → before ≡ p.before → sl ≡ stops_at accepts (Some code) s.ending → sr ≡ stops_at accepts (Some code) t.ending
    → left ≡ moved s.tree sl before code 0 (named suc p.left) → right ≡ moved t.tree sr before code 0 (named suc p.right)
    → (agree ≡ true → Agrees p.agree (halted s.tree sl before (Some code) 0 (named suc p.left)) (halted t.tree sr before (Some code) 0 (named suc p.right)))
    → SameKind (guards_of_both s t) (Some code) q.before
    → named (place_named names) q.left ≡ left → named (place_named names) q.right ≡ right → (q.agree ≡ true → agree ≡ true)
    → IsMove s t pairs accepts p code
move-kept s t pairs accepts p q code names before sl sr agree left right there same stops_left stops_right is_left is_right agrees kind named_left named_right onward = (
  place_named names,
  q,
  there,
  record {
    same_left = named_left ∙ is_left ∙ ap₂ (λ b o. moved s.tree b o code 0 (named suc p.left)) stops_left same;
    same_right = named_right ∙ is_right ∙ ap₂ (λ b o. moved t.tree b o code 0 (named suc p.right)) stops_right same;
    same_kind = kind;
    agrees = λ h.
        subst (λ o. Agrees p.agree (halted s.tree (stops_at accepts (Some code) s.ending) o (Some code) 0 (named suc p.left)) (halted t.tree (stops_at accepts (Some code) t.ending) o (Some code) 0 (named suc p.right)))
        same
        (subst (λ b. Agrees p.agree (halted s.tree b before (Some code) 0 (named suc p.left)) (halted t.tree (stops_at accepts (Some code) t.ending) before (Some code) 0 (named suc p.right)))
        stops_left
        (subst (λ b. Agrees p.agree (halted s.tree sl before (Some code) 0 (named suc p.left)) (halted t.tree b before (Some code) 0 (named suc p.right)))
        stops_right (agrees (onward h))));
  },
)
