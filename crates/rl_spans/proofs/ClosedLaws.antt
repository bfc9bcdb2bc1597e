-- Lists of pairs that keep their pairs are closed relations.
use Rattle.std.proofs.Common.{◌≡◌, ℕ, ◌<◌, ◌≤◌, Bool, true, List, length, get_or, Option, None, Some, Contains, refl, sym, subst, arith}
use Rattle.rl_ranges.specs.declared.universe.Universe.{Universe}
use Rattle.rl_ranges.specs.Text.{code_count}
use Rattle.rl_syntax.specs.Tree.{sets_in, guard_sets}
use Rattle.rl_prio.specs.Letters.{all_sets}
use Rattle.rl_prio.proofs.LikenessLemmas.{Finer, Finer-first, Finer-second, Finer-right, Finer-both}
use Rattle.rl_marks.specs.Marked.{Marked, empty, one, guard, both, either, many, further, mark, plain, nodes}
use Rattle.rl_marks.specs.Hits.{Matcher}
use Rattle.rl_marks.specs.declared.threads.ThreadPair.{ThreadPair}
use Rattle.rl_marks.specs.declared.threads.Origin.{Origin}
use Rattle.rl_marks.specs.declared.threads.Origin.TheVariants.{EachPlace, TextStart}
use Rattle.rl_marks.specs.internal.MarkItems.{places}
use Rattle.rl_marks.specs.internal.Pairs.{begin, IsCode}
use Rattle.rl_marks.specs.internal.PairLetters.{sets_of_both, guards_of_both, SameKind, KeepsLetters, IsClosedOver}
use Rattle.rl_marks.specs.declared.asked.How.{How}
use Rattle.rl_marks.specs.declared.pattern.MarkedPattern.{MarkedPattern}
use Rattle.rl_marks.specs.SameFinds.{matcher_in, FindAlike}
use Rattle.rl_marks.specs.internal.Seeking.{IsAsked, asked_in, origin_in}
use Rattle.rl_marks.proofs.AlikeLaws.{closed_over-alike}
use Rattle.rl_spans.specs.internal.Codes.{AreEnough}
use Rattle.rl_spans.specs.internal.Machines.{KeepsCodes, IsOneOf, IsClosedOn}

pub closed-each : (s t : Matcher) (pairs : List ThreadPair) (codes : List ℕ) → ((accepts : Bool) → KeepsCodes s t pairs codes accepts (begin None))
    → ((k : ℕ) → k < length codes → (accepts : Bool) → KeepsCodes s t pairs codes accepts (begin (Some (get_or codes k 0))))
    → ((p : ThreadPair) → Contains pairs p → KeepsCodes s t pairs codes true p) → IsClosedOn EachPlace s t pairs codes
closed-each s t pairs codes start each kept = record { begins = begins; kept = kept }
  where
    begins : (before : Option ℕ) → IsOneOf codes before → (accepts : Bool) → IsAsked EachPlace before accepts → KeepsCodes s t pairs codes accepts (begin before)
    begins None which accepts asked = start accepts
    begins (Some code) which accepts asked = subst (λ c. KeepsCodes s t pairs codes accepts (begin (Some c))) which.2 (each which.0 which.1 accepts)

pub closed-start : (s t : Matcher) (pairs : List ThreadPair) (codes : List ℕ) → KeepsCodes s t pairs codes true (begin None)
    → ((p : ThreadPair) → Contains pairs p → KeepsCodes s t pairs codes true p) → IsClosedOn TextStart s t pairs codes
closed-start s t pairs codes start kept = record {
  begins = λ before which accepts asked.
      subst (λ o. KeepsCodes s t pairs codes accepts (begin o)) (sym asked.0) (subst (λ b. KeepsCodes s t pairs codes b (begin None)) (sym asked.1) start);
  kept = kept;
}

module _ (u : Universe) (s t : Matcher) (pairs : List ThreadPair) (codes : List ℕ) (enough : AreEnough (sets_of_both s t) (code_count u) codes) where
  all_guards : Finer (sets_of_both s t) (guards_of_both s t)
  all_guards = Finer-both (sets_of_both s t) (guard_sets (plain s.tree)) (guard_sets (plain t.tree))
      (Finer-right (sets_of_both s t) (sets_in (plain s.tree)) (guard_sets (plain s.tree)) (Finer-first (all_sets (plain s.tree)) (all_sets (plain t.tree))))
      (Finer-right (sets_of_both s t) (sets_in (plain t.tree)) (guard_sets (plain t.tree)) (Finer-second (all_sets (plain s.tree)) (all_sets (plain t.tree))))

  keeps : (accepts : Bool) (p : ThreadPair) → KeepsCodes s t pairs codes accepts p → KeepsLetters u s t (Contains pairs) accepts p
  keeps accepts p k = record {
    at_end = k.at_end;
    at_last = k.at_last;
    on = λ code lt. let e = enough code lt in let step = k.on e.0 e.1 in (get_or codes e.0 0, e.2, step.0, step.1, step.2, step.3);
  }

  some_begin : (origin : Origin) → IsClosedOn origin s t pairs codes → (before : Option ℕ) → IsCode u before → (accepts : Bool) → IsAsked origin before accepts
      → (o : Option ℕ) × SameKind (guards_of_both s t) before o × KeepsLetters u s t (Contains pairs) accepts (begin o)
  some_begin origin closed None is_code accepts asked = (None, tt, keeps accepts (begin None) (closed.begins None tt accepts asked))
  some_begin TextStart closed (Some code) is_code accepts asked = absurd (no asked.0)
    where
      no : Some code ≡ None → ⊥
      no h = cc
  some_begin EachPlace closed (Some code) is_code accepts asked =
      let e = enough code is_code in
      (Some (get_or codes e.0 0), all_guards code (get_or codes e.0 0) e.2, keeps accepts (begin (Some (get_or codes e.0 0))) (closed.begins (Some (get_or codes e.0 0)) (e.0, e.1, refl) accepts tt))

  pub closed-over : (origin : Origin) → IsClosedOn origin s t pairs codes → IsClosedOver u origin s t (Contains pairs)
  closed-over origin closed = record {
    begins = some_begin origin closed;
    kept = λ p there. keeps true p (closed.kept p there);
  }

pub places-few : (m : Marked) → places m ≤ nodes m
places-few empty = omega arith
places-few (one set) = omega arith
places-few (guard g) = omega arith
places-few (both e f) = omega (arith, places-few e, places-few f)
places-few (either e f) = omega (arith, places-few e, places-few f)
places-few (many e greedy) = omega (arith, places-few e)
places-few (further e f) = omega (arith, places-few e, places-few f)
places-few (mark n e) = omega (arith, places-few e)

-- What a closed relation of a machine shows of two patterns.
pub closed-alike : (how : How) (p q : MarkedPattern) (s t : Matcher) (pairs : List ThreadPair) (codes : List ℕ)
    → s ≡ asked_in how p.universe (matcher_in how p) → t ≡ asked_in how p.universe (matcher_in how q)
    → AreEnough (sets_of_both s t) (code_count p.universe) codes → IsClosedOn (origin_in how) s t pairs codes → FindAlike how p q
closed-alike how p q s t pairs codes first second enough closed =
    closed_over-alike how p q pairs
    (subst (λ m. IsClosedOver p.universe (origin_in how) m (asked_in how p.universe (matcher_in how q)) (Contains pairs)) first
    (subst (λ m. IsClosedOver p.universe (origin_in how) s m (Contains pairs)) second (closed-over p.universe s t pairs codes enough (origin_in how) closed)))
