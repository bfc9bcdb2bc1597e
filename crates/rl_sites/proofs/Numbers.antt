-- The indexes of tokens and of the significant tokens.
use Rattle.std.proofs.Common.{◌≡◌, ℕ, zero, suc, ◌+◌, ◌<◌, ◌≤◌, true, false, cond, List, [], ◌∷◌, take, drop, length, get_or, sym, arith, subst, Some, None}
use Rattle.std.specs.Prelude.{slice_get}
use Rattle.rl_pylex.specs.declared.token_list.Token.{Token}
use Rattle.rl_pylex.specs.declared.token_list.TokenKind.TheVariants as kind
use Rattle.rl_pylex.specs.Source.{same_kind, IsTokenList, IsInOrder}
use Rattle.rl_pylex.proofs.TokenFacts.{IsInOrder-tokens}
use Rattle.rl_sites.specs.declared.significant.SignificantToken.{SignificantToken}
use Rattle.rl_sites.specs.Significant.{significant_from}
use Rattle.rl_sites.specs.internal.Walks.{IsNumbered}
use Rattle.rl_sites.proofs.Tables.{table_drop}

pub numbered_drop : (k : ℕ) (ms : List SignificantToken) → IsNumbered ms → IsNumbered (drop k ms)
numbered_drop zero ms h = h
numbered_drop (suc k) [] h = h
numbered_drop (suc k) (m ∷ ms) h = numbered_drop k ms h.1

pub numbered_take : (k : ℕ) (ms : List SignificantToken) → IsNumbered ms → IsNumbered (take k ms)
numbered_take zero ms h = tt
numbered_take (suc k) [] h = h
numbered_take (suc k) (m ∷ ms) h = (h.0, numbered_take k ms h.1)

none_is_no : (m : SignificantToken) → None ≡ Some m → ⊥
none_is_no m e = cc

one_token : (x m : SignificantToken) → Some x ≡ Some m → x ≡ m
one_token x m e = cc

pub numbered_at : (ms : List SignificantToken) (i : ℕ) (m : SignificantToken) → IsNumbered ms → Some m ≡ slice_get ms i → m.number < 4194304
numbered_at [] i m h e = absurd (none_is_no m (sym e))
numbered_at (x ∷ ms) zero m h e = subst (λ (y : SignificantToken). y.number < 4194304) (sym (one_token m x e)) h.0
numbered_at (x ∷ ms) (suc i) m h e = numbered_at ms i m h.1 e

pub ruleset numbers = (numbered_drop, numbered_take, numbered_at, table_drop)

-- The significant tokens of a list have indexes from its first index on.
pub significant-numbered : (n : ℕ) (ts : List Token) → n + length ts ≤ 4194304 → IsNumbered (significant_from n ts)
significant-numbered n [] h = tt
significant-numbered n (t ∷ ts) h =
    elim (same_kind kind.Comment t.kind) as (λ b. IsNumbered (cond b (significant_from (n + 1) ts) (record { number = n; inner = t } ∷ significant_from (n + 1) ts))) [
      | true ↦ significant-numbered (n + 1) ts (omega arith)
      | false ↦ (omega arith, significant-numbered (n + 1) ts (omega arith))
    ]

-- A token doesn't begin at a byte place below its index.
begins_late : (s : List ℕ) (ts : List Token) (d : Token) → IsInOrder s ts → (k : ℕ) → k < length ts → k ≤ (get_or ts k d).from
begins_late s ts d h zero l = omega arith
begins_late s ts d h (suc k) l =
    omega (arith, begins_late s ts d h k (omega arith), (h.each k d (omega arith)).some, h.ordered k (suc k) d (omega arith) l)

count_within : (s : List ℕ) (ts : List Token) → IsInOrder s ts → length ts ≤ length s
count_within s [] h = omega arith
count_within s (t ∷ ts) h =
    omega (arith, begins_late s (t ∷ ts) t h (length ts) (omega arith), (h.each (length ts) t (omega arith)).some, (h.each (length ts) t (omega arith)).within)

-- A source has at most 4,194,304 tokens.
pub few_tokens : (s : List ℕ) (ts : List Token) → IsTokenList s ts → length ts ≤ 4194304
few_tokens s ts h = omega (arith, count_within s ts (IsInOrder-tokens s ts h), h.readable.short)

marked : (n : ℕ) (ts : List Token) (ms : List SignificantToken) → n + length ts ≤ 4194304 → ms ≡ significant_from n ts → IsNumbered ms
marked n ts ms h e = subst IsNumbered (sym e) (significant-numbered n ts h)

pub numbered_all : (ts : List Token) (ms : List SignificantToken) → length ts ≤ 4194304 → ms ≡ significant_from 0 ts → IsNumbered ms
numbered_all ts ms h e = marked 0 ts ms (omega arith) e
