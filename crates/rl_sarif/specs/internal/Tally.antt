-- For private contracts: a tally of keys, which holds how often each key can still be taken.
use Rattle.std.specs.Prelude.{◌≡◌, ℕ, unwrap_or, if◌then◌else◌}
use Rattle.indexmap.specs.IndexMap.{IndexMap, get_by}
use Rattle.rl_sarif.specs.declared.key.Key.{Key}
use Rattle.rl_sarif.specs.Keys.{EntryKey, key_in, same_key}

-- 1 if the keys are equal, otherwise 0.
abbrev pub one_if_same : EntryKey → EntryKey → ℕ
one_if_same a b = if same_key a b then 1 else 0

module _ {S : Type 0} where
  -- How often the key can still be taken: 0 if the tally doesn't have it.
  abbrev pub remaining : IndexMap Key ℕ S → EntryKey → ℕ
  remaining tally key = unwrap_or (get_by (λ k. same_key key (key_in k)) tally) 0

  -- For each value of the struct `Key`, the key can still be taken as often as `counts` says.
  abbrev pub HasCounts : IndexMap Key ℕ S → (EntryKey → ℕ) → Type 0
  HasCounts tally counts = (q : Key) → remaining tally (key_in q) ≡ counts (key_in q)
