-- The entries that a baseline knows. A baseline recognizes an entry by its key: the path, and the subject, which is the call,
-- the kind of the outcome, and the degree, the exceeded limit or the cause of a refusal. Entries with the same key are matched
-- one to one: if the baseline has a key n times, it knows the first n entries with this key.
use Rattle.std.specs.Prelude.{ℕ, Bool, not, List, map, filter, take, nat_lt}
use Rattle.std.specs.List.{count_by, enumerate_from}
use Rattle.rl_report.specs.declared.report.Entry.{Entry}
use Rattle.rl_sarif.specs.Keys.{EntryKey, key_of, same_key}

-- The number of times that the key is in the list of keys.
abbrev pub times : List EntryKey → EntryKey → ℕ
times keys key = count_by (same_key key) keys

-- Whether an entry with the given key is known to the baseline with the keys `baseline`: it has this key more often than
-- `before`, the keys of the entries before this one.
abbrev pub is_known : List EntryKey → List EntryKey → EntryKey → Bool
is_known baseline before key = nat_lt (times before key) (times baseline key)

-- Whether the entry is unknown to the baseline. The pair is the position of the entry, counted from 0, and its key; `keys` are
-- the keys of all entries, in order.
abbrev pub is_unknown : List EntryKey → List EntryKey → ℕ × EntryKey → Bool
is_unknown baseline keys entry = not (is_known baseline (take entry.0 keys) entry.1)

-- The positions of the entries that the baseline doesn't know, counted from 0 and in order; `keys` are the keys of all
-- entries.
abbrev pub unknown_key_positions : List EntryKey → List EntryKey → List ℕ
unknown_key_positions baseline keys = map (λ entry. entry.0) (filter (is_unknown baseline keys) (enumerate_from 0 keys))

-- The positions of the entries that the baseline doesn't know, counted from 0 and in order.
abbrev pub unknown_positions : List EntryKey → List Entry → List ℕ
unknown_positions baseline entries = unknown_key_positions baseline (map key_of entries)
