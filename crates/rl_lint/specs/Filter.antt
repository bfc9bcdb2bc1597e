-- The entries that a report shows: those that the baseline doesn't know. An entry is one result of a report: for a call of
-- `re`, for a source that can't be cut into tokens, or for a path without a source. A baseline is an earlier report in JSON.
-- The key of an entry is what a baseline recognizes it by: its path, call and result. Entries with the same key are matched
-- one to one: of the entries with a key, the baseline knows the first ones, at most as many as it has keys like it.
use Rattle.std.specs.Prelude.{ℕ, ◌-◌, List, length, filter_map, slice_get, Option, Some, None, option_map}
use Rattle.rl_report.specs.declared.report.Entry.{Entry}
use Rattle.rl_sarif.specs.Keys.{EntryKey}
use Rattle.rl_sarif.specs.Known.{unknown_positions}

-- The entries that a baseline with these keys doesn't know, in their order. Without keys, these are all entries.
abbrev pub unknown_entries : List EntryKey → List Entry → List Entry
unknown_entries keys entries = filter_map (slice_get entries) (unknown_positions keys entries)

-- The entries that the report shows: those that the baseline doesn't know, or all of them if there is no baseline.
abbrev pub visible_entries : Option (List EntryKey) → List Entry → List Entry
visible_entries None entries = entries
visible_entries (Some keys) entries = unknown_entries keys entries

-- The number of entries that the baseline hides, because it knows them, or `None` if there is no baseline.
abbrev pub hidden_count : Option (List EntryKey) → List Entry → Option ℕ
hidden_count baseline entries = option_map (λ keys. length entries - length (unknown_entries keys entries)) baseline
