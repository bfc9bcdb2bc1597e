-- The keys of a table, given the entries of its map.
use Rattle.std.proofs.Common.{◌≡◌, ◌∷◌, [], ◌&&◌, List, ap, refl, string_bytes}
use Rattle.std.specs.List.{list_all, list_any}
use Rattle.std.specs.Str.{bytes_eq}
use Rattle.std.specs.Map.{keys_of}
use Rattle.toml.specs.View.{members_view}
use Rattle.toml.proofs.Views.{Entry}
use Rattle.rl_settings.specs.Settings.{has_known_keys, known_keys}

pub has_known_keys-view : (entries : List Entry) → list_all (λ key. list_any (bytes_eq (string_bytes key)) known_keys) (keys_of entries) ≡ has_known_keys (members_view entries)
has_known_keys-view [] = refl
has_known_keys-view (entry ∷ entries) = ap (λ rest. list_any (bytes_eq (string_bytes entry.0)) known_keys && rest) (has_known_keys-view entries)
