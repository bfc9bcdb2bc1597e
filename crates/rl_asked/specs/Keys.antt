-- Keys: which keys each kind of question takes. `Members` are the keys of an object of JSON with their values.
use Rattle.std.specs.Prelude.{◌||◌, Bool, List, [], ◌∷◌, Option, Some, None, is_some, codes, if◌then◌else◌}
use Rattle.std.specs.List.{list_any}
use Rattle.std.specs.Str.{bytes_eq}
use Rattle.serde_json.specs.Data.{Data, Members, no_members, member}
use Rattle.serde_json.specs.Find.{get}
use Rattle.rl_asked.specs.Words.{Text}
use Rattle.rl_asked.specs.declared.words.Ask.{Ask}
use Rattle.rl_asked.specs.declared.words.Ask.TheVariants as ask

-- The keys that each question about one pattern takes.
abbrev pub pattern_keys : List Text → List Text
pattern_keys more = codes "ask" ∷ codes "pattern" ∷ codes "flags" ∷ codes "bytes" ∷ more

-- The keys that each question about two patterns takes.
abbrev pub pair_keys : List Text → List Text
pair_keys more = codes "ask" ∷ codes "first" ∷ codes "second" ∷ codes "flags" ∷ codes "bytes" ∷ more

-- The keys that a question of this kind takes.
abbrev pub keys_of : Ask → List Text
keys_of ask.Class = pattern_keys (codes "mode" ∷ codes "pairs" ∷ [])
keys_of ask.Ways = pattern_keys (codes "mode" ∷ codes "pairs" ∷ [])
keys_of ask.Tree = pattern_keys []
keys_of ask.Compare = pair_keys (codes "mode" ∷ codes "limit" ∷ [])
keys_of ask.Spans = pair_keys (codes "mode" ∷ codes "limit" ∷ codes "groups" ∷ [])
keys_of ask.Found = pattern_keys (codes "mode" ∷ codes "text" ∷ codes "from" ∷ codes "advance" ∷ [])
keys_of ask.Suggest = pattern_keys (codes "pairs" ∷ [])
keys_of ask.Cost = pattern_keys (codes "mode" ∷ codes "text" ∷ [])
keys_of ask.CostOfFamily = pattern_keys (codes "mode" ∷ codes "heads" ∷ codes "pumps" ∷ codes "k" ∷ [])
keys_of ask.Version = codes "ask" ∷ []

-- The first key, in order, that a question of this kind doesn't take, or `None` if it takes them all.
abbrev pub first_unknown : Ask → Members → Option Text
first_unknown kind no_members = None
first_unknown kind (member key value rest) = if list_any (bytes_eq key) (keys_of kind) then first_unknown kind rest else Some key

-- Whether an object has one of the keys for a family.
abbrev pub has_family : Data → Bool
has_family d = is_some (get (codes "heads") d) || (is_some (get (codes "pumps") d) || is_some (get (codes "k") d))

-- The kind of a question with these keys: one about the cost of a family if it is about cost and has a key for a family, and
-- otherwise the kind by its word.
abbrev pub form_of : Ask → Data → Ask
form_of ask.Cost d = if has_family d then ask.CostOfFamily else ask.Cost
form_of kind d = kind
