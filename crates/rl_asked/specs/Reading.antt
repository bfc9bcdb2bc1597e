-- Reading: which question a value of JSON asks, or the message on its first mistake. A value of a key is read as `Values.antt`
-- says, and `Keys.antt` says which keys a kind of question takes.
use Rattle.std.specs.Prelude.{ℕ, true, false, ◌++◌, Option, Some, None, Result, Ok, Err, codes, if◌then◌else◌}
use Rattle.serde_json.specs.Data.{Data, Items, Members}
use Rattle.serde_json.specs.Find.{as_bool, as_object, as_str, get}
use Rattle.rl_ranges.specs.declared.universe.Universe.{Universe}
use Rattle.rl_ranges.specs.declared.universe.Universe.TheVariants.{Str}
use Rattle.rl_syntax.specs.declared.re.Mode.{Mode}
use Rattle.rl_syntax.specs.declared.re.Mode.TheVariants as mode
use Rattle.rl_marks.specs.declared.asked.How.{How}
use Rattle.rl_marks.specs.declared.asked.How.TheVariants as how
use Rattle.rl_pattern.specs.Codes.{no_flags}
use Rattle.rl_asked.specs.Keys.{first_unknown, form_of}
use Rattle.rl_asked.specs.Questions.{Asked, class, compare, cost, family_cost, found, spans, suggest, tree, version, ways}
use Rattle.rl_asked.specs.Values.{ask_in, bytes_in, flags_in, from_in, has_pumps, how_in, mode_in, number_in, text_in, texts_in, texts_of}
use Rattle.rl_asked.specs.Words.{Text}
use Rattle.rl_asked.specs.declared.limits.TheConstants.{LEAST_LIMIT, MOST_COMPARE_LIMIT, MOST_PAIRS, MOST_SPANS_LIMIT, USUAL_COMPARE_LIMIT, USUAL_PAIRS, USUAL_SPANS_LIMIT}
use Rattle.rl_asked.specs.declared.question.Terms.{Terms}
use Rattle.rl_asked.specs.declared.words.Ask.{Ask}
use Rattle.rl_asked.specs.declared.words.Ask.TheVariants as ask

-- ---- keys

-- A result of reading, or the message on the first mistake.
abbrev pub Read : Type 0 → Type 0
Read A = Result A Text

-- What follows from what was read. A `do` block is a chain of these: the first mistake in it counts.
infixl 10 ◌>>=◌
abbrev pub ◌>>=◌ : {A B : Type 0} → Read A → (A → Read B) → Read B
Ok a >>= f = f a
Err message >>= f = Err message

-- What the value of the key stands for, or the message that it has a wrong value.
abbrev pub right : {A : Type 0} → Text → Option A → Read A
right key (Some a) = Ok a
right key None = Err (codes "wrong value of " ++ key)

-- The value if there is one, or the message that the key is missing.
abbrev pub there : {A : Type 0} → Text → Option A → Read A
there key (Some a) = Ok a
there key None = Err (codes "missing key " ++ key)

-- What the value of the key stands for, as `read` says. The key must be there.
abbrev pub needed : {A : Type 0} → Text → (Data → Option A) → Data → Read A
needed key read d = there key (get key d) >>= λ value. right key (read value)

-- What the value stands for, or the usual one if there is none.
abbrev pub or_usual : {A : Type 0} → Text → (Data → Option A) → A → Option Data → Read A
or_usual key read usual (Some value) = right key (read value)
or_usual key read usual None = Ok usual

-- What the value of the key stands for, or the usual one if the key isn't there.
abbrev pub optional : {A : Type 0} → Text → (Data → Option A) → A → Data → Read A
optional key read usual d = or_usual key read usual (get key d)

-- The limit at the key, from `LEAST_LIMIT` to `most`, or the usual one.
abbrev pub limit_read : Text → ℕ → ℕ → Data → Read ℕ
limit_read key most usual d = optional key (number_in LEAST_LIMIT most) usual d

-- The limit at the key `pairs`.
abbrev pub pairs_read : Data → Read ℕ
pairs_read d = limit_read (codes "pairs") MOST_PAIRS USUAL_PAIRS d

-- The mode at the key `mode`, usually `search`.
abbrev pub mode_read : Data → Read Mode
mode_read d = optional (codes "mode") mode_in mode.Search d

-- How the patterns of a question are read: by the keys `flags` and `bytes`.
abbrev pub terms_read : Data → Read Terms
terms_read d = do
  flags ← optional (codes "flags") flags_in no_flags d
  universe ← optional (codes "bytes") bytes_in Str d
  Ok (record { flags = flags; universe = universe })

-- ---- questions

abbrev pub class_read : Data → Read Asked
class_read d = do
  pattern ← needed (codes "pattern") as_str d
  terms ← terms_read d
  mode ← mode_read d
  pairs ← pairs_read d
  Ok (class pattern terms mode pairs)

abbrev pub ways_read : Data → Read Asked
ways_read d = do
  pattern ← needed (codes "pattern") as_str d
  terms ← terms_read d
  mode ← mode_read d
  pairs ← pairs_read d
  Ok (ways pattern terms mode pairs)

abbrev pub tree_read : Data → Read Asked
tree_read d = do
  pattern ← needed (codes "pattern") as_str d
  terms ← terms_read d
  Ok (tree pattern terms)

abbrev pub compare_read : Data → Read Asked
compare_read d = do
  first ← needed (codes "first") as_str d
  second ← needed (codes "second") as_str d
  terms ← terms_read d
  mode ← mode_read d
  limit ← limit_read (codes "limit") MOST_COMPARE_LIMIT USUAL_COMPARE_LIMIT d
  Ok (compare first second terms mode limit)

abbrev pub spans_read : Data → Read Asked
spans_read d = do
  first ← needed (codes "first") as_str d
  second ← needed (codes "second") as_str d
  terms ← terms_read d
  asks ← optional (codes "mode") how_in how.Match d
  limit ← limit_read (codes "limit") MOST_SPANS_LIMIT USUAL_SPANS_LIMIT d
  groups ← optional (codes "groups") as_bool true d
  Ok (spans first second terms asks limit groups)

abbrev pub found_read : Data → Read Asked
found_read d = do
  pattern ← needed (codes "pattern") as_str d
  terms ← terms_read d
  mode ← mode_read d
  text ← needed (codes "text") (text_in terms.universe) d
  from ← optional (codes "from") (from_in text) 0 d
  advance ← optional (codes "advance") as_bool false d
  Ok (found pattern terms mode text from advance)

abbrev pub suggest_read : Data → Read Asked
suggest_read d = do
  pattern ← needed (codes "pattern") as_str d
  terms ← terms_read d
  pairs ← pairs_read d
  Ok (suggest pattern terms pairs)

abbrev pub cost_read : Data → Read Asked
cost_read d = do
  pattern ← needed (codes "pattern") as_str d
  terms ← terms_read d
  mode ← mode_read d
  text ← needed (codes "text") (text_in terms.universe) d
  Ok (cost pattern terms mode text)

-- The pumps, if there is one less of them than of heads.
abbrev pub pumps_for : Items → Items → Read Items
pumps_for heads pumps = if has_pumps heads pumps then Ok pumps else Err (codes "wrong value of pumps")

-- The pumps of a family with these heads, at the key `pumps`.
abbrev pub pumps_read : Universe → Items → Data → Read Items
pumps_read universe heads d = needed (codes "pumps") (texts_in universe) d >>= pumps_for heads

abbrev pub family_read : Data → Read Asked
family_read d = do
  pattern ← needed (codes "pattern") as_str d
  terms ← terms_read d
  mode ← mode_read d
  heads ← needed (codes "heads") (texts_in terms.universe) d
  pumps ← pumps_read terms.universe heads d
  k ← needed (codes "k") (number_in 0 4294967295) d
  Ok (family_cost pattern terms mode (texts_of heads) (texts_of pumps) k)

-- The question of this kind that an object asks which has only keys that this kind takes.
abbrev pub kind_read : Ask → Data → Read Asked
kind_read ask.Class d = class_read d
kind_read ask.Ways d = ways_read d
kind_read ask.Tree d = tree_read d
kind_read ask.Compare d = compare_read d
kind_read ask.Spans d = spans_read d
kind_read ask.Found d = found_read d
kind_read ask.Suggest d = suggest_read d
kind_read ask.Cost d = cost_read d
kind_read ask.CostOfFamily d = family_read d
kind_read ask.Version d = Ok version

-- The kind, if the first unknown key is `None`, and otherwise the message that names the key.
abbrev pub known : Ask → Option Text → Read Ask
known kind None = Ok kind
known kind (Some key) = Err (codes "unknown key " ++ key)

-- The members of an object, or the message that the value is none.
abbrev pub members_read : Option Members → Read Members
members_read (Some members) = Ok members
members_read None = Err (codes "no object")

-- The kind of question that an object asks, if it has only keys that this kind takes.
abbrev pub ask_read : Data → Read Ask
ask_read d = do
  members ← members_read (as_object d)
  word ← needed (codes "ask") ask_in d
  known (form_of word d) (first_unknown (form_of word d) members)

-- The question that a value asks, or the message on the first mistake: it is no object; its key `ask` is missing or names no
-- kind of question; it has a key that this kind doesn't take; or a key is missing or has a wrong value.
abbrev pub question_read : Data → Read Asked
question_read d = ask_read d >>= λ kind. kind_read kind d
