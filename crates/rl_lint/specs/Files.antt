-- A file that the words name: it is read with one call of the tree, and the run goes on with what its bytes give. The tree of
-- files is the file system that the run reads. A moment is this tree at one point in time: what it reveals about itself (its
-- map of paths and the trail of the calls made on it, if it reveals them) and the number of its calls that failed. The map is
-- a list of nodes, which are paths with what is there. An ending says what the run does: it refuses with a message, it reports
-- an unreadable file with a message, or it writes a text.
use Rattle.std.specs.Prelude.{◌≡◌, ℕ, ◌≤◌, List, [], ◌∷◌, ◌++◌, take, Option, Some, None, option_map, is_none, IfSome, codes}
use Rattle.rl_source.specs.Asked.{call_of}
use Rattle.rl_source.specs.Faults.{Rose}
use Rattle.rl_source.specs.NodeMap.{bytes_at}
use Rattle.rl_source.specs.Revealed.{Revealed, after}
use Rattle.rl_source.specs.declared.nodes.Node.{Node}
use Rattle.rl_source.specs.declared.nodes.Query.TheVariants.{Read}
use Rattle.rl_walk.specs.Visits.{Moment}
use Rattle.rl_lint.specs.declared.limits.TheConstants.{MOST_READ, WHOLE_FILE}
use Rattle.rl_lint.specs.Endings.{Ending, refuses, unreadable}
use Rattle.rl_report.specs.Names.{Text}

-- How much of a file is read. The call asks for at most `at_most` bytes. `there` gives the bytes that it is to return for a
-- path and a map, or none if the map has no file at the path.
pub record Portion : Type 0 where
  pub at_most : ℕ
  pub there : Text → List Node → Option Text

-- What is read of a settings file: all of its bytes. The call asks for at most `WHOLE_FILE` bytes, and no answer has so many.
abbrev pub whole_bytes : Portion
whole_bytes = record { at_most = WHOLE_FILE; there = λ path nodes. bytes_at nodes path }

-- The first `limit` bytes of a file, or all of them if there are fewer. The call asks for at most so many.
abbrev pub bytes_up_to : ℕ → Portion
bytes_up_to limit = record { at_most = limit; there = λ path nodes. option_map (take limit) (bytes_at nodes path) }

-- What is read of a baseline or a certificate: its first `MOST_READ` bytes.
abbrev pub first_bytes : Portion
first_bytes = bytes_up_to MOST_READ

-- Between the two moments the tree was asked once for this portion of the file at the path. `read` is its answer, or `None` if
-- the call failed. If the tree reveals its map and trail, these are the bytes that the portion has in this map, and the trail
-- gained exactly this call, with the most bytes that it may ask for, marked as failed or not.
pub record ReadsFile (portion : Portion) (path : Text) (read : Option Text) (old new : Moment) : Type 0 where
  pub trail : new.told ≡ after (call_of (Read portion.at_most) path (is_none read) ∷ []) old.told
  pub right : (t : Revealed) → old.told ≡ Some t → IfSome read (λ bytes. portion.there path t.nodes ≡ Some bytes)
  pub later : old.faults ≤ new.faults
  pub cause : read ≡ None → Rose old.faults new.faults

-- The file at the path is read, and the run goes on as `Next` says with a value that its bytes give, as `Gives` defines it. If
-- the call fails (`unreadable`) or the bytes give no value (`refuses`), the run ends there, and the message contains `name`,
-- such as `baseline`.
pub data ReadsThen {A : Type 0} (name : Text) (portion : Portion) (Gives : Text → A → Type 0)
    (Next : A → Moment → Moment → Ending → Type 0) (path : Text) (old new : Moment) : Ending → Type 0 where
  file_unreadable : ReadsFile portion path None old new
      → ReadsThen name portion Gives Next path old new (unreadable (codes "relint: " ++ (name ++ codes " unreadable\n")))
  file_refused : {bytes : Text} → ReadsFile portion path (Some bytes) old new → ((x : A) → ¬ Gives bytes x)
      → ReadsThen name portion Gives Next path old new (refuses (codes "relint: " ++ (name ++ codes " refused\n")))
  file_taken : {bytes : Text} {x : A} {mid : Moment} {ending : Ending} → ReadsFile portion path (Some bytes) old mid → Gives bytes x → Next x mid new ending
      → ReadsThen name portion Gives Next path old new ending

-- A file is named, and its bytes give no value, as `Gives` defines it. If `told` reveals the tree's map, the bytes are those of
-- the portion of the file at the path `named` in this map, so the map has a file there. If `told` is `None`, the bytes may be
-- any that give no value. If `named` is `None`, this doesn't hold.
pub record HasRefused {A : Type 0} (Gives : Text → A → Type 0) (portion : Portion) (named : Option Text) (told : Option Revealed) : Type 0 where
  pub path : Text
  pub bytes : Text
  pub is_named : named ≡ Some path
  pub right : (t : Revealed) → told ≡ Some t → portion.there path t.nodes ≡ Some bytes
  pub refused : (x : A) → ¬ Gives bytes x
