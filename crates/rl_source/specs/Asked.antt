-- What a call of a tree of files adds to the trail, and what its failure implies. The trail is the list of the calls on the
-- tree so far, in order, except those that ran out of memory. The fault count of a tree is the number of its calls that
-- returned `Failed`, at most 2^64 - 1.
use Rattle.std.specs.Prelude.{◌≡◌, ℕ, ◌≤◌, Bool, true, false, List, [], ◌∷◌, Result, Ok, Err, IsErrOf}
use Rattle.rl_source.specs.Faults.{Rose, next_count}
use Rattle.rl_source.specs.declared.nodes.Call.{Call}
use Rattle.rl_source.specs.declared.nodes.Query.{Query}
use Rattle.rl_source.specs.declared.trees.TreeError.{TreeError}
use Rattle.rl_source.specs.declared.trees.TreeError.TheVariants as error

-- The call that asks this about the path. The query of a read says how many bytes it asks for at most. `failed` says whether
-- the call returned `Failed`.
abbrev pub call_of : Query → List ℕ → Bool → Call
call_of query path failed = record { query = query; path = path; failed = failed }

-- What the call with this query, path and result adds to the trail: the call, with a mark if it failed. A call that ran out of
-- memory adds nothing.
abbrev pub noted : {A : Type 0} → Query → List ℕ → Result A TreeError → List Call
noted query path (Ok answer) = call_of query path false ∷ []
noted query path (Err error.Failed) = call_of query path true ∷ []
noted query path (Err error.OutOfMemory) = []

-- Holds if the fault count doesn't decrease from `before` to `now`, and the result is `Failed` only if the count increased or
-- is saturated (2^64 - 1).
pub record HasTreeCause {A : Type 0} (before now : ℕ) (result : Result A TreeError) : Type 0 where
  pub later : before ≤ now
  pub failed : IsErrOf result error.Failed → Rose before now

-- Holds if the fault count changes from `before` to `now` as it has to: if the result is `Failed`, it increases by one, unless
-- it is saturated (2^64 - 1); for any other result it stays the same.
abbrev pub CountsFailed : {A : Type 0} → ℕ → ℕ → Result A TreeError → Type 0
CountsFailed before now (Ok answer) = now ≡ before
CountsFailed before now (Err error.Failed) = now ≡ next_count before
CountsFailed before now (Err error.OutOfMemory) = now ≡ before
