-- What the reply to a question `ways` has besides the verdict: how the pumps of its family, which are the texts that it
-- repeats, are read. `rl_why` defines readings in its `specs/Readings.antt`. Pumps are numbered from 0. Each definition with
-- `Members` takes the members that an object already has, and returns them with its own members added.
use Rattle.std.specs.Prelude.{ℕ, suc, List, [], ◌∷◌, ◌==◌, length, Option, codes, slice_index_or, if◌then◌else◌}
use Rattle.std.specs.Option.{option_map_or}
use Rattle.serde_json.specs.Data.{Data, Members, string, object, no_members, put}
use Rattle.rl_ranges.specs.declared.universe.Universe.{Universe}
use Rattle.rl_syntax.specs.declared.verdict.Verdict.{Verdict}
use Rattle.rl_report.specs.Verdicts.{family_of, quoted_text}
use Rattle.rl_ways.specs.declared.origin.Origin.{Origin}
use Rattle.rl_why.specs.declared.reading.ChainReading.{ChainReading}
use Rattle.rl_why.specs.declared.reading.Reading.{Reading}
use Rattle.rl_why.specs.declared.reading.Reading.TheVariants.{Nothing, Twin, Chain}
use Rattle.rl_why.specs.declared.reading.SplitReading.{SplitReading}
use Rattle.rl_why.specs.declared.reading.TwinReading.{TwinReading}
use Rattle.rl_why.specs.declared.explaining.Explained.{Explained}
use Rattle.rl_parts.specs.Members.{whole, list_data}
use Rattle.rl_explained.specs.Steps.{way_data, loop_data}

-- The pumps of the family of a verdict, or none if it has no family.
abbrev pub pumps_of : Verdict → List (List ℕ)
pumps_of verdict = option_map_or (λ family. family.pumps) (family_of verdict) []

-- The members of a reading of the pump with the number `k`: the number, the pump as a quoted Python literal, and its ways.
abbrev pub read_members : Universe → List (List ℕ) → ℕ → Data → Members
read_members universe pumps k ways =
    put (codes "ways") ways
    (put (codes "text") (string (quoted_text universe (slice_index_or pumps k []))) (put (codes "pump") (whole k) no_members))

-- The object of the two ways of a twin, with the index of the first character at which they differ.
abbrev pub twin_data : Universe → List (List ℕ) → TwinReading → Data
twin_data universe pumps r =
    let ways = list_data (way_data r.first ∷ way_data r.second ∷ []) in
    object (put (codes "parts") (whole r.parts) (read_members universe pumps 0 ways))

-- The object of the three ways of a split, which stay before, go over and stay behind, with the loops of the first and the
-- last.
abbrev pub split_data : Universe → List (List ℕ) → ℕ → SplitReading → Data
split_data universe pumps k r =
    let ways = list_data (way_data r.before ∷ way_data r.over ∷ way_data r.behind ∷ []) in
    let loops = list_data (loop_data r.first_loop ∷ loop_data r.second_loop ∷ []) in
    object (put (codes "loops") loops (read_members universe pumps k ways))

-- The objects of splits, in order, for the pumps from the number `k` on.
abbrev pub splits_data : Universe → List (List ℕ) → ℕ → List SplitReading → List Data
splits_data universe pumps k [] = []
splits_data universe pumps k (r ∷ splits) = split_data universe pumps k r ∷ splits_data universe pumps (suc k) splits

-- The object of the loop that reads the pump with the number `k`.
abbrev pub cycle_data : ℕ → Option Origin → Data
cycle_data k at = object (put (codes "loop") (loop_data at) (put (codes "pump") (whole k) no_members))

-- Adds the splits as an array. Adds nothing if there is none.
abbrev pub splits_members : Universe → List (List ℕ) → List SplitReading → Members → Members
splits_members universe pumps splits ms =
    if length splits == 0 then ms else put (codes "splits") (list_data (splits_data universe pumps 0 splits)) ms

-- Adds the splits of a chain, one for each pump but the last, and the loop that reads the last one.
abbrev pub chain_members : Universe → List (List ℕ) → ChainReading → Members → Members
chain_members universe pumps r ms =
    put (codes "cycle") (cycle_data (length r.splits) r.cycle) (splits_members universe pumps r.splits ms)

-- Adds a reading of these pumps: the two ways of a twin, or a chain. Adds nothing if there is no pump.
abbrev pub reading_members : Universe → List (List ℕ) → Reading → Members → Members
reading_members universe pumps Nothing ms = ms
reading_members universe pumps (Twin r) ms = put (codes "twin") (twin_data universe pumps r) ms
reading_members universe pumps (Chain r) ms = chain_members universe pumps r ms

-- Adds how the pumps of the verdict's family are read.
abbrev pub ways_members : Universe → Explained → Members → Members
ways_members universe e ms = reading_members universe (pumps_of e.verdict) e.reading ms
