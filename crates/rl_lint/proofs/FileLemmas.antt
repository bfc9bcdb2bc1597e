-- Files that the words name: what a read gives, and how the run goes on.
use Rattle.std.proofs.Common.{Bor, ◌≡◌, ◌<◌, ◌++◌, ℕ, List, Option, Some, None, codes, length, take, Result, Ok, Err, IfOk, ap, sym, ◌∙◌, subst, refl, arith}
use Rattle.std.specs.Prelude.{IfSome, IsSomeAnd, option_map}
use Rattle.std.proofs.Math.Seq.{take-length}
use Rattle.std.proofs.lemmas.List.{length-take, take_min}
use Rattle.rl_source.specs.NodeMap.{bytes_at}
use Rattle.rl_source.specs.Revealed.{Revealed}
use Rattle.rl_walk.specs.Visits.{Moment}
use Rattle.rl_lint.specs.Endings.{Ending, refuses, unreadable}
use Rattle.rl_lint.specs.internal.Plans.{ending_of}
use Rattle.rl_lint.specs.Files.{Portion, ReadsFile, ReadsThen, bytes_up_to, file_refused, file_taken, file_unreadable, whole_bytes}
use Rattle.rl_report.specs.Names.{Text}
use Rattle.rl_lint.specs.declared.files.FileRead.{FileRead}
use Rattle.rl_lint.specs.declared.files.FileRead.TheVariants.{Unreadable, Refused, Taken}
use Rattle.rl_lint.specs.declared.limits.TheConstants.{WHOLE_FILE}
use Rattle.rl_lint.specs.declared.plan.Plan.{Plan}
use Rattle.rl_lint.specs.internal.Reads.{IsFileRead, IsGiven, IsNamedRead}

-- ---- the bytes that are there

first_of : (limit : ℕ) (found : Option Text) (bytes : Text) → IsSomeAnd found (λ content. bytes ≡ take limit content) → option_map (take limit) found ≡ Some bytes
first_of limit None bytes is = absurd is
first_of limit (Some content) bytes is = ap Some (sym is)

-- If the contract knows the map, the bytes are the first ones that the map has there.
pub beginning : (told : Option Revealed) (limit : ℕ) (path bytes : Text)
    → IfSome told (λ t. IsSomeAnd (bytes_at t.nodes path) (λ content. bytes ≡ take limit content))
    → (t : Revealed) → told ≡ Some t → option_map (take limit) (bytes_at t.nodes path) ≡ Some bytes
beginning None limit path bytes is t told = cc
beginning (Some this) limit path bytes is t told =
    let same : this ≡ t = cc in
    subst (λ x. option_map (take limit) (bytes_at x.nodes path) ≡ Some bytes) same (first_of limit (bytes_at this.nodes path) bytes is)

-- The beginning of a list that is shorter than the limit is the whole list.
all_of : (found : Option Text) (bytes : Text) (limit : ℕ) → length bytes < limit → option_map (take limit) found ≡ Some bytes → found ≡ Some bytes
all_of None bytes limit short is = cc
all_of (Some content) bytes limit short is =
    let same : take limit content ≡ bytes = cc in
    let longer : length content < limit = omega (arith, ap length same, length-take limit content) in
    let whole : take limit content ≡ content = sym (take_min limit content) ∙ ap (λ n. take n content) (omega arith) ∙ take-length content in
    ap Some (sym whole ∙ same)

module _ (path : Text) (old new : Moment) where
  whole_read : (bytes : Text) → length bytes < WHOLE_FILE → ReadsFile (bytes_up_to WHOLE_FILE) path (Some bytes) old new → ReadsFile whole_bytes path (Some bytes) old new
  whole_read bytes short reads = record {
    trail = reads.trail;
    right = λ t is. all_of (bytes_at t.nodes path) bytes WHOLE_FILE short (reads.right t is);
    later = reads.later;
    cause = λ never. cc;
  }

  -- Nothing was read.
  none_read : ReadsFile (bytes_up_to WHOLE_FILE) path None old new → ReadsFile whole_bytes path None old new
  none_read reads = record {
    trail = reads.trail;
    right = λ t is. tt;
    later = reads.later;
    cause = reads.cause;
  }

-- ---- what they give

module _ {A : Type 0} (Gives : Text → A → Type 0) (portion : Portion) (path : Text) (old new : Moment) where
  of_bytes : {E : Type 0} (result : Result (FileRead A) E) (bytes : Text) → ReadsFile portion path (Some bytes) old new → IfOk result (IsGiven Gives (Some bytes))
      → IfOk result (IsFileRead Gives portion path old new)
  of_bytes (Ok found) bytes reads is = record { read = Some bytes; reads = reads; gives = is }
  of_bytes (Err e) bytes reads is = tt

  pub file-given : {E V : Type 0} (result : Result (FileRead A) E) (text : V → Text) (o : Option V) (v : V) → o ≡ Some v
      → ReadsFile portion path (option_map text o) old new → IfOk result (IsGiven Gives (Some (text v))) → IfOk result (IsFileRead Gives portion path old new)
  file-given result text o v is reads gives = of_bytes result (text v) (subst (λ r. ReadsFile portion path (option_map text r) old new) is reads) gives

  pub file-unreadable : {V : Type 0} (text : V → Text) (o : Option V) → o ≡ None → ReadsFile portion path (option_map text o) old new
      → IsFileRead Gives portion path old new Unreadable
  file-unreadable text o is reads = record {
    read = None;
    reads = subst (λ r. ReadsFile portion path (option_map text r) old new) is reads;
    gives = refl;
  }

-- The same for a file that is read whole.
module _ {A : Type 0} (Gives : Text → A → Type 0) (path : Text) (old new : Moment) where
  pub whole-given : {E V : Type 0} (result : Result (FileRead A) E) (text : V → Text) (o : Option V) (v : V) → o ≡ Some v → length (text v) < WHOLE_FILE
      → ReadsFile (bytes_up_to WHOLE_FILE) path (option_map text o) old new → IfOk result (IsGiven Gives (Some (text v)))
      → IfOk result (IsFileRead Gives whole_bytes path old new)
  whole-given result text o v is short reads gives =
      of_bytes Gives whole_bytes path old new result (text v)
      (whole_read path old new (text v) short (subst (λ r. ReadsFile (bytes_up_to WHOLE_FILE) path (option_map text r) old new) is reads)) gives

  pub whole-unreadable : {V : Type 0} (text : V → Text) (o : Option V) → o ≡ None → ReadsFile (bytes_up_to WHOLE_FILE) path (option_map text o) old new
      → IsFileRead Gives whole_bytes path old new Unreadable
  whole-unreadable text o is reads = record {
    read = None;
    reads = none_read path old new (subst (λ r. ReadsFile (bytes_up_to WHOLE_FILE) path (option_map text r) old new) is reads);
    gives = refl;
  }

-- ---- how the run goes on

module _ {A : Type 0} (name : Text) (portion : Portion) (Gives : Text → A → Type 0) (Next : A → Moment → Moment → Ending → Type 0)
    (path : Text) (old : Moment) where
  pub reads-unreadable : (new : Moment) (found : FileRead A) → IsFileRead Gives portion path old new found → found ≡ Unreadable
      → ReadsThen name portion Gives Next path old new (unreadable (codes "relint: " ++ (name ++ codes " unreadable\n")))
  reads-unreadable new found file is = by_read file.read file.reads (subst (IsGiven Gives file.read) is file.gives)
    where
      by_read : (read : Option Text) → ReadsFile portion path read old new → IsGiven Gives read Unreadable
          → ReadsThen name portion Gives Next path old new (unreadable (codes "relint: " ++ (name ++ codes " unreadable\n")))
      by_read None reads gives = file_unreadable reads
      by_read (Some bytes) reads gives = absurd gives

  pub reads-refused : (new : Moment) (found : FileRead A) → IsFileRead Gives portion path old new found → found ≡ Refused
      → ReadsThen name portion Gives Next path old new (refuses (codes "relint: " ++ (name ++ codes " refused\n")))
  reads-refused new found file is = by_read file.read file.reads (subst (IsGiven Gives file.read) is file.gives)
    where
      by_read : (read : Option Text) → ReadsFile portion path read old new → IsGiven Gives read Refused
          → ReadsThen name portion Gives Next path old new (refuses (codes "relint: " ++ (name ++ codes " refused\n")))
      by_read None reads gives = let never : Refused ≡ Unreadable = gives in cc
      by_read (Some bytes) reads gives = file_refused reads gives

  pub reads-taken : {E : Type 0} (result : Result Plan E) (mid new : Moment) (found : FileRead A) (x : A) → IsFileRead Gives portion path old mid found → found ≡ Taken x
      → IfOk result (λ plan. Next x mid new (ending_of plan)) → IfOk result (λ plan. ReadsThen name portion Gives Next path old new (ending_of plan))
  reads-taken (Ok plan) mid new found x file is next = by_read file.read file.reads (subst (IsGiven Gives file.read) is file.gives)
    where
      by_read : (read : Option Text) → ReadsFile portion path read old mid → IsGiven Gives read (Taken x) → ReadsThen name portion Gives Next path old new (ending_of plan)
      by_read None reads gives = let never : Taken x ≡ Unreadable = gives in cc
      by_read (Some bytes) reads gives = file_taken reads gives next
  reads-taken (Err e) mid new found x file is next = tt

-- ---- a file that may be named

module _ {A : Type 0} (Gives : Text → A → Type 0) (portion : Portion) (default : A) (named : Option (Bor Text)) (old new : Moment) where
  pub named-none : (found : FileRead A) → named ≡ None → new ≡ old → found ≡ Taken default
      → IsNamedRead Gives portion default (option_map (λ p. p.now) named) old new found
  named-none found none still is = subst (λ o. IsNamedRead Gives portion default (option_map (λ p. p.now) o) old new found) (sym none) (still, is)

  pub named-some : (found : FileRead A) (path : Bor Text) → named ≡ Some path → IsFileRead Gives portion path.now old new found
      → IsNamedRead Gives portion default (option_map (λ p. p.now) named) old new found
  named-some found path some read = subst (λ o. IsNamedRead Gives portion default (option_map (λ p. p.now) o) old new found) (sym some) read

  pub named-result : {E : Type 0} (result : Result (FileRead A) E) (path : Bor Text) → named ≡ Some path → IfOk result (IsFileRead Gives portion path.now old new)
      → IfOk result (IsNamedRead Gives portion default (option_map (λ p. p.now) named) old new)
  named-result (Ok found) path some read = named-some found path some read
  named-result (Err e) path some read = tt
