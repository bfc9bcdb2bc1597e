-- The walk of the items of a tree with groups. Items are tried at a position of the text, in order. A test that succeeds is
-- followed by the walk of the items after its place, from the next position on. An item is a list of acts, which are guards to
-- check and groups to open or close, and then the test of a place or the end of the tree. The places of a tree are its sets,
-- numbered from left to right. What is known of the groups is a `Caps`.
use Rattle.std.specs.Prelude.{ℕ, zero, suc, ◌-◌, Bool, List, [], ◌∷◌, ◌++◌, length, Option, slice_get, if◌then◌else◌}
use Rattle.rl_syntax.specs.Guards.{is_in, code_before}
pub use Rattle.rl_marks.specs.declared.threads.Try.{Try}
pub use Rattle.rl_marks.specs.declared.threads.Try.TheVariants.{Goes as goes, Stops as stops}
use Rattle.rl_marks.specs.Marked.{Marked}
use Rattle.rl_marks.specs.Finds.{Found, followed}
use Rattle.rl_marks.specs.internal.Caps.{Caps, caps_after}
use Rattle.rl_marks.specs.internal.MarkItems.{MarkItem, test_at, pass, allowed, performed, set_of, after}

-- What the items come to at position `i`, between the code before and the next one: those whose guards hold, in order, each
-- with what is known of the groups after its acts. `c` is what is known before.
abbrev pub tries : Option ℕ → Option ℕ → ℕ → List MarkItem → Caps → List Try
tries before next i [] c = []
tries before next i (test_at acts p ∷ l) c =
    (if allowed acts before next then goes p (performed acts i c) ∷ [] else []) ++ tries before next i l c
tries before next i (pass acts ∷ l) c =
    (if allowed acts before next then stops (performed acts i c) ∷ [] else []) ++ tries before next i l c

-- An end of the tree: its position, and what is known of the groups there.
pub record Ended : Type 0 where
  pub place : ℕ
  pub caps : Caps

-- The ends that come of a try at position `i`. A test of the place `p` gives `next` if `sets p` holds the code at `i`, and
-- otherwise nothing. An end gives itself.
abbrev pub pursued : (ℕ → ℕ → Bool) → List ℕ → (ℕ → Caps → List Ended) → ℕ → Try → List Ended
pursued sets w next i (goes p c) = if is_in (sets p) (slice_get w i) then next p c else []
pursued sets w next i (stops c) = record { place = i; caps = c } ∷ []

-- The ends that come of the items `l` at position `i`, in order. `sets p` is the set of the place `p`, `next` gives the ends
-- after the test of a place has succeeded, and `c` is what is known of the groups before.
abbrev pub tried : (ℕ → ℕ → Bool) → List ℕ → (ℕ → Caps → List Ended) → List MarkItem → ℕ → Caps → List Ended
tried sets w next l i c = followed (tries (code_before w i) (slice_get w i) i l c) (pursued sets w next i)

-- The ends that the items `l` reach in the text `w` from position `i` on, in order, if at most `n` codes are read. `sets p` is
-- the set of the place `p`, `nexts p` has the items after it, and `c` is what is known of the groups before.
abbrev pub traced : (ℕ → ℕ → Bool) → (ℕ → List MarkItem) → List ℕ → ℕ → List MarkItem → ℕ → Caps → List Ended
traced sets nexts w zero l i c = tried sets w (λ p d. []) l i c
traced sets nexts w (suc n) l i c = tried sets w (λ p d. traced sets nexts w n (nexts p) (suc i) d) l i c

-- The ends that the items `l` reach in the text `w` from position `i` on, in order. `sets p` is the set of the place `p`,
-- `nexts p` has the items after it, and `c` is what is known of the groups before.
unfoldable pub trace : (ℕ → ℕ → Bool) → (ℕ → List MarkItem) → List ℕ → List MarkItem → ℕ → Caps → List Ended
trace sets nexts w l i c = traced sets nexts w (length w - i) l i c

-- The ends that the items `l` of the tree `m` reach in the text `w` from position `i` on, in order. `c` is what is known of
-- the groups before.
abbrev pub walk : Marked → List ℕ → List MarkItem → ℕ → Caps → List Ended
walk m w l i c = trace (set_of m 0) (after m 0) w l i c

-- The find as an end: its position, and what is known of the groups after its spans are added to `c`.
abbrev pub kept : Caps → Found → Ended
kept c x = record { place = x.end; caps = caps_after x.spans c }
