-- Guards hold where they are met by what is shown.
use Rattle.std.proofs.Common.{◌≡◌, ℕ, suc, ◌<◌, length, slice_index_or, All, Bool, true, false, not, ◌||◌, ◌&&◌, List, [], ◌∷◌, ◌++◌, if◌then◌else◌, None, Some, is_none, nat_eq, refl, ap, ap₂, ◌∙◌}
use Rattle.std.proofs.Math.Bool.{beq}
use Rattle.rl_syntax.specs.declared.anchors.Guard.{Guard}
use Rattle.rl_syntax.specs.declared.anchors.Guard.TheVariants.{Start, LineStart, LineEnd, TextEnd, Word, NotWord, Look}
use Rattle.rl_syntax.specs.Guards.{holds, is_in, is_word}
use Rattle.std.proofs.lemmas.List.Elements.{All-head, All-tail}
use Rattle.rl_marks.specs.Marked.{Marked}
use Rattle.rl_marks.specs.internal.MarkItems.{allowed, performed, set_of}
use Rattle.rl_marks.specs.internal.Walk.{tries}
use Rattle.rl_marks.specs.internal.Threads.{thread, items_at, spread, taken, stopped}
use Rattle.rl_spans.specs.declared.shown.Shown.{Shown}
use Rattle.rl_spans.specs.internal.Shown.{IsShown, met, all_met, shown_tries, shown_spread, taken_by}
use Rattle.rl_marks.specs.declared.threads.Caps.{Caps}
use Rattle.rl_marks.specs.declared.threads.Act.{Act}
use Rattle.rl_marks.specs.declared.threads.MarkItem.{MarkItem}
use Rattle.rl_marks.specs.declared.threads.Try.{Try}
use Rattle.rl_marks.specs.declared.threads.Thread.{Thread}
use Rattle.rl_marks.specs.declared.threads.Act.TheVariants.{Check as check, OpenGroup as open_group, CloseGroup as close_group}
use Rattle.rl_marks.specs.declared.threads.MarkItem.TheVariants.{Test as test_at, Pass as pass}
use Rattle.rl_marks.specs.declared.threads.Try.TheVariants.{Goes as goes, Stops as stops}

met_holds : (g : Guard) (before next : Shown) → IsShown before → IsShown next → met g before next ≡ holds g before.code next.code
unfolding holds
met_holds Start before next p q = refl
met_holds LineStart before next p q = ap (λ y. is_none before.code || y) p.line_feed
met_holds LineEnd before next p q = ap (λ y. is_none next.code || y) q.line_feed
met_holds TextEnd before next p q = refl
met_holds (Word true) before next p q = ap₂ (λ x y. not (beq x y)) p.ascii_word q.ascii_word
met_holds (Word false) before next p q = ap₂ (λ x y. not (beq x y)) p.word q.word
met_holds (NotWord true) before next p q = ap₂ beq p.ascii_word q.ascii_word
met_holds (NotWord false) before next p q = ap₂ beq p.word q.word
met_holds (Look behind negated ranges) before next p q = refl

pub all_met_allowed : (acts : List Act) (before next : Shown) → IsShown before → IsShown next → all_met acts before next ≡ allowed acts before.code next.code
all_met_allowed [] before next p q = refl
all_met_allowed (check g ∷ acts) before next p q = ap₂ (λ x y. x && y) (met_holds g before next p q) (all_met_allowed acts before next p q)
all_met_allowed (open_group ∷ acts) before next p q = all_met_allowed acts before next p q
all_met_allowed (close_group k ∷ acts) before next p q = all_met_allowed acts before next p q

pub stopped_none : (l : List Try) → stopped false l ≡ None
stopped_none [] = refl
stopped_none (goes p c ∷ l) = stopped_none l
stopped_none (stops c ∷ l) = stopped_none l

pub shown_tries_are : (before next : Shown) → IsShown before → IsShown next → (i : ℕ) (l : List MarkItem) (c : Caps)
    → shown_tries before next i l c ≡ tries before.code next.code i l c
shown_tries_are before next p q i [] c = refl
shown_tries_are before next p q i (test_at acts k ∷ l) c =
    ap₂ (λ v m. (if v then goes k (performed acts i c) ∷ [] else []) ++ m) (all_met_allowed acts before next p q) (shown_tries_are before next p q i l c)
shown_tries_are before next p q i (pass acts ∷ l) c =
    ap₂ (λ v m. (if v then stops (performed acts i c) ∷ [] else []) ++ m) (all_met_allowed acts before next p q) (shown_tries_are before next p q i l c)

-- Where the rows have the items of each state, and the threads are in these states.
pub spread_are : (m : Marked) (rows : List (List MarkItem)) → ((q : ℕ) → q < length rows → slice_index_or rows q [] ≡ items_at m q)
    → (before next : Shown) → IsShown before → IsShown next → (i : ℕ) (l : List Thread) → All (λ (t : Thread). t.state < length rows) l
    → shown_spread rows before next i l ≡ spread m before.code next.code i l
spread_are m rows h before next p q i [] all = refl
spread_are m rows h before next p q i (t ∷ l) all =
    ap₂ (λ x y. x ++ y)
    (shown_tries_are before next p q i (slice_index_or rows t.state []) t.caps
    ∙ ap (λ items. tries before.code next.code i items t.caps) (h t.state (All-head (λ (t : Thread). t.state < length rows) t l all)))
    (spread_are m rows h before next p q i l (All-tail (λ (t : Thread). t.state < length rows) t l all))

-- The tests are of places that the table has.
abbrev pub AreBelow : ℕ → List Try → Type 0
AreBelow n [] = Unit {0}
AreBelow n (goes p c ∷ l) = (p < n) × AreBelow n l
AreBelow n (stops c ∷ l) = AreBelow n l

pub taken_are : (m : Marked) (code : ℕ) (takes : List Bool) → ((p : ℕ) → p < length takes → slice_index_or takes p false ≡ set_of m 0 p code)
    → (accepts : Bool) (l : List Try) → AreBelow (length takes) l → taken_by takes accepts l ≡ taken m accepts code l
taken_are m code takes h accepts [] k = refl
taken_are m code takes h accepts (goes p c ∷ l) k =
    ap₂ (λ v n. (if v then thread (suc p) c ∷ [] else []) ++ n) (h p k.0) (taken_are m code takes h accepts l k.1)
taken_are m code takes h accepts (stops c ∷ l) k = ap (λ n. if accepts then [] else n) (taken_are m code takes h accepts l k)

pub shown-none : IsShown (record { code = None; line_feed = false; word = false; ascii_word = false })
unfolding is_in
shown-none = record { line_feed = refl; word = refl; ascii_word = refl }

pub shown-some : (code : ℕ) (a b : Bool) → a ≡ is_word false code → b ≡ is_word true code
    → IsShown (record { code = Some code; line_feed = nat_eq code 10; word = a; ascii_word = b })
unfolding is_in
shown-some code a b all ascii = record { line_feed = refl; word = all; ascii_word = ascii }
