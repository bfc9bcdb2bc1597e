-- The visits so far and one more, and no visits.
use Rattle.std.proofs.Common.{◌≡◌, ◌||◌, Bool, true, false, List, [], ◌∷◌, ◌++◌, refl, ap, sym, ◌∙◌, subst}
use Rattle.std.specs.Prelude.{All}
use Rattle.std.proofs.lemmas.List.Elements.{All-nil, All-append}
use Rattle.std.proofs.lemmas.List.Folds.{list_any-append}
use Rattle.rl_report.specs.declared.report.Entry.{Entry}
use Rattle.rl_report.specs.Layouts.{IsOfItsUniverse}
use Rattle.rl_walk.specs.declared.visits.Visit.{Visit}
use Rattle.rl_walk.specs.Visits.{has_unreadable, is_unreadable}
use Rattle.rl_judge.specs.declared.settings.Settings.{Settings}
use Rattle.rl_judge.specs.RightReport.{IsRightFor, none, more, Checked, HasChecked}

abbrev pub checked : Settings → List Entry → Bool → Checked
checked s entries unread = record { settings = s; entries = entries; has_unread = unread }

checked_nothing : (s : Settings) → HasChecked (checked s [] false) []
checked_nothing s = record { right = none; universe = All-nil IsOfItsUniverse; unread = refl }

pub checked_none : (s : Settings) (entries : List Entry) → entries ≡ [] → HasChecked (checked s entries false) []
checked_none s entries e = subst (λ es. HasChecked (checked s es false) []) (sym e) (checked_nothing s)

or_false : (b : Bool) → (b || false) ≡ b
or_false true = refl
or_false false = refl

unread_more : (visits : List Visit) (visit : Visit) → has_unreadable (visits ++ visit ∷ []) ≡ (has_unreadable visits || is_unreadable visit)
unread_more visits visit =
    list_any-append is_unreadable visits (visit ∷ []) ∙ ap (λ b. has_unreadable visits || b) (or_false (is_unreadable visit))

pub checked_more : (s : Settings) (entries later all : List Entry) (before unread : Bool) (visit : Visit) (visits : List Visit)
    → all ≡ entries ++ later → unread ≡ (before || is_unreadable visit) → IsRightFor s visit later → All IsOfItsUniverse later
    → HasChecked (checked s entries before) visits → HasChecked (checked s all unread) (visits ++ visit ∷ [])
checked_more s entries later all before unread visit visits e u right universe h =
    subst (λ es. HasChecked (checked s es unread) (visits ++ visit ∷ [])) (sym e) (record {
      right = more visit later h.right right;
      universe = All-append IsOfItsUniverse entries later h.universe universe;
      unread = u ∙ ap (λ b. b || is_unreadable visit) h.unread ∙ sym (unread_more visits visit);
    })
