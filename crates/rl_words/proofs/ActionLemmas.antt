-- Actions refuse any other number of arguments than their own.
use Rattle.std.proofs.Common.{◌≡◌, ◌≢◌, List, [], ◌∷◌, None, Bor, length, refl}
use Rattle.clap.specs.Walk.{Text, texts}
use Rattle.rl_words.specs.Given.{asked_with}
use Rattle.rl_words.specs.declared.action_name.ActionName.{ActionName}
use Rattle.rl_words.specs.declared.action_name.ActionName.TheVariants as name

pub refused_one : (action : ActionName) (argument : Text) → action ≢ name.Check → action ≢ name.Class → action ≢ name.Prove → None ≡ asked_with action (argument ∷ [])
refused_one name.Check argument check class prove = absurd (check refl)
refused_one name.Class argument check class prove = absurd (class refl)
refused_one name.Cost argument check class prove = refl
refused_one name.Sample argument check class prove = refl
refused_one name.Prove argument check class prove = absurd (prove refl)
refused_one name.Verify argument check class prove = refl
refused_one name.Compare argument check class prove = refl

pub refused_two : (action : ActionName) (first second : Text) → action ≢ name.Check → action ≢ name.Cost → action ≢ name.Sample → action ≢ name.Verify
    → action ≢ name.Compare → None ≡ asked_with action (first ∷ second ∷ [])
refused_two name.Check first second check cost sample verify compare = absurd (check refl)
refused_two name.Class first second check cost sample verify compare = refl
refused_two name.Cost first second check cost sample verify compare = absurd (cost refl)
refused_two name.Sample first second check cost sample verify compare = absurd (sample refl)
refused_two name.Prove first second check cost sample verify compare = refl
refused_two name.Verify first second check cost sample verify compare = absurd (verify refl)
refused_two name.Compare first second check cost sample verify compare = absurd (compare refl)

none_given : (action : ActionName) → action ≢ name.Check → None ≡ asked_with action []
none_given name.Check check = absurd (check refl)
none_given name.Class check = refl
none_given name.Cost check = refl
none_given name.Sample check = refl
none_given name.Prove check = refl
none_given name.Verify check = refl
none_given name.Compare check = refl

three_given : (action : ActionName) (first second third : Text) (more : List Text) → action ≢ name.Check → None ≡ asked_with action (first ∷ second ∷ third ∷ more)
three_given name.Check first second third more check = absurd (check refl)
three_given name.Class first second third more check = refl
three_given name.Cost first second third more check = refl
three_given name.Sample first second third more check = refl
three_given name.Prove first second third more check = refl
three_given name.Verify first second third more check = refl
three_given name.Compare first second third more check = refl

pub refused_many : (action : ActionName) (args : List (Bor Text)) → action ≢ name.Check → length args ≢ 1 → length args ≢ 2 → None ≡ asked_with action (texts args)
refused_many action [] check one two = none_given action check
refused_many action (first ∷ []) check one two = absurd (one refl)
refused_many action (first ∷ second ∷ []) check one two = absurd (two refl)
refused_many action (first ∷ second ∷ third ∷ more) check one two = three_given action first.now second.now third.now (texts more) check
