-- Items with no more acts in front are the same.
use Rattle.std.proofs.Common.{◌≡◌, List, [], ◌∷◌, refl, ap}
use Rattle.rl_marks.specs.declared.threads.MarkItem.{MarkItem}
use Rattle.rl_marks.specs.declared.threads.MarkItem.TheVariants.{Test, Pass}
use Rattle.rl_marks.specs.internal.MarkItems.{all_prefixed}

pub prefixed-none : (l : List MarkItem) → all_prefixed [] l ≡ l
prefixed-none [] = refl
prefixed-none (Test acts p ∷ l) = ap (λ m. Test acts p ∷ m) (prefixed-none l)
prefixed-none (Pass acts ∷ l) = ap (λ m. Pass acts ∷ m) (prefixed-none l)
