-- One more item on both sides.
use Rattle.std.proofs.Common.{◌≡◌, ℕ, ◌+◌, ◌<◌, List, [], ◌∷◌, ◌++◌, length, get_or, take, sym, subst}
use Rattle.std.specs.List.{AllZip}
use Rattle.std.proofs.lemmas.List.{take_more}
use Rattle.std.proofs.lemmas.Slice.Zip.{all_zipped_more}

pub zipped_more : {A B : Type 0} (R : A → B → Type 0) (xs : List A) (ys later : List B) (i : ℕ) (d : A) (y : B)
    → i < length xs → later ≡ ys ++ y ∷ [] → AllZip R (take i xs) ys → R (get_or xs i d) y → AllZip R (take (i + 1) xs) later
zipped_more R xs ys later i d y h e before this =
    subst (λ zs. AllZip R zs later) (sym (take_more xs i d h))
    (subst (AllZip R (take i xs ++ get_or xs i d ∷ [])) (sym e) (all_zipped_more R (take i xs) ys (get_or xs i d) y before this))
