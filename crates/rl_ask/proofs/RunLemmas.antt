-- The ends of a run.
use Rattle.std.proofs.Common.{◌≡◌, ◌≢◌, Bool, true, false, List, [], ◌∷◌, Option, None, Some, Global, String, ap, refl, sym, ◌∙◌, length, ◌==◌, map, string_bytes}
use Rattle.std.proofs.lemmas.Bool.{eqb-true}
use Rattle.std.proofs.lemmas.List.{nil_from_length}
use Rattle.std.specs.Io.KnownBytes.{Keeps}
use Rattle.rl_asked.specs.Words.{Text}

pub keeps-same : (a : Option Text) → Keeps a a
keeps-same None = tt
keeps-same (Some x) = refl

pub none-mapped : (words : List (String Global)) (b : Bool) → b ≡ (length words == 0) → b ≡ true → map string_bytes words ≡ []
none-mapped words b is e = ap (map string_bytes) (nil_from_length words (eqb-true (length words) 0 (sym is ∙ e)))

pub some-mapped : (words : List (String Global)) (b : Bool) → b ≡ (length words == 0) → b ≡ false → map string_bytes words ≢ []
some-mapped [] b is isnt = λ _. let never : true ≡ false = sym is ∙ isnt in cc
some-mapped (w ∷ words) b is isnt = λ e. cc
