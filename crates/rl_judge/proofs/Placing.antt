-- A byte place past the end of a source has the line and column of the end.
use Rattle.std.proofs.Common.{◌≡◌, ℕ, ◌-◌, ◌<◌, ◌≤◌, min, List, length, take, drop, ap, sym, ◌∙◌, arith, ⊎_elim}
use Rattle.std.proofs.lemmas.List.{take_all, length-drop}
use Rattle.std.proofs.lemmas.Bool.{cases_lt}
use Rattle.rl_pylex.specs.Bytes.{text_start}
use Rattle.rl_report.specs.Places.{roles, place_behind, place_of}
use Rattle.rl_report.proofs.PlaceLemmas.{length-roles}

-- Taking at least as many bytes as a text has gives the whole text.
all_roles : (text : List ℕ) (a b : ℕ) → length text ≤ a → length text ≤ b → take a (roles text) ≡ take b (roles text)
all_roles text a b la lb =
    take_all a (roles text) (omega (arith, length-roles text)) ∙ sym (take_all b (roles text) (omega (arith, length-roles text)))

pub place_within : (source : List ℕ) (a byte : ℕ) → a ≡ min byte (length source) → place_of source a ≡ place_of source byte
unfolding place_of
place_within source a byte e =
    let t = text_start source in
    ⊎_elim
    (λ (h : byte < length source). ap (λ n. place_behind (take (n - t) (roles (drop t source)))) (omega arith))
    (λ (h : length source ≤ byte).
    ap place_behind
    (all_roles (drop t source) (a - t) (byte - t) (omega (arith, length-drop t source)) (omega (arith, length-drop t source))))
    (cases_lt byte (length source))

pub ruleset placing = (place_within)
