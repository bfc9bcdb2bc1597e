-- A certificate has no float.
use Rattle.std.proofs.Common.{◌≡◌, ℕ, false, List, map, refl}
use Rattle.serde_json.specs.Data.{object}
use Rattle.serde_json.specs.View.{items_of}
use Rattle.serde_json.specs.Written.{has_float, items_have_float}
use Rattle.rl_json.proofs.NoFloats.{items-plain}
use Rattle.rl_syntax.specs.declared.verdict.Verdict.{Verdict}
use Rattle.rl_syntax.specs.declared.verdict.Verdict.TheVariants.{Degree, Expo, Undecided}
use Rattle.rl_cert.specs.declared.certificate.Certificate.{Certificate}
use Rattle.rl_cert.specs.Form.{whole, row_data, anchor_row, double_row, triple_row, form_members, IsDecided}

row-plain : (row : List ℕ) → items_have_float (items_of (map whole row)) ≡ false
row-plain row = items-plain whole row (λ x. refl)

rows-plain : (rows : List (List ℕ)) → items_have_float (items_of (map row_data rows)) ≡ false
rows-plain rows = items-plain row_data rows row-plain

pub form-plain : (c : Certificate) (v : Verdict) → IsDecided v → has_float (object (form_members c v)) ≡ false
form-plain c (Degree d f) told =
    rw (rows-plain (map anchor_row c.anchors), rows-plain (map double_row c.doubles), rows-plain f.heads, rows-plain f.pumps, row-plain c.ranks, rows-plain (map triple_row c.triples)) refl
form-plain c (Expo f) told =
    rw (rows-plain (map anchor_row c.anchors), rows-plain (map double_row c.doubles), rows-plain f.heads, rows-plain f.pumps, row-plain c.ranks, rows-plain (map triple_row c.triples)) refl
form-plain c (Undecided limit) told = absurd told
