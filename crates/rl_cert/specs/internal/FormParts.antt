-- For the contracts of private functions: parts of the form of a certificate.
use Rattle.std.specs.Prelude.{ℕ, List, Option, option_map, option_and_then, codes}
use Rattle.serde_json.specs.Data.{Data}
use Rattle.rl_numbers.specs.declared.double.Double.{Double}
use Rattle.rl_numbers.specs.declared.triple.Triple.{Triple}
use Rattle.rl_cert.specs.declared.certificate.Anchor.{Anchor}
use Rattle.rl_cert.specs.Form.{row_read, anchors_read, doubles_read, triples_read, read_at}

-- The members `anchors` and `ranks` of the value, read as lists, or none if one of them is missing or can't be read.
abbrev pub places_read : Data → Option (List Anchor × List ℕ)
places_read d =
    option_and_then (λ anchors. option_map (λ ranks. (anchors, ranks)) (read_at row_read (codes "ranks") d)) (read_at anchors_read (codes "anchors") d)

-- The members `doubles` and `triples` of the value, read as lists, or none if one of them is missing or can't be read.
abbrev pub numbers_read : Data → Option (List Double × List Triple)
numbers_read d =
    option_and_then (λ doubles. option_map (λ triples. (doubles, triples)) (read_at triples_read (codes "triples") d)) (read_at doubles_read (codes "doubles") d)
