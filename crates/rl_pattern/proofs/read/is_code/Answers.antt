-- A code that exists, and none after the end.
use Rattle.std.proofs.Common.{Some, sym, ap, ◌∙◌, length}
use Rattle.std.proofs.lemmas.Bool.{ltb-true, ltb-false}
use Rattle.std.proofs.lemmas.Option.{slice_get-get_or, slice_get_past}
use Rattle.rl_pattern.specs.internal.Answering.{is_code}
use Rattle.rl_pattern.proofs.read.is_code.Goals as goal

pub returns-in-Some : goal.returns-in-Some
returns-in-Some c =
    let w = c.args.codes.now in
    let there = ltb-true c.args.place (length w) (sym c.in-Some.ensures.lookup.0) in
    sym (ap (λ o. is_code o c.args.character) (slice_get-get_or w c.args.place c.in-Some.found.now there ∙ ap Some (sym c.in-Some.ensures.lookup.1)))

pub returns-in-None : goal.returns-in-None
returns-in-None c =
    let w = c.args.codes.now in
    let behind = ltb-false c.args.place (length w) (sym c.in-None.ensures.lookup.0) in
    sym (ap (λ o. is_code o c.args.character) (slice_get_past w c.args.place behind))
