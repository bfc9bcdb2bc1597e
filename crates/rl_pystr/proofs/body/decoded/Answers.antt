-- The code points are the characters of the text.
use Rattle.std.proofs.Common.{◌∙◌, ap, encode_utf8_all}
use Rattle.std.specs.Iterator.Runs.{Trigger}
use Rattle.std.specs.Str.Iter.{chars_rest}
use Rattle.std.proofs.lemmas.Str.{chars_from_encodes}
use Rattle.rl_pystr.proofs.body.decoded.Goals as goal

pub returns-clause-value : goal.returns-clause-value
unfolding Trigger
returns-clause-value c =
    let ran = c.in_ok-codes-in-Ok.ensures.runs tt in
    let read = c.chars.ensures.runs ran.0 tt in
    chars_from_encodes c.in_ok-codes-in-Ok.codes.items c.args.bytes.now c.requires
    (ap encode_utf8_all ran.3.0 ∙ read.1 ran.2 ∙ ap chars_rest ran.1 ∙ c.chars.ensures.rest ∙ c.in-Ok.ensures.cases.0)
