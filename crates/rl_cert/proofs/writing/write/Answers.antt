use Rattle.std.proofs.Common.{◌∙◌, ap}
use Rattle.serde_json.specs.Written.{has_float}
use Rattle.rl_cert.proofs.Plain.{form-plain}
use Rattle.rl_cert.proofs.writing.write.Goals as goal

pub line_of-requires : goal.line_of-requires
line_of-requires c = ap has_float c.in_ok-value.ensures ∙ form-plain c.args.c.now c.args.c.now.verdict c.requires
