-- A source without an alias of the module has no sites.
use Rattle.std.proofs.Common.{◌∙◌, false, arith}
use Rattle.rl_sites.proofs.NoAliases.{no_sites}
use Rattle.rl_sites.proofs.reading.sites_by.Goals as goal

pub returns-then-is_empty : goal.returns-then-is_empty
returns-then-is_empty c = c.new.ensures ∙ no_sites c.args.source.now c.args.aliases.items false c.args.tokens.now (grind arith)
