-- One more alias.
use Rattle.std.proofs.Common.{refl}
use Rattle.rl_sites.proofs.Tabled.{meant_none, meant_more}
use Rattle.rl_sites.proofs.names.meanings_of.Goals as goal

pub loop-alias-init : goal.loop-alias-init
loop-alias-init c = meant_none c.args.source.now c.args.aliases.now c.new-meanings.result.entries c.new-meanings.ensures.empty

pub loop-alias-preserved : goal.loop-alias-preserved
loop-alias-preserved c =
    meant_more c.args.source.now c.args.aliases.now c.loop-alias.alias-index _ _ c.loop-alias.meanings.entries c.add_alias.new.meanings.entries
    c.loop-alias-test.true refl c.loop-alias.invariant c.in_ok-add_alias.ensures
