use Rattle.std.proofs.Common.{◌<◌, length, map, subst, ap, ◌∙◌, arith}
use Rattle.std.proofs.lemmas.List.{take_all}
use Rattle.std.proofs.lemmas.Option.{slice_get_within, get_or_from_slice_get}
use Rattle.rl_pairs.specs.declared.finder.Key.{Key}
use Rattle.rl_pairs.specs.internal.Finding.{first_key, pair_of}
use Rattle.rl_pairs.proofs.BuiltLaws.{pairs-more}
use Rattle.rl_pairs.proofs.pair_graph.listed.Goals as goal

pub members-requires : goal.members-requires
members-requires c =
    let keys = c.args.keys.now.keys in
    subst (λ (key : Key). key.set < length c.args.walk.now.sets) (get_or_from_slice_get keys c.loop-k.k c.index-key.result.now first_key c.index-key.ensures)
    (c.requires c.loop-k.k first_key (slice_get_within keys c.loop-k.k c.index-key.result.now c.index-key.ensures))

pub loop-k-preserved : goal.loop-k-preserved
loop-k-preserved c =
    pairs-more c.args.walk.now c.args.keys.now.keys c.loop-k.k c.index-key.result.now c.loop-k.pairs.items c.push.new.self.items c.in_ok-set.set c.loop-k.invariant c.index-key.ensures c.in_ok-set.ensures c.in_ok-push.ensures.items

pub returns : goal.returns
returns c = c.loop-k.invariant ∙ ap (map (pair_of c.args.walk.now)) (take_all c.loop-k.k c.args.keys.now.keys (omega (arith, c.len-k-end.ensures.len, c.loop-k-test.false)))
