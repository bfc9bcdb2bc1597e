use Rattle.rl_pattern.specs.internal.Views.{node_of}
use Rattle.rl_pattern.proofs.Anchors.{taken_in_front}
use Rattle.rl_pattern.proofs.inner.take_leading.Goals as goal

pub returns : goal.returns
returns c =
    taken_in_front node_of c.args.items.now.items c.reverse.new.self.items c.take_from_back.new.items.items c.reverse-2.new.self.items c.reverse.ensures.items c.take_from_back.ensures c.reverse-2.ensures.items
