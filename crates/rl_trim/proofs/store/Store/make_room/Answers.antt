use Rattle.rl_trim.proofs.ShortLaws.{stored-short}
use Rattle.rl_trim.proofs.store.Store.make_room.Goals as goal

pub returns : goal.returns
returns c = record {
  sets =
      stored-short c.args.a.now c.args.self.now.walk c.shorten.new.self c.most_kept-kept.result c.shorten.ensures.made c.shorten.ensures.sets c.args.self.now.reached c.most_kept-kept.ensures.some c.most_kept-kept.ensures.reached
      c.requires.sets;
  known = c.requires.known;
}
