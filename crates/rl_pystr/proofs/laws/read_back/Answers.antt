-- The law follows from the facts about the bodies of quoted texts.
use Rattle.rl_pystr.proofs.ReadBack.{read_back}
use Rattle.rl_pystr.proofs.laws.read_back.Goals as goal

pub returns : goal.returns
returns c = read_back
