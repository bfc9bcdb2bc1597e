use Rattle.rl_ask.proofs.members.put_texts.Goals as goal

pub texts_value-requires : goal.texts_value-requires
texts_value-requires c =
    c.requires
