use Rattle.rl_ask.proofs.document.put_family.Goals as goal

pub family_value-requires : goal.family_value-requires
family_value-requires c =
    c.requires
