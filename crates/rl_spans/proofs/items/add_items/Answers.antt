use Rattle.std.proofs.Common.{◌≡◌, ◌++◌, OnOk, subst}
use Rattle.rl_spans.proofs.ItemLaws.{prefixed-none}
use Rattle.rl_spans.proofs.items.add_items.Goals as goal

pub returns-clause-added : goal.returns-clause-added
returns-clause-added c =
    subst (λ l. OnOk c.add_prefixed.result (c.add_prefixed.new.list ≡ c.args.list.now ++ l)) (prefixed-none c.args.items.now) c.add_prefixed.ensures.put
