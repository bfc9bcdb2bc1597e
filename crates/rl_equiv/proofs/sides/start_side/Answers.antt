use Rattle.std.proofs.Common.{[], ◌∷◌, refl, ◌∙◌, arith}
use Rattle.rl_syntax.specs.declared.limits.TheConstants.{MOST_SET_PAIRS}
use Rattle.rl_sets.specs.Walk.{set_of}
use Rattle.rl_equiv.proofs.SideLaws.{start-set, gets-set, gets-within, side-gets}
use Rattle.rl_equiv.proofs.sides.start_side.Goals as goal

pub returns-clause-side : goal.returns-clause-side
returns-clause-side c =
    side-gets c.args.a.now MOST_SET_PAIRS 0 1 c.args.walk c.put_one.new.walk (set_of c.args.a.now (0 ∷ [])) c.in-Ok.start refl c.requires.side c.in-Ok.ensures

pub returns-clause-start : goal.returns-clause-start
returns-clause-start c =
    let a = c.args.a.now in
    gets-set a c.args.walk c.put_one.new.walk (set_of a (0 ∷ [])) c.in-Ok.start c.in-Ok.ensures ∙ start-set a c.requires.reads.whole.three_states

pub returns-clause-inside : goal.returns-clause-inside
returns-clause-inside c = gets-within c.args.a.now c.args.walk c.put_one.new.walk (set_of c.args.a.now (0 ∷ [])) c.in-Ok.start c.in-Ok.ensures

pub put_one-requires-clause-room : goal.put_one-requires-clause-room
put_one-requires-clause-room c = omega (arith, c.requires.side.room, c.requires.side.limit_is)
