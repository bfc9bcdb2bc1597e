use Rattle.std.proofs.Common.{◌≡◌, ℕ, sym, subst, ap}
use Rattle.rl_prio.specs.Automaton.{letters_count}
use Rattle.rl_pairs.specs.internal.Errors.{IsRightError}
use Rattle.rl_pairs.specs.internal.Finding.{Found, found_of, IsFound, IsMoved, IsWhole}
use Rattle.rl_pairs.proofs.WholeLaws.{found-start, moved-start}
use Rattle.rl_pairs.proofs.pair_graph.find_all.Goals as goal

pub find-requires : goal.find-requires
find-requires c =
    let a = c.args.a.now in
    let w = c.args.walk.now in
    let e = c.in_ok-finder.ensures in
    record {
      counting = c.requires.counting;
      found = subst (IsFound a w) (sym e) (found-start a w c.args.max_pairs c.states-states.ensures.automaton c.requires.counting c.requires.some);
      moved = subst (λ (f : Found). IsMoved a w f 0) (sym e) (moved-start a w c.args.max_pairs (letters_count a));
    }

pub returns-in-Ok-clause-whole : goal.returns-in-Ok-clause-whole
returns-in-Ok-clause-whole c =
    let limit : c.in_ok-finder.finder.limit ≡ c.args.max_pairs = ap (λ (f : Found). f.limit) c.in_ok-finder.ensures in
    subst (IsWhole c.args.a.now c.find.new.walk (found_of c.find.new.self)) limit c.in-Ok.ensures.whole

pub returns-in-Err-clause-errors : goal.returns-in-Err-clause-errors
returns-in-Err-clause-errors c =
    let limit : c.in_ok-finder.finder.limit ≡ c.args.max_pairs = ap (λ (f : Found). f.limit) c.in_ok-finder.ensures in
    subst (λ (n : ℕ). IsRightError c.args.a.now n c.in-Err.error) limit c.in-Err.ensures.errors
