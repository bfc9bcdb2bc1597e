use Rattle.std.proofs.Common.{List, ◌≡◌, [], length, slice_get, ap, arith}
use Rattle.rl_sets.specs.declared.life.Route.{Route}
use Rattle.rl_sets.proofs.WalkLemmas.{sets_of}
use Rattle.rl_sets.proofs.walk.SetWalk.new.Goals as goal

pub returns-clause-made : goal.returns-clause-made
returns-clause-made c =
    let none : sets_of c.in_ok-rows.rows.keys ≡ [] = ap sets_of c.in_ok-rows.ensures.empty in
    record {
      sets = λ k lt. absurd (omega (arith, ap length none));
      apart = λ j k lt below. absurd (omega (arith, ap length none));
      few = omega (arith, ap length none);
      low = c.requires.low;
      states = c.states.ensures.count;
      split = λ s e. cc;
      few_images = omega (arith, ap length c.in_ok-images.ensures.items);
      images = λ k letter m lt. absurd (omega (arith, ap length none));
      first_route = ap (λ (l : List Route). slice_get l 0) c.in_ok-routes.ensures;
      few_lives = omega (arith, ap length c.in_ok-lives.ensures.items);
      lives = λ k lt. absurd (omega (arith, ap length none));
    }
