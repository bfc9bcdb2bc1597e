use Rattle.std.proofs.Common.{◌≡◌, ℕ, inl, refl, ◌∙◌, subst, arith}
use Rattle.rl_degree.specs.internal.Rows.{field_of, search_state_of, IsFollowedUpTo}
use Rattle.rl_degree.proofs.RowLaws.{further-self, further-more, followed-more}
use Rattle.rl_degree.proofs.rows.SplitSearch.follow.Goals as goal

pub loop-letter-preserved : goal.loop-letter-preserved
loop-letter-preserved c =
    let d = field_of c.args.g.now c.args.table.now c.args.part in
    let f = c.args.found.now in
    let old = search_state_of c.loop-letter.self in
    let new = search_state_of c.follow_on.new.self in
    let i = c.loop-letter.invariant in
    let o = c.in_ok-follow_on.ensures in
    record {
      further = further-more d f (search_state_of c.args.self.now) old new i.further o.further;
      followed = followed-more d f c.loop-letter.letter old new o.further o.followed i.followed;
      wide = c.follow_on.ensures.same_width ∙ i.wide;
    }

pub pair_at-pair-requires-clause-place_in : goal.pair_at-pair-requires-clause-place_in
pair_at-pair-requires-clause-place_in c = (c.requires.searching.found c.args.found.now (inl refl)).place_in

pub pair_at-pair-requires-clause-part_in : goal.pair_at-pair-requires-clause-part_in
pair_at-pair-requires-clause-part_in c = omega (arith, c.requires.table.placed.numbered, c.requires.part_in)

pub loop-letter-init : goal.loop-letter-init
loop-letter-init c =
    record {
      further = further-self (field_of c.args.g.now c.args.table.now c.args.part) c.args.found.now (search_state_of c.args.self.now) c.requires.searching;
      followed = λ l h. absurd (omega arith);
      wide = refl;
    }

pub returns-clause-followed : goal.returns-clause-followed
returns-clause-followed c =
    let g = c.args.g.now in
    let e : c.loop-letter.letter ≡ g.letters = omega (arith, c.letters-letter-end.ensures) in
    subst (λ (z : ℕ). IsFollowedUpTo (field_of g c.args.table.now c.args.part) c.args.found.now z (search_state_of c.loop-letter.self)) e c.loop-letter.invariant.followed

pub follow_on-requires-clause-table : goal.follow_on-requires-clause-table
follow_on-requires-clause-table c = c.requires.table

pub follow_on-requires-clause-part_in : goal.follow_on-requires-clause-part_in
follow_on-requires-clause-part_in c = c.requires.part_in

pub follow_on-requires-clause-searching : goal.follow_on-requires-clause-searching
follow_on-requires-clause-searching c = c.loop-letter.invariant.further.searching

pub follow_on-requires-clause-wide : goal.follow_on-requires-clause-wide
follow_on-requires-clause-wide c = c.loop-letter.invariant.wide ∙ c.requires.wide
