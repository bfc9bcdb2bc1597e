use Rattle.std.proofs.Common.{◌≡◌, List, ℕ, IfOk, IfErr, ap, ◌∙◌, sym, subst}
use Rattle.rl_sets.specs.declared.error.SetsError.{SetsError}
use Rattle.rl_sets.specs.declared.error.SetsError.TheVariants.{Sets}
use Rattle.rl_sets.specs.Live.{left_out}
use Rattle.rl_sets.specs.Rows.{members_of}
use Rattle.rl_sets.specs.Walk.{Walk, set_at, IsSetOf, IsMadeFor, IsListed, IsFull}
use Rattle.rl_sets.proofs.SetLemmas.{IsSetOf-left_out}
use Rattle.rl_sets.proofs.RowLemmas.{members-left_out}
use Rattle.rl_sets.proofs.WalkLemmas.{IsMadeFor-added}
use Rattle.rl_sets.proofs.walk.SetWalk.leave_out.Goals as goal

pub add-requires : goal.add-requires
add-requires c =
    c.subtract.ensures.len ∙ c.in_ok-row.ensures.len ∙ ap (λ (w : Walk). w.kept.states) (sym c.row_of.ensures.same)

module _ (c : goal.After-add) where
  same : members_of c.subtract.new.self ≡ left_out c.args.states.now (set_at c.args.self.now c.args.set)
  same =
      ap members_of c.subtract.ensures.difference
      ∙ members-left_out c.in_ok-row.row c.args.states.now (c.in_ok-row.ensures.len ∙ sym c.requires.wide)
      ∙ ap (left_out c.args.states.now) c.in_ok-row.ensures.members

pub returns-clause-listed : goal.returns-clause-listed
returns-clause-listed c =
    subst (λ (w : Walk). IfOk c.add.result (IsListed w.sets c.add.new.self.sets (left_out c.args.states.now (set_at c.args.self.now c.args.set)))) c.row_of.ensures.same (subst (λ (s : List ℕ). IfOk c.add.result (IsListed c.row_of.new.self.sets c.add.new.self.sets s)) (same c) c.add.ensures.listed)

pub returns-clause-made : goal.returns-clause-made
returns-clause-made c a made =
    let is = subst (IsSetOf a) (sym (same c)) (IsSetOf-left_out a c.args.states.now (set_at c.args.self.now c.args.set) (made.sets c.args.set c.requires.set_in)) in
    IsMadeFor-added c.row_of.new.self c.add.new.self a (members_of c.subtract.new.self) c.add.result (subst (λ (w : Walk). IsMadeFor w a) (sym c.row_of.ensures.same) made) is c.add.ensures.listed c.add.ensures.unchanged c.add.ensures.few c.add.ensures.limit c.add.ensures.kept

pub returns-clause-full : goal.returns-clause-full
returns-clause-full c =
    subst (λ (w : Walk). IfErr c.add.result (λ (e : SetsError). e ≡ Sets → IsFull w.sets w.limit (left_out c.args.states.now (set_at c.args.self.now c.args.set)))) c.row_of.ensures.same (subst (λ (s : List ℕ). IfErr c.add.result (λ (e : SetsError). e ≡ Sets → IsFull c.row_of.new.self.sets c.row_of.new.self.limit s)) (same c) c.add.ensures.full)
