use Rattle.std.proofs.Common.{◌≡◌, ℕ, Bool, List, false, replicate, IfOk, IfErr, ap, ◌∙◌, sym, subst}
use Rattle.rl_sets.specs.declared.error.SetsError.{SetsError}
use Rattle.rl_sets.specs.declared.error.SetsError.TheVariants.{Sets}
use Rattle.rl_sets.specs.Rows.{members_of, marked}
use Rattle.rl_sets.specs.Walk.{set_of, IsSetOf, IsListed, IsFull}
use Rattle.rl_sets.proofs.SetLemmas.{IsSetOf-listed}
use Rattle.rl_sets.proofs.RowLemmas.{members-listed}
use Rattle.rl_sets.proofs.WalkLemmas.{IsMadeFor-added}
use Rattle.rl_sets.proofs.walk.SetWalk.intern.Goals as goal

module _ (c : goal.After-add) where
  same : members_of c.mark.new.row ≡ set_of c.args.a.now c.args.members.now.items
  same =
      members-listed c.args.a.now c.mark.new.row c.args.members.now.items (c.mark.ensures.marked
      ∙ ap (λ (r : List Bool). marked r c.as_slice.result.now) (c.in_ok-row.ensures ∙ ap (λ n. replicate n false) c.states.ensures.count)
      ∙ ap (λ (qs : List ℕ). marked (replicate c.args.a.now.states false) qs) c.as_slice.ensures.value)

pub returns-clause-listed : goal.returns-clause-listed
returns-clause-listed c = subst (λ (s : List ℕ). IfOk c.add.result (IsListed c.args.self.now.sets c.add.new.self.sets s)) (same c) c.add.ensures.listed

pub returns-clause-made : goal.returns-clause-made
returns-clause-made c =
    let a = c.args.a.now in
    let is = subst (IsSetOf a) (sym (same c)) (IsSetOf-listed a c.args.members.now.items c.requires.states) in
    IsMadeFor-added c.args.self.now c.add.new.self a (members_of c.mark.new.row) c.add.result c.requires.made is c.add.ensures.listed c.add.ensures.unchanged c.add.ensures.few c.add.ensures.limit c.add.ensures.kept

pub returns-clause-full : goal.returns-clause-full
returns-clause-full c =
    subst (λ (s : List ℕ). IfErr c.add.result (λ (e : SetsError). e ≡ Sets → IsFull c.args.self.now.sets c.args.self.now.limit s)) (same c) c.add.ensures.full
