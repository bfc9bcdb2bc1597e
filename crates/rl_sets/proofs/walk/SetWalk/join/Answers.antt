use Rattle.std.proofs.Common.{◌≡◌, ◌-◌, ℕ, true, List, [], length, Some, IfOk, IfErr, ap, ◌∙◌, sym, refl, subst, inl, arith}
use Rattle.std.proofs.lemmas.List.{length-set}
use Rattle.std.proofs.lemmas.Option.{slice_get-get_or}
use Rattle.rl_prio.specs.Automaton.{Automaton, dead_state}
use Rattle.rl_sets.specs.declared.error.SetsError.{SetsError}
use Rattle.rl_sets.specs.declared.error.SetsError.TheVariants.{Sets}
use Rattle.rl_sets.specs.Live.{joined}
use Rattle.rl_sets.specs.Rows.{members_of}
use Rattle.rl_sets.specs.Walk.{Walk, set_at, IsSetOf, IsMadeFor, IsListed, IsFull}
use Rattle.rl_sets.proofs.SetLemmas.{IsSetOf-joined, joined-member}
use Rattle.rl_sets.proofs.RowLemmas.{joined-dead, members-joined}
use Rattle.rl_sets.proofs.WalkLemmas.{IsMadeFor-added}
use Rattle.rl_sets.proofs.walk.SetWalk.join.Goals as goal

pub returns-then-state-self-clause-listed : goal.returns-then-state-self-clause-listed
returns-then-state-self-clause-listed c a made =
    let sets = c.args.self.now.sets in
    let dead : c.args.state ≡ dead_state a = c.if-state-self.true ∙ ap (λ (w : Walk). w.kept.states - 1) c.self.view_is ∙ ap (λ n. n - 1) made.states in
    record {
      stands = slice_get-get_or sets c.args.set [] c.requires.set_in ∙ ap Some (sym (joined-dead a c.args.state (set_at c.args.self.now c.args.set) dead));
      grown = inl refl;
    }

pub returns-then-holds-clause-listed : goal.returns-then-holds-clause-listed
returns-then-holds-clause-listed c a made =
    let sets = c.args.self.now.sets in
    let set = set_at c.args.self.now c.args.set in
    record {
      stands = slice_get-get_or sets c.args.set [] c.requires.set_in ∙ ap Some (sym (joined-member a c.args.state set (made.sets c.args.set c.requires.set_in) (sym c.holds.ensures ∙ c.if-holds.true)));
      grown = inl refl;
    }

pub add-requires : goal.add-requires
add-requires c =
    ap length c.set.ensures ∙ length-set c.in_ok-row.row c.args.state true ∙ c.in_ok-row.ensures.len ∙ ap (λ (w : Walk). w.kept.states) (sym c.row_of.ensures.same)

module _ (c : goal.After-add) (a : Automaton) (made : IsMadeFor c.args.self.now a) where
  same : members_of c.set.new.self ≡ joined a c.args.state (set_at c.args.self.now c.args.set)
  same =
      let states_same : c.self.inside.states ≡ a.states = ap (λ (w : Walk). w.kept.states) c.self.view_is ∙ made.states in
      ap members_of c.set.ensures
      ∙ members-joined a c.in_ok-row.row c.args.state (c.in_ok-row.ensures.len ∙ made.states) (omega (arith, c.requires.state_in, made.states)) (λ e. c.if-state-self.false (e ∙ ap (λ n. n - 1) (sym states_same)))
      ∙ ap (joined a c.args.state) c.in_ok-row.ensures.members

pub returns-clause-listed : goal.returns-clause-listed
returns-clause-listed c a made =
    subst (λ (w : Walk). IfOk c.add.result (IsListed w.sets c.add.new.self.sets (joined a c.args.state (set_at c.args.self.now c.args.set)))) c.row_of.ensures.same (subst (λ (s : List ℕ). IfOk c.add.result (IsListed c.row_of.new.self.sets c.add.new.self.sets s)) (same c a made) c.add.ensures.listed)

pub returns-clause-made : goal.returns-clause-made
returns-clause-made c a made =
    let is = subst (IsSetOf a) (sym (same c a made)) (IsSetOf-joined a c.args.state (set_at c.args.self.now c.args.set) (made.sets c.args.set c.requires.set_in)) in
    IsMadeFor-added c.row_of.new.self c.add.new.self a (members_of c.set.new.self) c.add.result (subst (λ (w : Walk). IsMadeFor w a) (sym c.row_of.ensures.same) made) is c.add.ensures.listed c.add.ensures.unchanged c.add.ensures.few c.add.ensures.limit c.add.ensures.kept

pub returns-clause-full : goal.returns-clause-full
returns-clause-full c a made =
    subst (λ (w : Walk). IfErr c.add.result (λ (e : SetsError). e ≡ Sets → IsFull w.sets w.limit (joined a c.args.state (set_at c.args.self.now c.args.set)))) c.row_of.ensures.same (subst (λ (s : List ℕ). IfErr c.add.result (λ (e : SetsError). e ≡ Sets → IsFull c.row_of.new.self.sets c.row_of.new.self.limit s)) (same c a made) c.add.ensures.full)
