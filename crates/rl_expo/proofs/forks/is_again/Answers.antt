use Rattle.std.proofs.Common.{rules, ◌≡◌, ℕ, ◌+◌, ◌*◌, ◌<◌, length, IfSome, sym, ◌∙◌, ap, subst}
use Rattle.std.proofs.lemmas.Bool.Decides.{Decides-eqb}
use Rattle.std.proofs.lemmas.List.{get_or_default}
use Rattle.std.proofs.lemmas.Slice.Eq.{slice_eq-Decides}
use Rattle.rl_graph.specs.Graph.{edges_of}
use Rattle.rl_graph.specs.Parts.{number_of}
use Rattle.rl_kernel.specs.Seats.{seats_of, state_at}
use Rattle.rl_expo.specs.internal.Meeting.{own_part, NoneMeets}
use Rattle.rl_expo.proofs.MeetingLaws.{none-again}
use Rattle.rl_expo.proofs.forks.is_again.Goals as goal

pub returns-then-own-other : goal.returns-then-own-other
returns-then-own-other c h =
    let g = c.args.g.now in
    let s = seats_of c.args.kernel.now in
    let p = c.args.parts.now in
    let count : c.len-count.result ≡ length s.states = search rules in
    let own : c.of-own.result ≡ own_part s p c.args.place = c.of-own.ensures ∙ ap (number_of p) (c.pair_of.ensures ∙ ap (λ (n : ℕ). c.args.place * n + c.args.place) count) in
    let other : c.of-other.result ≡ own_part s p c.in-Some.earlier = c.of-other.ensures ∙ ap (number_of p) (c.pair_of-2.ensures ∙ ap (λ (n : ℕ). c.in-Some.earlier * n + c.in-Some.earlier) count) in
    let told = subst (λ o. IfSome o (λ b. (b < length s.states) × NoneMeets g s p b c.args.letter)) c.in-Some.is c.requires.earlier in
    let one : c.index.result.now ≡ state_at s c.args.place = c.index.ensures ∙ get_or_default s.states c.args.place c.index.result.now 0 c.requires.place_in in
    let another : c.index-then-own-other.result.now ≡ state_at s c.in-Some.earlier = c.index-then-own-other.ensures ∙ get_or_default s.states c.in-Some.earlier c.index-then-own-other.result.now 0 told.0 in
    let rows : c.edges-row.result.now ≡ c.edges.result.now = (slice_eq-Decides Decides-eqb c.edges-row.result.now c.edges.result.now c.eq.result c.eq.ensures).0 h in
    none-again g s p c.in-Some.earlier c.args.place c.args.letter
    (ap (λ (q : ℕ). edges_of g q c.args.letter) (sym one) ∙ (sym c.edges-row.ensures.targets ∙ (rows ∙ (c.edges.ensures.targets ∙ ap (λ (q : ℕ). edges_of g q c.args.letter) another))))
    (sym own ∙ (c.if-own-other.true ∙ other)) told.1
