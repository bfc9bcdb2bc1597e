-- The way along a chain of splits, place by place.
use Rattle.std.proofs.Common.{◌≡◌, ◌∙◌, ℕ, zero, suc, ◌+◌, ◌<◌, ◌≤◌, List, [], ◌∷◌, ◌++◌, length, map, take, get_or, Option, None, IfNone, refl, sym, ap, ap₂, subst, arith, length-append}
use Rattle.std.proofs.lemmas.List.{map-append, get_or_default, take_more, take_all}
use Rattle.std.proofs.lemmas.Bool.{ne_eqb}
use Rattle.rl_graph.specs.Graph.{Graph, edges_of}
use Rattle.rl_graph.specs.Walks.{NoPath}
use Rattle.rl_graph.specs.Paths.{paths, Reaches}
use Rattle.rl_graph.specs.Twins.{IsSplit, Link, ChainFrom}
use Rattle.rl_graph.proofs.PathLaws.{paths-nil, nil-same}
use Rattle.rl_degree.specs.declared.chains.Split.{Split}
use Rattle.rl_degree.specs.Chains.{link_of, links_of}
use Rattle.rl_pairs.specs.Families.{Chained}
use Rattle.rl_growth.specs.Routes.{split_at, state_before, state_after, bare, IsRoute, IsWay}

pub before-more : (splits : List Split) (k j : ℕ) → k ≡ j + 1 → state_before splits k ≡ (split_at splits j).to
before-more splits k j e = rw (e, ne_eqb (j + 1) 0 (omega arith)) (ap (λ i. (split_at splits i).to) (omega arith))

-- A chain goes on by one more split.
chained-push : (next : ℕ → ℕ → List ℕ) (s : ℕ) (links : List Link) (q : ℕ) (m : Link) → Chained next s links [] q → 1 ≤ paths next q m.from m.lead → IsSplit next m.from m.to m.word → Chained next s (links ++ m ∷ []) [] m.to
chained-push next s [] q m here lead split =
    (subst (λ x. 1 ≤ paths next x m.from m.lead) (sym (nil-same next s q here)) lead, split, omega (arith, paths-nil next m.to))
chained-push next s (l ∷ links) q m c lead split = (c.0, c.1, chained-push next l.to links q m c.2 lead split)

-- The words that lead to its splits show that they are reached.
pub chained-from : (next : ℕ → ℕ → List ℕ) (s : ℕ) (links : List Link) (x : List ℕ) (z : ℕ) → Chained next s links x z → ChainFrom next s links
chained-from next s [] x z c = tt
chained-from next s (m ∷ links) x z c = ((m.lead, c.0), c.1, chained-from next m.to links x z c.2)

-- The state at the end.
pub after-none : (splits : List Split) (q : ℕ) → length splits ≡ 0 → q ≡ state_after splits q
after-none [] q e = refl
after-none (s ∷ splits) q e = absurd (omega arith)

pub after-last : (splits : List Split) (k q : ℕ) → length splits ≡ k + 1 → (split_at splits k).to ≡ state_after splits q
after-last [] k q e = absurd (omega arith)
after-last (s ∷ []) zero q e = refl
after-last (s ∷ []) (suc k) q e = absurd (omega arith)
after-last (s ∷ (t ∷ splits)) zero q e = absurd (omega arith)
after-last (s ∷ (t ∷ splits)) (suc k) q e = after-last (t ∷ splits) k s.to (omega arith)

-- The links up to a place, and one more.
ends-more : (splits : List Split) (k : ℕ) (links : List Link) (m : Link) → k < length splits → bare m ≡ link_of (split_at splits k) → map bare links ≡ links_of (take k splits) → map bare (links ++ m ∷ []) ≡ links_of (take (k + 1) splits)
ends-more splits k links m lt same ends =
    map-append bare links (m ∷ []) ∙ (ap₂ (λ (l : List Link) (b : Link). l ++ b ∷ []) ends same
    ∙ sym (ap links_of (take_more splits k (record { from = 0; to = 0; word = [] }) lt) ∙ map-append link_of (take k splits) (split_at splits k ∷ [])))

pub ends-all : (splits : List Split) (links : List Link) → map bare links ≡ links_of (take (length splits) splits) → map bare links ≡ links_of splits
ends-all splits links ends = ends ∙ ap links_of (take_all (length splits) splits (omega arith))

pub way-first : (next : ℕ → ℕ → List ℕ) (splits : List Split) → IsWay next splits 0 [] []
way-first next splits = record { links = []; chained = omega (arith, paths-nil next 0); leads = refl; rounds = refl; count = refl; ends = refl }

pub way-more : (next : ℕ → ℕ → List ℕ) (n : ℕ) (splits : List Split) (k : ℕ) (heads pumps : List (List ℕ)) (lead : List ℕ) → IsRoute next n splits → k < length splits → IsWay next splits k heads pumps
    → 1 ≤ paths next (state_before splits k) (split_at splits k).from lead → IsWay next splits (k + 1) (heads ++ lead ∷ []) (pumps ++ (split_at splits k).word ∷ [])
way-more next n splits k heads pumps lead route lt way leads =
    let s : Split = split_at splits k in
    let m : Link = record { lead = lead; from = s.from; to = s.to; word = s.word } in
    record {
      links = way.links ++ m ∷ [];
      chained = subst (Chained next 0 (way.links ++ m ∷ []) []) (sym (before-more splits (k + 1) k refl)) (chained-push next 0 way.links (state_before splits k) m way.chained leads (route.split k lt));
      leads = ap (λ (l : List (List ℕ)). l ++ lead ∷ []) way.leads ∙ sym (map-append (λ (m : Link). m.lead) way.links (m ∷ []));
      rounds = ap (λ (l : List (List ℕ)). l ++ s.word ∷ []) way.rounds ∙ sym (map-append (λ (m : Link). m.word) way.links (m ∷ []));
      count = omega (arith, length-append way.links (m ∷ []), way.count);
      ends = ends-more splits k way.links m lt refl way.ends;
    }

-- Splits that were read at their places

pub read-at : (splits : List Split) (k : ℕ) (x : Split) → k < length splits → get_or splits k x ≡ split_at splits k
read-at splits k x lt = get_or_default splits k x (record { from = 0; to = 0; word = [] }) lt

pub reached-read : (next : ℕ → ℕ → List ℕ) (n : ℕ) (splits : List Split) (k j : ℕ) (x y : Split) → IsRoute next n splits → k < length splits → k ≡ j + 1 → Reaches next (get_or splits j y).to (get_or splits k x).from
reached-read next n splits k j x y route lt e =
    subst (λ (s : Split). Reaches next s.to (get_or splits k x).from) (sym (read-at splits j y (omega arith)))
    (subst (λ (s : Split). Reaches next (split_at splits j).to s.from) (sym (read-at splits k x lt))
    (subst (λ (q : ℕ). Reaches next q (split_at splits k).from) (before-more splits k j e) (route.reached k lt)))

-- A state that is reached is found.
pub no_path-reached : (g h : Graph) (from to : ℕ) (o : Option (List ℕ)) → h ≡ g → o ≡ None → IfNone o (NoPath (edges_of h) 0 from to) → Reaches (edges_of g) from to → ⊥
no_path-reached g h from to o same e none reach =
    let here : NoPath (edges_of h) 0 from to = subst (λ (x : Option (List ℕ)). IfNone x (NoPath (edges_of h) 0 from to)) e none in
    let there : NoPath (edges_of g) 0 from to = subst (λ (x : Graph). NoPath (edges_of x) 0 from to) same here in
    there reach.0 (omega arith) reach.1

-- One more split's words were appended.
pub way-pushed : (next : ℕ → ℕ → List ℕ) (n : ℕ) (splits : List Split) (k : ℕ) (heads pumps heads2 pumps2 : List (List ℕ)) (lead round : List ℕ) (x : Split) → IsRoute next n splits → k < length splits → IsWay next splits k heads pumps
    → 1 ≤ paths next (state_before splits k) (split_at splits k).from lead → heads2 ≡ heads ++ lead ∷ [] → pumps2 ≡ pumps ++ round ∷ [] → round ≡ (get_or splits k x).word → IsWay next splits (k + 1) heads2 pumps2
way-pushed next n splits k heads pumps heads2 pumps2 lead round x route lt way leads same_heads same_pumps same_round =
    let round_here : round ≡ (split_at splits k).word = same_round ∙ ap (λ (s : Split). s.word) (read-at splits k x lt) in
    let pumps_here : pumps2 ≡ pumps ++ (split_at splits k).word ∷ [] = same_pumps ∙ ap (λ (r : List ℕ). pumps ++ r ∷ []) round_here in
    let more = way-more next n splits k heads pumps lead route lt way leads in
    subst (IsWay next splits (k + 1) heads2) (sym pumps_here) (subst (λ (h : List (List ℕ)). IsWay next splits (k + 1) h (pumps ++ (split_at splits k).word ∷ [])) (sym same_heads) more)
