-- Readings from ways.
use Rattle.std.proofs.Common.{◌≡◌, ℕ, zero, suc, ◌++◌, Some, slice_get, ◌<◌, ◌≤◌, List, [], ◌∷◌, length, All, Option, IsSome, refl, sym, ap, ap₂, ◌∙◌, subst, arith}
use Rattle.std.proofs.lemmas.List.{length-map}
use Rattle.std.proofs.lemmas.Option.{none-some, same_Some}
use Rattle.rl_graph.specs.Paths.{paths, led, IsPath}
use Rattle.rl_graph.specs.Twins.{IsTwin}
use Rattle.rl_graph.proofs.TwinPaths.{path-there}
use Rattle.rl_syntax.specs.Tree.{Tree}
use Rattle.rl_prio.specs.Automaton.{Automaton, letters_count}
use Rattle.rl_prio.specs.States.{state_count, accepting}
use Rattle.rl_pairs.specs.PairTable.{PairTable, moves_in}
use Rattle.rl_pairs.specs.Families.{spelled}
use Rattle.rl_ways.specs.declared.item.ToldItem.{ToldItem}
use Rattle.rl_ways.specs.Ways.{Leads, text_way, place_of_state, last_of}
use Rattle.rl_ways.specs.declared.origin.Origin.{Origin}
use Rattle.rl_ways.proofs.TextLaws.{text_ways-part}
use Rattle.rl_why.specs.Shown.{Step, shown, PartAt}
use Rattle.rl_why.specs.Loops.{loop_of}
use Rattle.rl_why.specs.Readings.{way_again, IsWay, TwinReading, SplitReading, AreTwinWays, AreSplitWays, IsCycle}
use Rattle.rl_why.specs.internal.Numbers.{state_in, numbers_in}
use Rattle.rl_why.specs.internal.Settings.{IsSetting, IsWayAlong, place_of}
use Rattle.rl_why.proofs.AlongLaws.{numbers-differ, numbers-long, begins, paths-lead_along}
use Rattle.rl_why.proofs.LoopLaws.{rounds-named}
use Rattle.rl_why.proofs.ShownLaws.{parts-shown}

-- What is known of two lists of move numbers along one text.
pub record AreTwo (t : Tree) (text : List ℕ) (place before : Option ℕ) (one other : List ℕ) : Type 0 where
  pub first : Leads place place text (text_way t place before text one)
  pub second : Leads place place text (text_way t place before text other)
  pub first_long : length one ≡ length text
  pub second_long : length other ≡ length text
  pub apart : one ≡ other → ⊥

-- The word of a twin isn't empty.
pub twin-some : (next : ℕ → ℕ → List ℕ) (i : ℕ) (w p r : List ℕ) → IsTwin next i w p r → 1 ≤ length w
twin-some next i [] p r twin = absurd (twin.apart (none p twin.one_way ∙ sym (none r twin.other_way)))
  where
    none : (x : List ℕ) → IsPath next i i x [] → x ≡ []
    none [] path = refl
    none (k ∷ x) path = absurd (none-some i path)
twin-some next i (l ∷ w) p r twin = omega arith

module _ (t : Tree) (a : Automaton) (g : PairTable) (s : IsSetting t a g) where
  -- The place of a state from which a word leads on, as the program computes it.
  pub place-is : (w : List ℕ) (i k : ℕ) (place : Option ℕ) → i < g.graph.states → 1 ≤ length w → All (λ letter. letter < letters_count a) w → 1 ≤ paths (moves_in g) i k w
      → (a.states ≡ state_count t a.table.codes → state_in g i < accepting t a.table.codes → place ≡ place_of_state t a.table.codes (state_in g i))
      → place ≡ place_of_state t a.table.codes (state_in g i)
  place-is w i k place lt some letters there is =
      let p = path-there (moves_in g) i k w there in
      is s.stands.same_states (begins t a g s w p.0 i k lt some letters p.1)

  pub place-as : (w : List ℕ) (i k states state : ℕ) (place : Option ℕ) → i < g.graph.states → 1 ≤ length w → All (λ letter. letter < letters_count a) w → 1 ≤ paths (moves_in g) i k w
      → states ≡ a.states → state ≡ state_in g i
      → ((n : ℕ) → states ≡ state_count t n → state < accepting t n → place ≡ place_of_state t n state)
      → place ≡ place_of_state t a.table.codes (state_in g i)
  place-as w i k states state place lt some letters there states_are state_is is =
      place-is w i k place lt some letters there
      (λ e below. is a.table.codes (states_are ∙ e) (subst (λ q. q < accepting t a.table.codes) (sym state_is) below) ∙ ap (place_of_state t a.table.codes) state_is)

  pub two-ways : (i : ℕ) (w p r text one other : List ℕ) (place before : Option ℕ) → i < g.graph.states → IsTwin (moves_in g) i w p r → All (λ letter. letter < letters_count a) w
      → text ≡ spelled a w → one ≡ numbers_in a g i w p → other ≡ numbers_in a g i w r → place ≡ place_of_state t a.table.codes (state_in g i) → before ≡ last_of text
      → AreTwo t text place before one other
  two-ways i w p r text one other place before lt twin letters text_is one_is other_is place_is before_is =
      let some = twin-some (moves_in g) i w p r twin in
      let q = place_of_state t a.table.codes (state_in g i) in
      let long : length (spelled a w) ≡ length w = length-map w _ in
      let all : AreTwo t (spelled a w) q (last_of (spelled a w)) (numbers_in a g i w p) (numbers_in a g i w r) =
      record {
        first = paths-lead_along t a g s w p p p i i lt lt some letters twin.one_way twin.one_way twin.one_way;
        second = paths-lead_along t a g s w r r r i i lt lt some letters twin.other_way twin.other_way twin.other_way;
        first_long = numbers-long t a g s w p i i lt twin.one_way ∙ sym long;
        second_long = numbers-long t a g s w r i i lt twin.other_way ∙ sym long;
        apart = numbers-differ t a g s w p r i i i lt twin.one_way twin.other_way twin.apart;
      } in
      subst (λ x. AreTwo t text place before x other) (sym one_is)
      (subst (λ x. AreTwo t text place before (numbers_in a g i w p) x) (sym other_is)
      (subst (λ x. AreTwo t text place x (numbers_in a g i w p) (numbers_in a g i w r)) (sym before_is)
      (subst (λ x. AreTwo t text x (last_of text) (numbers_in a g i w p) (numbers_in a g i w r)) (sym place_is)
      (subst (λ x. AreTwo t x q (last_of x) (numbers_in a g i w p) (numbers_in a g i w r)) (sym text_is) all))))

  -- A way from one pair's state to another's.
  pub one-way : (i k : ℕ) (w p text numbers : List ℕ) (from to before : Option ℕ) → i < g.graph.states → k < g.graph.states → 1 ≤ length w → All (λ letter. letter < letters_count a) w
      → 1 ≤ paths (moves_in g) i i w → IsPath (moves_in g) i k p w → 1 ≤ paths (moves_in g) k k w
      → text ≡ spelled a w → numbers ≡ numbers_in a g i w p → from ≡ place_of_state t a.table.codes (state_in g i)
      → to ≡ place_of_state t a.table.codes (state_in g k) → before ≡ last_of text → Leads from to text (text_way t from before text numbers)
  one-way i k w p text numbers from to before i_in k_in some letters around path behind text_is numbers_is from_is to_is before_is =
      let e = path-there (moves_in g) i i w around in
      let f = path-there (moves_in g) k k w behind in
      let qi = place_of_state t a.table.codes (state_in g i) in
      let qk = place_of_state t a.table.codes (state_in g k) in
      let all = paths-lead_along t a g s w e.0 p f.0 i k i_in k_in some letters e.1 path f.1 in
      subst (λ x. Leads from to text (text_way t from before text x)) (sym numbers_is)
      (subst (λ x. Leads from to text (text_way t from x text (numbers_in a g i w p))) (sym before_is)
      (subst (λ x. Leads x to text (text_way t x (last_of text) text (numbers_in a g i w p))) (sym from_is)
      (subst (λ x. Leads qi x text (text_way t qi (last_of text) text (numbers_in a g i w p))) (sym to_is)
      (subst (λ x. Leads qi qk x (text_way t qi (last_of x) x (numbers_in a g i w p))) (sym text_is) all))))

  -- The same, of a way that was found.
  pub along : (i k : ℕ) (w p text numbers : List ℕ) (from to before : Option ℕ) (l : List ToldItem) → from ≡ place_of_state t a.table.codes (state_in g i)
      → to ≡ place_of_state t a.table.codes (state_in g k) → before ≡ last_of text → l ≡ text_way t from before text numbers → Leads from to text l
      → IsPath (moves_in g) i k p w → numbers ≡ numbers_in a g i w p → IsWayAlong t a g i k w text l
  along i k w p text numbers from to before l from_is to_is before_is is leads path numbers_is =
      record {
        path = p;
        goes = path;
        numbers = numbers;
        counted = numbers_is;
        leads = subst (λ x. Leads x (place_of_state t a.table.codes (state_in g k)) text l) from_is (subst (λ x. Leads from x text l) to_is leads);
        same = is ∙ ap₂ (λ x y. text_way t x y text numbers) from_is before_is;
      }

pub twin-shown : (t : Tree) (nodes : List Origin) (text one other : List ℕ) (place before : Option ℕ) (l m : List ToldItem) (r : TwinReading) → AreTwo t text place before one other
    → before ≡ last_of text → l ≡ text_way t place before text one → m ≡ text_way t place before text other → r.first ≡ shown nodes l → r.second ≡ shown nodes m
    → ((k : ℕ) → PartAt k r.first r.second → r.parts ≡ k) → AreTwinWays t nodes text place r
twin-shown t nodes text one other place before l m r two before_is l_is m_is first_is second_is parts_are =
    let here : l ≡ way_again t text place one = l_is ∙ ap (λ x. text_way t place x text one) before_is in
    let there : m ≡ way_again t text place other = m_is ∙ ap (λ x. text_way t place x text other) before_is in
    let x = text_ways-part t text one other place before (two.first.whole ∙ sym two.first_long) (two.second.whole ∙ sym two.second_long) (two.first_long ∙ sym two.second_long) two.apart in
    let apart = parts-shown nodes x.0 (text_way t place before text one) (text_way t place before text other) x.1 in
    let apart_here : PartAt x.0 r.first r.second =
    subst (λ y. PartAt x.0 y r.second) (sym (first_is ∙ ap (shown nodes) l_is)) (subst (PartAt x.0 (shown nodes (text_way t place before text one))) (sym (second_is ∙ ap (shown nodes) m_is)) apart) in
    record {
      one = one;
      other = other;
      first = record { leads = subst (λ y. Leads place place text (text_way t place y text one)) before_is two.first; long = two.first_long; same = first_is ∙ ap (shown nodes) here };
      second = record { leads = subst (λ y. Leads place place text (text_way t place y text other)) before_is two.second; long = two.second_long; same = second_is ∙ ap (shown nodes) there };
      parts = subst (λ k. PartAt k r.first r.second) (sym (parts_are x.0 apart_here)) apart_here;
    }

-- A way that was found has a move number for each code.
along-long : (t : Tree) (a : Automaton) (g : PairTable) → IsSetting t a g → (i k : ℕ) (w text : List ℕ) (l : List ToldItem) → i < g.graph.states → text ≡ spelled a w
    → (h : IsWayAlong t a g i k w text l) → length h.numbers ≡ length text
along-long t a g s i k w text l lt text_is h =
    let long : length text ≡ length w = ap length text_is ∙ length-map w _ in
    ap length h.counted ∙ numbers-long t a g s w h.path i k lt h.goes ∙ sym long

-- The steps of a way that was found.
way-shown : (t : Tree) (a : Automaton) (g : PairTable) → IsSetting t a g → (nodes : List Origin) (i k : ℕ) (w text : List ℕ) (l : List ToldItem) (steps : List Step) → i < g.graph.states → text ≡ spelled a w
    → (h : IsWayAlong t a g i k w text l) → steps ≡ shown nodes l → IsWay t nodes text (place_of t a g i) (place_of t a g k) h.numbers steps
way-shown t a g s nodes i k w text l steps lt text_is h is =
    record {
      leads = subst (Leads (place_of t a g i) (place_of t a g k) text) h.same h.leads;
      long = along-long t a g s i k w text l lt text_is h;
      same = is ∙ ap (shown nodes) h.same;
    }

-- The loop of a way that was found is named.
way-named : (t : Tree) (a : Automaton) (g : PairTable) (nodes : List Origin) (i : ℕ) (w text : List ℕ) (l : List ToldItem) (o : Option Origin) → 1 ≤ length text → IsWayAlong t a g i i w text l
    → o ≡ loop_of t nodes l → IsSome o
way-named t a g nodes i w text l o some h is =
    subst IsSome (sym (is ∙ ap (loop_of t nodes) h.same))
    (rounds-named t nodes (place_of t a g i) (last_of text) text h.numbers some (subst (Leads (place_of t a g i) (place_of t a g i) text) h.same h.leads))

-- Two ways from one pair to two different pairs part.
ways-part : (t : Tree) (a : Automaton) (g : PairTable) → IsSetting t a g → (nodes : List Origin) (i k : ℕ) (w text : List ℕ) (l m : List ToldItem) → i < g.graph.states → (i ≡ k → ⊥) → text ≡ spelled a w
    → (one : IsWayAlong t a g i i w text l) → (two : IsWayAlong t a g i k w text m) → (step : ℕ) × PartAt step (shown nodes l) (shown nodes m)
ways-part t a g s nodes i k w text l m lt other text_is one two =
    let place = place_of t a g i in
    let one_long = along-long t a g s i i w text l lt text_is one in
    let two_long = along-long t a g s i k w text m lt text_is two in
    let apart : one.numbers ≡ two.numbers → ⊥ = λ same.
    numbers-differ t a g s w one.path two.path i i k lt one.goes two.goes
    (λ e. other (same_Some i k (sym one.goes ∙ ap (λ p. led (moves_in g) i p w) e ∙ two.goes))) (sym one.counted ∙ same ∙ two.counted) in
    let x = text_ways-part t text one.numbers two.numbers place (last_of text) (sym (ap length one.same) ∙ one.leads.whole ∙ sym one_long) (sym (ap length two.same) ∙ two.leads.whole ∙ sym two_long) (one_long ∙ sym two_long) apart in (
      x.0,
      subst (λ y. PartAt x.0 (shown nodes y) (shown nodes m)) (sym one.same) (subst (λ y. PartAt x.0 (shown nodes (way_again t text place one.numbers)) (shown nodes y)) (sym two.same)
          (parts-shown nodes x.0 (way_again t text place one.numbers) (way_again t text place two.numbers) x.1)),
    )

pub split-shown : (t : Tree) (a : Automaton) (g : PairTable) → IsSetting t a g → (nodes : List Origin) (i k : ℕ) (w text : List ℕ) (before over behind : List ToldItem) (r : SplitReading)
    → i < g.graph.states → k < g.graph.states → (i ≡ k → ⊥) → 1 ≤ length w → text ≡ spelled a w
    → IsWayAlong t a g i i w text before → IsWayAlong t a g i k w text over → IsWayAlong t a g k k w text behind
    → r.before ≡ shown nodes before → r.over ≡ shown nodes over → r.behind ≡ shown nodes behind
    → r.first_loop ≡ loop_of t nodes before → r.second_loop ≡ loop_of t nodes behind → AreSplitWays t nodes text (place_of t a g i) (place_of t a g k) r
split-shown t a g s nodes i k w text before over behind r i_in k_in other some text_is one two three before_is over_is behind_is first_is second_is =
    let parts = ways-part t a g s nodes i k w text before over i_in other text_is one two in
    let long : length text ≡ length w = ap length text_is ∙ length-map w _ in
    record {
      stays = one.numbers;
      goes = two.numbers;
      follows = three.numbers;
      before = way-shown t a g s nodes i i w text before r.before i_in text_is one before_is;
      over = way-shown t a g s nodes i k w text over r.over i_in text_is two over_is;
      behind = way-shown t a g s nodes k k w text behind r.behind k_in text_is three behind_is;
      step = parts.0;
      parts = subst (λ l. PartAt parts.0 l r.over) (sym before_is) (subst (PartAt parts.0 (shown nodes before)) (sym over_is) parts.1);
      first_loop = first_is ∙ ap (loop_of t nodes) one.same;
      second_loop = second_is ∙ ap (loop_of t nodes) three.same;
      first_named = way-named t a g nodes i w text before r.first_loop (omega (arith, some, long)) one first_is;
      second_named = way-named t a g nodes k w text behind r.second_loop (omega (arith, some, long)) three second_is;
    }

pub cycle-shown : (t : Tree) (a : Automaton) (g : PairTable) → IsSetting t a g → (nodes : List Origin) (i k : ℕ) (w text same_text : List ℕ) (l : List ToldItem) (o : Option Origin) → i < g.graph.states
    → 1 ≤ length w → text ≡ spelled a w → IsWayAlong t a g i i w text l → o ≡ loop_of t nodes l → text ≡ same_text → i ≡ k → IsCycle t nodes same_text (place_of t a g k) o
cycle-shown t a g s nodes i k w text same_text l o lt some text_is h is same same_pair =
    let place = place_of t a g i in
    let long : length text ≡ length w = ap length text_is ∙ length-map w _ in
    subst (λ j. IsCycle t nodes same_text (place_of t a g j) o) same_pair
    (subst (λ x. IsCycle t nodes x place o) same
    (record {
      numbers = h.numbers;
      leads = subst (Leads place place text) h.same h.leads;
      long = along-long t a g s i i w text l lt text_is h;
      same = is ∙ ap (loop_of t nodes) h.same;
      named = way-named t a g nodes i w text l o (omega (arith, some, long)) h is;
    }))

-- What holds of each item by its index holds after one more item.
pub push-at : {A : Type 0} (P : ℕ → A → Type 0) (l : List A) (r : A) → ((j : ℕ) (x : A) → slice_get l j ≡ Some x → P j x) → P (length l) r → (j : ℕ) (x : A) → slice_get (l ++ r ∷ []) j ≡ Some x → P j x
push-at P [] r all last zero x e = subst (P 0) (same_Some r x e) last
push-at P [] r all last (suc j) x e = absurd (none-some x e)
push-at P (y ∷ l) r all last zero x e = all 0 x e
push-at P (y ∷ l) r all last (suc j) x e = push-at (λ i. P (suc i)) l r (λ i z h. all (suc i) z h) last j x e
