-- Five times: of enough paths that pass a border at different times there are five of which each two cross alike, a split.
use Rattle.std.proofs.Common.{◌≡◌, ◌∙◌, ℕ, zero, suc, ◌+◌, ◌*◌, ◌^◌, ◌/◌, ◌%◌, ◌-◌, ◌<◌, ◌≤◌, List, [], ◌∷◌, length, take, drop, refl, sym, ap, subst, arith}
use Rattle.std.proofs.Math.Nat.{one-le-pow}
use Rattle.std.proofs.lemmas.Nat.{mul-add-lt, div-mul-add, mod-mul-add}
use Rattle.rl_graph.specs.Paths.{Has, Each, Pairs, paths, Reaches, IsWithin}
use Rattle.rl_graph.specs.Twins.{IsSplit}
use Rattle.rl_graph.specs.Bounds.{bound_b}
use Rattle.rl_graph.proofs.Sums.{total-there, each-has}
use Rattle.rl_graph.proofs.PathLaws.{paths-nil, move-path, along_moves, Reaches-trans}
use Rattle.rl_degree.specs.Leavers.{Runs, NeverRises}
use Rattle.rl_degree.specs.Passages.{Passage, Later, FiveOfOneColour}
use Rattle.rl_degree.proofs.Pigeons.{Five, five}

-- A state comes first, and then the states of a function.
abbrev pub first_then : ℕ → (ℕ → ℕ) → ℕ → ℕ
first_then s f zero = s
first_then s f (suc j) = f j

-- A path has its states.
pub runs-there : (next : ℕ → ℕ → List ℕ) (s t : ℕ) (w : List ℕ) → 1 ≤ paths next s t w → (at : ℕ → ℕ) × (at 0 ≡ s) × Runs next w at
runs-there next s t [] h = ((λ j. s), refl, tt)
runs-there next s t (l ∷ w) h =
    let m = total-there (λ m. paths next m t w) (next s l) h in
    let r = runs-there next m.0 t w m.2 in
    (first_then s r.0, refl, (subst (λ (x : ℕ). Has x (next s l)) (sym r.1) m.1, r.2))

-- The piece of a path between two times is a path.
runs-first : (next : ℕ → ℕ → List ℕ) (w : List ℕ) (at : ℕ → ℕ) (d : ℕ) → Runs next w at → d ≤ length w → 1 ≤ paths next (at 0) (at d) (take d w)
runs-first next w at zero r h = omega (arith, paths-nil next (at 0))
runs-first next [] at (suc d) r h = absurd (omega arith)
runs-first next (l ∷ w) at (suc d) r h =
    move-path next (at 0) (at 1) (at (suc d)) l (take d w) r.0 (runs-first next w (λ j. at (suc j)) d r.1 (omega arith))

pub runs-part : (next : ℕ → ℕ → List ℕ) (w : List ℕ) (at : ℕ → ℕ) (i j d : ℕ) → Runs next w at → j ≡ i + d → j ≤ length w → 1 ≤ paths next (at i) (at j) (take d (drop i w))
runs-part next w at zero j d r e h =
    let same : j ≡ d = omega arith in
    subst (λ (x : ℕ). 1 ≤ paths next (at 0) (at x) (take d w)) (sym same) (runs-first next w at d r (omega arith))
runs-part next w at (suc i) zero d r e h = absurd (omega arith)
runs-part next [] at (suc i) (suc j) d r e h = absurd (omega arith)
runs-part next (l ∷ w) at (suc i) (suc j) d r e h =
    runs-part next w (λ j. at (suc j)) i j d r.1 (omega arith) (omega arith)

-- The number never rises along a path, and the path stays in the graph.
pub falls-along : (next : ℕ → ℕ → List ℕ) (n k : ℕ) (level : ℕ → ℕ) → IsWithin next n k → NeverRises next n level → (q r : ℕ) (w : List ℕ) → q < n → 1 ≤ paths next q r w → (r < n) × (level r ≤ level q)
falls-along next n k level within falls q r w lt h =
    along_moves (λ m. (m < n) × (level m ≤ level q)) next (λ a l m p i. (within.targets a l m p.0 i, lower a l m p i)) q r w (lt, omega arith) h
  where
    lower : (a l m : ℕ) → (a < n) × (level a ≤ level q) → Has m (next a l) → level m ≤ level q
    lower a l m p i = omega (arith, falls a l m p.0 i, p.1)

-- The paths of five things cross each other in `r` and `q`, and these two states are a split.
pub record FiveAlike (next : ℕ → ℕ → List ℕ) (A : Type 0) (time : A → ℕ) (at : A → ℕ → ℕ) (things : List A) : Type 0 where
  pub r : ℕ
  pub q : ℕ
  pub five : List A
  pub are_five : length five ≡ 5
  pub members : Each (λ x. Has x things) five
  pub cross : Pairs (λ x y. (time y < time x) × ((at x (time y) ≡ r) × (at y (time x) ≡ q))) five
  pub word : List ℕ
  pub split : IsSplit next r q word

-- Things with paths from `s` along the word, each of which is on one side of a border up to a time of its own, and on the other
-- one behind it.
module _ (next : ℕ → ℕ → List ℕ) (n k : ℕ) (within : IsWithin next n k) (s : ℕ) (start : s < n) (w : List ℕ) (A : Type 0) (time : A → ℕ) (at : A → ℕ → ℕ) (begins : (x : A) → at x 0 ≡ s) (runs : (x : A) → Runs next w (at x))
    (short : (x : A) → time x < length w) (Before Behind : ℕ → Type 0) (before : (x : A) (i : ℕ) → i ≤ time x → Before (at x i)) (behind : (x : A) (i : ℕ) → time x < i → i ≤ length w → Behind (at x i)) (border : (q : ℕ) → Before q → Behind q → ⊥) where
  -- The crossing is the state of the later path at the earlier time, and that of the earlier path at the later time.
  abbrev crossing : A → A → ℕ
  crossing x y = at x (time y) * n + at y (time x)

  -- The second thing passes the border first.
  abbrev IsLater : A → A → Type 0
  IsLater x y = time y < time x

  -- The two paths cross in these two states.
  abbrev CrossIn : ℕ → ℕ → A → A → Type 0
  CrossIn r q x y = (at x (time y) ≡ r) × (at y (time x) ≡ q)

  -- The piece of a path between two times is a path.
  piece : (x : A) (i j d : ℕ) → j ≡ i + d → j ≤ length w → 1 ≤ paths next (at x i) (at x j) (take d (drop i w))
  piece x i j d e h = runs-part next w (at x) i j d (runs x) e h

  inside-graph : (x : A) (i : ℕ) → i ≤ length w → at x i < n
  inside-graph x i h =
      let p : 1 ≤ paths next (at x 0) (at x i) (take i w) = piece x 0 i i (omega arith) h in
      let lt : at x 0 < n = subst (λ (q : ℕ). q < n) (sym (begins x)) start in
      along_moves (λ m. m < n) next (λ a l m p i. within.targets a l m p i) (at x 0) (at x i) (take i w) lt p

  crossing-below : (x y : A) → time y < time x → crossing x y < n * n
  crossing-below x y h =
      let in_word : time x < length w = short x in
      mul-add-lt (at x (time y)) n (at y (time x)) n (inside-graph x (time y) (omega arith)) (inside-graph y (time x) (omega arith))

  -- The number of a crossing tells its two states.
  crossing-left : (x y : A) (v : ℕ) → time y < time x → crossing x y ≡ v → at x (time y) ≡ v / n
  crossing-left x y v h e =
      let in_word : time x < length w = short x in
      sym (div-mul-add (at x (time y)) n (at y (time x)) (inside-graph y (time x) (omega arith))) ∙ ap (λ z. z / n) e

  crossing-right : (x y : A) (v : ℕ) → time y < time x → crossing x y ≡ v → at y (time x) ≡ v % n
  crossing-right x y v h e =
      let in_word : time x < length w = short x in
      sym (mod-mul-add (at x (time y)) n (at y (time x)) (inside-graph y (time x) (omega arith))) ∙ ap (λ z. z % n) e

  -- Two things with a crossing of this number cross in its two states.
  crossed : (v : ℕ) (x y : A) → IsLater x y × (crossing x y ≡ v) → IsLater x y × CrossIn (v / n) (v % n) x y
  crossed v x y h = (h.0, (crossing-left x y v h.0 h.1, crossing-right x y v h.0 h.1))

  -- Five things with one crossing are a split. Along the word between two of their times, the last one leads from the first
  -- state of the crossing to itself, the middle one leads to the second state, and the first one leads from that to itself.
  split_of_five : (x y : ℕ) (a b c d e : A) → IsLater a b × CrossIn x y a b → IsLater a d × CrossIn x y a d → IsLater b c × CrossIn x y b c → IsLater b e × CrossIn x y b e → IsLater c d × CrossIn x y c d → IsLater d e × CrossIn x y d e
      → (u : List ℕ) × IsSplit next x y u
  split_of_five x y a b c d e ab ad bc be cd de =
      let len : ℕ = time b - time d in
      let u : List ℕ = take len (drop (time d) w) in
      let sum : time b ≡ time d + len = omega (arith, bc.0, cd.0) in
      let last : time b < length w = short b in
      let in_word : time b ≤ length w = omega arith in
      let high : Before x = subst Before ab.1.0 (before a (time b) (omega (arith, ab.0))) in
      let low : Behind y = subst Behind be.1.1 (behind e (time b) be.0 in_word) in (
        u,
        record {
          apart = λ z. border y (subst Before z high) low;
          before = moved (at a (time d)) (at a (time b)) x x u ad.1.0 ab.1.0 (piece a (time d) (time b) len sum in_word);
          over = moved (at c (time d)) (at c (time b)) x y u cd.1.0 bc.1.1 (piece c (time d) (time b) len sum in_word);
          behind = moved (at e (time d)) (at e (time b)) y y u de.1.1 be.1.1 (piece e (time d) (time b) len sum in_word);
        },
      )
    where
      moved : (i j x y : ℕ) (u : List ℕ) → i ≡ x → j ≡ y → 1 ≤ paths next i j u → 1 ≤ paths next x y u
      moved i j x y u e f h = rw (← e, ← f) h

  -- If there are so many things, the later ones first, five of them have one crossing.
  five-there : (l : List A) → Pairs IsLater l → bound_b n ≤ length l → Five IsLater crossing (λ x. Has x l)
  unfolding bound_b
  five-there l p h = five IsLater crossing (λ x. Has x l) (n * n) l (square n start) (coloured l p) (each-has (λ x. Has x l) l (λ x i. i)) (omega (arith, h, power (n * n) (3 * (n * n) + 1)))
    where
      square : (m : ℕ) → s < m → 0 < m * m
      square zero h = absurd (omega arith)
      square (suc m) h = omega arith

      power : (m e : ℕ) → suc m ^ e ≡ (m + 1) ^ e
      power m e = ap (λ x. x ^ e) (one-more m)
        where
          one-more : (m : ℕ) → suc m ≡ m + 1
          one-more m = omega arith

      each-coloured : (x : A) (l : List A) → Each (IsLater x) l → Each (λ y. IsLater x y × (crossing x y < n * n)) l
      each-coloured x [] h = tt
      each-coloured x (y ∷ l) h = ((h.0, crossing-below x y h.0), each-coloured x l h.1)

      coloured : (l : List A) → Pairs IsLater l → Pairs (λ x y. IsLater x y × (crossing x y < n * n)) l
      coloured [] p = tt
      coloured (x ∷ l) p = (each-coloured x l p.0, coloured l p.1)

  pub five_alike : (l : List A) → Pairs IsLater l → bound_b n ≤ length l → (f : FiveAlike next A time at l) × (f.r < n)
  five_alike l p h = by (five-there l p h)
    where
      by : Five IsLater crossing (λ x. Has x l) → (f : FiveAlike next A time at l) × (f.r < n)
      by f =
          let v : ℕ = f.colour in
          let a : A = f.one in
          let b : A = f.two in
          let c : A = f.three in
          let d : A = f.four in
          let e : A = f.five in
          let h = f.each in
          let ab = crossed v a b h.0.0 in
          let ac = crossed v a c h.0.1.0 in
          let ad = crossed v a d h.0.1.1.0 in
          let ae = crossed v a e h.0.1.1.1.0 in
          let bc = crossed v b c h.1.0.0 in
          let bd = crossed v b d h.1.0.1.0 in
          let be = crossed v b e h.1.0.1.1.0 in
          let cd = crossed v c d h.1.1.0.0 in
          let ce = crossed v c e h.1.1.0.1.0 in
          let de = crossed v d e h.1.1.1.0.0 in
          let in_word : time b < length w = short b in
          let small : v / n < n = subst (λ (q : ℕ). q < n) ab.1.0 (inside-graph a (time b) (omega arith)) in
          let r = split_of_five (v / n) (v % n) a b c d e ab ad bc be cd de in (
            record {
              r = v / n;
              q = v % n;
              five = a ∷ (b ∷ (c ∷ (d ∷ (e ∷ []))));
              are_five = refl;
              members = f.all;
              cross = ((ab, (ac, (ad, (ae, tt)))), ((bc, (bd, (be, tt))), ((cd, (ce, tt)), ((de, tt), (tt, tt)))));
              word = r.0;
              split = r.1;
            },
            small,
          )

-- A path from `s` along the word is on the level of `s` up to a time, and on a lower one after it.
pub record Leaver (next : ℕ → ℕ → List ℕ) (level : ℕ → ℕ) (s : ℕ) (w : List ℕ) : Type 0 where
  pub time : ℕ
  pub at : ℕ → ℕ
  pub start : at 0 ≡ s
  pub runs : Runs next w at
  pub within : time < length w
  pub on_it : level (at time) ≡ level s
  pub below_it : level (at (suc time)) < level s

-- The first leaver leaves at a later time than the second.
abbrev pub LeavesLater : {next : ℕ → ℕ → List ℕ} {level : ℕ → ℕ} {s : ℕ} {w : List ℕ} → Leaver next level s w → Leaver next level s w → Type 0
LeavesLater x y = y.time < x.time

module _ (next : ℕ → ℕ → List ℕ) (n k : ℕ) (level : ℕ → ℕ) (within : IsWithin next n k) (falls : NeverRises next n level) (s : ℕ) (start : s < n) (w : List ℕ) where
  -- The states of a leaver's path are in the graph, and no higher than `s`.
  no_higher : (x : Leaver next level s w) (i : ℕ) → i ≤ length w → (x.at i < n) × (level (x.at i) ≤ level s)
  no_higher x i h =
      let p : 1 ≤ paths next (x.at 0) (x.at i) (take i w) = runs-part next w x.at 0 i i x.runs (omega arith) h in
      let lt : x.at 0 < n = subst (λ (q : ℕ). q < n) (sym x.start) start in
      let r = falls-along next n k level within falls (x.at 0) (x.at i) (take i w) lt p in
      (r.0, subst (λ (q : ℕ). level (x.at i) ≤ level q) x.start r.1)

  lower : (x : Leaver next level s w) (i j d : ℕ) → j ≡ i + d → j ≤ length w → level (x.at j) ≤ level (x.at i)
  lower x i j d e h =
      (falls-along next n k level within falls (x.at i) (x.at j) (take d (drop i w)) (no_higher x i (omega arith)).0 (runs-part next w x.at i j d x.runs e h)).1

  -- Up to its time a leaver is on the level of `s`, and after it no more.
  on_level : (x : Leaver next level s w) (i : ℕ) → i ≤ x.time → level (x.at i) ≡ level s
  on_level x i h =
      let short = x.within in
      omega (arith, (no_higher x i (omega arith)).1, lower x i x.time (x.time - i) (omega arith) (omega arith), x.on_it)

  below_level : (x : Leaver next level s w) (i : ℕ) → x.time < i → i ≤ length w → level (x.at i) < level s
  below_level x i h k = omega (arith, lower x (suc x.time) i (i - suc x.time) (omega arith) k, x.below_it)

  -- If there are so many leavers, the later ones first, some state has a split.
  pub split_of_many : (l : List (Leaver next level s w)) → Pairs LeavesLater l → bound_b n ≤ length l → (r : ℕ) × (q : ℕ) × (y : List ℕ) × (r < n) × IsSplit next r q y
  split_of_many l p h =
      let f = five_alike next n k within s start w (Leaver next level s w) (λ x. x.time) (λ x. x.at) (λ x. x.start) (λ x. x.runs) (λ x. x.within) (λ q. level q ≡ level s) (λ q. level q < level s) on_level below_level
      (λ q a b. omega (arith, a, b)) l p h in
      (f.0.r, f.0.q, f.0.word, f.1, f.0.split)

module _ (next : ℕ → ℕ → List ℕ) (n k : ℕ) (within : IsWithin next n k) (s t a b : ℕ) (start : s < n) (apart : Reaches next a b → Reaches next b a → ⊥) (w : List ℕ) where
  -- Up to its time a path that moves from `a` to `b` reaches `a`, and after it `b` reaches the path.
  comes : (x : Passage next s t a b w) (i : ℕ) → i ≤ x.time → Reaches next (x.at i) a
  comes x i h =
      let short = x.within in
      (take (x.time - i) (drop i w), subst (λ (q : ℕ). 1 ≤ paths next (x.at i) q (take (x.time - i) (drop i w))) x.from (runs-part next w x.at i x.time (x.time - i) x.runs (omega arith) (omega arith)))

  goes : (x : Passage next s t a b w) (i : ℕ) → x.time < i → i ≤ length w → Reaches next b (x.at i)
  goes x i h k =
      (take (i - suc x.time) (drop (suc x.time) w), subst (λ (q : ℕ). 1 ≤ paths next q (x.at i) (take (i - suc x.time) (drop (suc x.time) w))) x.to (runs-part next w x.at (suc x.time) i (i - suc x.time) x.runs (omega arith) k))

  -- So `a` reaches `b`, and no path leads back.
  over : Passage next s t a b w → Reaches next a b
  over x =
      let short = x.within in
      subst (λ (q : ℕ). Reaches next q b) x.from (subst (λ (q : ℕ). Reaches next (x.at x.time) q) x.to (take 1 (drop x.time w), runs-part next w x.at x.time (suc x.time) 1 x.runs (omega arith) (omega arith)))

  some : (l : List (Passage next s t a b w)) → bound_b n ≤ length l → Reaches next a b
  unfolding bound_b
  some [] h = absurd (omega (arith, h, one-le-pow (3 * (n * n) + 1) (n * n + 1) (omega arith)))
  some (x ∷ l) h = over x

  pub five_times : (l : List (Passage next s t a b w)) → Pairs Later l → bound_b n ≤ length l → FiveOfOneColour next s t a b w l
  five_times l p h =
      let f = five_alike next n k within s start w (Passage next s t a b w) (λ x. x.time) (λ x. x.at) (λ x. x.start) (λ x. x.runs) (λ x. x.within) (λ q. Reaches next q a) (Reaches next b) comes goes
      (λ q i j. apart (some l h) (Reaches-trans next b q a j i)) l p h in
      record { r = f.0.r; q = f.0.q; five = f.0.five; are_five = f.0.are_five; members = f.0.members; colour = f.0.cross; word = f.0.word; split = f.0.split }
