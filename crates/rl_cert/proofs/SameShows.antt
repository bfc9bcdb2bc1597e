-- What a certificate shows is the same in each numbered graph of the live pairs of a question.
use Rattle.std.proofs.Common.{◌≡◌, ◌∙◌, ℕ, zero, suc, ◌<◌, inl, inr, List, [], ◌∷◌, ◌++◌, map, All, refl, sym, ap, ap₂, subst}
use Rattle.rl_graph.specs.Paths.{Has}
use Rattle.rl_ranges.specs.Letters.{letter_at, class_of}
use Rattle.rl_ranges.specs.Text.{code_count, IsText}
use Rattle.rl_syntax.specs.declared.verdict.Family.{Family}
use Rattle.rl_syntax.specs.declared.verdict.Verdict.{Verdict}
use Rattle.rl_syntax.specs.declared.verdict.Verdict.TheVariants.{Degree, Expo, Undecided}
use Rattle.rl_prio.specs.Automaton.{Automaton}
use Rattle.rl_prio.specs.Letters.{all_sets}
use Rattle.rl_pairs.specs.declared.pair.Pair.{Pair}
use Rattle.rl_pairs.specs.Families.{letters_in, to_end}
use Rattle.rl_pairs.specs.RightVerdict.{Question}
use Rattle.rl_sets.specs.Live.{refuses}
use Rattle.rl_pairs.proofs.StillLaws.{All-has}
use Rattle.rl_pairs.proofs.SameLaws.{same-machines, refuses-same}
use Rattle.rl_cert.specs.declared.certificate.Anchor.{Anchor}
use Rattle.rl_cert.specs.declared.certificate.Certificate.{Certificate}
use Rattle.rl_cert.specs.Ways.{Refuses, IsWay, IsTwinWay}
use Rattle.rl_cert.specs.Holds.{IsPairGraphOf, words_of, ShowsDegreeOf, Shows}
use Rattle.rl_cert.proofs.OneGraph.{count-same, moves-same, pairs-same}

map-same : {A B : Type 0} (f g : A → B) (l : List A) → ((x : A) → Has x l → f x ≡ g x) → map f l ≡ map g l
map-same f g [] h = refl
map-same f g (x ∷ l) h = ap₂ ◌∷◌ (h x (inl refl)) (map-same f g l (λ y i. h y (inr i)))

module _ (q : Question) (a b : Automaton) (next other : ℕ → ℕ → List ℕ) (at with : ℕ → Pair) (n o : ℕ) (f : IsPairGraphOf q a next at n) (h : IsPairGraphOf q b other with o) where
  codes : a.table.codes ≡ b.table.codes
  codes = f.machine.same_codes ∙ sym h.machine.same_codes

  letter-same : (c : ℕ) → c < code_count q.universe → letter_at a.table c ≡ letter_at b.table c
  letter-same c lt =
      f.machine.stands.same_letters.same_letter c (subst (λ (m : ℕ). c < m) (sym f.machine.same_codes) lt)
      ∙ (ap (λ (m : ℕ). class_of (all_sets q.tree) m c) codes ∙ sym (h.machine.stands.same_letters.same_letter c (subst (λ (m : ℕ). c < m) (sym h.machine.same_codes) lt)))

  words-same : (texts : List (List ℕ)) → All (IsText q.universe) texts → words_of a texts ≡ words_of b texts
  words-same texts inside =
      map-same (letters_in a) (letters_in b) texts (λ w i. map-same (letter_at a.table) (letter_at b.table) w (λ c j.
      letter-same c (All-has (λ (c : ℕ). c < code_count q.universe) w c (All-has (IsText q.universe) texts w inside i) j)))

  refuses-too : (z : ℕ) (last : List ℕ) → z < n → Refuses a at z last → Refuses b with z last
  refuses-too z last lt ok =
      let same = same-machines q a b f.machine h.machine in
      ap (λ (p : Pair). refuses b p.set (to_end b last)) (sym (pairs-same q a b next other at with n o f h z lt))
      ∙ (ap (λ (m : ℕ). refuses b (at z).set (last ++ m ∷ [])) (sym same.letters)
      ∙ (sym (refuses-same a b same (at z).set (to_end a last)) ∙ ok))

  way-too : (s : ℕ) (anchors : List Anchor) (heads pumps : List (List ℕ)) → IsWay a next at n s anchors heads pumps → IsWay b next with n s anchors heads pumps
  way-too s [] heads pumps w = w
  way-too s (z ∷ []) [] pumps w = w
  way-too s (z ∷ []) (x ∷ []) pumps w = w
  way-too s (z ∷ []) (x ∷ (last ∷ [])) [] w = w
  way-too s (z ∷ []) (x ∷ (last ∷ [])) (y ∷ []) w = (w.0, w.1, w.2, w.3, refuses-too z.q last (subst (λ (x : ℕ). x < n) w.1 w.0) w.4)
  way-too s (z ∷ []) (x ∷ (last ∷ [])) (y ∷ (v ∷ pumps)) w = w
  way-too s (z ∷ []) (x ∷ (last ∷ (u ∷ heads))) pumps w = w
  way-too s (m ∷ (k ∷ anchors)) [] pumps w = w
  way-too s (m ∷ (k ∷ anchors)) (x ∷ heads) [] w = w
  way-too s (m ∷ (k ∷ anchors)) (x ∷ heads) (y ∷ pumps) w = (w.0, w.1, w.2, w.3, way-too m.q (k ∷ anchors) heads pumps w.4)

  twin-too : (anchors : List Anchor) (heads pumps : List (List ℕ)) → IsTwinWay a next at n anchors heads pumps → IsTwinWay b next with n anchors heads pumps
  twin-too [] heads pumps w = w
  twin-too (z ∷ (k ∷ anchors)) heads pumps w = w
  twin-too (z ∷ []) [] pumps w = w
  twin-too (z ∷ []) (x ∷ []) pumps w = w
  twin-too (z ∷ []) (x ∷ (last ∷ (u ∷ heads))) pumps w = w
  twin-too (z ∷ []) (x ∷ (last ∷ [])) [] w = w
  twin-too (z ∷ []) (x ∷ (last ∷ [])) (y ∷ (v ∷ pumps)) w = w
  twin-too (z ∷ []) (x ∷ (last ∷ [])) (y ∷ []) w = (w.0, w.1, w.2, w.3, refuses-too z.q last (subst (λ (x : ℕ). x < n) w.1 w.0) w.4)

  degree-too : (c : Certificate) (fam : Family) (d : ℕ) → words_of a fam.heads ≡ words_of b fam.heads → words_of a fam.pumps ≡ words_of b fam.pumps → ShowsDegreeOf a next at n c fam d → ShowsDegreeOf b next with n c fam d
  degree-too c fam zero e g shows = shows
  degree-too c fam (suc d) e g shows = record {
    way = subst (λ (l : List (List ℕ)). IsWay b next with n 0 c.anchors (words_of b fam.heads) l) g
        (subst (λ (l : List (List ℕ)). IsWay b next with n 0 c.anchors l (words_of a fam.pumps)) e (way-too 0 c.anchors (words_of a fam.heads) (words_of a fam.pumps) shows.way));
    ranks = shows.ranks;
    doubles = shows.doubles;
    triples = shows.triples;
  }

  here : (c : Certificate) (v : Verdict) → Shows q a next at n c v → Shows q b next with n c v
  here c (Degree d fam) shows = (shows.0, degree-too c fam d (words-same fam.heads shows.0.head_texts) (words-same fam.pumps shows.0.pump_texts) shows.1)
  here c (Expo fam) shows = (
    shows.0,
    subst (λ (l : List (List ℕ)). IsTwinWay b next with n c.anchors (words_of b fam.heads) l) (words-same fam.pumps shows.0.pump_texts)
        (subst (λ (l : List (List ℕ)). IsTwinWay b next with n c.anchors l (words_of a fam.pumps)) (words-same fam.heads shows.0.head_texts) (twin-too c.anchors (words_of a fam.heads) (words_of a fam.pumps) shows.1)),
  )
  here c (Undecided limit) shows = shows

  pub shows-same : (c : Certificate) (v : Verdict) → Shows q a next at n c v → Shows q b other with o c v
  shows-same c v shows =
      subst (λ (m : ℕ). Shows q b other with m c v) (count-same q a b next other at with n o f h)
      (subst (λ (g : ℕ → ℕ → List ℕ). Shows q b g with n c v) (moves-same q a b next other at with n o f h) (here c v shows))
