-- Texts of families, their letters and their codes.
use Rattle.std.proofs.Common.{◌≡◌, ◌≢◌, ◌∙◌, ℕ, zero, suc, ◌<◌, ◌≤◌, ◌⊎◌, inl, inr, List, [], ◌∷◌, ◌++◌, length, map, All, Bool, refl, sym, ap, ap₂, subst, arith}
use Rattle.std.proofs.lemmas.List.{map-append, length-map}
use Rattle.rl_graph.specs.Paths.{Has}
use Rattle.rl_graph.proofs.Sums.{Has-append, has-map}
use Rattle.rl_ranges.specs.Letters.{IsLetters, letter_at}
use Rattle.rl_ranges.specs.Text.{code_count}
use Rattle.rl_ranges.specs.declared.universe.Universe.{Universe}
use Rattle.rl_syntax.specs.declared.verdict.Family.{Family}
use Rattle.rl_syntax.specs.Family.{copies, pumped, family_text, IsFamily}
use Rattle.rl_prio.specs.Automaton.{Automaton, letters_count}
use Rattle.rl_pairs.specs.Families.{letters_in, spelled, Reads, Spells}
use Rattle.rl_pairs.proofs.StillLaws.{All-has, has-All, spelled-within, letters-spelled}

map-copies : (f : ℕ → ℕ) (k : ℕ) (w : List ℕ) → map f (copies k w) ≡ copies k (map f w)
map-copies f zero w = refl
map-copies f (suc k) w = map-append f w (copies k w) ∙ ap (λ (v : List ℕ). map f w ++ v) (map-copies f k w)

pub map-pumped : (f : ℕ → ℕ) (k : ℕ) (heads pumps : List (List ℕ)) → map f (pumped k heads pumps) ≡ pumped k (map (map f) heads) (map (map f) pumps)
map-pumped f k [] pumps = refl
map-pumped f k (h ∷ heads) [] = refl
map-pumped f k (h ∷ heads) (p ∷ pumps) =
    map-append f (h ++ copies k p) (pumped k heads pumps)
    ∙ ap₂ (λ (u v : List ℕ). u ++ v) (map-append f h (copies k p) ∙ ap (λ (v : List ℕ). map f h ++ v) (map-copies f k p)) (map-pumped f k heads pumps)

copies-each : (P : ℕ → Type 0) (k : ℕ) (w : List ℕ) → ((c : ℕ) → Has c w → P c) → (c : ℕ) → Has c (copies k w) → P c
copies-each P zero w h c i = absurd i
copies-each P (suc k) w h c i = by (Has-append c w (copies k w) i) (copies-each P k w h c)
  where
    by : Has c w ⊎ Has c (copies k w) → (Has c (copies k w) → P c) → P c
    by (inl j) rest = h c j
    by (inr j) rest = rest j

pub pumped-each : (P : ℕ → Type 0) (k : ℕ) (heads pumps : List (List ℕ)) → ((w : List ℕ) → Has w heads → (c : ℕ) → Has c w → P c) → ((w : List ℕ) → Has w pumps → (c : ℕ) → Has c w → P c) → (c : ℕ) → Has c (pumped k heads pumps) → P c
pumped-each P k [] pumps h p c i = absurd i
pumped-each P k (w ∷ heads) [] h p c i = h w (inl refl) c i
pumped-each P k (w ∷ heads) (y ∷ pumps) h p c i =
    by (Has-append c (w ++ copies k y) (pumped k heads pumps) i) (pumped-each P k heads pumps (λ v j. h v (inr j)) (λ v j. p v (inr j)) c)
  where
    front : Has c w ⊎ Has c (copies k y) → P c
    front (inl j) = h w (inl refl) c j
    front (inr j) = copies-each P k y (p y (inl refl)) c j

    by : Has c (w ++ copies k y) ⊎ Has c (pumped k heads pumps) → (Has c (pumped k heads pumps) → P c) → P c
    by (inl j) rest = front (Has-append c w (copies k y) j)
    by (inr j) rest = rest j

-- The letters of a family's text are the pumped words of its heads and pumps.
pub text-word : (a : Automaton) (f : Family) (heads pumps : List (List ℕ)) (k : ℕ) → Reads a f heads pumps → letters_in a (family_text f k) ≡ pumped k heads pumps
text-word a f heads pumps k reads = map-pumped (letter_at a.table) k f.heads f.pumps ∙ ap₂ (pumped k) reads.same_heads reads.same_pumps

pub text-codes : (a : Automaton) (f : Family) (heads pumps : List (List ℕ)) (k : ℕ) → Reads a f heads pumps → All (λ c. c < a.table.codes) (family_text f k)
text-codes a f heads pumps k reads =
    has-All (λ c. c < a.table.codes) (family_text f k) (pumped-each (λ c. c < a.table.codes) k f.heads f.pumps
    (λ w i c j. All-has (λ c. c < a.table.codes) w c (All-has (All (λ code. code < a.table.codes)) f.heads w reads.head_codes i) j)
    (λ w i c j. All-has (λ c. c < a.table.codes) w c (All-has (All (λ code. code < a.table.codes)) f.pumps w reads.pump_codes i) j))

-- Only letters.
abbrev pub Inside : Automaton → List (List ℕ) → Type 0
Inside a words = (w : List ℕ) → Has w words → (l : ℕ) → Has l w → l < letters_count a

words-spelled : (a : Automaton) (sets : List (ℕ → Bool)) → IsLetters a.table sets a.table.codes → (words : List (List ℕ)) → Inside a words → map (letters_in a) (map (spelled a) words) ≡ words
words-spelled a sets is [] h = refl
words-spelled a sets is (w ∷ words) h =
    ap₂ (λ (v : List ℕ) (vs : List (List ℕ)). v ∷ vs) (letters-spelled a sets is w (h w (inl refl))) (words-spelled a sets is words (λ v i. h v (inr i)))

words-codes : (a : Automaton) (sets : List (ℕ → Bool)) → IsLetters a.table sets a.table.codes → (words : List (List ℕ)) → Inside a words → All (All (λ code. code < a.table.codes)) (map (spelled a) words)
words-codes a sets is words h =
    has-All (All (λ code. code < a.table.codes)) (map (spelled a) words) (λ text i.
    let r = has-map (spelled a) text words i in
    subst (All (λ code. code < a.table.codes)) (sym r.2) (has-All (λ code. code < a.table.codes) (spelled a r.0) (spelled-within a sets is r.0 (h r.0 r.1))))

-- The samples of letters are read as these letters.
pub spells-reads : (a : Automaton) (sets : List (ℕ → Bool)) (f : Family) (heads pumps : List (List ℕ)) → IsLetters a.table sets a.table.codes → Inside a heads → Inside a pumps → Spells a f heads pumps → Reads a f heads pumps
spells-reads a sets f heads pumps is h p s =
    record {
      head_codes = subst (All (All (λ code. code < a.table.codes))) (sym s.head_samples) (words-codes a sets is heads h);
      pump_codes = subst (All (All (λ code. code < a.table.codes))) (sym s.pump_samples) (words-codes a sets is pumps p);
      same_heads = ap (map (letters_in a)) s.head_samples ∙ words-spelled a sets is heads h;
      same_pumps = ap (map (letters_in a)) s.pump_samples ∙ words-spelled a sets is pumps p;
    }

no-empty : (a : Automaton) (w : List ℕ) → 1 ≤ length w → spelled a w ≢ []
no-empty a [] h e = absurd (omega arith)
no-empty a (l ∷ w) h e = cc

-- They make a family without an empty pump.
pub spells-family : (a : Automaton) (sets : List (ℕ → Bool)) (universe : Universe) (d : ℕ) (f : Family) (heads pumps : List (List ℕ)) → IsLetters a.table sets a.table.codes → a.table.codes ≡ code_count universe → Inside a heads → Inside a pumps → Spells a f heads pumps
    → ((w : List ℕ) → Has w pumps → 1 ≤ length w) → length heads ≡ suc d → length pumps ≡ d → IsFamily universe d f
spells-family a sets universe d f heads pumps is codes h p s some lh lp =
    let reads = spells-reads a sets f heads pumps is h p s in
    record {
      heads = ap length s.head_samples ∙ (length-map heads (spelled a) ∙ lh);
      pumps = ap length s.pump_samples ∙ (length-map pumps (spelled a) ∙ lp);
      head_texts = subst (λ n. All (All (λ code. code < n)) f.heads) codes reads.head_codes;
      pump_texts = subst (λ n. All (All (λ code. code < n)) f.pumps) codes reads.pump_codes;
      no_empty_pump = subst (All (λ pump. pump ≢ [])) (sym s.pump_samples) (has-All (λ pump. pump ≢ []) (map (spelled a) pumps) (λ text i.
          let r = has-map (spelled a) text pumps i in
          subst (λ (v : List ℕ). v ≢ []) (sym r.2) (no-empty a r.0 (some r.0 r.1))));
    }
