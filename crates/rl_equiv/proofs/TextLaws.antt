-- Laws of the words that lead to set pairs.
use Rattle.std.proofs.Common.{◌≡◌, ◌∙◌, ℕ, ◌<◌, List, [], ◌∷◌, ◌++◌, length, get_or, map, reverse, refl, sym, ap, ap₂, subst, arith, append_assoc}
use Rattle.std.proofs.lemmas.List.{reverse-append, reverse-reverse}
use Rattle.std.proofs.lemmas.Option.{slice_get_read}
use Rattle.rl_prio.specs.Automaton.{Automaton}
use Rattle.rl_equiv.specs.declared.searching.Way.{Way}
use Rattle.rl_equiv.specs.internal.Searching.{Leads, start, onward, sample_of}

-- What was read so far of the text, from its end, and the place that the rest leads to.
pub record IsBack (a : Automaton) (ways : List Way) (place at : ℕ) (back : List ℕ) : Type 0 where
  pub at_in : at < length ways
  pub rest : List ℕ
  pub spelled : back ≡ reverse (map (sample_of a) rest)
  pub leads : (word : List ℕ) → Leads ways at word → Leads ways place (word ++ rest)

append-nil' : (l : List ℕ) → l ++ [] ≡ l
append-nil' [] = refl
append-nil' (x ∷ l) = ap (λ (m : List ℕ). x ∷ m) (append-nil' l)

pub back-more : (a : Automaton) (ways : List Way) (place at : ℕ) (back : List ℕ) (way : Way) (code : ℕ) (longer : List ℕ) → IsBack a ways place at back → 0 < at → way ≡ get_or ways at way → way.parent < at
    → code ≡ sample_of a way.letter → longer ≡ back ++ code ∷ [] → IsBack a ways place way.parent longer
back-more a ways place at back way code longer i some read less e f = record {
  at_in = omega (arith, i.at_in);
  rest = way.letter ∷ i.rest;
  spelled = f ∙ ap₂ (λ (l : List ℕ) (x : ℕ). l ++ x ∷ []) i.spelled e ∙ sym (reverse-append (sample_of a way.letter ∷ []) (map (sample_of a) i.rest));
  leads = λ word l.
      subst (λ (w : List ℕ). Leads ways place w) (append_assoc word (way.letter ∷ []) i.rest)
      (i.leads (word ++ way.letter ∷ []) (onward some (slice_get_read ways (length ways) at way refl i.at_in read) l));
}

pub back-done : (a : Automaton) (ways : List Way) (place at : ℕ) (back text : List ℕ) → IsBack a ways place at back → at ≡ 0 → text ≡ reverse back
    → (word : List ℕ) × Leads ways place word × (text ≡ map (sample_of a) word)
back-done a ways place at back text i e f =
    (i.rest, i.leads [] (subst (λ (k : ℕ). Leads ways k []) (sym e) start), f ∙ ap reverse i.spelled ∙ reverse-reverse (map (sample_of a) i.rest))
