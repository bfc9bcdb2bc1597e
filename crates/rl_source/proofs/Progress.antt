-- Writing a text piece by piece: what was taken, and what is left.
use Rattle.std.proofs.Common.{◌≡◌, ℕ, ◌-◌, ◌<◌, ◌≤◌, List, [], ◌++◌, length, take, drop, Option, Some, None, refl, sym, ap, ◌∙◌, append_assoc, take-append-drop, length-append, length-drop, arith}
use Rattle.std.proofs.Math.Seq.{take-append_seam, take-length}
use Rattle.std.specs.Io.KnownBytes.{Appends, Keeps}
use Rattle.std.proofs.KnownBytes.{Appends-nil, Appends-trans, Appends-kept}
use Rattle.rl_source.specs.Written.{GainsLess}

-- A sink received the part of the text before `rest`, and its fault count didn't decrease.
pub record Progress (old now : Option (List ℕ)) (before after : ℕ) (text rest : List ℕ) : Type 0 where
  pub done : List ℕ
  pub parts : text ≡ done ++ rest
  pub gained : Appends old now done
  pub later : before ≤ after

pub Progress-none : (old : Option (List ℕ)) (before : ℕ) (text : List ℕ) → Progress old old before before text text
Progress-none old before text = record { done = []; parts = refl; gained = Appends-nil old; later = omega arith }

-- What `&rest[n..]` is.
take_rest : (rest : List ℕ) (n : ℕ) → take (length rest - n) (drop n rest) ≡ drop n rest
take_rest rest n = ap (λ k. take k (drop n rest)) (sym (length-drop n rest)) ∙ take-length (drop n rest)

pub Progress-more : (old now new : Option (List ℕ)) (before after later : ℕ) (text rest : List ℕ) (n : ℕ)
    → Progress old now before after text rest → Appends now new (take n rest) → after ≤ later
    → Progress old new before later text (take (length rest - n) (drop n rest))
Progress-more old now new before after later text rest n p gains rises = record {
  done = p.done ++ take n rest;
  parts = p.parts ∙ ap (λ l. p.done ++ l) (sym (take-append-drop n rest)) ∙ sym (append_assoc p.done (take n rest) (drop n rest)) ∙ ap (λ l. (p.done ++ take n rest) ++ l) (sym (take_rest rest n));
  gained = Appends-trans old now new p.done (take n rest) p.gained gains;
  later = omega (arith, p.later);
}

-- What was taken so far is a proper prefix of the text.
pub GainsLess-some : (old new : Option (List ℕ)) (text done rest : List ℕ) → text ≡ done ++ rest → 0 < length rest → Appends old new done → GainsLess old new text
GainsLess-some None new text done rest parts left gained = tt
GainsLess-some (Some x) None text done rest parts left gained = absurd gained
GainsLess-some (Some x) (Some y) text done rest parts left gained =
    (length done, omega (arith, ap length parts ∙ length-append done rest), gained ∙ ap (λ l. x ++ l) (sym (ap (take (length done)) parts ∙ take-append_seam done rest)))

pub GainsLess-stopped : (old now new : Option (List ℕ)) (before after : ℕ) (text rest : List ℕ)
    → Progress old now before after text rest → 0 < length rest → Keeps now new → GainsLess old new text
GainsLess-stopped old now new before after text rest p left kept =
    GainsLess-some old new text p.done rest p.parts left (Appends-kept old now new p.done p.gained kept)
