-- For private contracts: the certificate that `prove` makes, and the line that `verify` writes. A certificate is data that
-- shows that a verdict is right. It contains triples of live pairs; a live pair is a state of the pattern's automaton with the
-- set of states that were tried before it. A question asks for a verdict on a pattern's tree.
use Rattle.std.specs.Prelude.{⊤, ℕ, Bool, true, false, ◌++◌, codes}
use Rattle.rl_syntax.specs.declared.verdict.Verdict.{Verdict}
use Rattle.rl_pairs.specs.RightVerdict.{IsNamed, Question}
use Rattle.rl_report.specs.Verdicts.{verdict_text}
use Rattle.rl_cert.specs.Form.{IsDecided}
use Rattle.rl_cert.specs.Holds.{Holds}
use Rattle.rl_cert.specs.TooLarge.{IsTooLarge}
use Rattle.rl_cert.specs.declared.certificate.Certificate.{Certificate}
use Rattle.rl_cert.specs.declared.making.CertError.{CertError}
use Rattle.rl_cert.specs.declared.making.CertError.TheVariants as error
use Rattle.rl_report.specs.Names.{Text}

-- The certificate `c` holds for the question `q`, its verdict isn't undecided (`told`), and it needs no more than 1,000,000
-- triples (`fits`).
pub record IsMade (q : Question) (c : Certificate) : Type 0 where
  pub holds : Holds q c
  pub told : IsDecided c.verdict
  pub fits : ¬ IsTooLarge q

-- The reason why no certificate is made for the question is right: the limit that it names is exceeded, or too many triples
-- are needed. Nothing is claimed if memory runs out.
abbrev pub IsNotMade : Question → CertError → Type 0
IsNotMade q (error.Undecided limit) = IsNamed q limit
IsNotMade q error.TooLarge = IsTooLarge q
IsNotMade q error.OutOfMemory = ⊤

-- The line that `verify` writes: `holds` and the verdict if the first argument, which says whether the certificate holds, is
-- true; otherwise `fails`.
abbrev pub verify_text : Bool → ℕ → Verdict → Text
verify_text true max_pairs verdict = codes "holds " ++ (verdict_text max_pairs verdict ++ codes "\n")
verify_text false max_pairs verdict = codes "fails\n"
