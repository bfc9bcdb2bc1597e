-- How `verify` ends. It depends on its pattern and on the bytes of its file. A certificate is data that shows that a verdict
-- is right; it holds for a question if it shows this. A question asks how the cost of matching a syntax tree grows with the
-- length of the text; a verdict answers it: a degree, exponential, or undecided because a limit is exceeded. A live pair is a
-- state of the pattern's automaton with the set of states that were tried before it; `max_pairs` is the greatest number of
-- them that is examined. In a pattern's syntax tree `t`, `at` (a `MatchEnd`) says where a match may end. The tree of files is
-- the file system that the run reads. A moment is this tree at one point in time: what it reveals about itself (its map of
-- paths and the trail of the calls made on it, if it reveals them) and the number of its calls that failed.
use Rattle.std.specs.Prelude.{◌≡◌, ◌⊎◌, ℕ, true, false, List, ◌++◌, Ok, codes}
use Rattle.rl_ranges.specs.declared.universe.Universe.TheVariants.{Str}
use Rattle.rl_syntax.specs.Tree.{Tree}
use Rattle.rl_syntax.specs.declared.re.Ending.{Ending as MatchEnd}
use Rattle.rl_syntax.specs.declared.re.Mode.{Mode}
use Rattle.rl_syntax.specs.Pattern.{pattern_ending, pattern_tree}
use Rattle.rl_syntax.specs.declared.pattern.Pattern.{Pattern}
use Rattle.rl_pattern.specs.Codes.{no_flags}
use Rattle.rl_pattern.specs.Parsed.{IsParsed}
use Rattle.rl_pairs.specs.RightVerdict.{Question}
use Rattle.rl_report.specs.Verdicts.{verdict_text}
use Rattle.rl_walk.specs.Visits.{Moment}
use Rattle.rl_cert.specs.Form.{IsForm}
use Rattle.rl_cert.specs.Holds.{Holds}
use Rattle.rl_cert.specs.declared.certificate.Certificate.{Certificate}
use Rattle.rl_lint.specs.Endings.{Ending, refuses, writes}
use Rattle.rl_lint.specs.Files.{ReadsThen, first_bytes}
use Rattle.rl_lint.specs.Patterns.{IsRefusedPattern, text_question}
use Rattle.rl_report.specs.Names.{Text}

-- `ending` is to write one line: `holds` and the verdict of the certificate `c` if it holds for the question `q`, otherwise
-- `fails`, which is a finding. There is no failed call.
abbrev pub CertificateEnds : Question → Certificate → Ending → Type 0
CertificateEnds q c ending =
    (Holds q c × (ending ≡ writes (codes "holds " ++ (verdict_text q.max_pairs c.verdict ++ codes "\n")) false false))
    ⊎ (¬ Holds q c × (ending ≡ writes (codes "fails\n") true false))

-- Between the moments `old` and `new` the certificate in `file` is read with one call of the tree of files, and nothing else
-- is asked of it. If the call fails or the bytes aren't a certificate, the run ends there. Otherwise the certificate is
-- checked for the pattern's tree `t` and matches that may end as `at` says.
abbrev pub TreeVerifies : ℕ → Text → Tree → MatchEnd → Moment → Moment → Ending → Type 0
TreeVerifies max_pairs file t at old new ending =
    ReadsThen (codes "certificate") first_bytes IsForm (λ c mid last end. (last ≡ mid) × CertificateEnds (text_question max_pairs t at) c end) file old new ending

-- How `verify` ends. If the reader of patterns refuses `pattern`, the run ends with the message on it, and no file is read.
-- Otherwise the certificate in `file` is read and checked for the pattern in `mode`, with at most `max_pairs` live pairs.
pub data IsVerifyEnding (max_pairs : ℕ) (mode : Mode) (pattern : List ℕ) (file : Text) (old new : Moment) : Ending → Type 0 where
  verify_refused : {message : Text} → IsRefusedPattern pattern message → new ≡ old → IsVerifyEnding max_pairs mode pattern file old new (refuses message)
  verify_parsed : {p : Pattern} {ending : Ending} → IsParsed no_flags Str pattern (Ok p)
      → TreeVerifies max_pairs file (pattern_tree p mode) (pattern_ending p mode) old new ending → IsVerifyEnding max_pairs mode pattern file old new ending
