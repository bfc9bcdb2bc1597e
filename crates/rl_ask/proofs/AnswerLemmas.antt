-- What is answered to a question, step by step.
use Rattle.std.proofs.Common.{◌≡◌, ◌∙◌, ◌≢◌, ℕ, Bool, true, false, List, Option, Some, Result, Ok, Err, IfErr, IfOk, refl, sym, subst, None}
use Rattle.std.specs.Str.{chars}
use Rattle.std.specs.Prelude.{IfSome, IsErrAnd, IsTrue}
use Rattle.std.proofs.lemmas.Result.{err_from_is_err_and}
use Rattle.rl_ranges.specs.Text.{IsText}
use Rattle.rl_ranges.specs.declared.universe.Universe.{Universe}
use Rattle.rl_ranges.specs.declared.universe.Universe.TheVariants.{Str}
use Rattle.rl_syntax.specs.Family.{family_text}
use Rattle.rl_syntax.specs.Pattern.{universe_of}
use Rattle.rl_syntax.specs.declared.pattern.Pattern.{Pattern}
use Rattle.rl_syntax.specs.declared.re.Mode.{Mode}
use Rattle.rl_syntax.specs.declared.verdict.Suggestion.{Suggestion}
use Rattle.rl_pattern.specs.declared.flags.Flags.{Flags}
use Rattle.rl_pattern.specs.declared.parsing.PatError.{PatError}
use Rattle.rl_pattern.specs.declared.parsing.PatError.TheVariants as error
use Rattle.rl_marks.specs.declared.asked.How.{How}
use Rattle.rl_marks.specs.declared.asked.How.TheVariants.{Fullmatch, Match, OneSearch}
use Rattle.rl_marks.specs.declared.pattern.MarkedPattern.{MarkedPattern}
use Rattle.rl_asked.specs.Questions.{Asked, class, ways, tree, compare, spans, found, suggest, cost, family_cost, version}
use Rattle.rl_asked.specs.Words.{Text}
use Rattle.rl_asked.specs.declared.question.Terms.{Terms}
use Rattle.rl_ask.specs.Answers.{IsRight, IsTellable}
use Rattle.rl_ask.specs.Comparisons.{AreCompared}
use Rattle.rl_ask.specs.Costs.{IsCost, IsCostOf, family_named, too_long, counted}
use Rattle.rl_ask.specs.Document.{universe_of as universe_asked}
use Rattle.rl_ask.specs.Explanations.{IsExplained}
use Rattle.rl_ask.specs.Grammars.{IsParsedIn, grammar_in, grammar_of_finds}
use Rattle.rl_ask.specs.declared.grammar.Grammar.{Grammar}
use Rattle.rl_ask.specs.declared.grammar.Grammar.TheVariants.{Profile, Wider}
use Rattle.rl_ask.specs.Finds.{IsFoundOn, IsSight, exceeds, runs}
use Rattle.rl_ask.specs.Suggestions.{IsSuggested}
use Rattle.rl_ask.specs.Trees.{IsTree}
use Rattle.rl_ask.specs.Verdicts.{AreBounds, HasNone, IsClass, IsLeastOf, least_family}
use Rattle.rl_syntax.specs.declared.re.Mode.TheVariants as mode
use Rattle.rl_syntax.specs.declared.verdict.Verdict.{Verdict}
use Rattle.rl_syntax.specs.declared.verdict.Verdict.TheVariants as verdict
use Rattle.rl_pairs.specs.RightVerdict.{Question}
use Rattle.rl_reach.specs.Bounds.{IsAtLeast, question_in}
use Rattle.rl_reach.specs.declared.bounds.AtLeast.{AtLeast}
use Rattle.rl_reach.specs.declared.bounds.Bounds.{Bounds}
use Rattle.rl_growth.specs.Texts.{HasTexts}
use Rattle.rl_report.specs.Verdicts.{IsFamilyOf, IsVerdictOf}
use Rattle.rl_ask.proofs.CompareLemmas.{are-texts}
use Rattle.rl_ask.specs.Patterns.{BothReadThen, IsMarkedAs, IsReadAs, IsRefusedFor, ReadThen, SecondReadThen, first_read, first_refused, read, refused, second_read, second_refused}
use Rattle.rl_ask.specs.Spans.{AreFound, IsDecided, IsFoundWith, decided, first_exceeds, first_marked, second_exceeds}
use Rattle.rl_ask.specs.declared.answer.Answer.{Answer}
use Rattle.rl_ask.specs.declared.answer.Answer.TheVariants as answer
use Rattle.rl_ask.specs.declared.answer.Fault.TheVariants as fault
use Rattle.rl_ask.specs.declared.patterns.PatternRead.{PatternRead}
use Rattle.rl_ask.specs.declared.patterns.PatternRead.TheVariants.{Refused}
use Rattle.rl_ask.specs.internal.Reads.{IsPatternRead}

-- ---- texts

pub outside-refused : (terms : Terms) (word : Text) (w : List ℕ) (is : Bool) → w ≡ chars word → is ≡ false → (IsText terms.universe w → IsTrue is)
    → IsText terms.universe (chars word) → ⊥
outside-refused terms word w is same isnt told text =
    let yes : is ≡ true = told (subst (IsText terms.universe) (sym same) text) in
    let never : true ≡ false = sym yes ∙ isnt in cc

pub is-read : (grammar : Grammar) (terms : Terms) (word : Text) (w : List ℕ) (p : Pattern) → w ≡ chars word → IsText terms.universe w
    → IsParsedIn grammar terms.flags terms.universe w (Ok p) → IsReadAs grammar terms word p
is-read grammar terms word w p same text parsed = record {
  text = subst (IsText terms.universe) same text;
  parsed = subst (λ v. IsParsedIn grammar terms.flags terms.universe v (Ok p)) same parsed;
}

-- What is read of a text, by another name of the grammar and of what is read.
pub read-in : (g h : Grammar) (terms : Terms) (word : Text) (r s : PatternRead) → g ≡ h → r ≡ s → IsPatternRead g terms word r → IsPatternRead h terms word s
read-in g h terms word r s same is known = subst (IsPatternRead h terms word) is (subst (λ x. IsPatternRead x terms word r) same known)

-- The universe of a pattern is that of the terms.
pub universe-read : (grammar : Grammar) (terms : Terms) (word : Text) (p : Pattern) → IsReadAs grammar terms word p → universe_of p ≡ terms.universe
universe-read Profile terms word p is = is.parsed.1.pattern.universe
universe-read (Wider dollar) terms word p is = is.parsed.1.pattern.universe

pub parse-refused : (grammar : Grammar) (terms : Terms) (word : Text) (w : List ℕ) (e : PatError) → w ≡ chars word → IsText terms.universe w
    → IsParsedIn grammar terms.flags terms.universe w (Err e) → e ≢ error.OutOfMemory → IsRefusedFor grammar terms word (fault.Pattern e)
parse-refused grammar terms word w e same text parsed other =
    (subst (IsText terms.universe) same text, subst (λ v. IsParsedIn grammar terms.flags terms.universe v (Err e)) same parsed, other)

pub refused-so : {E : Type 0} (r : Result PatternRead E) (grammar : Grammar) (terms : Terms) (word : Text) (w : List ℕ) (e : PatError) → w ≡ chars word → IsText terms.universe w
    → IsParsedIn grammar terms.flags terms.universe w (Err e) → IfOk r (λ x. (x ≡ Refused (fault.Pattern e)) × (e ≢ error.OutOfMemory)) → IfOk r (IsPatternRead grammar terms word)
refused-so (Ok x) grammar terms word w e same text parsed h = subst (IsPatternRead grammar terms word) (sym h.0) (parse-refused grammar terms word w e same text parsed h.1)
refused-so (Err x) grammar terms word w e same text parsed h = tt

-- A suggestion that is right under all flags, for all codes and limits.
pub some-right : (o : Option Suggestion) (s : Suggestion) (Is : Flags → List ℕ → ℕ → Suggestion → Type 0) → o ≡ Some s
    → IfSome o (λ x. (flags : Flags) (w : List ℕ) (limit : ℕ) → Is flags w limit x) → (flags : Flags) (w : List ℕ) (limit : ℕ) → Is flags w limit s
some-right o s Is is h = subst (λ x. IfSome x (λ y. (flags : Flags) (w : List ℕ) (limit : ℕ) → Is flags w limit y)) is h

-- ---- steps

-- An error that is handed on keeps what holds of it.
pub error-with : {T E : Type 0} (r : Result T E) (x : E) (P : E → Type 0) → IsErrAnd r (λ y. y ≡ x) → P x → IfErr r P
error-with r x P h k = let p = err_from_is_err_and r h in subst (λ v. IfErr v P) (sym p.1) (subst P (sym p.2) k)

module _ {E : Type 0} (r : Result Answer E) where
  pub read-so : (grammar : Grammar) (terms : Terms) (word : Text) (Next : Pattern → Answer → Type 0) (p : Pattern) → IsReadAs grammar terms word p → IfOk r (Next p) → IfOk r (ReadThen grammar terms word Next)
  read-so grammar terms word Next p is h = by r h
    where
      by : (s : Result Answer E) → IfOk s (Next p) → IfOk s (ReadThen grammar terms word Next)
      by (Ok given) h = read is h
      by (Err e) h = tt

  pub second-so : (grammar : Grammar) (terms : Terms) (word : Text) (Next : Pattern → Answer → Type 0) (q : Pattern) → IsReadAs grammar terms word q → IfOk r (Next q) → IfOk r (SecondReadThen grammar terms word Next)
  second-so grammar terms word Next q is h = by r h
    where
      by : (s : Result Answer E) → IfOk s (Next q) → IfOk s (SecondReadThen grammar terms word Next)
      by (Ok given) h = second_read is h
      by (Err e) h = tt

  pub first-so : (grammar : Grammar) (terms : Terms) (first second : Text) (Next : Pattern → Pattern → Answer → Type 0) (p : Pattern) → IsReadAs grammar terms first p
      → IfOk r (SecondReadThen grammar terms second (Next p)) → IfOk r (BothReadThen grammar terms first second Next)
  first-so grammar terms first second Next p is h = by r h
    where
      by : (s : Result Answer E) → IfOk s (SecondReadThen grammar terms second (Next p)) → IfOk s (BothReadThen grammar terms first second Next)
      by (Ok given) h = first_read is h
      by (Err e) h = tt

  pub decided-with : (how : How) (groups : Bool) (a b : MarkedPattern) (q : Pattern) → IsMarkedAs groups q b → IfOk r (IsDecided how a b) → IfOk r (IsFoundWith how groups a q)
  decided-with how groups a b q marked h = by r h
    where
      by : (s : Result Answer E) → IfOk s (IsDecided how a b) → IfOk s (IsFoundWith how groups a q)
      by (Ok given) h = decided marked h
      by (Err e) h = tt

  pub found-with : (how : How) (groups : Bool) (a : MarkedPattern) (p q : Pattern) → IsMarkedAs groups p a → IfOk r (IsFoundWith how groups a q) → IfOk r (AreFound how groups p q)
  found-with how groups a p q marked h = by r h
    where
      by : (s : Result Answer E) → IfOk s (IsFoundWith how groups a q) → IfOk s (AreFound how groups p q)
      by (Ok given) h = first_marked marked h
      by (Err e) h = tt

-- ---- what is told

read-told : (grammar : Grammar) (terms : Terms) (word : Text) (Next : Pattern → Answer → Type 0) → ((p : Pattern) (a : Answer) → Next p a → IsTellable (universe_of p) a)
    → (a : Answer) → ReadThen grammar terms word Next a → IsTellable terms.universe a
read-told grammar terms word Next tells _ (refused h) = tt
read-told grammar terms word Next tells a (read is h) = subst (λ u. IsTellable u a) (universe-read grammar terms _ _ is) (tells _ a h)

both-told : (grammar : Grammar) (terms : Terms) (first second : Text) (Next : Pattern → Pattern → Answer → Type 0)
    → ((p q : Pattern) (a : Answer) → Next p q a → IsTellable (universe_of p) a) → (a : Answer) → BothReadThen grammar terms first second Next a → IsTellable terms.universe a
both-told grammar terms first second Next tells _ (first_refused h) = tt
both-told grammar terms first second Next tells _ (first_read is (second_refused h)) = tt
both-told grammar terms first second Next tells a (first_read is (second_read also h)) = subst (λ u. IsTellable u a) (universe-read grammar terms _ _ is) (tells _ _ a h)

decided-told : (how : How) (a b : MarkedPattern) (given : Answer) → IsDecided how a b given → IsTellable a.universe given
decided-told Fullmatch a b (answer.Differ d) h = h.differ.text
decided-told Match a b (answer.Differ d) h = h.differ.text
decided-told OneSearch a b (answer.Differ d) h = h.differ.0.text
decided-told how a b answer.Same h = tt
decided-told how a b answer.Exceeded h = tt
decided-told how a b (answer.Undecided limit) h = tt
decided-told how a b (answer.Refused who f) h = absurd h
decided-told how a b (answer.Class verdict bounds) h = absurd h
decided-told how a b (answer.Ways explained) h = absurd h
decided-told how a b (answer.Tree reply) h = absurd h
decided-told how a b (answer.Compared c) h = absurd h
decided-told how a b (answer.Found sight) h = absurd h
decided-told how a b (answer.Suggested s) h = absurd h
decided-told how a b (answer.Cost c) h = absurd h
decided-told how a b answer.TextTooLong h = absurd h
decided-told how a b answer.Version h = absurd h

found-told : (how : How) (groups : Bool) (p q : Pattern) (given : Answer) → AreFound how groups p q given → IsTellable (universe_of p) given
found-told how groups p q _ (first_exceeds h) = tt
found-told how groups p q _ (first_marked is (second_exceeds h)) = tt
found-told how groups p q given (first_marked {a} is (decided {b} also h)) = subst (λ u. IsTellable u given) is.universe (decided-told how a b given h)

least-told : (q : Question) (o : Option AtLeast) → IfSome o (IsAtLeast q) → IfSome o (λ l. IsFamilyOf q.universe (least_family l))
least-told q None h = tt
least-told q (Some (AtLeast.Degree d f)) h = (h.1.head_texts, h.1.pump_texts)
least-told q (Some (AtLeast.Expo f)) h = (h.0.head_texts, h.0.pump_texts)

none-told : (u : Universe) (b : Bounds) → HasNone b → IsLeastOf u b
none-told u b h = subst (λ o. IfSome o (λ l. IsFamilyOf u (least_family l))) (sym h.at_least) tt

bounds-told : (v : Verdict) (mode : Mode) (pairs : ℕ) (p : Pattern) (b : Bounds) → AreBounds v mode pairs p b → IsLeastOf (universe_of p) b
bounds-told (verdict.Degree d f) mode pairs p b h = none-told (universe_of p) b h
bounds-told (verdict.Expo f) mode pairs p b h = none-told (universe_of p) b h
bounds-told (verdict.Undecided limit) mode.Search pairs p b h = least-told (question_in mode.Search p pairs) b.at_least h.at_least
bounds-told (verdict.Undecided limit) mode.Match pairs p b h = none-told (universe_of p) b h
bounds-told (verdict.Undecided limit) mode.Fullmatch pairs p b h = none-told (universe_of p) b h

class-told : (mode : Mode) (pairs : ℕ) (p : Pattern) (given : Answer) → IsClass mode pairs p given → IsTellable (universe_of p) given
class-told mode pairs p (answer.Class verdict bounds) h = (h.1, bounds-told verdict mode pairs p bounds h.2)
class-told mode pairs p (answer.Differ d) h = absurd h
class-told mode pairs p answer.Same h = tt
class-told mode pairs p answer.Exceeded h = tt
class-told mode pairs p (answer.Undecided limit) h = tt
class-told mode pairs p (answer.Refused who f) h = tt
class-told mode pairs p (answer.Ways explained) h = absurd h
class-told mode pairs p (answer.Tree reply) h = absurd h
class-told mode pairs p (answer.Compared c) h = absurd h
class-told mode pairs p (answer.Found sight) h = tt
class-told mode pairs p (answer.Suggested s) h = absurd h
class-told mode pairs p (answer.Cost c) h = tt
class-told mode pairs p answer.TextTooLong h = tt
class-told mode pairs p answer.Version h = tt

pub verdict-told : (u : Universe) (v : Verdict) → HasTexts u v → IsVerdictOf u v
verdict-told u (verdict.Degree d f) h = h
verdict-told u (verdict.Expo f) h = h
verdict-told u (verdict.Undecided limit) h = tt

explained-told : (mode : Mode) (pairs : ℕ) (p : Pattern) (given : Answer) → IsExplained mode pairs p given → IsTellable (universe_of p) given
explained-told mode pairs p (answer.Ways explained) h = h.texts
explained-told mode pairs p (answer.Class verdict bounds) h = absurd h
explained-told mode pairs p (answer.Tree reply) h = absurd h
explained-told mode pairs p (answer.Differ d) h = absurd h
explained-told mode pairs p answer.Same h = tt
explained-told mode pairs p answer.Exceeded h = tt
explained-told mode pairs p (answer.Undecided limit) h = tt
explained-told mode pairs p (answer.Refused who f) h = tt
explained-told mode pairs p (answer.Compared c) h = absurd h
explained-told mode pairs p (answer.Found sight) h = tt
explained-told mode pairs p (answer.Suggested s) h = absurd h
explained-told mode pairs p (answer.Cost c) h = tt
explained-told mode pairs p answer.TextTooLong h = tt
explained-told mode pairs p answer.Version h = tt

compared-told : (mode : Mode) (most : ℕ) (p q : Pattern) (given : Answer) → AreCompared mode most p q given → IsTellable (universe_of p) given
compared-told mode most p q (answer.Compared c) h = are-texts (universe_of p) mode most p q c h
compared-told mode most p q (answer.Class verdict bounds) h = absurd h
compared-told mode most p q (answer.Ways explained) h = absurd h
compared-told mode most p q (answer.Tree reply) h = absurd h
compared-told mode most p q (answer.Differ d) h = absurd h
compared-told mode most p q answer.Same h = tt
compared-told mode most p q answer.Exceeded h = tt
compared-told mode most p q (answer.Undecided limit) h = tt
compared-told mode most p q (answer.Refused who f) h = tt
compared-told mode most p q (answer.Found sight) h = tt
compared-told mode most p q (answer.Suggested s) h = absurd h
compared-told mode most p q (answer.Cost c) h = tt
compared-told mode most p q answer.TextTooLong h = tt
compared-told mode most p q answer.Version h = tt

suggested-told : (flags : Flags) (w : List ℕ) (pairs : ℕ) (p : Pattern) (given : Answer) → IsSuggested flags w pairs p given → IsTellable (universe_of p) given
suggested-told flags w pairs p (answer.Suggested s) h = h.1
suggested-told flags w pairs p (answer.Class verdict bounds) h = absurd h
suggested-told flags w pairs p (answer.Ways explained) h = absurd h
suggested-told flags w pairs p (answer.Tree reply) h = absurd h
suggested-told flags w pairs p (answer.Differ d) h = absurd h
suggested-told flags w pairs p answer.Same h = tt
suggested-told flags w pairs p answer.Exceeded h = tt
suggested-told flags w pairs p (answer.Undecided limit) h = tt
suggested-told flags w pairs p (answer.Refused who f) h = tt
suggested-told flags w pairs p (answer.Compared c) h = absurd h
suggested-told flags w pairs p (answer.Found sight) h = tt
suggested-told flags w pairs p (answer.Cost c) h = tt
suggested-told flags w pairs p answer.TextTooLong h = tt
suggested-told flags w pairs p answer.Version h = tt

tree-told : (p : Pattern) (given : Answer) → IsTree p given → IsTellable (universe_of p) given
tree-told p (answer.Tree reply) h = h.1
tree-told p (answer.Ways explained) h = absurd h
tree-told p (answer.Undecided limit) h = tt
tree-told p (answer.Class verdict bounds) h = absurd h
tree-told p (answer.Differ d) h = absurd h
tree-told p answer.Same h = tt
tree-told p answer.Exceeded h = tt
tree-told p (answer.Refused who f) h = tt
tree-told p (answer.Compared c) h = absurd h
tree-told p (answer.Found sight) h = tt
tree-told p (answer.Suggested s) h = absurd h
tree-told p (answer.Cost c) h = tt
tree-told p answer.TextTooLong h = tt
tree-told p answer.Version h = tt

-- What is found, and costs, have no texts.
sight-told : (mode : Mode) (m : MarkedPattern) (w : List ℕ) (advance : Bool) (i : ℕ) (u : Universe) (given : Answer) → IsSight mode m w advance i given → IsTellable u given
sight-told mode m w advance i u (answer.Found sight) h = tt
sight-told mode m w advance i u (answer.Undecided limit) h = tt
sight-told mode m w advance i u (answer.Class verdict bounds) h = absurd h
sight-told mode m w advance i u (answer.Ways explained) h = absurd h
sight-told mode m w advance i u (answer.Tree reply) h = absurd h
sight-told mode m w advance i u (answer.Differ d) h = absurd h
sight-told mode m w advance i u answer.Same h = tt
sight-told mode m w advance i u answer.Exceeded h = tt
sight-told mode m w advance i u (answer.Refused who f) h = tt
sight-told mode m w advance i u (answer.Compared c) h = absurd h
sight-told mode m w advance i u (answer.Suggested s) h = absurd h
sight-told mode m w advance i u (answer.Cost c) h = tt
sight-told mode m w advance i u answer.TextTooLong h = tt
sight-told mode m w advance i u answer.Version h = tt

finds-told : (mode : Mode) (w : List ℕ) (advance : Bool) (i : ℕ) (p : Pattern) (given : Answer) → IsFoundOn mode w advance i p given → IsTellable (universe_of p) given
finds-told mode w advance i p _ (exceeds h) = tt
finds-told mode w advance i p given (runs {m} is h) = sight-told mode m w advance i (universe_of p) given h

cost-told : (mode : Mode) (w : List ℕ) (p : Pattern) (given : Answer) → IsCost mode w p given → IsTellable (universe_of p) given
cost-told mode w p (answer.Cost c) h = tt
cost-told mode w p (answer.Undecided limit) h = tt
cost-told mode w p (answer.Class verdict bounds) h = absurd h
cost-told mode w p (answer.Ways explained) h = absurd h
cost-told mode w p (answer.Tree reply) h = absurd h
cost-told mode w p (answer.Differ d) h = absurd h
cost-told mode w p answer.Same h = tt
cost-told mode w p answer.Exceeded h = tt
cost-told mode w p (answer.Refused who f) h = tt
cost-told mode w p (answer.Compared c) h = absurd h
cost-told mode w p (answer.Suggested s) h = absurd h
cost-told mode w p (answer.Found sight) h = tt
cost-told mode w p answer.TextTooLong h = tt
cost-told mode w p answer.Version h = tt

cost_of-told : (terms : Terms) (pattern : Text) (mode : Mode) (w : List ℕ) (given : Answer) → IsCostOf terms pattern mode w given → IsTellable terms.universe given
cost_of-told terms pattern mode w _ (too_long h) = tt
cost_of-told terms pattern mode w given (counted h k) = read-told (grammar_in mode) terms pattern (IsCost mode w) (cost-told mode w) given k

-- A text that a right answer tells is one of the universe.
pub right-told : (q : Asked) (given : Answer) → IsRight q given → IsTellable (universe_asked q) given
right-told (class pattern terms mode pairs) given h = read-told (grammar_in mode) terms pattern (IsClass mode pairs) (class-told mode pairs) given h
right-told (ways pattern terms mode pairs) given h = read-told (grammar_in mode) terms pattern (IsExplained mode pairs) (explained-told mode pairs) given h
right-told (tree pattern terms) given h = read-told (grammar_in mode.Search) terms pattern IsTree tree-told given h
right-told (compare first second terms mode limit) given h = both-told (grammar_in mode) terms first second (AreCompared mode limit) (compared-told mode limit) given h
right-told (spans first second terms how limit groups) given h = both-told grammar_of_finds terms first second (AreFound how groups) (found-told how groups) given h
right-told (found pattern terms mode text from advance) given h = read-told grammar_of_finds terms pattern (IsFoundOn mode (chars text) advance from) (finds-told mode (chars text) advance from) given h
right-told (suggest pattern terms pairs) given h = read-told Profile terms pattern (IsSuggested terms.flags (chars pattern) pairs) (suggested-told terms.flags (chars pattern) pairs) given h
right-told (cost pattern terms mode text) given h = cost_of-told terms pattern mode (chars text) given h
right-told (family_cost pattern terms mode heads pumps k) given h = cost_of-told terms pattern mode (family_text (family_named heads pumps) k) given h
right-told version given h = subst (IsTellable Str) (sym h) tt
