-- Replies to values, to lines, and one after the other.
use Rattle.std.proofs.Common.{refl, ◌≡◌, ◌∙◌, ℕ, ◌≤◌, Bool, true, false, [], ◌++◌, Option, None, Some, Result, Ok, Err, IfOk, OnOk, OnErr, IsUtf8, ap, sym, subst, option_map, append_assoc, append-nil, arith}
use Rattle.std.specs.Io.KnownBytes.{Appends}
use Rattle.rl_source.specs.Faults.{Rose}
use Rattle.serde_json.specs.Data.{Data}
use Rattle.serde_json.proofs.OnLiterals.{serde_json_on_literals}
use Rattle.serde_json.specs.Read.{read}
use Rattle.rl_asked.specs.Words.{Text}
use Rattle.rl_ask.specs.Lines.{IsReply, IsReplyTo, mistaken, answered, of_value, is_over}
use Rattle.rl_ask.specs.Answers.{IsRight}
use Rattle.rl_ask.specs.Beyond.{IsTold}
use Rattle.rl_ask.specs.Document.{error_text, reply_text}
use Rattle.rl_ask.specs.declared.answer.Answer.{Answer}
use Rattle.rl_ask.specs.declared.beyond.Beyond.{Beyond}
use Rattle.rl_asked.specs.Questions.{Asked, asked, message_of}
use Rattle.rl_asked.specs.Reading.{question_read}
use Rattle.rl_asked.specs.declared.mistake.Mistake.{Mistake}
use Rattle.rl_asked.specs.declared.question.Question.{Question}
use Rattle.std.specs.Result.{result_map_both}
use Rattle.rl_ask.specs.internal.Replied.{AnswersWell}
use Rattle.std.specs.Prelude.{codes, is_err, IfSome}
use Rattle.std.specs.Io.BufRead.{take_through}

pub appends-more : (a b c : Option Text) (s t : Text) → Appends a b s → Appends b c t → Appends a c (s ++ t)
appends-more None b c s t h k = tt
appends-more (Some x) None c s t h k = absurd h
appends-more (Some x) (Some y) None s t h k = absurd k
appends-more (Some x) (Some y) (Some z) s t h k = k ∙ ap (λ l. l ++ t) h ∙ append_assoc x s t

pub appends-none : (a : Option Text) → Appends a a []
appends-none None = tt
appends-none (Some x) = sym (append-nil x)

pub ok-is : {E : Type 0} (r : Result Text E) (text : Text) (P : Text → Type 0) → IfOk r (λ line. line ≡ text) → P text → IfOk r P
ok-is (Ok line) text P is h = subst P (sym is) h
ok-is (Err e) text P is h = tt

pub value-answered : {E : Type 0} (r : Result Text E) (d : Data) (o : Result Question Mistake) (q : Question) → result_map_both asked message_of o ≡ question_read d
    → o ≡ Ok q → IfOk r (AnswersWell (asked q)) → IfOk r (IsReplyTo d)
value-answered (Ok line) d o q read is well = subst (IsReplyTo d) (sym well.is) (answered well.found well.beyond (sym read ∙ ap (result_map_both asked message_of) is) well.right well.told)
value-answered (Err e) d o q read is well = tt

pub value-mistaken : {E : Type 0} (r : Result Text E) (d : Data) (o : Result Question Mistake) (m : Mistake) → result_map_both asked message_of o ≡ question_read d
    → o ≡ Err m → IfOk r (λ line. line ≡ error_text (message_of m)) → IfOk r (IsReplyTo d)
value-mistaken (Ok line) d o m read is text = subst (IsReplyTo d) (sym text) (mistaken (sym read ∙ ap (result_map_both asked message_of) is))
value-mistaken (Err e) d o m read is text = tt

pub reply-of : {E : Type 0} (r : Result Text E) (line : Text) (d : Data) → is_over line ≡ false → IsUtf8 line → read line ≡ Some d → IfOk r (IsReplyTo d) → IfOk r (IsReply line)
reply-of (Ok text) line d short utf8 is h = of_value short utf8 is h
reply-of (Err e) line d short utf8 is h = tt

pub err-holds : {T E : Type 0} (r : Result T E) (b : Bool) (P : Type 0) → b ≡ is_err r → b ≡ true → OnErr r P → P
err-holds (Ok x) b P e t h = let never : true ≡ false = sym t ∙ e in absurd cc
err-holds (Err x) b P e t h = h

pub ok-holds : {T E : Type 0} (r : Result T E) (b : Bool) (P : Type 0) → b ≡ is_err r → b ≡ false → OnOk r P → P
ok-holds (Ok x) b P e t h = h
ok-holds (Err x) b P e t h = let never : false ≡ true = sym t ∙ e in absurd cc

-- The next line, in a buffer that was empty.
pub line-read : (old : Option Text) (start buf line : Text) → start ≡ [] → line ≡ buf → IfSome old (λ xs. buf ≡ start ++ take_through 10 xs)
    → IfSome old (λ xs. line ≡ take_through 10 xs)
line-read None start buf line empty same h = tt
line-read (Some xs) start buf line empty same h = same ∙ h ∙ ap (λ l. l ++ take_through 10 xs) empty

-- A count that was lower before rose too.
pub rose-later : (a b c : ℕ) → a ≤ b → Rose b c → Rose a c
rose-later a b c lower rose = omega arith

-- The reply that is written without memory for it.
pub memory-text : codes "{\"answer\":\"error\",\"message\":\"out of memory\"}\n" ≡ error_text (codes "out of memory")
unfolding serde_json_on_literals
memory-text = refl

-- The line of a right answer, with what is told beside it.
pub told-well : {E : Type 0} (r : Result Text E) (q : Asked) (a : Answer) (told : Beyond) → IsRight q a → IsTold q a told
    → IfOk r (λ line. line ≡ reply_text q told a) → IfOk r (AnswersWell q)
told-well (Ok line) q a told right beside is = record { found = a; beyond = told; right = right; told = beside; is = is }
told-well (Err e) q a told right beside is = tt
