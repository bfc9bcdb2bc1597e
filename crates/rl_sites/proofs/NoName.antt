-- A source whose code never names the module `re` defines no alias of it, and so has no sites.
use Rattle.std.proofs.Common.{◌≡◌, ◌≢◌, ℕ, zero, suc, ◌+◌, Bool, true, false, ◌&&◌, cond, List, [], ◌∷◌, ◌++◌, drop, length, refl, ap, sym, ◌∙◌, Option, None}
use Rattle.std.specs.Prelude.{All, codes, option_to_list, bytes_eq}
use Rattle.std.proofs.lemmas.List.Elements.{All-nil, All-cons, All-head, All-tail, All-drop}
use Rattle.std.proofs.lemmas.Slice.Eq.{bytes_eq-Decides}
use Rattle.rl_pylex.specs.declared.token_list.TokenKind.{TokenKind}
use Rattle.rl_pylex.specs.declared.token_list.TokenKind.TheVariants as kind
use Rattle.rl_pylex.specs.declared.token_list.Token.{Token}
use Rattle.rl_pylex.specs.Source.{same_kind, text_of, LacksName}
use Rattle.rl_sites.specs.declared.significant.SignificantToken.{SignificantToken}
use Rattle.rl_sites.specs.declared.imports.Alias.{Alias}
use Rattle.rl_sites.specs.declared.imports.Import.TheVariants as import
use Rattle.rl_sites.specs.Significant.{significant_from, is_name, is_word, is_op, is_at}
use Rattle.rl_sites.specs.Imports.{ends_statement, item_size, item_alias, items_from, is_from_import, import_here, aliases_from, aliases_of}
use Rattle.rl_sites.specs.Sites.{sites_of, HasNoSites}
use Rattle.rl_sites.proofs.NoAliases.{no_sites}

-- The token isn't a name with the text `re`.
abbrev IsOtherToken : List ℕ → Token → Type 0
IsOtherToken s t = t.kind ≡ kind.Name → text_of s t ≢ codes "re"

abbrev IsOther : List ℕ → SignificantToken → Type 0
IsOther s m = is_word s (codes "re") m ≡ false

not_true : (b : Bool) → (b ≡ true → ⊥) → b ≡ false
not_true true h = absurd (h refl)
not_true false h = refl

other_word : (k : TokenKind) (w : List ℕ) → (k ≡ kind.Name → w ≢ codes "re") → (same_kind kind.Name k && bytes_eq w (codes "re")) ≡ false
other_word kind.Name w h = not_true (bytes_eq w (codes "re")) (λ e. h refl ((bytes_eq-Decides w (codes "re")).0 e))
other_word _ w h = refl

other_token : (s : List ℕ) (t : Token) (n : ℕ) → IsOtherToken s t → IsOther s (record { number = n; inner = t })
unfolding is_word
other_token s t n h = other_word t.kind (text_of s t) h

kept : (s : List ℕ) (b : Bool) (m : SignificantToken) (ms : List SignificantToken) → IsOther s m → All (IsOther s) ms → All (IsOther s) (cond b ms (m ∷ ms))
kept s true m ms h hs = hs
kept s false m ms h hs = All-cons (IsOther s) m ms h hs

other_tokens : (s : List ℕ) (n : ℕ) (ts : List Token) → All (IsOtherToken s) ts → All (IsOther s) (significant_from n ts)
other_tokens s n [] h = All-nil (IsOther s)
other_tokens s n (t ∷ ts) h =
    kept s (same_kind kind.Comment t.kind) (record { number = n; inner = t }) (significant_from (n + 1) ts)
    (other_token s t n (All-head (IsOtherToken s) t ts h)) (other_tokens s (n + 1) ts (All-tail (IsOtherToken s) t ts h))

no_alias : (s : List ℕ) (m : SignificantToken) (ms : List SignificantToken) → IsOther s m → item_alias s import.Module m ms ≡ None
no_alias s m ms h = rw h refl

no_more : (b c : Bool) (alias : Option Alias) (more : List Alias) → alias ≡ None → more ≡ [] → cond b (option_to_list alias ++ cond c more []) [] ≡ []
no_more false c alias more e h = refl
no_more true true alias more e h = ap (λ (o : Option Alias). option_to_list o ++ more) e ∙ h
no_more true false alias more e h = ap (λ (o : Option Alias). option_to_list o ++ []) e

no_items : (s : List ℕ) (skip : ℕ) (ms : List SignificantToken) → All (IsOther s) ms → items_from s import.Module skip ms ≡ []
no_items s zero [] h = refl
no_items s (suc skip) [] h = refl
no_items s (suc skip) (m ∷ ms) h = no_items s skip ms (All-tail (IsOther s) m ms h)
no_items s zero (m ∷ ms) h =
    no_more (is_name m) (is_at (item_size s import.Module ms) (is_op s (codes ",")) ms) (item_alias s import.Module m ms)
    (items_from s import.Module (suc (item_size s import.Module ms)) ms) (no_alias s m ms (All-head (IsOther s) m ms h))
    (no_items s (suc (item_size s import.Module ms)) ms (All-tail (IsOther s) m ms h))

-- The second token isn't `re`.
not_second : (s : List ℕ) (ms : List SignificantToken) → All (IsOther s) ms → is_at 1 (is_word s (codes "re")) ms ≡ false
not_second s [] h = refl
not_second s (m ∷ []) h = refl
not_second s (m ∷ n ∷ ms) h = All-head (IsOther s) n ms (All-tail (IsOther s) m (n ∷ ms) h)

never_between : (a b c : Bool) → b ≡ false → (a && b && c) ≡ false
never_between true b c e = rw e refl
never_between false b c e = refl

no_members : (s : List ℕ) (ms : List SignificantToken) → All (IsOther s) ms → is_from_import s ms ≡ false
unfolding is_from_import
no_members s ms h =
    never_between (is_at 0 (is_word s (codes "from")) ms) (is_at 1 (is_word s (codes "re")) ms) (is_at 2 (is_word s (codes "import")) ms)
    (not_second s ms h)

neither : (a b : Bool) (x y : List Alias) → x ≡ [] → b ≡ false → cond a x (cond b y []) ≡ []
neither true b x y e h = e
neither false b x y e h = rw h refl

no_import : (s : List ℕ) (ms : List SignificantToken) → All (IsOther s) ms → import_here s ms ≡ []
unfolding import_here
no_import s ms h =
    neither (is_at 0 (is_word s (codes "import")) ms) (is_from_import s ms) (items_from s import.Module 0 (drop 1 ms))
    (items_from s import.Member (cond (is_at 3 (is_op s (codes "(")) ms) 1 0) (drop 3 ms)) (no_items s 0 (drop 1 ms) (All-drop (IsOther s) 1 ms h))
    (no_members s ms h)

none_first : (b : Bool) (x more : List Alias) → x ≡ [] → more ≡ [] → cond b x [] ++ more ≡ []
none_first true x more e h = ap (λ (l : List Alias). l ++ more) e ∙ h
none_first false x more e h = h

no_aliases : (s : List ℕ) (begins : Bool) (ms : List SignificantToken) → All (IsOther s) ms → aliases_from s begins ms ≡ []
no_aliases s begins [] h = refl
no_aliases s begins (m ∷ ms) h =
    none_first begins (import_here s (m ∷ ms)) (aliases_from s (ends_statement s m) ms) (no_import s (m ∷ ms) h)
    (no_aliases s (ends_statement s m) ms (All-tail (IsOther s) m ms h))

none_of : (s : List ℕ) (ts : List Token) → All (IsOtherToken s) ts → sites_of s ts ≡ []
unfolding sites_of
none_of s ts h =
    sym (no_sites s (aliases_of s (significant_from 0 ts)) false (significant_from 0 ts) (ap length (no_aliases s true (significant_from 0 ts) (other_tokens s 0 ts h))))

pub without_name : (s : List ℕ) → LacksName s (codes "re") → HasNoSites s
without_name s h = record { tokens = h.tokens; are_tokens = h.are_tokens; none = none_of s h.tokens h.none }
