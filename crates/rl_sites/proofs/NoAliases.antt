-- A source without an alias of the module has no sites.
use Rattle.std.proofs.Common.{◌≡◌, ℕ, Bool, true, false, ◌&&◌, cond, List, [], ◌∷◌, ◌++◌, length, refl, ap, sym, ◌∙◌, arith, Option, None}
use Rattle.std.specs.Prelude.{slice_get, option_to_list, codes}
use Rattle.rl_sites.specs.declared.significant.SignificantToken.{SignificantToken}
use Rattle.rl_sites.specs.declared.imports.Alias.{Alias}
use Rattle.rl_sites.specs.declared.heads.Head.{Head}
use Rattle.rl_sites.specs.declared.site.Site.{Site}
use Rattle.rl_sites.specs.Significant.{is_name, is_op, is_at}
use Rattle.rl_sites.specs.Names.{names_any_module, names_any_member, is_module, call_named, call_aliased}
use Rattle.rl_sites.specs.internal.Meanings.{first_call}
use Rattle.rl_sites.specs.Sites.{dotted_head, bare_head, head_of, site_here, sites_from, hides}
use Rattle.rl_sites.specs.internal.Parts.{call_by, head, site_by}

never : (b : Bool) → (b && false) ≡ false
never true = refl
never false = refl

never_behind : (b c : Bool) → c ≡ false → (b && c) ≡ false
never_behind true c e = e
never_behind false c e = refl

no_module : (s : List ℕ) (m : SignificantToken) → is_module s [] m ≡ false
unfolding is_module names_any_module
no_module s m = never (is_name m)

either : {A : Type 0} (b : Bool) (x : Option A) → x ≡ None → cond b x None ≡ None
either true x e = e
either false x e = refl

no_call : (s : List ℕ) (m : SignificantToken) → call_aliased s [] m ≡ None
unfolding call_aliased first_call names_any_member
no_call s m = either (is_name m) None refl

no_front : (s : List ℕ) (ms : List SignificantToken) → is_at 0 (is_module s []) ms ≡ false
no_front s [] = refl
no_front s (m ∷ ms) = no_module s m

chosen : {A : Type 0} (b : Bool) (x : Option A) → b ≡ false → cond b x None ≡ None
chosen true x e = cc
chosen false x e = refl

no_dotted : (s : List ℕ) (ms : List SignificantToken) → dotted_head s [] ms ≡ None
unfolding dotted_head
no_dotted s ms =
    chosen (is_at 1 (is_op s (codes ".")) ms && is_at 3 (is_op s (codes "(")) ms && is_at 0 (is_module s []) ms)
    (head 4 (call_by (call_named s) (slice_get ms 2)))
    (never_behind (is_at 1 (is_op s (codes ".")) ms && is_at 3 (is_op s (codes "(")) ms) (is_at 0 (is_module s []) ms) (no_front s ms))

no_named : (s : List ℕ) (ms : List SignificantToken) → head 2 (call_by (call_aliased s []) (slice_get ms 0)) ≡ None
no_named s [] = refl
no_named s (m ∷ ms) = ap (head 2) (no_call s m)

no_bare : (s : List ℕ) (ms : List SignificantToken) → bare_head s [] ms ≡ None
unfolding bare_head
no_bare s ms = either (is_at 1 (is_op s (codes "(")) ms) (head 2 (call_by (call_aliased s []) (slice_get ms 0))) (no_named s ms)

no_head : (s : List ℕ) (ms : List SignificantToken) → head_of s [] ms ≡ None
unfolding head_of
no_head s ms = rw (no_dotted s ms, no_bare s ms)

no_site : (s : List ℕ) (ms : List SignificantToken) → site_here s [] ms ≡ None
no_site s ms = ap (λ (h : Option Head). site_by s [] h ms) (no_head s ms)

shown : (hidden : Bool) (site : Option Site) (more : List Site) → site ≡ None → [] ≡ more → [] ≡ cond hidden [] (option_to_list site) ++ more
shown true site more e h = h
shown false site more e h = h ∙ ap (λ (o : Option Site). option_to_list o ++ more) (sym e)

none_from : (s : List ℕ) (hidden : Bool) (ms : List SignificantToken) → [] ≡ sites_from s [] hidden ms
none_from s hidden [] = refl
none_from s hidden (m ∷ ms) =
    shown hidden (site_here s [] (m ∷ ms)) (sites_from s [] (hides s m) ms) (no_site s (m ∷ ms)) (none_from s (hides s m) ms)

pub no_sites : (s : List ℕ) (aliases : List Alias) (hidden : Bool) (ms : List SignificantToken) → length aliases ≡ 0 → [] ≡ sites_from s aliases hidden ms
no_sites s [] hidden ms e = none_from s hidden ms
no_sites s (a ∷ rest) hidden ms e = absurd (omega (arith, e))
