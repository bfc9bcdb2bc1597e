-- The sites, token by token.
use Rattle.std.proofs.Common.{◌≡◌, ℕ, ◌<◌, Bool, true, false, cond, List, [], ◌∷◌, ◌++◌, drop, length, get_or, refl, ap, ap₂, sym, ◌∙◌, arith, append_assoc, Some, None, Option}
use Rattle.std.specs.Prelude.{option_to_list}
use Rattle.rl_sites.specs.declared.significant.SignificantToken.{SignificantToken}
use Rattle.rl_sites.specs.declared.imports.Alias.{Alias}
use Rattle.rl_sites.specs.declared.heads.Head.{Head}
use Rattle.rl_sites.specs.declared.site.Site.{Site}
use Rattle.rl_sites.specs.Sites.{head_of, hides, sites_from}
use Rattle.rl_sites.specs.internal.Parts.{is_hidden, open_head, site_by}

hidden_case : (hidden : Bool) (s : List ℕ) (al : List Alias) (found : Option Head) (ms : List SignificantToken)
    → option_to_list (site_by s al (cond hidden None found) ms) ≡ cond hidden [] (option_to_list (site_by s al found ms))
hidden_case true s al found ms = refl
hidden_case false s al found ms = refl

-- The site that the tokens begin with, if there is one, and the sites after the first token.
pub sites_step : (s : List ℕ) (al : List Alias) (before : Option SignificantToken) (ms next : List SignificantToken) (m d : SignificantToken) (old pushed : List Site)
    → 0 < length ms → m ≡ get_or ms 0 d → next ≡ drop 1 ms → pushed ≡ old ++ option_to_list (site_by s al (open_head s al before ms) ms)
    → old ++ sites_from s al (is_hidden s before) ms ≡ pushed ++ sites_from s al (is_hidden s (Some m)) next
sites_step s al before [] next m d old pushed some e n p = absurd (omega arith)
sites_step s al before (x ∷ ms) next m d old pushed some e n p =
    let here = option_to_list (site_by s al (open_head s al before (x ∷ ms)) (x ∷ ms)) in
    ap (λ (sites : List Site). old ++ (sites ++ sites_from s al (hides s x) ms)) (sym (hidden_case (is_hidden s before) s al (head_of s al (x ∷ ms)) (x ∷ ms)))
    ∙ sym (append_assoc old here (sites_from s al (hides s x) ms))
    ∙ ap₂ (λ (y : SignificantToken) (xs : List SignificantToken). (old ++ here) ++ sites_from s al (hides s y) xs) (sym e) (sym n)
    ∙ ap (λ (sites : List Site). sites ++ sites_from s al (hides s m) next) (sym p)
