-- A source that can be cut into tokens and has no sites has no entries.
use Rattle.std.proofs.Common.{◌≡◌, ℕ, List, [], sym, subst}
use Rattle.std.specs.List.{AllZip}
use Rattle.rl_sites.specs.declared.site.Site.{Site}
use Rattle.rl_sites.specs.Sites.{HasNoSites, sites_of}
use Rattle.rl_report.specs.declared.report.Entry.{Entry}
use Rattle.rl_judge.specs.declared.settings.Settings.{Settings}
use Rattle.rl_judge.specs.RightEntries.{IsSiteEntry, AreRight, has_tokens}

pub no_entries : (path source : List ℕ) (s : Settings) (entries : List Entry) → HasNoSites source → entries ≡ [] → AreRight path source s entries
no_entries path source s entries h none =
    has_tokens h.are_tokens
    (subst (λ (es : List Entry). AllZip (IsSiteEntry path source h.tokens s) (sites_of source h.tokens) es) (sym none)
    (subst (λ (sites : List Site). AllZip (IsSiteEntry path source h.tokens s) sites []) (sym h.none) tt))
