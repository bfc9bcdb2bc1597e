-- The runs of sites. A site is a call of the module `re` whose first argument begins with literals. Its run is the tokens from
-- the first of these literals to the last, including comments between them. Indexes count tokens from 0.
use Rattle.std.specs.Prelude.{◌+◌, ◌≤◌, List, length, take, drop, AllPairs}
use Rattle.rl_pylex.specs.declared.token_list.Token.{Token}
use Rattle.rl_pystr.specs.Runs.{IsLiteralRun}
use Rattle.rl_sites.specs.declared.site.Site.{Site}

-- The run of a site: the `site.count` tokens from the index `site.first` on, or those that there are if the list ends earlier.
abbrev pub run_of : List Token → Site → List Token
run_of tokens site = take site.count (drop site.first tokens)

-- Holds if the run of the site lies within the tokens, begins and ends with a literal, and has only literals and comments.
pub record HasRun (tokens : List Token) (site : Site) : Type 0 where
  pub within : site.first + site.count ≤ length tokens
  pub run : IsLiteralRun (run_of tokens site)

-- Holds if the runs of the sites are in order and don't overlap: each run ends before every later one begins.
abbrev pub AreInOrder : List Site → Type 0
AreInOrder sites = AllPairs (λ a b. a.first + a.count ≤ b.first) sites
