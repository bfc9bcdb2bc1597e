use Rattle.std.proofs.Common.{take}
use Rattle.std.specs.Prelude.{All}
use Rattle.std.specs.List.{AllZip}
use Rattle.rl_report.specs.Layouts.{IsOfItsUniverse}
use Rattle.rl_report.specs.Places.{IsAt}
use Rattle.rl_judge.specs.RightEntries.{IsSiteEntry}
use Rattle.rl_judge.proofs.entries.site_entries.Given as goal

-- The sites so far have their entries.
abbrev pub invariant-loop-site : goal.invariant-loop-site
invariant-loop-site l = record {
  right : AllZip (IsSiteEntry l.path l.source l.tokens l.settings) (take l.site-index l.site-items) l.entries;
  universe : All IsOfItsUniverse l.entries;
  at : IsAt l.source l.cursor;
}
