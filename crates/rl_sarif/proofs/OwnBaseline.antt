-- A report in JSON holds the keys of its entries.
use Rattle.std.proofs.Common.{◌≡◌, ℕ, ◌⊎◌, inl, inr, true, List, Some, sym, ap, ◌∙◌, arith}
use Rattle.std.specs.Prelude.{◌==◌, ◌||◌}
use Rattle.rl_report.specs.declared.report.Entry.{Entry}
use Rattle.rl_report.specs.Document.{report_data}
use Rattle.rl_sarif.specs.Baseline.{IsBaseline, report_keys}
use Rattle.rl_sarif.specs.Keys.{EntryKey}
use Rattle.rl_sarif.specs.Laws.{IsOwnBaseline}
use Rattle.rl_sarif.proofs.KeysBack.{keys-back}
use Rattle.rl_sarif.proofs.ReportWritable.{report-writable}
use Rattle.rl_json.proofs.Writable.{line-reads, line-utf8}

is-version : (report : ℕ) → (report ≡ 1) ⊎ (report ≡ 2) → (report == 1 || report == 2) ≡ true
is-version report (inl e) = rw e
is-version report (inr e) = rw e

pub own-baseline : (max_degree max_pairs report : ℕ) (entries : List Entry) → IsOwnBaseline max_degree max_pairs report entries
unfolding report_data
own-baseline max_degree max_pairs report entries small version few sound short =
    let written = report_data max_degree max_pairs report entries in
    let writable = report-writable max_degree max_pairs report entries small version few sound in
    record {
      small = short;
      utf8 = line-utf8 5 written writable;
      value = written;
      reads = line-reads 5 written (omega arith) writable;
      holds = rw (is-version report version) (keys-back max_pairs report entries sound);
    }

-- The bytes spell one value, and this value has one list of keys.
pub one-list : (bytes : List ℕ) (keys others : List EntryKey) → IsBaseline bytes keys → IsBaseline bytes others → keys ≡ others
one-list bytes keys others a b =
    let read_same : Some a.value ≡ Some b.value = sym a.reads ∙ b.reads in
    let same : a.value ≡ b.value = cc in
    let listed : Some keys ≡ Some others = sym a.holds ∙ ap report_keys same ∙ b.holds in
    cc
