use Rattle.std.proofs.Common.{◌≡◌, ◌∙◌, OnOk, codes, ap, subst, sym}
use Rattle.std.proofs.lemmas.Result.{on_ok_weaker}
use Rattle.serde_json.specs.Data.{put, no_members, string}
use Rattle.serde_json.specs.View.{members_view}
use Rattle.rl_syntax.specs.declared.verdict.Verdict.{Verdict}
use Rattle.rl_cert.specs.Form.{whole, form_members}
use Rattle.rl_cert.proofs.writing.put_form.Goals as goal

pub returns-in_ok-put_made-in-Degree : goal.returns-in_ok-put_made-in-Degree
returns-in_ok-put_made-in-Degree c =
    subst (λ (v : Verdict). OnOk c.put_kind.result (members_view c.args.members.now.entries ≡ no_members → members_view c.put_kind.new.members.entries ≡ form_members c.args.c.now v)) (sym c.in-Degree.is)
    (on_ok_weaker c.put_kind.result (λ last empty. last ∙ ap (put (codes "kind") (string (codes "degree"))) (c.in_ok-put_made-in-Degree.ensures (whole c.in-Degree.degree) c.from.ensures
    ∙ ap (put (codes "degree") (whole c.in-Degree.degree)) (c.in_ok-put_common-in-Degree.ensures empty))) c.put_kind.ensures)
