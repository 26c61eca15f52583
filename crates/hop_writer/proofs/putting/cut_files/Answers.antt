use Rattle.std.proofs.Common.{◌≡◌, ◌++◌, ◌∷◌, [], List, ap, ◌∙◌}
use Rattle.std.specs.Prelude.{map, string_bytes}
use Rattle.hop_jobs.specs.Known.{known_meaning}
use Rattle.hop_writer.specs.Later.{with_last}
use Rattle.hop_writer.specs.Puts.{files_in}
use Rattle.hop_writer.specs.Writers.{kept_with, snapshot_made}
use Rattle.hop_writer.specs.declared.files.NamedFile.{NamedFile}
use Rattle.hop_writer.specs.declared.kept.Kept.{Kept}
use Rattle.hop_writer.proofs.Texts.{kept_none, kept_some, makes}
use Rattle.hop_writer.proofs.putting.cut_files.Goals.{then-not-is_empty+in_ok-kept_of+in_ok-push, else-not-is_empty}
use Rattle.hop_writer.proofs.putting.cut_files.Goals as goal

pub returns : goal.returns
returns g c =
    let R = g.N.RunName in let q = c.requires in let own = g.J.Job.meaning c.args.job.now in let cut = c.args.cut.now in let lens = c.args.lens.now in let p = c.args.p in let r = c.args.r in
    let then = c.if-not-is_empty.kept.items in let jobs = c.args.later.now in let made = snapshot_made own p r lens cut in
    let kept : then ≡ kept_with (map known_meaning jobs) c.args.kept.now.items made =
    elim c.if-not-is_empty.branch [
      | then-not-is_empty+in_ok-kept_of+in_ok-push w ↦ ap (λ v. v.items) w.kept-is ∙ w.in_ok-push.ensures.items ∙ ap (λ (k : Kept). c.args.kept.now.items ++ k ∷ []) w.in_ok-kept_of.ensures ∙ kept_some jobs c.args.kept.now.items made c.is_empty.result c.is_empty.ensures w.if-not-is_empty.true
      | else-not-is_empty w ↦ ap (λ v. v.items) w.kept-is ∙ kept_none jobs c.args.kept.now.items made c.is_empty.result c.is_empty.ensures w.if-not-is_empty.false
    ] in
    makes R.job R.records R.settings R.tells own lens r p cut q.job q.lens q.reducers q.whole q.fits c.in_ok-text.text c.in_ok-text.ensures.text c.in_ok-text.ensures.snapshot
    jobs g.C.ChainName.later c.args.kept.now.items then (string_bytes c.in_ok-name.name) c.in_ok-text.text (files_in c.push-2.new.self.items) (files_in c.add_later.new.files.items)
    q.later kept c.in_ok-name.ensures (λ i. c.in_ok-text.text)
    (ap files_in (c.in_ok-push-2.ensures.items ∙ ap (λ (l : List NamedFile). l ++ record { name = c.in_ok-name.name; bytes = c.in_ok-text.text } ∷ []) c.new-files.ensures.items))
    (c.in_ok-add_later.ensures ∙ ap (λ (k : List Kept). files_in c.push-2.new.self.items ++ with_last (map known_meaning jobs) r k cut.mark) c.deref.ensures.value)
