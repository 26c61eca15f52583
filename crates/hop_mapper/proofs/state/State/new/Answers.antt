use Rattle.std.proofs.Common.{length, sym, ap, ◌∙◌}
use Rattle.hop_records.specs.Records.{splits_of}
use Rattle.hop_shelf.specs.Names.{book_of, rules_of}
use Rattle.hop_mapper.proofs.Splits.{lens_count}
use Rattle.hop_mapper.proofs.Starting.{new_is, keeps_nothing, within_none, ready_none}
use Rattle.hop_mapper.proofs.state.State.new.Goals as goal

pub invariant_of-result : goal.invariant_of-result
invariant_of-result g c =
    let R = g.N.RunName in let q = c.requires in
    let splits = c.splits.ensures.count ∙ ap splits_of q.book ∙ sym (lens_count (book_of R.records R.settings)) in record {
      of_run = record { run = q.run; job_is = q.job; book_is = q.book; script_is = q.script; settings_are = q.settings };
      keeps = keeps_nothing R.job R.records R.settings (g.V.Folder.seen c.args.vault.folder).held c.args.vault.rows q.vault;
      ends = within_none (rules_of R.records R.script R.settings) c.args.vault.rows q.vault;
      told = q.told;
      lanes = ap length q.press ∙ Rattle.std.proofs.lemmas.List.length-replicate R.settings.reducers _;
      counts = ap length c.in-Ok.ensures ∙ Rattle.std.proofs.lemmas.List.length-replicate c.splits.result 0 ∙ splits;
      ready = λ _. ready_none g.row.K.Denot R.settings.reducers c.args.press q.press;
    }

pub returns-clause-made : goal.returns-clause-made
returns-clause-made g c =
    let R = g.N.RunName in
    new_is R.records R.script R.settings c.args.vault c.args.press c.in-Ok.begun.items c.splits.result c.requires.vault c.requires.press c.in-Ok.ensures
