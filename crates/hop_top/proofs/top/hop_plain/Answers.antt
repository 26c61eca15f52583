use Rattle.std.proofs.Common.{map, subst}
use Rattle.std.specs.Prelude.{Option}
use Rattle.hop_replay.specs.Folders.{Spilling}
use Rattle.hop_words.specs.Options.{AskedOptions}
use Rattle.hop_top.specs.Meets.{Meets}
use Rattle.hop_top.specs.Spilling.{SpillsLeft, all_tell}
use Rattle.hop_top.proofs.CompleteLaws.{complete, done-so, goes, never-done, never-spent, spent-so}
use Rattle.hop_top.proofs.SpillLaws.{true-is}
use Rattle.hop_top.proofs.top.hop_plain.Goals as goal

-- all three follow from what the outcome says
pub returns-clause-complete : goal.returns-clause-complete
returns-clause-complete g c = λ options files asks held tell accepted sound quiet.
    let F = g.F.Folder.seen in let O = g.O.Sink.seen in let answer = c.answer-outcome.result.outcome in
    let old = F c.args.folder in let new = F c.answer-outcome.result.folder in let out_old = O c.args.out.now in let out_new = O c.answer-outcome.new.out in
    let s : Spilling = record { before = map g.V.Folder.seen c.args.spills.items; after = map g.V.Folder.seen c.answer-outcome.new.spills.items } in
    done-so options s files answer sound
    (complete old new out_old out_new s options files held answer (subst (λ (o : Option AskedOptions). Meets old new out_old out_new s o answer) asks c.answer-outcome.ensures.meets) accepted
    (goes options s answer (subst (λ (o : Option AskedOptions). SpillsLeft o s answer) asks c.answer-outcome.ensures.left) (true-is (all_tell options.settings.workers s.before) tell) quiet.spills)
    quiet.gets quiet.puts quiet.faults)

pub returns-clause-doomed : goal.returns-clause-doomed
returns-clause-doomed g c = λ options files asks held doomed is.
    let F = g.F.Folder.seen in let O = g.O.Sink.seen in let answer = c.answer-outcome.result.outcome in
    let old = F c.args.folder in let new = F c.answer-outcome.result.folder in let out_old = O c.args.out.now in let out_new = O c.answer-outcome.new.out in
    let s : Spilling = record { before = map g.V.Folder.seen c.args.spills.items; after = map g.V.Folder.seen c.answer-outcome.new.spills.items } in
    never-done old new out_old out_new s options files answer held (subst (λ (o : Option AskedOptions). Meets old new out_old out_new s o answer) asks c.answer-outcome.ensures.meets) doomed is

pub returns-clause-spent : goal.returns-clause-spent
returns-clause-spent g c = λ options files split asks held tell accepted plays quiet.
    let F = g.F.Folder.seen in let O = g.O.Sink.seen in let answer = c.answer-outcome.result.outcome in
    let old = F c.args.folder in let new = F c.answer-outcome.result.folder in let out_old = O c.args.out.now in let out_new = O c.answer-outcome.new.out in
    let s : Spilling = record { before = map g.V.Folder.seen c.args.spills.items; after = map g.V.Folder.seen c.answer-outcome.new.spills.items } in
    let meets = subst (λ (o : Option AskedOptions). Meets old new out_old out_new s o answer) asks c.answer-outcome.ensures.meets in
    spent-so options s files split answer plays (never-spent old new out_old out_new s options files split answer held meets plays)
    (complete old new out_old out_new s options files held answer meets accepted
    (goes options s answer (subst (λ (o : Option AskedOptions). SpillsLeft o s answer) asks c.answer-outcome.ensures.left) (true-is (all_tell options.settings.workers s.before) tell) quiet.spills)
    quiet.gets quiet.puts quiet.faults)
