use Rattle.std.proofs.Common.{List, map, arith}
use Rattle.std.proofs.lemmas.List.{length-map}
use Rattle.hop_ports.specs.Views.{FolderView}
use Rattle.hop_words.specs.Options.{asked, options_of}
use Rattle.hop_top.proofs.PlainLaws.{asked-plain}
use Rattle.hop_top.proofs.SpillLaws.{nothing-left}
use Rattle.hop_top.proofs.top.answer.Goals as goal

pub run-requires-clause-alone : goal.run-requires-clause-alone
run-requires-clause-alone g c = (asked-plain c.args.words.now (options_of c.in-Ok.options) c.in-Ok.ensures.options).backup

pub returns-in-Err-NoMemory-clause-left : goal.returns-in-Err-NoMemory-clause-left
returns-in-Err-NoMemory-clause-left g c =
    let views : List FolderView = map g.V.Folder.seen c.args.spills.now.items in
    let n = length-map c.args.spills.now.items g.V.Folder.seen in let own = c.args.spills.now.ok in let all = c.requires in
    nothing-left (asked c.args.words.now) views (λ options e. let few = (asked-plain c.args.words.now options e).workers in omega (arith, few, n, own, all))
