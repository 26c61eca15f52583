use Rattle.std.proofs.Common.{◌∙◌, ◌++◌, List, ℕ, codes, sym, ap}
use Rattle.std.specs.Prelude.{decimal}
use Rattle.std.proofs.lemmas.Result.{IfOk-weaker}
use Rattle.hop_top.specs.Report.{report_of}
use Rattle.hop_top.proofs.report.line_of.Goals as goal

-- the line with the name of its file
abbrev named : ℕ → List ℕ → List ℕ
named line name = codes "hop: line " ++ (decimal line ++ (codes " of the " ++ (name ++ codes " is not understood\n")))

pub returns-in-ScriptRefused : goal.returns-in-ScriptRefused
returns-in-ScriptRefused c = IfOk-weaker c.format-in-ScriptRefused.result _ _
    (λ line e. e ∙ ap (named c.in-ScriptRefused.line) c.file_name-name-in-ScriptRefused.ensures ∙ sym (ap report_of c.in-ScriptRefused.is)) c.format-in-ScriptRefused.ensures.ok
