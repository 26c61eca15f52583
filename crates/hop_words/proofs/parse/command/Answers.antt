use Rattle.std.proofs.Common.{◌≡◌, ap, ◌∙◌}
use Rattle.std.proofs.lemmas.Result.{IfOk-weaker}
use Rattle.clap.specs.Simple.{App}
use Rattle.clap.specs.Walk.{Rule}
use Rattle.clap.specs.Words.{app_of, with_rule}
use Rattle.hop_words.specs.Clap.{plain_rule}
use Rattle.hop_words.proofs.parse.command.Goals as goal

-- one rule more
more : {a b c : App} (r : Rule) → b ≡ with_rule a r → a ≡ c → b ≡ with_rule c r
more r e f = e ∙ ap (λ (x : App). with_rule x r) f

pub returns : goal.returns
returns c =
    let options =
    more _ c.in_ok-command-11.ensures (more _ c.in_ok-command-10.ensures (more _ c.in_ok-command-9.ensures (more _ c.in_ok-command-8.ensures (more _ c.in_ok-command-7.ensures (more _ c.in_ok-command-6.ensures (more _ c.in_ok-command-5.ensures
    (more _ c.in_ok-command-4.ensures (more _ c.in_ok-command-3.ensures (more _ c.in_ok-command-2.ensures (more _ c.in_ok-command.ensures c.bare_command-command.ensures)))))))))) in
    IfOk-weaker c.arg.result _ _ (λ r adds. more plain_rule (adds.shape c.plain_words.ensures.local ∙ ap (with_rule (app_of c.in_ok-command-11.command)) c.plain_words.ensures.rule) options) c.arg.ensures
