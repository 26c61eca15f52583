use Rattle.std.proofs.Common.{ℕ, ◌<◌, ◌≤◌, [], Vec, Global, map, length, sym, ap, ◌∙◌, arith}
use Rattle.std.proofs.lemmas.List.{get_or-map, get_or_past, length-map}
use Rattle.hop_base.specs.Run.{ScriptLines, restarts_of}
use Rattle.hop_script.proofs.RestartLemmas.{lines_from-of}
use Rattle.hop_script.proofs.script.Script.restarts.Goals as goal

pub returns-then-p-len : goal.returns-then-p-len
returns-then-p-len c =
    let p = c.args.p in
    let vecs = c.self.inside.restarts.items in
    let lists = map (λ (list : Vec ℕ Global). list.items) vecs in
    let seen = ap (λ (script : ScriptLines). restarts_of script p) c.self.view_is in
    let within : p < length vecs = omega (arith, c.if-p-len.true, c.len.ensures, c.self.inside.restarts.ok) in
    c.as_slice.ensures.value
    ∙ ap (λ (list : Vec ℕ Global). list.items) c.index.ensures
    ∙ sym (get_or-map (λ (list : Vec ℕ Global). list.items) vecs p c.index.result.now [] within)
    ∙ sym (lines_from-of p 0 p lists (omega arith))
    ∙ seen

pub returns-else-p-len : goal.returns-else-p-len
returns-else-p-len c =
    let p = c.args.p in
    let vecs = c.self.inside.restarts.items in
    let lists = map (λ (list : Vec ℕ Global). list.items) vecs in
    let seen = ap (λ (script : ScriptLines). restarts_of script p) c.self.view_is in
    let past : length lists ≤ p = omega (arith, c.if-p-len.false, c.len.ensures, c.self.inside.restarts.ok, length-map vecs (λ (list : Vec ℕ Global). list.items)) in
    sym (get_or_past lists p [] past) ∙ sym (lines_from-of p 0 p lists (omega arith)) ∙ seen
