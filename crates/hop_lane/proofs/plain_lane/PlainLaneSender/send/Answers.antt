use Rattle.std.proofs.Common.{ap, ◌∙◌, sym, append_assoc, arith, true, ◌≡◌, ◌++◌, ◌∷◌, [], subst}
use Rattle.hop_inner.specs.Lines.{name_of, EachAllowed, Sends}
use Rattle.hop_lane.specs.PlainLanes.{Lane, line_of}
use Rattle.hop_lane.specs.Logs.{key_in}
use Rattle.hop_lane.proofs.Prefixes.{EachAllowed-push}
use Rattle.hop_lane.proofs.LaneSteps.{sends-lane}
use Rattle.hop_lane.proofs.plain_lane.PlainLaneSender.send.Goals as goal

pub invariant_of-self-2 : goal.invariant_of-self-2
invariant_of-self-2 g c =
    let i = c.self.invariant in let v = c.self.inside.notes.seat.me.0 in let q = c.push_back_reserved.new.self in let m = c.args.msg in
    let A = g.L.LaneRule.allows in let held = c.self.inside.queue.items in
    let may : A (key_in v) (v.taken ++ held) m = subst (λ (l : Lane g.row.T.Denot). A l.key (l.taken ++ l.held) m) (sym c.self.view_is) c.requires in
    let len = c.push_back_reserved.ensures.len in let cap = c.push_back_reserved.ensures.capacity in let lt = c.if-len-self.false in let was = c.len.ensures in
    let e : (v.taken ++ held) ++ m ∷ [] ≡ v.taken ++ q.items = append_assoc v.taken held (m ∷ []) ∙ ap (λ l. v.taken ++ l) (sym c.push_back_reserved.ensures.items) in
    (i.0, omega arith, omega (arith, i.2), subst (EachAllowed (A (key_in v))) e (EachAllowed-push (A (key_in v)) (v.taken ++ held) m i.3 may))

pub returns-clause-sends : goal.returns-clause-sends
returns-clause-sends g c =
    let was = c.len.ensures in let no = c.if-len-self.false in let l = c.self.inside in let same = c.self.invariant.0 in
    let lane : Lane g.row.T.Denot = record { name = name_of l.notes.table.shared.table_id; key = key_in l.notes.seat.me.0; taken = l.notes.seat.me.0.taken; held = l.queue.items; fulls = l.fulls; nones = l.nones } in
    subst (λ (x : Lane g.row.T.Denot). Sends true g.L.LaneRule.capacity c.args.msg true (line_of x) (line_of (record lane { held = c.push_back_reserved.new.self.items }))) c.self.view_is
    (sends-lane lane g.L.LaneRule.capacity c.args.msg c.push_back_reserved.new.self.items c.push_back_reserved.ensures.items (omega (arith, was, no, same)))
