use Rattle.std.proofs.Common.{◌≡◌, [], ◌∷◌, ◌++◌, sym, ap, ◌∙◌, subst, append_assoc}
use Rattle.hop_lane.specs.PlainLanes.{Lane}
use Rattle.hop_lane.proofs.plain_lane.PlainLaneReceiver.take.Goals as goal

pub returns-clause-allowed : goal.returns-clause-allowed
returns-clause-allowed g c =
    let i = c.self.invariant in let v = c.self.inside.notes.seat.me.0 in let m = c.in-Some.msg in let A = g.L.LaneRule.allows in let more = c.pop_front.new.self.items in
    let e : v.taken ++ c.self.inside.queue.items ≡ (v.taken ++ m ∷ []) ++ more = ap (λ l. v.taken ++ l) c.in-Some.ensures.items ∙ sym (append_assoc v.taken (m ∷ []) more) in
    subst (λ (l : Lane g.row.T.Denot). A l.key l.taken m) c.self.view_is (i.3 v.taken m more e)
