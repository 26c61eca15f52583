use Rattle.std.proofs.Common.{◌≡◌, arith, refl, sym, ap, ◌∙◌, subst, true}
use Rattle.atomic_table.specs.Table.{keeps}
use Rattle.atomic_table.proofs.Lists.{set_again}
use Rattle.hop_inner.specs.Lines.{name_of}
use Rattle.hop_board.specs.SharedLogs.{Shares, LogValue}
use Rattle.hop_board.specs.declared.shared_log.Known.{Known}
use Rattle.hop_board.proofs.SharedLogLaws.{hears, learns, name_of-injective}
use Rattle.hop_board.proofs.shared_log.SharedLog.hear.Goals as goal

pub join_seat-requires : goal.join_seat-requires
join_seat-requires g c =
    let l = c.self.inside in let i = c.self.invariant in let o = c.copy.inside in (
      i.0,
      name_of-injective o.seat.table_id l.table.shared.table_id (ap (λ (x : LogValue g.row.T.Denot). x.name) c.copy.view_is ∙ c.requires ∙ sym (ap (λ (x : LogValue g.row.T.Denot). x.name) c.self.view_is)),
      c.copy.invariant,
      omega (arith, i.1),
      λ s h at n at'. hears s.views l.seat.id l.seat.me.0 o.seat.id o.seat.me.0 h at n at',
    )

pub load-requires : goal.load-requires
load-requires g c =
    let l = c.self.inside in let i = c.self.invariant in let q = c.join_seat.new.seat in let v = q.me.0 in
    let writes : v.writes ≡ true = ap (λ (m : Known g.row.T.Denot × _). m.0.writes) c.join_seat.ensures.2 ∙ i.2 in (
      c.join_seat.ensures.0 ∙ i.0,
      omega (arith, i.1),
      λ s h n at f. (v, keeps, tt, subst Shares (sym (set_again s.views q.id v at)) h, (refl, learns s.views q.id v writes h at)),
    )
