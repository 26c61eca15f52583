use Rattle.std.proofs.Common.{◌≡◌, ◌∙◌, ◌∷◌, ℕ, List, Bool, false, Some, ap, map, sym, subst}
use Rattle.std.specs.Prelude.{is_ok, All}
use Rattle.hop_machine.specs.declared.words.Message.{Message}
use Rattle.hop_machine.specs.step.Steps.{Runs, Ends}
use Rattle.hop_machine.specs.home.Conditions.{Safe}
use Rattle.hop_machine.specs.actors.MapperTurns.{flush}
use Rattle.hop_vault.specs.Rows.{Table}
use Rattle.hop_inner.specs.Setups.{parts}
use Rattle.hop_inner.specs.Messages.{said}
use Rattle.hop_press.specs.Held.{LaneValue, said_row, said_lane}
use Rattle.hop_press.specs.Fits.{LaneFits, FitsRow}
use Rattle.hop_press.proofs.LaneLaws.{is_held, not_ok}
use Rattle.hop_press.proofs.LanePrograms.{flush_safe, flush_runs, flush_stops}
use Rattle.hop_press.proofs.VaultLaws.{same_both}
use Rattle.hop_press.proofs.lane.Lane.flush.Goals as goal

pub loop-msg-preserved : goal.loop-msg-preserved
loop-msg-preserved g c =
    let E = g.E.Reach in let N = g.N.RunName in let K = g.K.Knowing in
    let w = c.args.w in let p = c.args.p in
    let a = E.deeds c.loop-msg.reach in let b = E.deeds c.send_on.new.reach in
    let m = said c.in-Some.msg in
    let rows = c.self.inside.rows.items in
    let lane : c.loop-msg.self ≡ record { ready = Some c.in-Some.msg; rows = rows } = is_held c.loop-msg.self c.self.inside.ready rows c.in-Some.msg c.self.view_is c.in-Some.ensures.value in
    let held : said_lane c.loop-msg.self ≡ m ∷ map said_row rows = ap said_lane lane in
    let left : said_lane c.ready_first.new.self ≡ map said_row rows = c.in_ok-ready_first.ensures.ok in
    let step = c.in_default-send_on.ensures.step in
    let was = c.loop-msg.invariant in
    let table : c.loop-msg.vault.rows ≡ c.args.vault.now.rows = was.same.rows in
    let Rows : Table × List ℕ → Type 0 = λ z. All (FitsRow z.0 K.knows K.board z.1) rows in
    let here : Rows (c.args.vault.now.rows, a.ends.board) = subst (λ (l : LaneValue _). All (FitsRow c.args.vault.now.rows K.knows K.board a.ends.board) l.rows) lane was.fits.rows in
    let board : a.ends.board ≡ b.ends.board = sym (ap (λ (x : Ends). x.board) step.ends) in
    let there : Rows (c.loop-msg.vault.rows, b.ends.board) = subst Rows (λ i. (sym table i, board i)) here in
    record {
      safe = subst (λ (t : List Message). Safe parts E.exact (flush w p t) b) (sym left) (flush_safe parts E.exact w p m (map said_row rows) a b step (subst (λ (t : List Message). Safe parts E.exact (flush w p t) a) held was.safe));
      completes = λ x d r. was.completes x d (subst (λ (t : List Message). Runs E.exact (flush w p t) a x d) (sym held) (flush_runs parts E.exact w p m (map said_row rows) a b step x d (subst (λ (t : List Message). Runs E.exact (flush w p t) b x d) left r)));
      ready = c.in_ok-ready_first.ensures.ready;
      fits = subst (λ (t : Table). LaneFits N.job N.records N.settings N.tells t K.knows K.board b.ends.board p c.ready_first.new.self) table (c.in_ok-ready_first.ensures.fits b.ends.board there);
      same = same_both g.V.Folder.seen c.args.vault.now c.loop-msg.vault c.ready_first.new.vault was.same record { rows = c.in_ok-ready_first.ensures.rows; worker = c.in_ok-ready_first.ensures.worker; read = c.in_ok-ready_first.ensures.left; gets = c.in_ok-ready_first.ensures.no_fault };
    }

pub returns-in_err-ready_first-clause-runs : goal.returns-in_err-ready_first-clause-runs
returns-in_err-ready_first-clause-runs g c =
    let E = g.E.Reach in
    let w = c.args.w in let p = c.args.p in
    let a = E.deeds c.loop-msg.reach in let b = E.deeds c.send_on.new.reach in
    let m = said c.in-Some.msg in
    let rows = c.self.inside.rows.items in
    let lane : c.loop-msg.self ≡ record { ready = Some c.in-Some.msg; rows = rows } = is_held c.loop-msg.self c.self.inside.ready rows c.in-Some.msg c.self.view_is c.in-Some.ensures.value in
    let held : said_lane c.loop-msg.self ≡ m ∷ map said_row rows = ap said_lane lane in
    let left : said_lane c.ready_first.new.self ≡ map said_row rows = ap said_lane (c.in_err-ready_first.ensures.err ∙ (λ i. record { ready = c.in-Some.ensures.after i; rows = rows })) in
    let stops = flush_stops parts E.exact w p m (map said_row rows) a b c.in_default-send_on.ensures.step c.in_err-ready_first.ensures.some in
    let went : is_ok c.from_residual.result ≡ false = not_ok c.from_residual.result c.from_residual.ensures.0 in
    let Ends : Bool × List Message → Type 0 = λ z. Runs E.exact (flush w p (said_lane c.args.self.now)) (E.deeds c.args.reach.now) (record { went = z.0; held = z.1 }) b in
    subst Ends (λ i. (sym went i, sym left i))
    (c.loop-msg.invariant.completes (record { went = false; held = map said_row rows }) b
    (subst (λ (t : List Message). Runs E.exact (flush w p t) a (record { went = false; held = map said_row rows }) b) (sym held) stops))
