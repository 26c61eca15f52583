-- What an end asks of a message and tells of it, from what the machine asks and tells.
use Rattle.std.proofs.Common.{◌≡◌, ℕ, Bool, List, [], ◌∷◌, ◌++◌, Option, Some, None, IfSome, sym, subst}
use Rattle.hop_base.specs.Meaning.{Meaning}
use Rattle.hop_base.specs.Run.{ScriptLines, RunSettings}
use Rattle.hop_cut.specs.declared.cut.Cut.{Cut}
use Rattle.hop_machine.specs.declared.words.Message.{Message as Said}
use Rattle.hop_machine.specs.step.Steps.{Verdicts, CutSaid, Deeds, Send, SendCut, TellsTaken, TellsCuts, rules_of}
use Rattle.hop_machine.specs.step.Pushing.{IsWorkersList}
use Rattle.hop_machine.specs.step.CutLane.{AreCuts}
use Rattle.hop_machine.specs.home.Conditions.{May}
use Rattle.hop_inner.specs.Lines.{Key, option_said}
use Rattle.hop_inner.specs.Setups.{setup_of, parts}
use Rattle.hop_inner.specs.Messages.{said, said_cut, FitsAt, CutFitsAt, AllowsAt, AllowsCutAt}
use Rattle.hop_inner.specs.declared.message.Message.{Message}

module _ (job : Meaning) (records : List (List ℕ)) (script : ScriptLines) (settings : RunSettings) (tells : Bool) (d : Deeds) (run : d.setup ≡ setup_of records script settings) where
  module _ {K : Type 0} (knows : K → Verdicts) (board : K → List ℕ) (w p : ℕ) where
    abbrev Allows : ℕ → List ℕ → List Said → Message K → Type 0
    Allows q name earlier m = AllowsAt job records script settings tells q knows board name earlier m

    -- the key of the lane from mapper w to reducer p
    abbrev key_here : Key
    key_here = record { mapper = w; reducer = p; board = d.ends.board }

    pub may_send : (key : Key) (xs : List Said) (m : Message K) → key ≡ key_here → xs ≡ (d.did.outs w p).sent → May parts (Send w p (said m)) d
        → FitsAt job records settings tells p knows board d.ends.board m → Allows key.reducer key.board xs m
    may_send key xs m k e may fits =
        let P : Key × List Said → Type 0 = λ z. Allows z.0.reducer z.0.board z.1 m in
        subst P (λ i. (sym k i, sym e i)) record { list = subst (λ z. IsWorkersList (rules_of z) ((d.did.outs w p).sent ++ said m ∷ [])) run may.asks.list; fits = fits }

    was_allowed : (key : Key) (xs : List Said) (m : Message K) → key ≡ key_here → xs ≡ (d.did.ins w p).taken → Allows key.reducer key.board xs m → Allows p d.ends.board (d.did.ins w p).taken m
    was_allowed key xs m k e h = let P : Key × List Said → Type 0 = λ z. Allows z.0.reducer z.0.board z.1 m in subst P (λ i. (k i, e i)) h

    pub tells_taken : (key : Key) (xs : List Said) (o : Option (Message K)) → key ≡ key_here → xs ≡ (d.did.ins w p).taken → IfSome o (Allows key.reducer key.board xs)
        → TellsTaken d.setup (option_said said o) (d.did.ins w p).taken
    tells_taken key xs None k e h = tt
    tells_taken key xs (Some m) k e h = subst (λ z. IsWorkersList (rules_of z) ((d.did.ins w p).taken ++ said m ∷ [])) (sym run) (was_allowed key xs m k e h).list

    pub fits_taken : (key : Key) (xs : List Said) (o : Option (Message K)) → key ≡ key_here → xs ≡ (d.did.ins w p).taken → IfSome o (Allows key.reducer key.board xs)
        → IfSome o (FitsAt job records settings tells p knows board d.ends.board)
    fits_taken key xs None k e h = tt
    fits_taken key xs (Some m) k e h = (was_allowed key xs m k e h).fits

  module _ (p : ℕ) where
    abbrev AllowsCuts : ℕ → List CutSaid → Cut → Type 0
    AllowsCuts q earlier c = AllowsCutAt job records script settings tells q earlier c

    pub may_send_cut : (q : ℕ) (xs : List CutSaid) (c : Cut) → q ≡ p → xs ≡ (d.did.cut_outs p).sent → May parts (SendCut p (said_cut c)) d → CutFitsAt job records settings tells p c → AllowsCuts q xs c
    may_send_cut q xs c k e may fits =
        let P : ℕ × List CutSaid → Type 0 = λ z. AllowsCuts z.0 z.1 c in
        subst P (λ i. (sym k i, sym e i)) record { list = subst (λ z. AreCuts z ((d.did.cut_outs p).sent ++ said_cut c ∷ [])) run may.asks; fits = fits }

    cut_was_allowed : (q : ℕ) (xs : List CutSaid) (c : Cut) → q ≡ p → xs ≡ (d.did.cut_ins p).taken → AllowsCuts q xs c → AllowsCuts p (d.did.cut_ins p).taken c
    cut_was_allowed q xs c k e h = let P : ℕ × List CutSaid → Type 0 = λ z. AllowsCuts z.0 z.1 c in subst P (λ i. (k i, e i)) h

    pub tells_cuts : (q : ℕ) (xs : List CutSaid) (o : Option Cut) → q ≡ p → xs ≡ (d.did.cut_ins p).taken → IfSome o (AllowsCuts q xs) → TellsCuts d.setup (option_said said_cut o) (d.did.cut_ins p).taken
    tells_cuts q xs None k e h = tt
    tells_cuts q xs (Some c) k e h = subst (λ z. AreCuts z ((d.did.cut_ins p).taken ++ said_cut c ∷ [])) (sym run) (cut_was_allowed q xs c k e h).list

    pub fits_cuts : (q : ℕ) (xs : List CutSaid) (o : Option Cut) → q ≡ p → xs ≡ (d.did.cut_ins p).taken → IfSome o (AllowsCuts q xs) → IfSome o (CutFitsAt job records settings tells p)
    fits_cuts q xs None k e h = tt
    fits_cuts q xs (Some c) k e h = (cut_was_allowed q xs c k e h).fits
