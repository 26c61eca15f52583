-- What a call does to a lane of one thread.
use Rattle.std.proofs.Common.{◌≡◌, ℕ, ◌-◌, ◌<◌, true, List, [], ◌∷◌, ◌++◌, length, refl, sym, ap, ◌∙◌, arith, append_assoc}
use Rattle.std.proofs.lemmas.List.{append-nil, length-append}
use Rattle.std.proofs.lemmas.Bool.{lt-ltb}
use Rattle.hop_inner.specs.Lines.{Sends}
use Rattle.hop_lane.specs.PlainLanes.{Lane, line_of}

module _ {T : Type 0} where
  pub sends-lane : (l : Lane T) (cap : ℕ) (m : T) (held : List T) → held ≡ l.held ++ m ∷ [] → length l.held < cap → Sends true cap m true (line_of l) (line_of (record l { held = held }))
  sends-lane l cap m held is lt =
      let more : l.taken ++ held ≡ (l.taken ++ l.held) ++ m ∷ [] = ap (λ h. l.taken ++ h) is ∙ sym (append_assoc l.taken l.held (m ∷ [])) in
      let len = length-append l.taken l.held in
      record {
        name = refl;
        key = refl;
        out = λ i. record { sent = more i; fulls = l.fulls };
        into = refl;
        told_taken = ([], sym (append-nil l.taken));
        told_sent = (m ∷ [], more);
        tells = tt;
        finds = λ e. sym (lt-ltb (length (l.taken ++ l.held) - length l.taken) cap (omega (arith, len, lt)));
      }
