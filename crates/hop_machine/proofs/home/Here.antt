-- Where a value has all ends of an actor, each step of the actor's programs is at an end that is there.
use Rattle.std.proofs.Common.{◌≡◌, ℕ, ◌<◌, Bool, true, sym, subst}
use Rattle.hop_machine.specs.declared.words.Who.{Who}
use Rattle.hop_machine.specs.declared.words.Who.TheVariants as whose
use Rattle.hop_machine.specs.step.Steps.{Step, Send, Take, NextSplit, Draw, Commit, Revoke, AskWinner, AskRevoked, Join, TryHold, Hold, Record, GiveBack, SendCut, TakeCut, Risk, Prog, Done, Then, OutEnd, InEnd, CutOutEnd, CutInEnd, BoardEnd, KeepEnd, Ends, Setup, Deeds, end_of}
use Rattle.hop_machine.specs.step.Programs.{Only}
use Rattle.hop_machine.specs.step.Owners.{IsAt}
use Rattle.hop_machine.specs.actors.ReducerTurns.{Reducer, Writer}
use Rattle.hop_machine.specs.home.Conditions.{Asks, IsHere, Safe, HasMapper, HasReducer, HasWriter, HasAll}
use Rattle.hop_machine.proofs.home.Asked.{Asked, IsAmong}
use Rattle.hop_machine.proofs.actors.OwnTurns.{ReducerSteps, WriterSteps}
use Rattle.hop_machine.proofs.reducer.Looking.{lane_after_less}

-- # A mapper

at_same : (who other : Who) (d : Deeds) → who ≡ other → d.ends.has (BoardEnd who) ≡ true → d.ends.has (BoardEnd other) ≡ true
at_same who other d e h = subst (λ (w : Who). d.ends.has (BoardEnd w) ≡ true) e h

same_mapper : (w v : ℕ) → whose.Mapper w ≡ whose.Mapper v → w ≡ v
same_mapper w v e = cc

-- what a mapper's step asks for names a lane of the run
mapper-here : (parts w : ℕ) (d : Deeds) → HasMapper w d → (s : Step) → IsAt (whose.Mapper w) s → Asks parts s d → IsHere d.ends (end_of s)
mapper-here parts w d has (Send v p m) at asks = subst (λ u. d.ends.has (OutEnd u p) ≡ true) (same_mapper w v at) (has.outs p asks.lane)
mapper-here parts w d has (Take v p) at asks = cc
mapper-here parts w d has (NextSplit v) at asks = at_same (whose.Mapper w) (whose.Mapper v) d at has.board
mapper-here parts w d has (Draw v i) at asks = at_same (whose.Mapper w) (whose.Mapper v) d at has.board
mapper-here parts w d has (Commit v i a) at asks = at_same (whose.Mapper w) (whose.Mapper v) d at has.board
mapper-here parts w d has (Revoke v i a) at asks = at_same (whose.Mapper w) (whose.Mapper v) d at has.board
mapper-here parts w d has (AskWinner other i) at asks = at_same (whose.Mapper w) other d at has.board
mapper-here parts w d has (AskRevoked other i a) at asks = at_same (whose.Mapper w) other d at has.board
mapper-here parts w d has (Join p i a) at asks = cc
mapper-here parts w d has (TryHold p) at asks = cc
mapper-here parts w d has (Hold p) at asks = cc
mapper-here parts w d has (Record p e) at asks = cc
mapper-here parts w d has (GiveBack p due) at asks = cc
mapper-here parts w d has (SendCut p c) at asks = cc
mapper-here parts w d has (TakeCut p) at asks = cc
mapper-here parts w d has Risk at asks = tt

pub has_kept : (w : ℕ) (a b : Deeds) → b.setup ≡ a.setup → b.ends ≡ a.ends → HasMapper w a → HasMapper w b
has_kept w a b s n h = record {
  outs = λ p l. subst (λ (k : Ends). k.has (OutEnd w p) ≡ true) (sym n) (h.outs p (subst (λ (k : Setup). p < k.reducers) s l));
  board = subst (λ (k : Ends). k.has (BoardEnd (whose.Mapper w)) ≡ true) (sym n) h.board;
}

pub reducer_kept : (p : ℕ) (a b : Deeds) → b.setup ≡ a.setup → b.ends ≡ a.ends → HasReducer p a → HasReducer p b
reducer_kept p a b s n h = record {
  ins = λ w l. subst (λ (k : Ends). k.has (InEnd w p) ≡ true) (sym n) (h.ins w (subst (λ (k : Setup). w < k.workers) s l));
  cut_out = subst (λ (k : Ends). k.has (CutOutEnd p) ≡ true) (sym n) h.cut_out;
  board = subst (λ (k : Ends). k.has (BoardEnd (whose.Reducer p)) ≡ true) (sym n) h.board;
  keep = subst (λ (k : Ends). k.has (KeepEnd p) ≡ true) (sym n) h.keep;
}

pub writer_kept : (a b : Deeds) → b.setup ≡ a.setup → b.ends ≡ a.ends → HasWriter a → HasWriter b
writer_kept a b s n h = record {
  cut_ins = λ p l. subst (λ (k : Ends). k.has (CutInEnd p) ≡ true) (sym n) (h.cut_ins p (subst (λ (k : Setup). p < k.reducers) s l));
  board = subst (λ (k : Ends). k.has (BoardEnd whose.Writer) ≡ true) (sym n) h.board;
}

pub all_kept : (a b : Deeds) → b.setup ≡ a.setup → b.ends ≡ a.ends → HasAll a → HasAll b
all_kept a b s n h = record {
  mapper = λ w l. has_kept w a b s n (h.mapper w (subst (λ (k : Setup). w < k.workers) s l));
  reducer = λ p l. reducer_kept p a b s n (h.reducer p (subst (λ (k : Setup). p < k.reducers) s l));
  writer = writer_kept a b s n h.writer;
}

pub mapper-safe : {A : Type 0} (parts : ℕ) (e : Bool) (w : ℕ) (k : Prog A) (a : Deeds) → HasMapper w a → Only (IsAt (whose.Mapper w)) k → Asked parts e k a → Safe parts e k a
mapper-safe parts e w (Done x) a has own asked = tt
mapper-safe parts e w (Then s k) a has own asked = (
  record { here = mapper-here parts w a has s own.0 asked.0; asks = asked.0 },
  λ o b st. mapper-safe parts e w (k o) b (has_kept w a b st.setup st.ends has) (own.1 o) (asked.1 o b st),
)

-- # A reducer and the writer

pub reducer_here : (r : Reducer) (d : Deeds) → r.setup ≡ d.setup → HasReducer r.number d → ReducerSteps (IsAmong d.ends) (λ w. w < r.setup.workers) r
reducer_here r d same has = record {
  risk = tt;
  take = λ w l. has.ins w (subst (λ (s : Setup). w < s.workers) same l);
  after = λ w l. lane_after_less r.setup.workers w l;
  joins = λ i a. has.board;
  winner = λ i. has.board;
  revoked = λ i a. has.board;
  try = has.keep;
  hold = has.keep;
  adds = λ e. has.keep;
  gives = λ due. has.keep;
  cut = λ c. has.cut_out;
}

pub writer_here : (x : Writer) (d : Deeds) → x.setup ≡ d.setup → HasWriter d → WriterSteps (IsAmong d.ends) (λ p. p < x.setup.reducers) x
writer_here x d same has = record {
  risk = tt;
  take = λ p l. has.cut_ins p (subst (λ (s : Setup). p < s.reducers) same l);
  after = λ p l. lane_after_less x.setup.reducers p l;
}
