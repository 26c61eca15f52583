-- How much there is left for the mappers to do, at most.
use Rattle.std.proofs.Common.{◌≡◌, ℕ, zero, suc, ◌+◌, ◌*◌, ◌-◌, ◌^◌, ◌≤◌, ◌<◌, ◌==◌, Bool, true, false, List, [], ◌∷◌, length, length-append, refl, ap, ◌∙◌, cond, arith, Option, Some, None, slice_index, slice_index_or}
use Rattle.std.specs.List.{slice_get}
use Rattle.std.proofs.Math.Nat.{mul_comm}
use Rattle.hop_base.specs.Run.{delay_of}
use Rattle.hop_event.specs.Legal.{Rules}
use Rattle.hop_machine.specs.declared.words.Message.{Message}
use Rattle.hop_machine.specs.step.Steps.{Deeds, Seat, Setup, rules_of}
use Rattle.hop_machine.specs.actors.MapperTurns.{Mapper, Work, Runs, Retries, Free, len_of}
use Rattle.hop_machine.specs.home.Said.{seat_of, held_for}
use Rattle.hop_machine.specs.settling.Settling.{total, one_unless, has_number, has_drawn, ungiven, undrawn, held_sum, turns_left, work_left, longest, attempt_left, left_of, mapper_left, flag_at, pass_left, most_messages}
use Rattle.hop_machine.specs.home.Said.{pushes}
use Rattle.hop_machine.specs.home.MapperHome.{MapperAtHome}
use Rattle.hop_machine.specs.play.Play.{Actors}
use Rattle.hop_machine.specs.run.AllHome.{Ready}
use Rattle.hop_machine.proofs.mapper.AtHome.{stays_says, home_is_home}
use Rattle.hop_machine.proofs.settling.ListBounds.{bounds-lists}
use Rattle.hop_settle.specs.Crews.{IsSized, TurnsBelow, TurnsLeft, flags_of}

-- # Sums

times_le : (m n c : ℕ) → m ≤ n → m * c ≤ n * c
times_le m n zero l = omega arith
times_le m n (suc c) l = let k = times_le m n c l in omega (arith, k, l)

times_both : (a b m n : ℕ) → a ≤ m → b ≤ n → a * b ≤ m * n
times_both a b m n k l = let x = times_le a m b k in let y = times_le b n m l in let z = mul_comm b m in let w = mul_comm n m in omega (arith, x, y, z, w)

pub total-most : (n c : ℕ) (f : ℕ → ℕ) → ((i : ℕ) → i < n → f i ≤ c) → total n f ≤ n * c
total-most zero c f h = omega arith
total-most (suc n) c f h = let k = total-most n c f (λ i l. h i (omega (arith, l))) in let m = h n (omega arith) in omega (arith, k, m)

one_most : (b : Bool) → one_unless b ≤ 1
one_most true = omega arith
one_most false = omega arith

-- # What a mapper has left

longest_most : (lens : List ℕ) (c : ℕ) → ((i : ℕ) → slice_index lens i ≤ c) → longest lens ≤ c
longest_most [] c h = omega arith
longest_most (len ∷ lens) c h = let k = longest_most lens c (λ i. h (suc i)) in let l = h zero in omega (arith, k, l)

held_most : (hs : List (List Message)) (c : ℕ) → ((p : ℕ) → p < length hs → length (slice_index_or hs p []) ≤ c) → held_sum hs ≤ length hs * c
held_most [] c h = omega arith
held_most (x ∷ hs) c h = let k = held_most hs c (λ p l. h (suc p) (omega (arith, l))) in let m = h zero (omega arith) in omega (arith, k, m)

ungiven_most : (n : ℕ) (given : List ℕ) → ungiven n given ≤ n * 1
ungiven_most n given = total-most n 1 (λ i. one_unless (has_number given i)) (λ i l. one_most (has_number given i))

undrawn_most : (n limit : ℕ) (x : Seat) → undrawn n limit x.drew ≤ n * (limit * 1)
undrawn_most n limit x = total-most n (limit * 1) (λ i. total limit (λ a. one_unless (has_drawn x.drew i a))) (λ i l. total-most limit 1 (λ a. one_unless (has_drawn x.drew i a)) (λ a k. one_most (has_drawn x.drew i a)))

turns_most : (t : Bool) (len done c : ℕ) → len ≤ c → cond t 1 ((len - done) + 2) ≤ c + 2
turns_most true len done c l = omega (arith, l)
turns_most false len done c l = omega (arith, l)

work_most : (rules : Rules) (lanes c : ℕ) (w : Work) → ((i : ℕ) → slice_index rules.lens i ≤ c) → work_left rules lanes w ≤ (lanes + 2) * (c + 2)
work_most rules lanes c (Runs r) h =
    let k = turns_most (r.done == len_of rules r.split) (len_of rules r.split) r.done c (h r.split) in
    times_both (lanes + 2) (turns_left rules r) (lanes + 2) (c + 2) (omega arith) k
work_most rules lanes c (Retries i) h = let k = times_both 1 1 (lanes + 2) (c + 2) (omega arith) (omega arith) in omega (arith, k)
work_most rules lanes c Free h = omega arith

list_most : (rules : Rules) (c : ℕ) → ((i : ℕ) → slice_index rules.lens i ≤ c) → most_messages rules ≤ length rules.lens * (rules.attempts * (c + 1))
list_most rules c h = total-most (length rules.lens) (rules.attempts * (c + 1)) (λ i. total rules.attempts (λ a. slice_index rules.lens i + 1))
    (λ i l. total-most rules.attempts (c + 1) (λ a. slice_index rules.lens i + 1) (λ a k. let m = h i in omega (arith, m)))

module _ (s : Setup) (z : IsSized s) (m : Mapper) (d : Deeds) (home : MapperAtHome m d) (same : d.setup ≡ s) where
  fit : m.rules ≡ rules_of s
  fit = home.fits.rules ∙ ap rules_of same

  lanes : length m.held ≡ s.reducers
  lanes = home.fits.lanes ∙ ap (λ (k : Setup). k.reducers) same

  -- what is held for a lane is a part of a worker's list
  held_few : (p : ℕ) → p < length m.held → length (slice_index_or m.held p []) ≤ most_messages (rules_of s)
  held_few p l =
      let list = (stays_says m d (home_is_home m d home).stays).lists p l in
      let most = bounds-lists m.rules (pushes m d p) list in
      let sum = length-append (d.did.outs m.number p).sent (held_for m p) in
      let is = ap most_messages fit in
      omega (arith, most, sum, is)

  pub left_most : (x : Seat) → left_of m x ≤ 2 ^ 43
  left_most x =
      let lens_most : (i : ℕ) → slice_index m.rules.lens i ≤ 16777216 = λ i. let k = z.lens i in let e = ap (λ (r : Rules). slice_index r.lens i) fit in omega (arith, k, e) in
      let S : length m.rules.lens ≤ 1024 = let k = z.splits in let e = ap (λ (r : Rules). length r.lens) fit in omega (arith, k, e) in
      let A : m.rules.attempts ≤ 16 = let k = z.attempts in let e = ap (λ (r : Rules). r.attempts) fit in omega (arith, k, e) in
      let R : length m.held ≤ 8 = let k = z.reducers in let e = lanes in omega (arith, k, e) in
      let delay : delay_of m.rules.script m.number ≤ 10000 = let k = z.delays m.number in let e = ap (λ (r : Rules). delay_of r.script m.number) fit in omega (arith, k, e) in
      let drawn : undrawn (length m.rules.lens) m.rules.attempts x.drew ≤ 16384 =
      let a = undrawn_most (length m.rules.lens) m.rules.attempts x in let b = times_both (length m.rules.lens) (m.rules.attempts * 1) 1024 16 S (omega (arith, A)) in omega (arith, a, b) in
      let each : attempt_left m.rules (length m.held) ≤ 10 * 16777218 =
      let k = longest_most m.rules.lens 16777216 lens_most in times_both (length m.held + 2) (longest m.rules.lens + 2) 10 16777218 (omega (arith, R)) (omega (arith, k)) in
      let all : undrawn (length m.rules.lens) m.rules.attempts x.drew * attempt_left m.rules (length m.held) ≤ 16384 * (10 * 16777218) = times_both _ _ 16384 (10 * 16777218) drawn each in
      let given : ungiven (length m.rules.lens) x.given ≤ 1024 = let k = ungiven_most (length m.rules.lens) x.given in omega (arith, k, S) in
      let work : work_left m.rules (length m.held) m.work ≤ 10 * 16777218 =
      let k = work_most m.rules (length m.held) 16777216 m.work lens_most in let b = times_both (length m.held + 2) 16777218 10 16777218 (omega (arith, R)) (omega arith) in omega (arith, k, b) in
      let most : most_messages (rules_of s) ≤ 16384 * 16777217 =
      let k = list_most (rules_of s) 16777216 z.lens in let a = z.splits in let b = z.attempts in
      let c = times_both s.attempts 16777217 16 16777217 b (omega arith) in
      let e = times_both (length s.lens) (s.attempts * 16777217) 1024 (16 * 16777217) a c in omega (arith, k, e) in
      let held : held_sum m.held ≤ 8 * (16384 * 16777217) =
      let k = held_most m.held (most_messages (rules_of s)) held_few in let b = times_both (length m.held) (most_messages (rules_of s)) 8 (16384 * 16777217) R most in omega (arith, k, b) in
      let dry = one_most m.dry in
      omega (arith, delay, all, given, work, held, dry, S)

-- # What all mappers have left

module _ (x : Actors) (d : Deeds) (h : Ready x d) (z : IsSized d.setup) where
  each_most : (w : ℕ) (o : Option Mapper) (t : Bool) → slice_get x.mappers w ≡ o → mapper_left o t (seat_of d w) ≤ 2 ^ 43 + 1
  each_most w None t is = omega arith
  each_most w (Some m) true is = omega arith
  each_most w (Some m) false is = let k = left_most d.setup z m d (h.home.mapper w m is).home refl (seat_of d w) in omega (arith, k)

  pub pass_most : pass_left x.mappers (flags_of x.mappers) d ≤ 2 ^ 47
  pass_most =
      let f : ℕ → ℕ = λ w. mapper_left (slice_get x.mappers w) (flag_at (flags_of x.mappers) w) (seat_of d w) in
      let k = total-most (length x.mappers) (2 ^ 43 + 1) f (λ w l. each_most w (slice_get x.mappers w) (flag_at (flags_of x.mappers) w) refl) in
      let n = h.home.workers in let w = z.workers in
      let m = times_both (length x.mappers) (2 ^ 43 + 1) 8 (2 ^ 43 + 1) (omega (arith, n, w)) (omega arith) in
      omega (arith, k, m)

  -- so the turns that are left are enough
  pub enough_turns : TurnsBelow (2 ^ 55) x.mappers → TurnsLeft x.mappers d
  enough_turns below = record { taken = 2 ^ 55; below = below; enough = let k = pass_most in omega (arith, k) }
