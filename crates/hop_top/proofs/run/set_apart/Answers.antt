use Rattle.std.proofs.Common.{arith, [], ◌∷◌, ◌++◌, length, sym, ap, ◌∙◌, append-nil, append_assoc}
use Rattle.hop_top.proofs.run.set_apart.Goals as goal

pub loop-spills-init : goal.loop-spills-init
loop-spills-init g c =
    let none = ap length c.requires.none in let own = c.args.others.now.ok in let space = c.requires.space in
    record { all = ap (λ l. c.args.spills.now.items ++ l) c.requires.none ∙ append-nil c.args.spills.now.items; some = c.requires.some; space = omega (arith, none, own, space); room = omega arith }

pub loop-spills-preserved : goal.loop-spills-preserved
loop-spills-preserved g c =
    let popped = c.in-Some.ensures.items in let placed = c.in-Ok.ensures.items in let was = c.loop-spills.invariant in
    let front = c.pop.new.self.items in let others = c.loop-spills.others.items in
    let n = c.in-Some.ensures.len in let m = c.in-Ok.ensures.len in let t = c.loop-spills-test.true in let l = c.len.ensures in let k = c.in-Some.ensures.capacity in let q = c.in-Ok.ensures.capacity in
    record {
      all = ap (λ l. front ++ l) placed ∙ sym (append_assoc front (c.in-Some.folder ∷ []) others) ∙ ap (λ l. l ++ others) (sym popped) ∙ was.all;
      some = let w = was.some in omega (arith, n, t, l, w);
      space = let w = was.space in omega (arith, n, m, q, w);
      room = let w = was.room in omega (arith, k, w);
    }

pub unreachable-requires : goal.unreachable-requires
unreachable-requires g c = let full = c.in-Err.ensures.full in let n = c.in-Some.ensures.len in let w = c.loop-spills.invariant.space in omega (arith, full, n, w)
