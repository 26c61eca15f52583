use Rattle.std.proofs.Common.{◌≡◌, ℕ, ◌-◌, length, take, vec_len, ap, ◌∙◌, arith}
use Rattle.hop_vault.specs.Rows.{all_but_last}
use Rattle.hop_vault.proofs.RowLaws.{changed}
use Rattle.hop_vault.proofs.rows.take_at.Goals as goal

pub returns : goal.returns
returns c =
    let len : vec_len c.index_mut.result.now ≡ length c.index_mut.result.now.items = omega (arith, c.index_mut.result.now.ok) in
    changed c.args.attempts.now.items c.args.attempt c.index_mut.result.now c.pop-last.new.self all_but_last c.requires c.index_mut.ensures.value (c.pop-last.ensures.rest ∙ ap (λ (n : ℕ). take (n - 1) c.index_mut.result.now.items) len)
