use Rattle.std.proofs.Common.{◌≡◌, ℕ, ◌<◌, ◌≤◌, sym, ap, ◌∙◌, subst, arith}
use Rattle.hop_base.specs.Run.{RunSettings}
use Rattle.hop_records.specs.Records.{BookValue, splits_of, len_of}
use Rattle.hop_shelf.specs.Names.{book_of}
use Rattle.hop_mapper.proofs.Splits.{lens_count, lens_at}
use Rattle.hop_mapper.proofs.state.State.known.Goals as goal

pub len-len-requires : goal.len-len-requires
len-len-requires g c =
    let book = book_of g.N.RunName.records g.N.RunName.settings in
    let n = lens_count book in
    let below : c.args.split < splits_of book = omega (arith, n, c.requires) in
    subst (λ (b : BookValue). c.args.split < splits_of b) (sym c.self.invariant.of_run.book_is) below

pub returns : goal.returns
returns g c =
    let R = g.N.RunName in let book = book_of R.records R.settings in
    let own = c.self.invariant.of_run.settings_are in let s = c.self.inside.settings.now in
    let n = lens_count book in let at = lens_at book c.args.split c.requires in
    let few : splits_of book ≤ 1024 = subst (λ (b : BookValue). splits_of b ≤ 1024) c.self.invariant.of_run.book_is c.splits-splits.ensures.known.splits in
    let len : c.len-len.result ≡ len_of book c.args.split = c.len-len.ensures.value ∙ ap (λ (b : BookValue). len_of b c.args.split) c.self.invariant.of_run.book_is in
    let most = c.len-len.ensures.few in record {
      splits = omega arith;
      len = omega arith;
      some_spill = subst (λ (x : ℕ). 1 ≤ x) (ap (λ (x : RunSettings). x.spill) own) s.some_spill;
      few_spill = subst (λ (x : ℕ). x ≤ 65535) (ap (λ (x : RunSettings). x.spill) own) s.few_spill;
      attempts = subst (λ (x : ℕ). x ≤ 16) (ap (λ (x : RunSettings). x.attempts) own) s.few_attempts;
      some_reducers = subst (λ (x : ℕ). 1 ≤ x) (ap (λ (x : RunSettings). x.reducers) own) s.some_reducers;
      few_reducers = subst (λ (x : ℕ). x ≤ 8) (ap (λ (x : RunSettings). x.reducers) own) s.few_reducers;
    }
