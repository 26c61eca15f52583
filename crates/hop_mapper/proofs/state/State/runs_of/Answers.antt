use Rattle.std.proofs.Common.{◌≡◌, ℕ, ◌<◌, ◌≤◌, sym, ap, subst, arith}
use Rattle.std.specs.Prelude.{IfOk, slice_index_or}
use Rattle.hop_base.specs.Meaning.{Meaning}
use Rattle.hop_base.specs.Run.{RunSettings}
use Rattle.hop_laws.specs.Blocking.{part_pairs}
use Rattle.hop_records.specs.Records.{BookValue, splits_of, len_of}
use Rattle.hop_run.specs.Runs.{RunStands, empty_run}
use Rattle.hop_shelf.specs.Names.{book_of}
use Rattle.hop_mapper.proofs.Splits.{lens_count, lens_at}
use Rattle.hop_mapper.proofs.state.State.runs_of.Goals as goal

pub make_all-requires-clause-split : goal.make_all-requires-clause-split
make_all-requires-clause-split g c =
    let book = book_of g.N.RunName.records g.N.RunName.settings in
    let n = lens_count book in
    let h = c.requires.next.split in
    let below : c.args.part.split < splits_of book = omega arith in
    subst (λ (b : BookValue). c.args.part.split < splits_of b) (sym c.self.invariant.of_run.book_is) below

pub make_all-requires-clause-within : goal.make_all-requires-clause-within
make_all-requires-clause-within g c =
    let book = book_of g.N.RunName.records g.N.RunName.settings in
    let e = lens_at book c.args.part.split c.requires.next.split in
    let t = c.requires.next.to in
    let within : c.args.part.to ≤ len_of book c.args.part.split = omega arith in
    subst (λ (b : BookValue). c.args.part.to ≤ len_of b c.args.part.split) (sym c.self.invariant.of_run.book_is) within

pub returns-clause-stands : goal.returns-clause-stands
returns-clause-stands g c =
    let of_run = c.self.invariant.of_run in
    let q : ◌≡◌ {A = Meaning × BookValue × ℕ} (g.J.Job.meaning c.self.inside.job.now, c.self.inside.book.now, c.self.inside.settings.now.reducers) (g.N.RunName.job, book_of g.N.RunName.records g.N.RunName.settings, g.N.RunName.settings.reducers) =
    λ i. (of_run.job_is i, of_run.book_is i, ap (λ (s : RunSettings). s.reducers) of_run.settings_are i) in
    subst (λ (x : Meaning × BookValue × ℕ). IfOk c.make_all.result (λ runs. (p : ℕ) → p < x.2 → RunStands x.0.reduced (part_pairs x.0 x.1.records x.1.split p x.2) (slice_index_or runs p empty_run))) q c.make_all.ensures.stands
