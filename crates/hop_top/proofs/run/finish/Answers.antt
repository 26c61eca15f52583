use Rattle.std.proofs.Common.{◌≡◌, ◌*◌, ◌++◌, ◌∷◌, ℕ, List, inr, length, map, sym, ap, ◌∙◌, subst}
use Rattle.std.specs.Prelude.{reverse, sum}
use Rattle.hop_chain.specs.Chain.{chained_texts}
use Rattle.hop_event.specs.declared.event.Event.{Event}
use Rattle.hop_jobs.specs.Known.{known_meaning}
use Rattle.hop_jobs.specs.KnownLaws.{known_lawful}
use Rattle.hop_laws.specs.Laws.{IsName}
use Rattle.hop_records.specs.Records.{BookValue, lens_of}
use Rattle.hop_replay.specs.Driven.{Traced}
use Rattle.hop_replay.specs.Given.{Given, rules_given}
use Rattle.hop_trace.specs.Told.{IsTold}
use Rattle.hop_trace.specs.Totals.{kept_in_all}
use Rattle.hop_trace.specs.Trace.{trace_of}
use Rattle.hop_trace.specs.declared.totals.Way.TheVariants.{Pulled, Settled}
use Rattle.hop_words.specs.Options.{settings_of}
use Rattle.hop_top.specs.Plans.{given_by_plan}
use Rattle.hop_top.specs.Puts.{HandsOut, Puts, files_in, part_files}
use Rattle.hop_top.specs.Runs.{in_order, jobs_words, later_parts, run_files, run_summary, summary_text, trace_name}
use Rattle.hop_top.proofs.FinishLaws.{in-order, lens-count}
use Rattle.hop_top.proofs.run.finish.Goals as goal

pub returns-clause-ends : goal.returns-clause-ends
returns-clause-ends g c =
    let meaning = known_meaning c.args.job.now in let later = map known_meaning c.args.later.now in let settings = settings_of c.args.settings.now in let book = c.args.plan.now.book in
    let G : Given = given_by_plan meaning settings c.args.plan.now in
    let hs = c.args.end.histories.items in
    let t : Traced = record { begun = c.args.end.begun.items; histories = map (λ h. h.events) hs } in
    let name : c.in-Ok.name ≡ meaning.name = c.in-Ok.ensures in
    let begun : c.deref.result.now ≡ t.begun = c.deref.ensures.value in
    let order : map (λ h. reverse h.events) c.deref-2.result.now ≡ in_order t = ap (map (λ h. reverse h.events)) c.deref-2.ensures.value ∙ in-order (λ h. h.events) hs in
    let begun-later : c.deref-3.result.now ≡ t.begun = c.deref-3.ensures.value in
    let order-later : map (λ h. reverse h.events) c.deref-4.result.now ≡ in_order t = ap (map (λ h. reverse h.events)) c.deref-4.ensures.value ∙ in-order (λ h. h.events) hs in
    let named : IsName c.in-Ok.name = subst IsName (sym name) (known_lawful c.args.job.now).named in
    let told : IsTold meaning.name t.begun (in_order t) =
    subst (λ (k : List ℕ × List ℕ × List (List Event)). IsTold k.0 k.1 k.2) (λ i. (name i, begun i, order i)) (c.in-Ok-run_files.ensures.told named) in
    let files : files_in c.deref-5.result.now ≡ run_files G later t c.args.end.texts =
    ap files_in c.deref-5.ensures.value ∙ c.in-Ok-run_files.ensures.files ∙ (λ i. part_files 0 c.args.end.texts ++ (trace_name, trace_of (name i) (begun i) (order i)) ∷ later_parts 2 (chained_texts later c.args.end.texts settings.reducers)) in
    let splits : c.splits.result ≡ length (rules_given G).lens = c.splits.ensures.count ∙ sym (ap (λ (b : BookValue). length (lens_of b)) (λ i. record { records = book.records; split = sym c.requires.split i }) ∙ lens-count book) in
    let marks = ap length c.as_slice.ensures.value in
    let summary : c.as_str.result.now ≡ run_summary G later t =
    c.as_str.ensures.value ∙ c.in-Ok-run_summary.ensures
    ∙ (λ i. summary_text (c.records.ensures.count i) (splits i) settings.reducers (settings.reducers * marks i) (sum (begun-later i)) (kept_in_all Pulled (order-later i)) (kept_in_all Settled (order-later i)) (jobs_words later)) in
    inr (record {
      told = told;
      hands = subst (λ (k : Puts × List ℕ). HandsOut (g.F.Folder.seen c.args.folder.now) (g.F.Folder.seen c.hand_out.new.folder) (g.O.Sink.seen c.args.out.now) (g.O.Sink.seen c.hand_out.new.out) k.0 k.1 c.hand_out.result)
          (λ i. (files i, summary i)) c.hand_out.ensures.hands;
    })
