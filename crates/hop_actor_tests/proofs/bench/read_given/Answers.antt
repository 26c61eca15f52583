use Rattle.std.proofs.Common.{◌≡◌, arith, sym, ap, ◌∙◌, subst}
use Rattle.std.specs.Prelude.{All}
use Rattle.hop_base.specs.Run.{RunSettings}
use Rattle.hop_laws.specs.Laws.{IsLawful}
use Rattle.hop_records.specs.Records.{BookValue, IsShort}
use Rattle.hop_shelf.specs.Names.{book_of}
use Rattle.hop_records.specs.Records.{lens_of}
use Rattle.hop_jobs.specs.WcLaws.{wc_lawful}
use Rattle.hop_actor_tests.proofs.bench.read_given.Goals as goal

pub returns : goal.returns
returns g c =
    let n = g.N.RunName in let own = c.requires.settings in
    let book : c.in_ok-book.book ≡ book_of n.records n.settings = c.in_ok-book.ensures.value ∙ (λ i. record { records = sym c.requires.records i; split = (own i).split }) in
    let short : All IsShort n.records = subst (All IsShort) (ap (λ (b : BookValue). b.records) book) c.in_ok-book.ensures.accepted.short in
    let limit = ap (λ (s : RunSettings). s.attempts) own in
    record {
      of_run = record {
        run = record { lawful = subst IsLawful (sym c.requires.job) wc_lawful; short = λ k d l. let s = short k d l in omega (arith, s); limit = omega arith };
        job_is = sym c.requires.job;
        book_is = book;
        script_is = c.in_ok-script.ensures.value ∙ sym c.requires.script;
        settings_are = own;
      };
      lens_are = c.in_ok-lens.ensures ∙ ap lens_of book;
    }
