use Rattle.std.proofs.Common.{◌∙◌, sym, ap, arith}
use Rattle.std.specs.Prelude.{string_bytes}
use Rattle.hop_ports.specs.Views.{with_file}
use Rattle.hop_writer.proofs.PutsLemmas.{puts_cause, with_one}
use Rattle.hop_writer.proofs.files.put_files.Goals as goal

pub loop-file-preserved : goal.loop-file-preserved
loop-file-preserved g c =
    let put = c.in-Ok.ensures in (
      record { gets = put.counts.gets ∙ c.loop-file.invariant.0.gets; puts = omega (arith, put.counts.puts, c.loop-file.invariant.0.puts) },
      put.no_fault ∙ c.loop-file.invariant.1,
      put.done
          ∙ ap (λ h. with_file h (string_bytes c.file-item.result.name) c.file-item.result.bytes) c.loop-file.invariant.2
          ∙ sym (with_one _ c.args.files.now c.loop-file.file-index c.file-item.result c.loop-file-test.true c.file-item.is),
    )

pub returns-in-Err-clause-cause : goal.returns-in-Err-clause-cause
returns-in-Err-clause-cause g c =
    puts_cause (g.F.Folder.seen c.args.folder.now) (g.F.Folder.seen c.loop-file.folder) (g.F.Folder.seen c.put_file.new.folder) c.args.files.now c.loop-file.file-index c.file-item.result
    c.in-Err.fault c.loop-file.invariant.0 c.loop-file.invariant.1 c.loop-file.invariant.2 c.loop-file-test.true c.file-item.is c.in-Err.ensures.cause
