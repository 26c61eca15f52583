use Rattle.std.proofs.Common.{◌<◌, ◌^◌, ap, ◌∙◌, sym, length, ◌++◌, arith}
use Rattle.std.proofs.lemmas.List.Elements.{All-from_get_or}
use Rattle.hop_laws.specs.Laws.{IsName}
use Rattle.hop_trace.specs.Trace.{in_order, first_lines, text_of}
use Rattle.hop_trace.specs.Told.{IsToldNumber, IsTold}
use Rattle.hop_trace.proofs.WritingLaws.{trace_written, length-in_order}
use Rattle.hop_trace.proofs.TellingLaws.{trace_told}
use Rattle.hop_trace.proofs.trace.trace_text.Goals as goal

pub returns : goal.returns
returns c =
    let many = length-in_order c.args.histories.now in
    let first = c.in_ok-push_first.ensures ∙ ap (λ n. c.new-text.result.items ++ text_of (first_lines n (length c.args.begun.now) (length c.args.histories.now))) c.as_slice.ensures.value ∙ ap (λ n. c.new-text.result.items ++ text_of (first_lines c.args.name.now (length c.args.begun.now) n)) (sym many) in
    let splits : length c.args.begun.now < 2 ^ 64 = omega arith in
    let reducers : length c.args.histories.now < 2 ^ 64 = omega arith in
    let told : IsName c.args.name.now → IsTold c.args.name.now c.args.begun.now (in_order c.args.histories.now) = λ named. record {
      named = named;
      splits = splits;
      numbers = All-from_get_or IsToldNumber c.args.begun.now 0 (λ i l. let fits = c.type_inv.begun i in omega arith);
      reducers = omega (arith, many, reducers);
      events = c.in_ok-push_histories.ensures.numbers;
    } in
    let written = c.from_vec.ensures ∙ trace_written c.args.name.now c.args.begun.now (in_order c.args.histories.now) c.new-text.result.items c.push_first.new.text.items c.push_all_begun.new.text.items c.push_histories.new.text.items c.extend_from_slice.new.self.items c.new-text.ensures.items first c.in_ok-push_all_begun.ensures c.in_ok-push_histories.ensures.text c.in_ok-extend_from_slice.ensures.items in
    record {
      text = written;
      told = told;
      tells = λ named name' begun' histories' k e. trace_told c.args.name.now c.args.begun.now (in_order c.args.histories.now) (told named) name' begun' histories' k (e ∙ written);
    }
