use Rattle.std.proofs.Common.{◌≡◌, ℕ, List, [], ◌∷◌, ◌++◌, length, refl, sym, ap, subst, ◌∙◌, arith, le-leb}
use Rattle.std.specs.Prelude.{filter}
use Rattle.std.specs.List.{concat}
use Rattle.std.proofs.lemmas.List.{append-nil, length-replicate}
use Rattle.std.proofs.lemmas.Bool.{eqb-true}
use Rattle.hop_base.specs.declared.value.Val.{Val}
use Rattle.hop_records.specs.Records.{records_of}
use Rattle.hop_laws.specs.Taking.{TakesIn}
use Rattle.hop_fold.specs.Gathering.{Gathers}
use Rattle.hop_fold.specs.Within.{is_within, records_within}
use Rattle.hop_fold.proofs.Standing.{gathers_none, gathers_more, texts_gathered}
use Rattle.hop_fold.proofs.WithinLaws.{one_is_read}
use Rattle.hop_fold.proofs.blocking.block_within.Goals as goal

pub loop-rest-init : goal.loop-rest-init
loop-rest-init g c =
    let all : records_of c.as_slice-rest.result.now ≡ records_of (concat c.args.texts.now) = ap records_of (c.as_slice-rest.ensures.value ∙ c.in_ok-bytes.ensures) in
    record {
      same = ap length c.in_ok-lists.ensures.empty ∙ length-replicate c.args.r [];
      job = c.in_ok-lists.ensures.job;
      gathers = ([], (gathers_none (g.J.Job.meaning c.args.job.now) c.in_ok-lists.lists.lists.items c.args.r c.in_ok-lists.ensures.empty, ap (filter (is_within c.args.most)) all));
    }

-- the first record of the rest is read
pub loop-rest-preserved-in_ok-emit : goal.loop-rest-preserved-in_ok-emit
loop-rest-preserved-in_ok-emit g c =
    let meaning = g.J.Job.meaning c.args.job.now in
    let line : List ℕ = c.first_line.result.0.now in
    let done : List (List ℕ) = c.loop-rest.invariant.gathers.0 in
    let taken : TakesIn meaning.reduced c.loop-rest.lists.lists.items (meaning.emits line) c.emit.new.sink.lists.items =
    subst (λ (f : List ℕ → List Val → List ℕ). TakesIn f c.loop-rest.lists.lists.items (meaning.emits line) c.emit.new.sink.lists.items) (ap (λ j. (g.J.Job.meaning j).reduced) c.loop-rest.invariant.job) c.in_ok-emit.ensures.1 in
    record {
      same = taken.same ∙ c.loop-rest.invariant.same;
      job = c.in_ok-emit.ensures.0 ∙ c.loop-rest.invariant.job;
      gathers = (
        done ++ line ∷ [],
        (
          gathers_more meaning done line c.loop-rest.lists.lists.items c.emit.new.sink.lists.items taken c.loop-rest.invariant.gathers.1.0,
          one_is_read c.args.most done (records_of c.first_line.result.1.now) line (le-leb (length line) c.args.most c.if-line-most.true)
              ∙ ap (λ rs. done ++ filter (is_within c.args.most) rs) (sym c.first_line.ensures.cut)
              ∙ c.loop-rest.invariant.gathers.1.1,
        ),
      );
    }

none_left : (rest : List ℕ) → length rest ≡ 0 → records_of rest ≡ []
none_left [] e = refl
none_left (b ∷ bs) e = absurd (omega arith)

pub returns : goal.returns
returns g c =
    let meaning = g.J.Job.meaning c.args.job.now in
    let records : List (List ℕ) = records_within c.args.most c.args.texts.now in
    let none : records_of c.loop-rest.rest.now ≡ [] = none_left c.loop-rest.rest.now (eqb-true (length c.loop-rest.rest.now) 0 (sym c.is_empty.ensures ∙ c.loop-rest-test.false)) in
    let all : c.loop-rest.invariant.gathers.0 ≡ records =
    sym (append-nil c.loop-rest.invariant.gathers.0) ∙ ap (λ rs. c.loop-rest.invariant.gathers.0 ++ filter (is_within c.args.most) rs) (sym none) ∙ c.loop-rest.invariant.gathers.1.1 in
    c.in_ok-out.ensures ∙ texts_gathered meaning records c.loop-rest.lists.lists.items c.args.r c.loop-rest.invariant.same (subst (λ (rs : List (List ℕ)). Gathers meaning rs c.loop-rest.lists.lists.items) all c.loop-rest.invariant.gathers.1.0)
