-- The snapshot of a cut by its runs is the cut's.
use Rattle.std.proofs.Common.{◌≡◌, ◌==◌, ℕ, Bool, true, false, true≢false, arith, List, [], ◌∷◌, ◌++◌, length, refl, sym, ap, ◌∙◌, subst}
use Rattle.std.specs.Prelude.{IsTrue, map}
use Rattle.std.specs.List.{flat_map}
use Rattle.std.proofs.lemmas.Bool.{eqb-true}
use Rattle.std.proofs.lemmas.List.{append_cancel_left}
use Rattle.hop_base.specs.Meaning.{Meaning}
use Rattle.hop_base.specs.Run.{RunSettings}
use Rattle.hop_laws.specs.Blocking.{blocking, part_pairs}
use Rattle.hop_records.specs.Records.{lens_of}
use Rattle.hop_shelf.specs.Names.{book_of}
use Rattle.hop_event.specs.Coverage.{progress_of}
use Rattle.hop_cut.specs.declared.cut.Cut.{Cut}
use Rattle.hop_cut.specs.Covered.{IsOfCoverage, StandTogether, covered_parts, covered_records, declared_at, header_of, snapshot_text, text_with}
use Rattle.hop_cut.specs.Snapshot.{header_lines, text_of}
use Rattle.hop_inner.specs.Messages.{said_cut, CutFitsAt}
use Rattle.hop_jobs.specs.Known.{known_meaning}
use Rattle.hop_jobs.specs.declared.known.Known.{Known}
use Rattle.hop_writer.specs.Later.{with_last}
use Rattle.hop_writer.specs.Puts.{Puts}
use Rattle.hop_writer.specs.Snapshots.{IsSnapshot, IsWhole, Snapshot, files_at, kept_of, snap_body, snap_name}
use Rattle.hop_writer.specs.Writers.{MakesFiles, kept_with, snapshot_made}
use Rattle.hop_writer.specs.declared.kept.Kept.{Kept}

-- what a run of one job keeps makes no difference
with_last_kept : (later : List Meaning) (r : ℕ) (kept : List Kept) (s : Snapshot) (mark : ℕ) → with_last later r (kept_with later kept s) mark ≡ with_last later r (kept ++ kept_of s ∷ []) mark
with_last_kept [] r kept s mark = refl
with_last_kept (job ∷ later) r kept s mark = refl

-- # What is kept

pub kept_none : (jobs : List Known) (kept : List Kept) (s : Snapshot) (none : Bool) → none ≡ (length jobs == 0) → none ≡ true → kept ≡ kept_with (map known_meaning jobs) kept s
kept_none [] kept s none e is = refl
kept_none (job ∷ jobs) kept s none e is = absurd (omega (arith, eqb-true (length (job ∷ jobs)) 0 (sym e ∙ is)))

pub kept_some : (jobs : List Known) (kept : List Kept) (s : Snapshot) (none : Bool) → none ≡ (length jobs == 0) → none ≡ false → kept ++ kept_of s ∷ [] ≡ kept_with (map known_meaning jobs) kept s
kept_some [] kept s none e is = absurd (true≢false (sym e ∙ is))
kept_some (job ∷ jobs) kept s none e is = refl

-- # The snapshot of a cut

module _ (job : Meaning) (records : List (List ℕ)) (settings : RunSettings) (tells : Bool) (own : Meaning) (lens : List ℕ) (r p : ℕ) (cut : Cut)
    (job_is : own ≡ job) (lens_are : lens ≡ lens_of (book_of records settings)) (r_is : r ≡ settings.reducers) (whole : IsWhole lens (said_cut cut)) (fits : CutFitsAt job records settings tells p cut) where
  -- where the spill folders tell, its runs stand for what it declares
  covers : IsTrue tells → IsOfCoverage own records settings.split p r lens cut
  covers t =
      let P : Meaning × ℕ → Type 0 = λ x. StandTogether x.0.reduced cut.runs (flat_map (part_pairs x.0 records settings.split p x.1) (covered_parts cut.declared)) in
      record { progress_is = whole.progress_is; stands = subst P (λ i. (sym job_is i, sym r_is i)) (fits t) }

  module _ (text : List ℕ) (is : text ≡ text_with (snapshot_made own p r lens cut).header (snapshot_made own p r lens cut).body)
      (snapshot : (all : List (List ℕ)) (n : ℕ) → IsOfCoverage own all n p r lens cut → text ≡ snapshot_text own all n p r lens cut.mark cut.declared) where
    -- so its body is the blocking job's text of the records that are covered
    body_is : IsTrue tells → (snapshot_made own p r lens cut).body ≡ snap_body job records settings p (said_cut cut)
    body_is t =
        let progress : cut.progress ≡ progress_of lens (declared_at cut.declared) = whole.progress_is in
        let same : text_with (snapshot_made own p r lens cut).header (snapshot_made own p r lens cut).body ≡ text_with (snapshot_made own p r lens cut).header (blocking own (covered_records records settings.split cut.declared) p r) =
        sym is ∙ snapshot records settings.split (covers t) ∙ (λ i. text_with (header_of own.name cut.mark p r (sym progress i) lens cut.declared) (blocking own (covered_records records settings.split cut.declared) p r)) in
        append_cancel_left (text_of (header_lines (snapshot_made own p r lens cut).header)) _ _ same ∙ (λ i. blocking (job_is i) (covered_records records settings.split cut.declared) p (r_is i))

    is_snapshot : IsSnapshot job records settings tells p (said_cut cut) (snapshot_made own p r lens cut)
    is_snapshot = record {
      header_is = λ i. header_of (job_is i).name cut.mark p (r_is i) (whole_so i) (lens_are i) cut.declared;
      right = body_is;
    }
      where
        whole_so : cut.progress ≡ progress_of (lens_of (book_of records settings)) (declared_at cut.declared)
        whole_so = whole.progress_is ∙ ap (λ (l : List ℕ). progress_of l (declared_at cut.declared)) lens_are

    -- its file and the later jobs' are those that the cut's turn puts
    pub makes : (jobs : List Known) (later : List Meaning) (kept then : List Kept) (name bytes : List ℕ) (first more : Puts) → map known_meaning jobs ≡ later → then ≡ kept_with (map known_meaning jobs) kept (snapshot_made own p r lens cut)
        → name ≡ snap_name cut.mark p → bytes ≡ text → first ≡ (name, bytes) ∷ [] → more ≡ first ++ with_last (map known_meaning jobs) r then cut.mark
        → MakesFiles job records settings later tells p (said_cut cut) kept then more
    makes jobs later kept then name bytes first more later_are then_is name_is bytes_are first_is more_is = record {
      snap = snapshot_made own p r lens cut;
      is = is_snapshot;
      kept_are = then_is ∙ ap (λ (l : List Meaning). kept_with l kept (snapshot_made own p r lens cut)) later_are;
      files_are =
          more_is
          ∙ (λ i. first_is i ++ with_last (map known_meaning jobs) r (then_is i) cut.mark)
          ∙ (λ i. (name_is i, (bytes_are ∙ is) i) ∷ with_last_kept (map known_meaning jobs) r kept (snapshot_made own p r lens cut) cut.mark i)
          ∙ (λ i. files_at (later_are i) (r_is i) kept (snapshot_made own p r lens cut));
    }
