-- A recovery by its steps: what was read first, and the pairs that were redone then.
use Rattle.std.proofs.Common.{inl, inr, ◌≡◌, ◌≤◌, ◌+◌, ◌∙◌, arith, ℕ, List, Result, Err, refl, sym, ap, subst}
use Rattle.std.specs.Prelude.{IsErrOf, slice_index_or}
use Rattle.crash_plant.specs.declared.device.Device.{Device}
use Rattle.crash_plant.specs.declared.device.Device.TheVariants.{Control, State, Journal, Volume}
use Rattle.crash_plant.specs.Choices.{AtNow}
use Rattle.crash_plant.specs.Moments.{PlantState}
use Rattle.control_set.specs.Slots.{chosen_mark, lengths_of}
use Rattle.pair_table.specs.declared.row.PairRow.{PairRow}
use Rattle.site_means.specs.declared.means.Means.{Means}
use Rattle.site_means.specs.Answers.{AllDurable, ReadsAll}
use Rattle.site_means.specs.Meaning.{Meaning}
use Rattle.site_means.specs.Sight.{meant_by, walked, walked_by}
use Rattle.site_means.proofs.Meanings.{same_seen, seen_meaning, seen_reached}
use Rattle.xrc_journal.specs.Items.{Item}
use Rattle.xrecover.specs.declared.recover_error.RecoverError.{RecoverError}
use Rattle.xrecover.specs.declared.recover_error.RecoverError.TheVariants.{Site, Other}
use Rattle.site_means.specs.declared.site_error.SiteError.TheVariants.{NoSession, Damaged, Fault, TooSmall, NoMemory}
use Rattle.xrecover.specs.Sights.{MeansAsRead, TellsDurable, TellsLasting}
use Rattle.xrecover.proofs.Seen.{now_means, read_lasts}
use Rattle.xrecover.specs.Answers.{CountsVolumes, EndsLate, IsEarly, IsLate, IsOf, IsRecoverable, IsGoodOrCalledFor}
use Rattle.xrecover.specs.Pairs.{HasDuplex, SparesOthers}
use Rattle.xrecover.specs.declared.labelling.Labelling.{Labelling}
use Rattle.xrecover.specs.RedoneVolumes.{BearsLabel, Draws, HoldsTracks, Recovers, Redone, meant_rows, rows_of}
use Rattle.xrecover.specs.Works.{Nothing, Works}
use Rattle.xrecover.specs.Labels.{TreatsLabels}
use Rattle.xrecover.proofs.Labels.{treats_after}
use Rattle.xrecover.proofs.Relations.{recovers_same}
use Rattle.xrecover.proofs.Works.{works_more, works_reads, works_trans}

-- ---- errors

pub ends_late : (plant : PlantState) (e : RecoverError) → IsLate plant e → EndsLate e
ends_late plant e fault = subst (λ (k : RecoverError). EndsLate k) (sym fault.1) tt

-- Nothing was written where that is told of no plant.
pub no_writes : (tells : Type 0) (step : Device → List ℕ → List ℕ → Type 0) (old new : PlantState) → ¬ tells → Works tells step old new → Works tells Nothing old new
no_writes tells step old new none works = works_more tells step Nothing old new (λ told d x y p. absurd (none told)) works

module _ (tells : Type 0) (old one : PlantState) (reads : ReadsAll tells old one) where
  -- a late error, after the mark was the session's
  pub late_says : {X : Type 0} (session : List ℕ) (good : X → Type 0) → tells → IsOf old session → (e : RecoverError) → IsLate one e → (let r : Result X RecoverError = Err e in IsGoodOrCalledFor old session good r)
  late_says {X = X} session good told of e fault = subst (λ (k : RecoverError). let r : Result X RecoverError = Err k in IsGoodOrCalledFor old session good r) (sym fault.1) (of, seen_reached old one (same_seen tells old one reads told) (Journal fault.0) fault.2)

  module _ (session : List ℕ) (means : Means) (recoverable : tells → IsRecoverable old session means) (new : PlantState) where
    pub rows_are : tells → meant_rows old old.bytes ≡ means.table.rows
    rows_are told = ap (λ (k : Meaning). rows_of (meant_by k)) (recoverable told).meant.mean.1

    items_are : tells → walked one one.bytes ≡ walked old old.bytes
    items_are told = ap walked_by (seen_meaning old one (same_seen tells old one reads told))

    as_meant : (told : tells) (d : Device) (x y : List ℕ) → Recovers means.table.rows (walked one one.bytes) d x y → Recovers (meant_rows old old.bytes) (walked old old.bytes) d x y
    as_meant told d x y p = subst (λ (r : List PairRow). Recovers r (walked old old.bytes) d x y) (sym (rows_are told)) (subst (λ (l : List Item). Recovers means.table.rows l d x y) (items_are told) p)

    pub all_works : Works tells (Recovers means.table.rows (walked one one.bytes)) one new → Works tells (Recovers (meant_rows old old.bytes) (walked old old.bytes)) old new
    all_works works = works_trans tells Nothing (Recovers (meant_rows old old.bytes) (walked old old.bytes)) (Recovers (meant_rows old old.bytes) (walked old old.bytes)) old one new
        (λ d x y z e q. subst (λ (l : List ℕ). Recovers (meant_rows old old.bytes) (walked old old.bytes) d l z) e q) (λ d x y e. recovers_same (meant_rows old old.bytes) (walked old old.bytes) d x y e)
        (works_reads tells old one reads) (works_more tells (Recovers means.table.rows (walked one one.bytes)) (Recovers (meant_rows old old.bytes) (walked old old.bytes)) one new as_meant works)

    pub all_redone : (labelling : Labelling) (told : tells) (failed : List ℕ) → Redone labelling means.table.rows (walked one one.bytes) failed one new → Redone labelling (meant_rows old old.bytes) (walked old old.bytes) failed old new
    all_redone labelling told failed redone =
        subst (λ (r : List PairRow). Redone labelling r (walked old old.bytes) failed old new) (sym (rows_are told))
        (λ k d lt duplex good.
        let row = slice_index_or means.table.rows k d in
        let done = redone k d lt duplex good in
        record {
          draws = subst (λ (l : List ℕ). Draws row.device (walked old old.bytes) l (new.bytes (Volume row.device))) (reads.same told (Volume row.device))
              (subst (λ (l : List Item). Draws row.device l (one.bytes (Volume row.device)) (new.bytes (Volume row.device))) (items_are told) done.draws);
          content = subst (λ (l : List ℕ). HoldsTracks row.device (walked old old.bytes) l (new.bytes (Volume row.device))) (reads.same told (Volume row.device))
              (subst (λ (l : List Item). HoldsTracks row.device l (one.bytes (Volume row.device)) (new.bytes (Volume row.device))) (items_are told) done.content);
          label = subst (λ (l : List ℕ). BearsLabel labelling row l (new.bytes (Volume row.device))) (reads.same told (Volume row.device)) done.label;
          durable = done.durable;
        })

    pub all_treated : (labelling : Labelling) (step : _) → tells → Works tells step one new → TreatsLabels labelling means.table.rows (walked one one.bytes) one new → TreatsLabels labelling (meant_rows old old.bytes) (walked old old.bytes) old new
    all_treated labelling step told works treats =
        subst (λ (r : List PairRow). TreatsLabels labelling r (walked old old.bytes) old new) (sym (rows_are told)) (treats_after tells told labelling means.table.rows step old one new reads works treats)

-- ---- counts of volumes

pub err_error : {X : Type 0} (k e : RecoverError) → (let r : Result X RecoverError = Err k in IsErrOf r e) → k ≡ e
err_error k e same = search (same)

-- where none rose
pub counts_read : {X : Type 0} (tells : Type 0) (rows : List PairRow) (old new : Device → ℕ) (result : Result X RecoverError) → ((v : ℕ) → new (Volume v) ≡ old (Volume v)) → CountsVolumes tells rows old new result
counts_read tells rows old new result same = record { once = λ v. omega (arith, same v); others = λ told v none. same v; early = λ told e is early v. same v }

-- where none rose while it was read
module _ (old one new : Device → ℕ) (same : (d : Device) → one d ≡ old d) where
  pub counts_since : {X : Type 0} (tells : Type 0) (rows meant : List PairRow) → (tells → meant ≡ rows) → ((v : ℕ) → new (Volume v) ≤ one (Volume v) + 1) → SparesOthers rows one new → (result : Result X RecoverError)
      → (tells → (e : RecoverError) → IsErrOf result e → ¬ IsEarly e) → CountsVolumes tells meant old new result
  counts_since tells rows meant are once spared result late = record {
    once = λ v. omega (arith, once v, same (Volume v));
    others = λ told v none. spared v (λ has. none (subst (λ (r : List PairRow). HasDuplex r v) (sym (are told)) has)) ∙ same (Volume v);
    early = λ told e is early v. absurd (late told e is early);
  }

-- ---- what lasts

-- what an error tells that was read
pub lasting_read : (X Y : Type 0) (tells : Type 0) (told : tells) (old one : PlantState) (reads : ReadsAll tells old one) (e : RecoverError) → (let r : Result X RecoverError = Err e in TellsDurable old one r)
    → ((v needed : ℕ) → e ≡ Site (TooSmall (Volume v) needed) → AllDurable old one) → (let r : Result Y RecoverError = Err e in TellsLasting tells old one r)
lasting_read X Y tells told old one reads (Other name) t small = λ c is. ap (λ (l : List ℕ). chosen_mark (lengths_of old) l) (read_lasts tells told old one reads c is Control tt t)
lasting_read X Y tells told old one reads (Site NoSession) t small = now_means tells told old one reads t
lasting_read X Y tells told old one reads (Site (Damaged d place)) t small = now_means tells told old one reads t
lasting_read X Y tells told old one reads (Site (Fault d)) t small = inl (works_reads tells old one reads)
lasting_read X Y tells told old one reads (Site (TooSmall (Volume v) needed)) t small = now_means tells told old one reads (small v needed refl)
lasting_read X Y tells told old one reads (Site (TooSmall Control needed)) t small = tt
lasting_read X Y tells told old one reads (Site (TooSmall State needed)) t small = tt
lasting_read X Y tells told old one reads (Site (TooSmall (Journal j) needed)) t small = tt
lasting_read X Y tells told old one reads (Site NoMemory) t small = tt

pub lasting_late : (Y : Type 0) (tells : Type 0) (old one new : PlantState) (e : RecoverError) → IsLate one e → AtNow (MeansAsRead old) new → (let r : Result Y RecoverError = Err e in TellsLasting tells old new r)
lasting_late Y tells old one new e late means = subst (λ (k : RecoverError). let r : Result Y RecoverError = Err k in TellsLasting tells old new r) (sym late.1) (inr means)
