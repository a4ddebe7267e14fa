-- The laws of runs and copies that end with a status. Each is the contract of a public function.
use Rattle.std.specs.Prelude.{◌≡◌, ◌⊎◌, ◌<◌, ℕ, List, false, Option, Some, None}
use Rattle.xrc_edge.specs.Causes.{Rose}
use Rattle.crash_plant.specs.declared.device.Device.{Device}
use Rattle.crash_plant.specs.declared.device.Device.TheVariants.{Volume}
use Rattle.crash_plant.specs.Moments.{PlantState}
use Rattle.pair_table.specs.declared.row.PairRow.{PairRow}
use Rattle.pair_table.specs.Devices.{is_among}
use Rattle.primary_ctl.specs.Primaries.{primary}
use Rattle.site_means.specs.Images.{shape_of}
use Rattle.site_store.specs.Records.{IsStore}
use Rattle.consistency.specs.Bearing.{ShowsPoint}
use Rattle.consistency.specs.Courses.{Answered, AreAsked, texts_of}
use Rattle.consistency.specs.Leads.{Point}
use Rattle.consistency.specs.Stages.{ScriptRun, tracks_of_row}
use Rattle.mover.specs.declared.lane.Lane.{Lane}
use Rattle.third_copy.specs.Answers.{AreAllCopied}
use Rattle.third_copy.specs.Pairs.{IsPair}
use Rattle.third_copy.specs.Targets.{target_of}
use Rattle.volume_copy.specs.Targets.{IsCopyOf}
use Rattle.xrc_recovery.specs.Copies.{CopiesPairs, EndsCopy}
use Rattle.xrc_session.specs.Lanes.{AllTold, SourceBytes}
use Rattle.xrc_session.specs.Openings.{opening_stop}
use Rattle.xrc_session.specs.Runs.{AreCountsBelow}
use Rattle.xrc_cli.specs.Statuses.{EndsScriptRun}

-- A script is lines that count, one after another: its bytes are their texts, and each is what its text asks.
pub record IsGoodScript (script : List ℕ) : Type 0 where
  pub lines : List Answered
  pub whole : texts_of lines ≡ script
  pub asked : AreAsked script lines

-- No count of the console, the control, the state or a journal rose. Those of volumes may have risen.
pub record NoStoreRose (old new : PlantState) : Type 0 where
  pub devices : (d : Device) → IsStore d → ¬ Rose (old.faults d) (new.faults d)
  pub console : ¬ Rose old.console_faults new.console_faults

-- Where nothing calls for a stop the run is done, but for want of memory and for numbers that are spent: numbers, lengths and headers are good, each
-- line counts, and no count of the console, the control, the state or a journal rose. Faults of volumes, and of sources after the headers, don't
-- take this away.
abbrev pub RunsAreComplete : {S P : Type 0} → (tells : Type 0) → (state : P → PlantState) → (left : S → Option (List ℕ)) → (faults : S → ℕ) → (old new : P) → Type 0
RunsAreComplete {S} {P} tells state left faults old new = (session : List ℕ) (storage : ℕ) (before now : List (Lane S)) (status : ℕ) (sources : List SourceBytes) → EndsScriptRun tells state left faults session storage before now old new status
    → AllTold left faults before now sources → opening_stop storage (state old) sources ≡ None → IsGoodScript (state old).script → NoStoreRose (state old) (state new) → AreCountsBelow (state new)
    → (status ≡ 0) ⊎ ((status ≡ 1) ⊎ (status ≡ 24))

-- A copy of a site whose devices show a point of a run holds the primaries: whatever a crash leaves of the target of a pair that isn't told as failed, its
-- slot of each track begins with the image of the primary's track at the point's time. Its premise is that all was copied that was done on the target
-- when the copy began, in each of its images.
abbrev pub CopiesHoldPrimaries : (tells : Type 0) → (old new : PlantState) → Type 0
CopiesHoldPrimaries tells old new = (session : List ℕ) (shift status : ℕ) → EndsCopy tells session shift old new status → (failed : List ℕ) (pairs : CopiesPairs session shift failed old new)
    → (run : ScriptRun) (p : Point) → ShowsPoint run (shape_of old) p old.bytes
    → (r : PairRow) → IsPair pairs.means.table.rows r → is_among r.device failed ≡ false → AreAllCopied old old old.clock pairs.means shift r
    → (c : List ℕ) → new.images new.clock (Volume (target_of shift r)) c → (x : ℕ) → x < tracks_of_row r → IsCopyOf (Some (primary run.traces p.time r.control r.volume x)) c x
