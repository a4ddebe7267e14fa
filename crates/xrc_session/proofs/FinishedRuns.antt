-- A session that is finished at its script's end, as its parts have it.
use Rattle.std.proofs.Common.{◌≡◌, ◌⊎◌, inl, inr, ℕ, Bool, true, false, List, [], Some, None, Result, Ok, refl, sym, ap, subst, ◌∙◌}
use Rattle.std.specs.Prelude.{OnOk}
use Rattle.crash_plant.specs.declared.device.Device.{Device}
use Rattle.crash_plant.specs.Calls.{IsThere, Silent}
use Rattle.crash_plant.specs.Moments.{PlantState}
use Rattle.crash_plant.proofs.Steps.{works_on_here}
use Rattle.pair_table.specs.Tables.{Table}
use Rattle.record_rows.specs.Hits.{hit_now}
use Rattle.site_store.specs.IdleSites.{IsSiteIdle}
use Rattle.site_store.specs.Records.{VolumesStay}
use Rattle.site_store.specs.Sites.{SiteState}
use Rattle.site_store.proofs.MarkFits.{reads_choice}
use Rattle.mover.specs.Moves.{IsOfMover}
use Rattle.xrc_status.specs.declared.stop.Stop.{Stop}
use Rattle.xrc_session.specs.declared.kept.SessionParts.{SessionParts}
use Rattle.xrc_session.specs.declared.place.SessionPlace.{SessionPlace}
use Rattle.xrc_session.specs.declared.place.SessionPlace.TheVariants.{Unstarted}
use Rattle.xrc_session.specs.Answering.{IsMarkedSite, MarksOn}
use Rattle.xrc_session.specs.Bringing.{IsWorkOfStore}
use Rattle.xrc_session.specs.Frames.{KeepsPlant}
use Rattle.xrc_session.specs.Lines.{MayFinish}
use Rattle.xrc_session.specs.States.{SessionState}
use Rattle.xrc_session.specs.Steps.{FinishesRuns}
use Rattle.xrc_session.specs.Stops.{StopsByCount}
use Rattle.xrc_session.proofs.Finishing.{finishes_by_mark, finishes_still}
use Rattle.xrc_session.proofs.InTurn.{keeps_here, keeps_lent, none_risen_here, none_stop}
use Rattle.xrc_session.proofs.LinesPlaces.{session_in, session_on, unstarted_at}

-- ---- by a mark

module _ (tells : Type 0) (session : List ℕ) (controls : ℕ) (kept : SessionParts) (site : SiteState) (ended : Bool) (s : SessionState) (same : session_on session controls kept site ended ≡ s) (old : PlantState) (may : MayFinish tells s old) where
  abbrev was : SessionState
  was = session_on session controls kept site ended

  may_finish : MayFinish tells was old
  may_finish = subst (λ (x : SessionState). MayFinish tells x old) (sym same) may

  -- What the mark asks.
  pub mark_idle : IsSiteIdle tells site old
  mark_idle = may_finish.idle

  pub mark_told : hit_now site.failed site.told ≡ []
  mark_told = may_finish.told

  module _ (new : PlantState) (next : SiteState) (result : Result (Unit {0}) Stop) (works : IsWorkOfStore tells site next old new result) where
    pub mark_keeps : KeepsPlant tells old new
    mark_keeps = keeps_lent tells (IsOfMover site) old new works.works may.home

    pub mark_ends : ended ≡ false → tells → ((d : Device) → IsThere old d → old.images old.clock d (old.bytes d)) → VolumesStay tells old new → OnOk result (IsMarkedSite tells false site next new) → (began : PlantState) → MarksOn false site next began old new result → FinishesRuns s began old new result
    mark_ends goes told read volumes marked began marks =
        subst (λ (x : SessionState). FinishesRuns x began old new result) same
        (finishes_by_mark tells told was site next began old new result (reads_choice old may.home read) mark_idle mark_told refl (sym may_finish.ended ∙ goes) refl works.works.site (works.works.elapses told) (works.works.silent told) volumes (works.spent told) marked marks)

-- ---- with nothing to do

-- A session that hasn't started, or that has ended.
abbrev pub IsAtEnd : SessionState → Type 0
IsAtEnd s = (s.site ≡ None) ⊎ ((site : SiteState) × (s.site ≡ Some site) × (s.is_ended ≡ true))

pub unstarted_at_end : {V : Type 0} (session : List ℕ) (controls : ℕ) (kept : SessionParts) (place : SessionPlace V) (ended : Bool) (s : SessionState) (table : Table) → place ≡ Unstarted table → session_in session controls kept place ended ≡ s → IsAtEnd s
unstarted_at_end {V} session controls kept place ended s table is same = inl (unstarted_at session controls kept place ended s table is same)

pub ended_at_end : (session : List ℕ) (controls : ℕ) (kept : SessionParts) (site : SiteState) (ended : Bool) (s : SessionState) → session_on session controls kept site ended ≡ s → ended ≡ true → IsAtEnd s
ended_at_end session controls kept site ended s same is = inr (site, sym (ap (λ (x : SessionState). x.site) same), sym (ap (λ (x : SessionState). x.is_ended) same) ∙ is)

module _ (tells : Type 0) (s : SessionState) (old : PlantState) (may : MayFinish tells s old) where
  pub still_keeps : KeepsPlant tells old old
  still_keeps = keeps_here tells old may.home (works_on_here tells (λ d. ⊥) old).elapses

  pub still_silent : tells → Silent old old
  still_silent = (works_on_here tells (λ d. ⊥) old).silent

  pub still_counts : let r : Result (Unit {0}) Stop = Ok tt in StopsByCount old old r
  still_counts = none_stop old old (let r : Result (Unit {0}) Stop = Ok tt in r) (none_risen_here old)

  pub still_ends : IsAtEnd s → tells → ((d : Device) → IsThere old d → old.images old.clock d (old.bytes d)) → (began : PlantState) → (let r : Result (Unit {0}) Stop = Ok tt in FinishesRuns s began old old r)
  still_ends at told read began = finishes_still tells told s began old (reads_choice old may.home read) may at
