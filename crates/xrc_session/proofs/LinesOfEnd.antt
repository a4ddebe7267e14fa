-- A line that is answered once the session has ended, by what its command leaves of the site.
use Rattle.std.proofs.Common.{◌≡◌, ℕ, ◌^◌, ◌<◌, ◌≤◌, Bool, true, false, true≢false, List, Option, Result, Ok, Err, refl, sym, ap, subst, ◌∙◌}
use Rattle.std.specs.Prelude.{◌||◌, IfOk, IsSomeAnd, OnOk}
use Rattle.std.specs.Option.{option_map}
use Rattle.crash_plant.specs.Calls.{Silent}
use Rattle.crash_plant.specs.Moments.{PlantState}
use Rattle.site_store.specs.Sites.{SiteState}
use Rattle.mover.specs.declared.lane.Lane.{Lane}
use Rattle.mover.specs.Moves.{IsOfMover}
use Rattle.xrc_command.specs.declared.line.Line.{Line}
use Rattle.xrc_status.specs.declared.stop.Stop.{Stop}
use Rattle.xrc_session.specs.declared.answering.LineAnswer.{LineAnswer}
use Rattle.xrc_session.specs.declared.kept.SessionParts.{SessionParts}
use Rattle.xrc_session.specs.Answering.{AnswersCommands, ControlsCount, IsSiteAnswered, group_taken, is_end_accepted}
use Rattle.xrc_session.specs.LinePauses.{IsAtSite, IsBetween, MayCommandSite}
use Rattle.xrc_session.specs.Bringing.{IsWorkOfStore}
use Rattle.xrc_session.specs.Frames.{KeepsPlant, SuspendsByCounts}
use Rattle.xrc_session.specs.Lines.{IsDoneLine, IsSameSession}
use Rattle.xrc_session.specs.States.{SessionState, session_time}
use Rattle.xrc_session.specs.Steps.{DoesLine}
use Rattle.xrc_session.specs.Taking.{IsSoundForRows}
use Rattle.xrc_session.proofs.InTurn.{keeps_lent}
use Rattle.xrc_session.proofs.LinesBrought.{at_site, ended_at_line}
use Rattle.xrc_session.proofs.LinesInTime.{end_does, in_time_done, suspends_as}
use Rattle.xrc_session.proofs.LinesPlaces.{session_on}

module _ {S : Type 0} (tells : Type 0) (session : List ℕ) (controls : ℕ) (kept : SessionParts) (site : SiteState) (ended : Bool) (s : SessionState) (same : session_on session controls kept site ended ≡ s) (lanes : List (Lane S)) (old : PlantState) (between : IsBetween tells s lanes old) (line : Line)
    (time : (1 ≤ line.time.0) × (session_time s ≤ line.time.0)) (is_ended : s.is_ended ≡ true) where
  abbrev was : SessionState
  was = session_on session controls kept site ended

  stands : IsBetween tells was lanes old
  stands = subst (λ (x : SessionState). IsBetween tells x lanes old) (sym same) between

  at : IsAtSite tells was lanes old site
  at = at_site tells was lanes old stands site refl

  up : site.time ≤ line.time.0
  up = subst (λ (x : SessionState). session_time x ≤ line.time.0) (sym same) time.1

  ended_is : ended ≡ true
  ended_is = ap (λ (x : SessionState). x.is_ended) same ∙ is_ended

  pub site_ended : site.table.is_ended ≡ true
  site_ended = sym at.ended ∙ ended_is

  -- What the command asks.
  pub end_may : MayCommandSite tells kept.names old site
  end_may = at.may

  pub end_at : site.table.is_ended ≡ false → site.time ≡ line.time.0
  end_at goes = absurd (true≢false (sym site_ended ∙ goes))

  pub end_kept : site.table.is_ended ≡ false → IsSomeAnd kept.group (λ group. IsSoundForRows group site.told × ControlsCount kept.names group)
  end_kept goes = absurd (true≢false (sym site_ended ∙ goes))

  pub end_flag : site.mark.ended ≡ site.table.is_ended
  end_flag = at.flag

  -- What it leaves.
  module _ (new : PlantState) (kept_now : SessionParts) (next : SiteState) (result : Result LineAnswer Stop) (after : IfOk result (λ a. IsSiteAnswered tells kept.names line a.answer site next new)) (names_are : kept_now.names ≡ kept.names) (works : IsWorkOfStore tells site next old new result) where
    abbrev now : SessionState
    now = session_on session controls kept_now next ended

    pub end_keeps : KeepsPlant tells old new
    end_keeps = keeps_lent tells (IsOfMover site) old new works.works stands.home

    pub end_silent : tells → Silent old new
    end_silent = works.works.silent

    pub end_same : IsSameSession s now
    end_same = subst (λ (x : SessionState). IsSameSession x now) same (record { session = refl; controls = refl })

    pub end_hits : OnOk result (SuspendsByCounts s.table.rows now.table.rows old new)
    end_hits = subst (λ (x : SessionState). OnOk result (SuspendsByCounts x.table.rows now.table.rows old new)) same (by_result result after works.hits)
      where
        by_result : (r : Result LineAnswer Stop) → IfOk r (λ a. IsSiteAnswered tells kept.names line a.answer site next new) → OnOk r (SuspendsByCounts site.told next.told old new) → OnOk r (SuspendsByCounts site.table.rows next.table.rows old new)
        by_result (Ok a) is hits = suspends_as site.told next.told site.table.rows next.table.rows old new at.may.idle.same is.may.idle.same hits
        by_result (Err stop) is hits = tt

    pub end_done : OnOk result (next.table.is_ended ≡ false → IsSomeAnd kept_now.group (λ g. IsSoundForRows g next.told)) → IfOk result (λ a. next.table.is_ended ≡ false → kept_now.group ≡ option_map (group_taken a.answer site.told next.told) kept.group)
        → IfOk result (IsDoneLine tells s now line lanes new)
    end_done keeps_rows taken = subst (λ (x : SessionState). IfOk result (IsDoneLine tells x now line lanes new)) same (by_result result after keeps_rows taken)
      where
        by_result : (r : Result LineAnswer Stop) → IfOk r (λ a. IsSiteAnswered tells kept.names line a.answer site next new) → OnOk r (next.table.is_ended ≡ false → IsSomeAnd kept_now.group (λ g. IsSoundForRows g next.told))
            → IfOk r (λ a. next.table.is_ended ≡ false → kept_now.group ≡ option_map (group_taken a.answer site.told next.told) kept.group) → IfOk r (IsDoneLine tells was now line lanes new)
        by_result (Ok a) is rows took =
            in_time_done tells was site refl line lanes kept.names kept.group site old (ended_at_line tells was lanes old stands site refl line.time.0 up ended_is) refl refl new kept_now.names names_are kept_now.group next a is rows took ended
            (ended_is ∙ sym (ap (λ (b : Bool). b || is_end_accepted a.answer) ended_is)) works.works.site end_keeps.home
        by_result (Err stop) is rows took = tt

    pub end_does_line : (left : S → Option (List ℕ)) → line.time.0 < 2 ^ 64 → tells → (began : PlantState) → AnswersCommands line kept kept_now site next began old new result → DoesLine left line s now lanes lanes began old new result
    end_does_line left short told began answers =
        subst (λ (x : SessionState). DoesLine left line x now lanes lanes began old new result) same
        (end_does tells told left was lanes old stands site refl line short ended_is new works.works.site (works.works.elapses told) (works.works.silent told) kept_now next result names_are after (works.spent told) kept refl refl began answers)
