-- A line that is answered by a session that goes on: the session is brought to the line's time, and its command is done.
use Rattle.std.proofs.Common.{◌≡◌, ℕ, ◌^◌, ◌<◌, ◌≤◌, Bool, false, List, Option, Result, Ok, Err, refl, sym, ap, subst, ◌∙◌}
use Rattle.std.specs.Prelude.{◌||◌, IfErr, IfOk, IsSomeAnd}
use Rattle.std.specs.Option.{option_map}
use Rattle.crash_plant.specs.Calls.{Silent}
use Rattle.crash_plant.specs.declared.device.Device.TheVariants.{Control}
use Rattle.crash_plant.specs.Moments.{PlantState}
use Rattle.crash_plant.proofs.Steps.{silent_trans}
use Rattle.pair_table.specs.Naming.{Naming}
use Rattle.site_store.specs.Sites.{SiteState}
use Rattle.mover.specs.declared.lane.Lane.{Lane}
use Rattle.mover.specs.Epochs.{AreSameLanes}
use Rattle.mover.specs.Moves.{IsOfMover}
use Rattle.xrc_command.specs.declared.line.Line.{Line}
use Rattle.xrc_status.specs.declared.stop.Stop.{Stop}
use Rattle.xrc_session.specs.declared.answering.LineAnswer.{LineAnswer}
use Rattle.xrc_session.specs.declared.kept.SessionParts.{SessionParts}
use Rattle.xrc_session.specs.Answering.{AnswersCommands, ControlsCount, IsSiteAnswered, group_taken, is_end_accepted}
use Rattle.xrc_session.specs.LinePauses.{HasCut, IsAtSite, IsBetween, IsReadyForEpoch, MayCommandSite}
use Rattle.xrc_session.specs.Bringing.{BreakOnAsTraces, IsSiteBrought, IsWorkOfStore}
use Rattle.xrc_session.specs.Frames.{KeepsPlant, SuspendsByCounts}
use Rattle.xrc_session.specs.Lanes.{with_lanes_broken}
use Rattle.xrc_session.specs.Lines.{IsDoneLine, IsSameSession}
use Rattle.xrc_session.specs.States.{SessionState, session_time}
use Rattle.xrc_session.specs.Steps.{BringsOn, DoesLine}
use Rattle.xrc_session.specs.Stops.{HasStopCause, StopsByCount}
use Rattle.xrc_session.specs.Taking.{IsSoundForRows}
use Rattle.xrc_session.proofs.InTurn.{NoneRisen, cause_before, counts_after, counts_fell, done_raises_none, keeps_lent, keeps_then, none_risen_then, none_stop, suspends_then}
use Rattle.xrc_session.proofs.LinesBrought.{IsAtLine, at_site, brought_at_line, brought_counts}
use Rattle.xrc_session.proofs.LinesInTime.{bring_does, in_time_does, in_time_done, suspends_as}
use Rattle.xrc_session.proofs.LinesPlaces.{cause_of, counts_of, session_on}
use Rattle.xrc_session.proofs.Readying.{broken_alone}

module _ {S : Type 0} (tells : Type 0) (session : List ℕ) (controls : ℕ) (kept : SessionParts) (site : SiteState) (ended : Bool) (s : SessionState) (same : session_on session controls kept site ended ≡ s) (lanes : List (Lane S)) (old : PlantState) (between : IsBetween tells s lanes old) (line : Line)
    (time : (1 ≤ line.time.0) × (session_time s ≤ line.time.0)) (goes : s.is_ended ≡ false) where
  abbrev was : SessionState
  was = session_on session controls kept site ended

  stands : IsBetween tells was lanes old
  stands = subst (λ (x : SessionState). IsBetween tells x lanes old) (sym same) between

  at : IsAtSite tells was lanes old site
  at = at_site tells was lanes old stands site refl

  up : site.time ≤ line.time.0
  up = subst (λ (x : SessionState). session_time x ≤ line.time.0) (sym same) time.1

  off : ended ≡ false
  off = ap (λ (x : SessionState). x.is_ended) same ∙ goes

  site_goes : site.table.is_ended ≡ false
  site_goes = sym at.ended ∙ off

  same_as : (kept_now : SessionParts) (next : SiteState) (flag : Bool) → IsSameSession s (session_on session controls kept_now next flag)
  same_as kept_now next flag = subst (λ (x : SessionState). IsSameSession x (session_on session controls kept_now next flag)) same (record { session = refl; controls = refl })

  -- What the way to the line's time asks.
  pub time_ready : IsSomeAnd kept.group (IsReadyForEpoch tells lanes site old)
  time_ready = at.ready site_goes

  pub time_later : (1 ≤ line.time.0) × (site.time ≤ line.time.0)
  time_later = (time.0, up)

  pub time_goes : site.mark.ended ≡ false
  time_goes = at.flag ∙ site_goes

  -- ---- a stop on the way

  module _ (mid : PlantState) (kept_mid : SessionParts) (next : SiteState) (after : List (Lane S)) (stop : Stop) (result : Result LineAnswer Stop) (is : result ≡ Err stop) (works : let r : Result (Unit {0}) Stop = Err stop in IsWorkOfStore tells site next old mid r) where
    abbrev stopped : SessionState
    stopped = session_on session controls kept_mid next ended

    pub way_keeps : KeepsPlant tells old mid
    way_keeps = keeps_lent tells (IsOfMover site) old mid works.works stands.home

    pub way_same : IsSameSession s stopped
    way_same = same_as kept_mid next ended

    pub way_cause : IfErr result (HasStopCause old mid)
    way_cause = cause_of old mid result stop is works.cause

    pub way_counts : StopsByCount old mid result
    way_counts = counts_of old mid result stop is works.counts

    pub way_does : (left : S → Option (List ℕ)) → tells → (began : PlantState) → (let r : Result (Unit {0}) Stop = Err stop in BringsOn left line.time.0 lanes after kept kept_mid site next began old mid r) → DoesLine left line s stopped lanes after began old mid result
    way_does left told began brings =
        subst (λ (r : Result LineAnswer Stop). DoesLine left line s stopped lanes after began old mid r) (sym is)
        (subst (λ (x : SessionState). let r : Result LineAnswer Stop = Err stop in DoesLine left line x stopped lanes after began old mid r) same
        (bring_does tells told left was lanes old stands site refl line off up after mid works.works.site (works.works.elapses told) (works.works.silent told) began kept kept_mid refl next stopped stop
        (λ spent. works.spent told (ap (λ (x : Stop). let r : Result (Unit {0}) Stop = Err x in r) spent)) brings))

  -- ---- at the line's time

  module _ (mid : PlantState) (kept_mid : SessionParts) (brought : SiteState) (after : List (Lane S)) (works : let r : Result (Unit {0}) Stop = Ok tt in IsWorkOfStore tells site brought old mid r) (ready : IsSomeAnd kept_mid.group (IsReadyForEpoch tells after brought mid))
      (cut : IsSomeAnd kept_mid.group (HasCut line.time.0)) (site_is : IsSiteBrought line.time.0 site brought) (names_is : kept_mid.names ≡ with_lanes_broken 0 after kept.names) (lanes_same : AreSameLanes lanes after) where
    at_line : IsAtLine tells was after kept_mid.names kept_mid.group brought line.time.0 mid
    at_line = brought_at_line tells was lanes old stands site refl off line.time.0 after lanes_same kept_mid.names names_is kept_mid.group brought mid works.works.site site_is ready cut

    labels : kept_mid.names.labels ≡ kept.names.labels
    labels = ap (λ (n : Naming). n.labels) names_is ∙ (broken_alone after kept.names).1

    keeps_mid : KeepsPlant tells old mid
    keeps_mid = keeps_lent tells (IsOfMover site) old mid works.works stands.home

    none_mid : NoneRisen old mid
    none_mid = done_raises_none old mid tt works.counts

    -- What the command asks.
    pub then_may : MayCommandSite tells kept_mid.names mid brought
    then_may = at_line.may

    pub then_at : brought.table.is_ended ≡ false → brought.time ≡ line.time.0
    then_at = at_line.time_is

    pub then_kept : brought.table.is_ended ≡ false → IsSomeAnd kept_mid.group (λ group. IsSoundForRows group brought.told × ControlsCount kept_mid.names group)
    then_kept = brought_counts tells was lanes old stands site refl off line.time.0 after lanes_same kept_mid.names names_is kept_mid.group brought mid works.works.site site_is ready cut

    pub then_flag : brought.mark.ended ≡ brought.table.is_ended
    then_flag = at_line.flag

    module _ (new : PlantState) (kept_now : SessionParts) (next : SiteState) (names_are : kept_now.names ≡ kept_mid.names) where
      -- In each run the line is done.
      line_does : (left : S → Option (List ℕ)) → tells → (began : PlantState) → line.time.0 < 2 ^ 64 → BreakOnAsTraces left line.time.0 lanes after → (let r : Result (Unit {0}) Stop = Ok tt in BringsOn left line.time.0 lanes after kept kept_mid site brought began old mid r) → (flag : Bool) (result : Result LineAnswer Stop)
          → IfOk result (λ a. IsSiteAnswered tells kept_mid.names line a.answer brought next new) → IsWorkOfStore tells brought next mid new result → AnswersCommands line kept_mid kept_now brought next began mid new result → DoesLine left line s (session_on session controls kept_now next flag) lanes after began old new result
      line_does left told began short broke brings flag result site_answered worked answers =
          subst (λ (x : SessionState). DoesLine left line x (session_on session controls kept_now next flag) lanes after began old new result) same
          (in_time_does tells told left was lanes old stands site refl line off up after mid works.works.site (works.works.elapses told) (works.works.silent told) began kept kept_mid refl brought short lanes_same broke at_line site_is names_is labels brings new
          (counts_fell mid new result worked.counts) worked.works.site (worked.works.elapses told) (worked.works.silent told) kept_now names_are next flag result site_answered (worked.spent told) answers)

      keeps_new : {T : Type 0} (result : Result T Stop) → IsWorkOfStore tells brought next mid new result → KeepsPlant tells old new
      keeps_new {T} result worked = keeps_then tells old mid new keeps_mid (keeps_lent tells (IsOfMover brought) mid new worked.works keeps_mid.home)

      silent_new : {T : Type 0} (result : Result T Stop) → IsWorkOfStore tells brought next mid new result → tells → Silent old new
      silent_new {T} result worked told = silent_trans Control old mid new (works.works.elapses told) (worked.works.elapses told) (works.works.silent told) (worked.works.silent told)

      -- ---- a stop in the command

      module _ (stop : Stop) (worked : let r : Result LineAnswer Stop = Err stop in IsWorkOfStore tells brought next mid new r) (result : Result LineAnswer Stop) (is : result ≡ Err stop) where
        abbrev halted : SessionState
        halted = session_on session controls kept_now next ended

        pub then_keeps : KeepsPlant tells old new
        then_keeps = keeps_new (let r : Result LineAnswer Stop = Err stop in r) worked

        pub then_silent : tells → Silent old new
        then_silent = silent_new (let r : Result LineAnswer Stop = Err stop in r) worked

        pub then_same : IsSameSession s halted
        then_same = same_as kept_now next ended

        pub then_cause : IfErr result (HasStopCause old new)
        then_cause = cause_of old new result stop is (cause_before old mid new stop none_mid.fell worked.cause)

        pub then_counts : StopsByCount old new result
        then_counts = counts_of {T = LineAnswer} {U = LineAnswer} old new result stop is (counts_after old mid new (let r : Result LineAnswer Stop = Err stop in r) none_mid worked.counts)

        pub then_does : (left : S → Option (List ℕ)) → line.time.0 < 2 ^ 64 → BreakOnAsTraces left line.time.0 lanes after → tells → (began : PlantState) → (let r : Result (Unit {0}) Stop = Ok tt in BringsOn left line.time.0 lanes after kept kept_mid site brought began old mid r)
            → (let r : Result LineAnswer Stop = Err stop in AnswersCommands line kept_mid kept_now brought next began mid new r) → DoesLine left line s halted lanes after began old new result
        then_does left short broke told began brings answers =
            subst (λ (r : Result LineAnswer Stop). DoesLine left line s halted lanes after began old new r) (sym is)
            (line_does left told began short broke brings ended (let r : Result LineAnswer Stop = Err stop in r) tt worked answers)

      -- ---- done

      module _ (a : LineAnswer) (worked : let r : Result LineAnswer Stop = Ok a in IsWorkOfStore tells brought next mid new r) (site_answered : IsSiteAnswered tells kept_mid.names line a.answer brought next new) (flag : Bool) (flag_is : flag ≡ is_end_accepted a.answer) where
        abbrev now : SessionState
        now = session_on session controls kept_now next flag

        none_then : NoneRisen mid new
        none_then = done_raises_none mid new a worked.counts

        pub done_keeps : KeepsPlant tells old new
        done_keeps = keeps_new (let r : Result LineAnswer Stop = Ok a in r) worked

        pub done_silent : tells → Silent old new
        done_silent = silent_new (let r : Result LineAnswer Stop = Ok a in r) worked

        pub done_same : IsSameSession s now
        done_same = same_as kept_now next flag

        pub done_counts : let r : Result LineAnswer Stop = Ok a in StopsByCount old new r
        done_counts = none_stop old new (let r : Result LineAnswer Stop = Ok a in r) (none_risen_then old mid new none_mid none_then)

        pub done_hits : SuspendsByCounts s.table.rows now.table.rows old new
        done_hits =
            subst (λ (x : SessionState). SuspendsByCounts x.table.rows now.table.rows old new) same
            (suspends_as site.told next.told site.table.rows next.table.rows old new at.may.idle.same site_answered.may.idle.same (suspends_then site.told brought.told next.told old mid new none_mid.fell none_then.fell works.hits worked.hits))

        pub done_line : (next.table.is_ended ≡ false → IsSomeAnd kept_now.group (λ g. IsSoundForRows g next.told)) → (next.table.is_ended ≡ false → kept_now.group ≡ option_map (group_taken a.answer brought.told next.told) kept_mid.group) → IsDoneLine tells s now line after new a
        done_line rows taken =
            subst (λ (x : SessionState). IsDoneLine tells x now line after new a) same
            (in_time_done tells was site refl line after kept_mid.names kept_mid.group brought mid at_line site_is.level labels new kept_now.names names_are kept_now.group next a site_answered rows taken flag
            (flag_is ∙ sym (ap (λ (b : Bool). b || is_end_accepted a.answer) off)) worked.works.site done_keeps.home)

        pub done_does : (left : S → Option (List ℕ)) → line.time.0 < 2 ^ 64 → BreakOnAsTraces left line.time.0 lanes after → tells → (began : PlantState) → (let r : Result (Unit {0}) Stop = Ok tt in BringsOn left line.time.0 lanes after kept kept_mid site brought began old mid r)
            → (let r : Result LineAnswer Stop = Ok a in AnswersCommands line kept_mid kept_now brought next began mid new r) → (let r : Result LineAnswer Stop = Ok a in DoesLine left line s now lanes after began old new r)
        done_does left short broke told began brings answers = line_does left told began short broke brings flag (let r : Result LineAnswer Stop = Ok a in r) site_answered worked answers
