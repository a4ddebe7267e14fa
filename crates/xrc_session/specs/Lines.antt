-- What a session's calls make of it, from line to line.
use Rattle.std.specs.Prelude.{◌≡◌, ℕ, ◌≤◌, List, [], true, false, Option, None, Ok, IfSome, IsSomeAnd, MatchOption}
use Rattle.crash_plant.specs.Calls.{NoneLent}
use Rattle.crash_plant.specs.Moments.{PlantState}
use Rattle.pair_table.specs.declared.command.Change.TheVariants.{Started}
use Rattle.pair_table.specs.declared.level.Level.{Level}
use Rattle.consistency.specs.Stages.{ScriptRun, breaks_of, names_of}
use Rattle.consistency.specs.Steps.{names_at}
use Rattle.record_rows.specs.Hits.{hit_now}
use Rattle.state_set.specs.Slots.{started_table}
use Rattle.site_store.specs.IdleSites.{IsSiteIdle}
use Rattle.site_store.specs.Sites.{SiteState}
use Rattle.mover.specs.declared.lane.Lane.{Lane}
use Rattle.mover.specs.Epochs.{LanesBrokeAs}
use Rattle.xrc_command.specs.declared.line.Line.{Line}
use Rattle.xrc_session.specs.declared.answering.LineAnswer.{LineAnswer}
use Rattle.xrc_session.specs.LinePauses.{IsBetween}
use Rattle.xrc_session.specs.Starting.{StandsStarted, level_started}
use Rattle.xrc_session.specs.States.{SessionState, session_time}

-- A session of a name over so many traces that hasn't started.
pub record IsNewSession (session : List ℕ) (controls : ℕ) (s : SessionState) : Type 0 where
  pub session_is : s.session ≡ session
  pub controls_are : s.controls ≡ controls
  pub unstarted : s.site ≡ None

-- A started session keeps its level and its labels.
abbrev pub KeepsStart : (old new : SessionState) → Type 0
KeepsStart old new = IfSome old.site (λ site. IsSomeAnd new.site (λ now. (now.level ≡ site.level) × (new.names.labels ≡ old.names.labels)))

-- A session that hasn't started starts exactly by a line that asks for it.
abbrev pub StartsByLine : Line → (old new : SessionState) → Type 0
StartsByLine line old new = old.site ≡ None → MatchOption (level_started old.session line) (new.site ≡ None) (λ level. IsSomeAnd new.site (λ site. site.level ≡ level))

-- A line that starts the session is answered so: it is started at the line's time, and nothing is copied.
pub record IsStartAnswered (site : Option SiteState) (at : ℕ) (answered : LineAnswer) : Type 0 where
  pub is : answered.answer ≡ Ok Started
  pub tracks : answered.tracks ≡ 0
  pub time : IsSomeAnd site (λ site. site.time ≡ at)

-- Name and controllers stay.
pub record IsSameSession (old new : SessionState) : Type 0 where
  pub session : new.session ≡ old.session
  pub controls : new.controls ≡ old.controls

-- A line was done, but for its reply: the session stands between lines again, at the line's time if it works, and no later.
pub record IsDoneLine {S : Type 0} (tells : Type 0) (old new : SessionState) (line : Line) (lanes : List (Lane S)) (plant : PlantState) (answered : LineAnswer) : Type 0 where
  pub between : IsBetween tells new lanes plant
  pub same : IsSameSession old new
  pub start : KeepsStart old new
  pub starts : StartsByLine line old new
  pub time : new.is_ended ≡ false → IfSome new.site (λ site. site.time ≡ line.time.0)
  pub upto : session_time new ≤ line.time.0

-- A session's own table has taken a start. All else is as before it.
pub record IsBegunTable {S : Type 0} (tells : Type 0) (s : SessionState) (lanes : List (Lane S)) (plant : PlantState) : Type 0 where
  pub before : SessionState
  pub between : IsBetween tells before lanes plant
  pub unstarted : before.site ≡ None
  pub is : s ≡ record before { table = s.table }

-- It has started, at a level and a time.
pub record IsStartedAt (level : Level) (at : ℕ) (old new : SessionState) : Type 0 where
  pub same : IsSameSession old new
  pub table : new.table ≡ started_table old.session []
  pub started : IsSomeAnd new.site (λ site. (site.level ≡ level) × (site.time ≡ at))

-- In a run it stands at its start's point, which whatever a crash leaves shows.
pub record StandsStartedAt {S : Type 0} (run : ScriptRun) (s : SessionState) (lanes : List (Lane S)) (now : PlantState) : Type 0 where
  pub stands : IsSomeAnd s.site (λ site. IsSomeAnd s.group (StandsStarted run site now))
  pub broke : LanesBrokeAs (session_time s) run.traces lanes
  pub named : IfSome s.site (λ site. s.names ≡ names_at site.time (breaks_of run) (names_of run))

-- ---- at the end

-- A session stands so that its run may be finished: it hasn't started, or nothing waits on its site. Once it has ended the journal has no record
-- after the mark.
pub record MayFinish (tells : Type 0) (s : SessionState) (plant : PlantState) : Type 0 where
  pub home : NoneLent plant
  pub unstarted : s.site ≡ None → s.table.is_started ≡ false
  pub idle : IfSome s.site (λ site. IsSiteIdle tells site plant)
  pub ended : IfSome s.site (λ site. s.is_ended ≡ site.table.is_ended)
  pub told : IfSome s.site (λ site. hit_now site.failed site.told ≡ [])
  pub empty : IfSome s.site (λ site. site.table.is_ended ≡ true → site.at ≡ site.mark.at)
