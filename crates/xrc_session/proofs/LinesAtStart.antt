-- What a line before the start leaves: one that starts nothing, and the one that starts the session.
use Rattle.std.proofs.Common.{◌≡◌, ℕ, true, false, List, [], Option, Some, None, Result, Ok, Err, refl, sym, ap, subst, ◌∙◌, arith}
use Rattle.std.specs.Prelude.{IfOk, IfSome, IsSomeAnd, MatchOption, OnErr, OnOk}
use Rattle.std.specs.List.{Contains}
use Rattle.crash_plant.specs.Calls.{SameSite}
use Rattle.crash_plant.specs.Choices.{AtNow}
use Rattle.crash_plant.specs.Moments.{PlantState}
use Rattle.crash_plant.proofs.Steps.{works_on_here}
use Rattle.pair_table.specs.declared.command.Change.{Change}
use Rattle.pair_table.specs.declared.command.Change.TheVariants as changes
use Rattle.pair_table.specs.declared.command.Command.{Command}
use Rattle.pair_table.specs.declared.command.CommandError.{CommandError}
use Rattle.pair_table.specs.declared.command.CommandError.TheVariants as errors
use Rattle.pair_table.specs.declared.command.Refusal.{Refusal}
use Rattle.pair_table.specs.declared.level.Level.{Level}
use Rattle.pair_table.specs.declared.row.PairRow.{PairRow}
use Rattle.pair_table.specs.Commands.{answer, table_after}
use Rattle.pair_table.specs.Naming.{Naming}
use Rattle.pair_table.specs.Refusals.{refusal}
use Rattle.pair_table.specs.Tables.{Table}
use Rattle.site_store.specs.Sites.{SiteState}
use Rattle.mover.specs.declared.lane.Lane.{Lane}
use Rattle.xrc_command.specs.declared.line.Line.{Line}
use Rattle.xrc_session.specs.declared.answering.LineAnswer.{LineAnswer}
use Rattle.xrc_session.specs.Answering.{answer_said}
use Rattle.xrc_session.specs.LinePauses.{IsAtSite, IsBetween, IsUnstarted}
use Rattle.xrc_session.specs.Frames.{SuspendsByCounts}
use Rattle.xrc_session.specs.Lines.{IsBegunTable, IsStartAnswered, IsStartedAt}
use Rattle.xrc_session.specs.Replying.{level_in}
use Rattle.xrc_session.specs.Starting.{BeginsByLine, MeansStart, level_started}
use Rattle.xrc_session.specs.States.{SessionState}
use Rattle.xrc_session.proofs.LinesBefore.{told_answer, told_table}
use Rattle.xrc_session.proofs.LinesBegun.{started_means}
use Rattle.xrc_session.proofs.SafeStarts.{begins_none, leaves_here}

-- ---- the table's command

-- The answer that has a start's level is that of a start that was done.
pub level_in_done : (answered : Result Change Refusal) (c : Command) (level : Level) → level_in answered c ≡ Some level → answered ≡ Ok changes.Started
level_in_done (Ok changes.Nothing) c level is = absurd cc
level_in_done (Ok changes.Started) c level is = refl
level_in_done (Ok (changes.Added device)) c level is = absurd cc
level_in_done (Ok (changes.Resumed device)) c level is = absurd cc
level_in_done (Ok (changes.Gone devices)) c level is = absurd cc
level_in_done (Ok (changes.Suspended devices)) c level is = absurd cc
level_in_done (Ok changes.Ended) c level is = absurd cc
level_in_done (Err why) c level is = absurd cc

-- What the session's own table tells of a line's command, and what the table is after it.
module _ (names : Naming) (s : SessionState) (table now : Table) (line : Line) (done : Result Change CommandError) (told : Result Change Refusal) (table_is : table ≡ s.table) (change : IfOk done (λ change. answer names table line.session line.command ≡ Ok change))
    (refused : (why : Refusal) → done ≡ Err (errors.Refused why) → refusal names table line.session line.command ≡ Some why) (same : answer_said done ≡ Ok told) where
  pub answer_is : told ≡ answer names s.table line.session line.command
  answer_is = told_answer names table line.session line.command line.time.0 done told change refused same ∙ ap (λ (t : Table). answer names t line.session line.command) table_is

  pub table_now : OnOk done (now ≡ table_after names table line.session line.command line.time.0) → OnErr done (now ≡ table) → now ≡ table_after names s.table line.session line.command line.time.0
  table_now ok err =
      told_table names table line.session line.command line.time.0 now done told ok err refused same
      ∙ ap (λ (t : Table). table_after names t line.session line.command line.time.0) table_is

-- ---- no device is worked on

pub same_here : (old : PlantState) → SameSite old old
same_here old = (works_on_here (Unit {0}) (λ d. ⊥) old).site

-- A line that starts nothing, or that stops before anything is done, begins nothing.
pub begins_here : (session : List ℕ) (line : Line) (old : PlantState) → BeginsByLine session line old old
begins_here session line old = begins_none session line old old (omega arith) (same_here old) (leaves_here old) (λ t from to. let now : t ≡ old.clock = omega (arith, from, to) in ap old.said now)

-- ---- the table has taken a start

-- Its session is as before but for the table.
pub begun_table : {S : Type 0} (tells : Type 0) (s now : SessionState) (lanes : List (Lane S)) (plant : PlantState) → IsBetween tells s lanes plant → s.site ≡ None → now ≡ record s { table = now.table } → IsBegunTable tells now lanes plant
begun_table tells s now lanes plant between none is = record { before = s; between = between; unstarted = none; is = is }

pub kept_but_table : (view s : SessionState) (table : Table) → view ≡ s → s.site ≡ None → record view { table = table; site = None } ≡ record s { table = table }
kept_but_table view s table is none = λ i. record (is i) { table = table; site = sym none i }

-- What has started since then has started since before.
pub started_since : (level : Level) (at : ℕ) (s now next : SessionState) → now.session ≡ s.session → now.controls ≡ s.controls → IsStartedAt level at now next → IsStartedAt level at s next
started_since level at s now next session controls started = record {
  same = record { session = started.same.session ∙ session; controls = started.same.controls ∙ controls };
  table = started.table ∙ (λ i. record { session = session i; is_started = true; is_ended = false; rows = [] });
  started = started.started;
}

-- ---- the session has started

module _ {S : Type 0} (tells : Type 0) (s next : SessionState) (lanes : List (Lane S)) (level : Level) (at : ℕ) (old new : PlantState) (between : IsBetween tells next lanes new) (started : IsStartedAt level at s next) where
  -- No row is suspended, since there is none.
  pub none_suspended : (rows : List PairRow) → SuspendsByCounts rows next.table.rows old new
  none_suspended rows r has = absurd (let low = (subst (λ (l : List PairRow). Contains l r) (ap (λ (t : Table). t.rows) started.table) has).1 in omega (arith, low))

  -- Whatever a crash leaves means just this session.
  pub means_begun : tells → SameSite old new → AtNow (MeansStart s.session level at old) new
  means_begun told same = by_site next.site between.place started.started refl
    where
      by_site : (o : Option SiteState) → MatchOption o (IsUnstarted next lanes) (IsAtSite tells next lanes new) → IsSomeAnd o (λ x. (x.level ≡ level) × (x.time ≡ at)) → next.site ≡ o → AtNow (MeansStart s.session level at old) new
      by_site None none is at_site = absurd is
      by_site (Some site) there is at_site = started_means tells told s.session level at site next.names old new same there.may (sym there.table ∙ started.table) is.0 is.1 there.flag

  -- The line is answered as a start.
  pub start_answered : (line : Line) (answered : LineAnswer) → level_started s.session line ≡ Some level → line.time.0 ≡ at → answered.answer ≡ Ok changes.Started → answered.tracks ≡ 0
      → IfSome (level_started s.session line) (λ l. IsStartAnswered next.site line.time.0 answered)
  start_answered line answered starts time is none =
      subst (λ (o : Option Level). IfSome o (λ l. IsStartAnswered next.site line.time.0 answered)) (sym starts)
      (record { is = is; tracks = none; time = subst (λ (n : ℕ). IsSomeAnd next.site (λ site. site.time ≡ n)) (sym time) (by_time next.site started.started) })
    where
      by_time : (o : Option SiteState) → IsSomeAnd o (λ site. (site.level ≡ level) × (site.time ≡ at)) → IsSomeAnd o (λ site. site.time ≡ at)
      by_time None is = is
      by_time (Some site) is = is.1
