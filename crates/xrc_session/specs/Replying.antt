-- The text of a line's reply, as a session composes it.
use Rattle.std.specs.Prelude.{ℕ, List, [], ◌++◌, map, Option, Some, None, Result, Ok, Err, if◌then◌else◌}
use Rattle.std.specs.Option.{option_map}
use Rattle.tod_stamp.specs.declared.stamp.Stamp.{Stamp}
use Rattle.ckd_track.specs.declared.write.Cause.{Cause}
use Rattle.pair_table.specs.declared.command.Change.{Change}
use Rattle.pair_table.specs.declared.command.Command.{Command}
use Rattle.pair_table.specs.declared.command.Change.TheVariants as changes
use Rattle.pair_table.specs.declared.command.Command.TheVariants.{Start}
use Rattle.pair_table.specs.declared.level.Level.{Level}
use Rattle.pair_table.specs.declared.command.Refusal.{Refusal}
use Rattle.sidefile.specs.Breaks.{stamp}
use Rattle.site_store.specs.Sites.{SiteState}
use Rattle.consistency.specs.Replying.{is_query}
use Rattle.xquery_report.specs.Replies.{reply_line}
use Rattle.xquery_report.specs.Reports.{report_text}
use Rattle.xrc_command.specs.declared.line.Line.{Line}
use Rattle.mover.specs.declared.lane.Lane.{Lane}
use Rattle.mover.specs.Lanes.{broken_by, reader_in}
use Rattle.mover.specs.Readers.{LaneReaderState}
use Rattle.xrc_session.specs.declared.answering.LineAnswer.{LineAnswer}

abbrev pub cause_in : Option LaneReaderState → Option Cause
cause_in reader = option_map (λ b. b.1) (broken_by reader)

-- for each controller in order, why its trace broke, if it has
abbrev pub causes_in : {S : Type 0} → List (Lane S) → List (Option Cause)
causes_in lanes = map (λ lane. cause_in (reader_in lane)) lanes

-- the site of which a command asks the report: a query that isn't refused, from the start on
abbrev pub reported_site : Option SiteState → Command → Result Change Refusal → Option SiteState
reported_site None command answered = None
reported_site (Some site) command (Ok change) = if is_query command then Some site else None
reported_site (Some site) command (Err why) = None

abbrev pub report_in : Option SiteState → List (Option Cause) → List ℕ
report_in None causes = []
report_in (Some site) causes = report_text site.table site.level site.time causes

-- the session's time, which a reply says from the start on
abbrev pub time_said : Option SiteState → Option Stamp
time_said site = option_map (λ s. stamp s.time) site

-- the reply to a line that was answered so
abbrev pub reply_composed : {S : Type 0} → Option SiteState → List (Lane S) → Line → LineAnswer → List ℕ
reply_composed site lanes line answered =
    report_in (reported_site site line.command answered.answer) (causes_in lanes) ++ reply_line line.time.0 line.command answered.answer answered.tracks (time_said site)

-- the level of a start that was done
abbrev pub level_in : Result Change Refusal → Command → Option Level
level_in (Ok changes.Started) (Start level) = Some level
level_in answered command = None
