-- The reply that a session composes is the exact one.
use Rattle.std.proofs.Common.{◌≡◌, ℕ, suc, Bool, true, false, true≢false, List, [], ◌∷◌, ◌++◌, length, map, Option, Some, None, refl, sym, ap, subst, ◌∙◌, arith, slice_get}
use Rattle.std.specs.Prelude.{◌&&◌, ◌||◌, not, is_none, is_ok, Result, Ok, Err, IfSome, MatchOption, bytes_eq, nat_lt, if◌then◌else◌, slice_index_or}
use Rattle.std.specs.Option.{option_map}
use Rattle.std.proofs.lemmas.Bool.{and_parts}
use Rattle.crash_plant.specs.Moments.{PlantState}
use Rattle.ckd_track.specs.declared.write.Cause.{Cause}
use Rattle.tod_stamp.specs.declared.stamp.Stamp.{Stamp}
use Rattle.write_trace.specs.declared.trace.Trace.{Trace}
use Rattle.sidefile.specs.Breaks.{Break, break_of, cause_at, is_below, stamp}
use Rattle.pair_table.specs.declared.command.Change.{Change}
use Rattle.pair_table.specs.declared.command.Command.{Command}
use Rattle.pair_table.specs.declared.command.Command.TheVariants.{Start, AddPair, DelPair, Suspend, Query, End}
use Rattle.pair_table.specs.declared.command.Refusal.{Refusal}
use Rattle.pair_table.specs.declared.command.Refusal.TheVariants.{Ended, NoSession}
use Rattle.pair_table.specs.declared.level.Level.{Level}
use Rattle.pair_table.specs.Commands.{accepted}
use Rattle.pair_table.specs.Refusals.{refusal}
use Rattle.pair_table.specs.Tables.{Table}
use Rattle.row_changes.specs.Changes.{Timed}
use Rattle.xquery_report.specs.Replies.{answer_part, command_part, reply_line, said_part}
use Rattle.xquery_report.specs.Reports.{report_text}
use Rattle.tod_stamp.specs.Stamps.{stamp_text}
use Rattle.site_store.specs.Sites.{SiteState}
use Rattle.consistency.specs.Answering.{ReplyContent}
use Rattle.consistency.specs.Stages.{ScriptRun, Stage, accepts, breaks_of, names_of}
use Rattle.consistency.specs.Courses.{Answered, replied_after}
use Rattle.consistency.specs.Leads.{Point}
use Rattle.consistency.specs.Replying.{is_query, is_reported, own_line, report_before, said_tracks}
use Rattle.consistency.specs.Steps.{commanded, names_at, table_after_line, table_on_the_way}
use Rattle.consistency.proofs.Answering.{content_as_accepted}
use Rattle.consistency.proofs.Keeping.{stage_answered}
use Rattle.consistency.proofs.Lines.{stage_more}
use Rattle.mover.specs.declared.lane.Lane.{Lane}
use Rattle.mover.specs.Epochs.{LanesBrokeAs, break_below}
use Rattle.mover.specs.Lanes.{broken_by, reader_in}
use Rattle.xrc_command.specs.declared.line.Line.{Line}
use Rattle.xrc_session.specs.declared.answering.LineAnswer.{LineAnswer}
use Rattle.xrc_session.specs.LinePauses.{HasNotBegun, RestsAtSite, StandsAfterLines, stage_after_text}
use Rattle.xrc_session.specs.Replying.{cause_in, causes_in, reply_composed, report_in, reported_site, time_said}
use Rattle.xrc_session.specs.States.{SessionState, site_time}
use Rattle.xrc_session.specs.Steps.{IsExactAfter, IsToReply, content_after_lines, line_answered}
use Rattle.xrc_session.specs.Trails.{Trail, first_leg}
use Rattle.xrc_session.proofs.Exactly.{part_told}

-- ---- causes

-- Why a trace broke, if it has below a time, is the cause that a report shows then.
cause_is : (time : ℕ) (b : Option Break) → option_map (λ (x : Stamp × Cause). x.1) (break_below time b) ≡ (if is_below (option_map (λ (x : Break). x.upto) b) time then option_map (λ (x : Break). x.cause) b else None)
cause_is time None = refl
cause_is time (Some b) = by_time (nat_lt b.upto time)
  where
    by_time : (c : Bool) → option_map (λ (x : Stamp × Cause). x.1) (if c then Some (stamp b.upto, b.cause) else None) ≡ (if c then Some b.cause else None)
    by_time true = refl
    by_time false = refl

pub causes_are : {S : Type 0} (time : ℕ) (traces : List Trace) (lanes : List (Lane S)) → length traces ≡ length lanes
    → ((k : ℕ) (t : Trace) (d : Lane S) → slice_get traces k ≡ Some t → broken_by (reader_in (slice_index_or lanes k d)) ≡ break_below time (break_of t)) → causes_in lanes ≡ map (cause_at time) traces
causes_are time [] [] same each = refl
causes_are time [] (lane ∷ lanes) same each = absurd (omega (arith, same))
causes_are time (t ∷ traces) [] same each = absurd (omega (arith, same))
causes_are time (t ∷ traces) (lane ∷ lanes) same each =
    let head : cause_in (reader_in lane) ≡ cause_at time t = ap (option_map (λ (x : Stamp × Cause). x.1)) (each 0 t lane refl) ∙ cause_is time (break_of t) in
    let tail : causes_in lanes ≡ map (cause_at time) traces = causes_are time traces lanes (omega (arith, same)) (λ k u d at. each (suc k) u d at) in
    (λ i. head i ∷ tail i)

-- ---- an accepted query

-- A query that is accepted is one of a session that has started and not ended.
query_of_active : (run : ScriptRun) (table : Table) (line : Line) → line.command ≡ Query → accepts run table line ≡ true → (table.is_started ≡ true) × (table.is_ended ≡ false)
query_of_active run table line query accepted =
    by_flags table.is_ended table.is_started (bytes_eq line.session table.session)
    (subst (λ (c : Command). is_none (refusal (names_at line.time.0 (breaks_of run) (names_of run)) table line.session c) ≡ true) query accepted)
  where
    by_flags : (e st same : Bool) → is_none (if e then Some Ended else if not same || (not st && true) then Some NoSession else None) ≡ true → (st ≡ true) × (e ≡ false)
    by_flags true st same is = absurd cc
    by_flags false true same is = (refl, refl)
    by_flags false false true is = absurd cc
    by_flags false false false is = absurd cc

-- It leaves the table.
query_leaves : (run : ScriptRun) (table : Table) (line : Line) → line.command ≡ Query → accepts run table line ≡ true → commanded (breaks_of run) (names_of run) table line ≡ table
query_leaves run table line query accepts_it =
    let names = names_at line.time.0 (breaks_of run) (names_of run) in
    let flags = query_of_active run table line query accepts_it in
    ap (λ (b : Bool). if b then accepted names line.time.0 line.command table else table) accepts_it ∙ ap (λ (c : Command). accepted names line.time.0 c table) query
    ∙ (λ i. record table { is_started = sym flags.0 i; is_ended = sym flags.1 i })

of_query : (c : Command) → is_query c ≡ true → c ≡ Query
of_query Query is = refl
of_query (Start level) is = absurd cc
of_query (AddPair primary secondary group) is = absurd cc
of_query (DelPair choice) is = absurd cc
of_query (Suspend choice) is = absurd cc
of_query End is = absurd cc

-- ---- the reply

-- A started session's report is that of the line, and one that hasn't started has none.
report_if : (site : SiteState) (c : Command) (r : Result Change Refusal) (b : Bool) → is_ok r ≡ b → (causes : List (Option Cause)) → report_in (reported_site (Some site) c r) causes ≡ (if is_query c && b then report_text site.table site.level site.time causes else [])
report_if site c (Ok change) true is causes = by_query (is_query c)
  where
    by_query : (q : Bool) → report_in (if q then Some site else None) causes ≡ (if q && true then report_text site.table site.level site.time causes else [])
    by_query true = refl
    by_query false = refl
report_if site c (Ok change) false is causes = absurd cc
report_if site c (Err why) true is causes = absurd cc
report_if site c (Err why) false is causes = by_query (is_query c)
  where
    by_query : (q : Bool) → [] ≡ (if q && false then report_text site.table site.level site.time causes else [])
    by_query true = refl
    by_query false = refl

-- What a session is when it composes a reply: its table has started exactly if it has a site, whose table it is.
pub record IsAsTold (s : SessionState) : Type 0 where
  pub unstarted : s.site ≡ None → s.table.is_started ≡ false
  pub started : IfSome s.site (λ site. (site.table ≡ s.table) × (s.table.is_started ≡ true))

module _ {S : Type 0} (run : ScriptRun) (lines : List Answered) (trail : Trail) (text : List ℕ) (line : Line) (answer : LineAnswer) (s : SessionState) (lanes : List (Lane S)) (began now : PlantState) (to : IsToReply run lines trail text line answer s lanes began now) (as_told : IsAsTold s)
    (many : length run.traces ≡ length lanes) (reply : List ℕ) where
  abbrev stage : Stage
  stage = stage_after_text run lines text began

  abbrev a : Answered
  a = line_answered run lines text line to.changes to.hits began reply

  abbrev table : Table
  table = table_on_the_way run.level to.changes stage.table

  abbrev content : ReplyContent
  content = content_after_lines run lines trail text began a

  stands : StandsAfterLines run (lines ++ a ∷ []) (stage_after_text run (lines ++ a ∷ []) [] began) trail s began now
  stands = to.stands reply

  -- The line's table is the session's.
  table_is : a.table ≡ s.table
  table_is = sym (ap (λ (x : Stage). x.table) (stage_answered run began.script lines a)) ∙ stands.table

  accepted_as : is_ok answer.answer ≡ accepts run table line
  accepted_as = ap is_ok (sym (to.tells reply).is) ∙ content_as_accepted run stage (first_leg run (lines ++ a ∷ []) trail).point trail.points (length lines) text reply line to.changes to.hits

  -- ---- a session that has started

  module _ (site : SiteState) (is : s.site ≡ Some site) where
    rests : RestsAtSite run (lines ++ a ∷ []) (stage_after_text run (lines ++ a ∷ []) [] began) trail s began now site
    rests = subst (λ (o : Option SiteState). MatchOption o (HasNotBegun trail began now) (RestsAtSite run (lines ++ a ∷ []) (stage_after_text run (lines ++ a ∷ []) [] began) trail s began now)) is stands.place

    facts : (site.table ≡ s.table) × (s.table.is_started ≡ true)
    facts = subst (λ (o : Option SiteState). IfSome o (λ x. (x.table ≡ s.table) × (s.table.is_started ≡ true))) is as_told.started

    time_is : site.time ≡ replied_after stage line
    time_is =
        sym (ap (λ (p : Point). p.time) rests.under_way.at.here) ∙ ap (λ (p : Point). p.time) rests.rest.point
        ∙ ap (λ (x : Stage). x.replied) (stage_more run lines a)

    level_is : run.level ≡ site.level
    level_is = subst (λ (o : Option SiteState). IfSome o (λ x. run.level ≡ x.level)) is stands.its.level

    told_is : option_map stamp content.time ≡ time_said s.site
    told_is =
        ap (λ (b : Bool). option_map stamp (if b then Some (replied_after stage line) else None)) (ap (λ (x : Table). x.is_started) table_is ∙ facts.1)
        ∙ ap (λ (n : ℕ). Some (stamp n)) (sym time_is) ∙ ap time_said (sym is)

    -- After a line that is answered with a report the table is the one that the line finds.
    reported_table : is_reported run table line ≡ true → (site.table ≡ table) × (site.time ≡ line.time.0)
    reported_table reported =
        let parts = and_parts (is_query line.command) (accepts run table line) reported in
        let query = of_query line.command parts.0 in
        let active = query_of_active run table line query parts.1 in (
          facts.0 ∙ sym table_is
              ∙ ap (λ (hits : List Timed). table_after_line run.level (breaks_of run) (names_of run) stage.table line to.changes hits) (to.unhit reported)
              ∙ query_leaves run table line query parts.1,
          time_is ∙ ap (λ (e : Bool). if e then stage.replied else line.time.0) active.1,
        )

    broke : LanesBrokeAs site.time run.traces lanes
    broke = subst (λ (o : Option SiteState). LanesBrokeAs (site_time o) run.traces lanes) is to.broke

    causes : causes_in lanes ≡ map (cause_at site.time) run.traces
    causes = causes_are site.time run.traces lanes many broke.each

    -- The report is that of the line.
    report_by : (b : Bool) → is_reported run table line ≡ b → report_before run table line ≡ (if b then report_text site.table site.level site.time (causes_in lanes) else [])
    report_by false not_reported = ap (λ (b : Bool). if b then report_text table run.level line.time.0 (map (cause_at line.time.0) run.traces) else []) not_reported
    report_by true reported =
        let same = reported_table reported in
        ap (λ (b : Bool). if b then report_text table run.level line.time.0 (map (cause_at line.time.0) run.traces) else []) reported
        ∙ ap (λ (x : Table). report_text x run.level line.time.0 (map (cause_at line.time.0) run.traces)) (sym same.0)
        ∙ ap (λ (l : Level). report_text site.table l line.time.0 (map (cause_at line.time.0) run.traces)) level_is
        ∙ ap (λ (n : ℕ). report_text site.table site.level n (map (cause_at n) run.traces)) (sym same.1)
        ∙ ap (λ (l : List (Option Cause)). report_text site.table site.level site.time l) (sym causes)

    report_is : report_before run table line ≡ report_in (reported_site s.site line.command answer.answer) (causes_in lanes)
    report_is =
        report_by (is_reported run table line) refl
        ∙ ap (λ (b : Bool). if is_query line.command && b then report_text site.table site.level site.time (causes_in lanes) else []) (sym accepted_as)
        ∙ sym (report_if site line.command answer.answer (is_ok answer.answer) refl (causes_in lanes))
        ∙ ap (λ (o : Option SiteState). report_in (reported_site o line.command answer.answer) (causes_in lanes)) (sym is)

  -- ---- a session that hasn't

  module _ (is : s.site ≡ None) where
    unstarted : a.table.is_started ≡ false
    unstarted = ap (λ (x : Table). x.is_started) table_is ∙ as_told.unstarted is

    told_none : option_map stamp content.time ≡ time_said s.site
    told_none = ap (λ (b : Bool). option_map stamp (if b then Some (replied_after stage line) else None)) unstarted ∙ ap time_said (sym is)

    not_reported : (b : Bool) → is_reported run table line ≡ b → b ≡ false
    not_reported false reported = refl
    not_reported true reported =
        let parts = and_parts (is_query line.command) (accepts run table line) reported in
        let query = of_query line.command parts.0 in
        let active = query_of_active run table line query parts.1 in
        let after : a.table ≡ table =
        ap (λ (hits : List Timed). table_after_line run.level (breaks_of run) (names_of run) stage.table line to.changes hits) (to.unhit reported)
        ∙ query_leaves run table line query parts.1 in
        absurd (true≢false (sym active.0 ∙ sym (ap (λ (x : Table). x.is_started) after) ∙ unstarted))

    report_none : report_before run table line ≡ report_in (reported_site s.site line.command answer.answer) (causes_in lanes)
    report_none =
        ap (λ (b : Bool). if b then report_text table run.level line.time.0 (map (cause_at line.time.0) run.traces) else []) (not_reported (is_reported run table line) refl)
        ∙ ap (λ (o : Option SiteState). report_in (reported_site o line.command answer.answer) (causes_in lanes)) (sym is)

  -- ---- both

  pub told_alike : option_map stamp content.time ≡ time_said s.site
  told_alike = by_site s.site refl
    where
      by_site : (o : Option SiteState) → s.site ≡ o → option_map stamp content.time ≡ time_said s.site
      by_site None is = told_none is
      by_site (Some site) is = told_is site is

  report_alike : report_before run table line ≡ report_in (reported_site s.site line.command answer.answer) (causes_in lanes)
  report_alike = by_site s.site refl
    where
      by_site : (o : Option SiteState) → s.site ≡ o → report_before run table line ≡ report_in (reported_site s.site line.command answer.answer) (causes_in lanes)
      by_site None is = report_none is
      by_site (Some site) is = report_is site is

  own_is : own_line line content ≡ reply_line line.time.0 line.command answer.answer answer.tracks (time_said s.site)
  own_is =
      let tells = to.tells reply in
      ap (λ (p : List ℕ). stamp_text line.time.0 ++ command_part line.command ++ p ++ said_part (option_map stamp content.time) ++ 10 ∷ [])
      (part_told line.command content.answer content.tracks answer.tracks (tells.tracks ∙ ap (λ (r : Result Change Refusal). said_tracks line.command r answer.tracks) (sym tells.is)) ∙ ap (λ (r : Result Change Refusal). answer_part line.command r answer.tracks) tells.is)
      ∙ ap (λ (o : Option Stamp). stamp_text line.time.0 ++ command_part line.command ++ answer_part line.command answer.answer answer.tracks ++ said_part o ++ 10 ∷ []) told_alike

  -- The reply that the session composes is exact.
  pub reply_is_exact : reply ≡ reply_composed s.site lanes line answer → IsExactAfter run lines trail text began a
  reply_is_exact is =
      is ∙ ap (λ (l : List ℕ). l ++ reply_line line.time.0 line.command answer.answer answer.tracks (time_said s.site)) (sym report_alike) ∙ ap (λ (l : List ℕ). report_before run table line ++ l) (sym own_is)
