-- How a script's run goes on from one line to the next, or stops in it.
use Rattle.std.proofs.Common.{◌≡◌, inl, ℕ, ◌<◌, ◌≤◌, Bool, true, false, List, [], ◌∷◌, ◌++◌, length, Option, Some, None, Result, Ok, Err, refl, sym, ap, subst, ◌∙◌, append-nil, arith}
use Rattle.std.specs.Prelude.{◌+◌, ◌-◌, ◌&&◌, IfSome, IsSomeAnd, MatchOption, if◌then◌else◌, nat_le, nat_lt}
use Rattle.std.proofs.lemmas.Bool.{leb-true, ltb-true}
use Rattle.std.proofs.lemmas.List.{length_push}
use Rattle.crash_plant.specs.declared.device.Device.TheVariants.{Control}
use Rattle.crash_plant.specs.Calls.{HearsNothing}
use Rattle.crash_plant.specs.Moments.{PlantState}
use Rattle.pair_table.specs.declared.level.Level.{Level}
use Rattle.pair_table.specs.declared.names.NamedDevice.{NamedDevice}
use Rattle.site_store.specs.Sites.{SiteState}
use Rattle.consistency.specs.Stages.{ScriptRun}
use Rattle.consistency.specs.Courses.{Answered, first_line, last_line_time, later_line, most_lines}
use Rattle.script_lines.specs.declared.next.Next.TheVariants as next
use Rattle.script_lines.specs.NextLines.{IsNextLine}
use Rattle.xrc_command.specs.declared.line.Line.{Line}
use Rattle.xrc_command.specs.Reading.{line_spelled}
use Rattle.xrc_command.proofs.LineReading.{spelled_is_line}
use Rattle.mover.specs.declared.lane.Lane.{Lane}
use Rattle.mover.specs.Epochs.{AllTurnOut, AreSameLanes}
use Rattle.mover.proofs.TurningOut.{traces_turn_out}
use Rattle.xrc_status.specs.declared.stop.Stop.{Stop}
use Rattle.xrc_status.specs.declared.stop.Stop.TheVariants.{BadLine}
use Rattle.xrc_session.specs.LinePauses.{IsBetween, IsRunOfSession, IsRunOver, LeavesAll}
use Rattle.xrc_session.specs.Frames.{KeepsPlant}
use Rattle.xrc_session.specs.Lanes.{AllWent}
use Rattle.xrc_session.specs.Lines.{IsSameSession, KeepsStart, StartsByLine}
use Rattle.xrc_session.specs.Runs.{AreLabels, AreLabelsRead, IsBadAfter, IsKnownSession, RunsLines}
use Rattle.xrc_session.specs.Starting.{BeginsByLine, BeginsRun, BeginsSafely, HasBegunRun, HasStartedRun, RepliesToStart, level_started, reply_to_start}
use Rattle.xrc_session.specs.Starting.BeginsRun.{Unstarted}
use Rattle.xrc_session.specs.States.{SessionState, session_time}
use Rattle.xrc_session.specs.Steps.{AnswersLine, EndsLine, known_by}
use Rattle.xrc_session.specs.Stops.{HasRunCause, HasStopCause, StopsByCount}
use Rattle.xrc_session.proofs.HeardLines.{HasHeardLines, heard_now, last_more, lines_heard, start_heard}
use Rattle.xrc_session.proofs.Hearings.{next_one}
use Rattle.xrc_session.proofs.InTurn.{NoneFell, NoneRisen, cause_before, counts_after, fell_then, keeps_then, none_risen_then, rises_before, went_read, went_then}
use Rattle.xrc_session.proofs.LinesDone.{known_started, known_unstarted}
use Rattle.xrc_session.proofs.LinesNext.{Heard, fell_heard, heard_begun, heard_counts, heard_keeps, labels_mid}
use Rattle.xrc_session.proofs.LinesBegun.{between_may_go_on}
use Rattle.xrc_session.proofs.LinesRun.{IsRunning, hears_line, hears_on, labels_before, labels_later, over_before, whole_not_bad}
use Rattle.xrc_session.proofs.Readying.{heads_stay}
use Rattle.xrc_session.proofs.SafeStarts.{begins_by_start, begun_run, has_started, leaves_then, started_later}

-- ---- a line that counts

-- What counts at a number and after a time.
line_counts : (number before : ℕ) (o : Option Line) (line : Line) → later_line number before o ≡ Some line → (number < most_lines) × (before ≤ line.time.0) × (o ≡ Some line)
line_counts number before None line is = absurd cc
line_counts number before (Some l) line is = by_bound (nat_lt number most_lines) (nat_le before l.time.0) refl refl is
  where
    by_bound : (b c : Bool) → nat_lt number most_lines ≡ b → nat_le before l.time.0 ≡ c → (if b && c then Some l else None) ≡ Some line → (number < most_lines) × (before ≤ line.time.0) × (Some l ≡ Some line)
    by_bound true true low late same =
        let line_is : l ≡ line = cc in
        (ltb-true number most_lines low, subst (λ (x : Line). before ≤ x.time.0) line_is (leb-true before l.time.0 late), same)
    by_bound true false low late same = absurd cc
    by_bound false c low late same = absurd cc

-- The time of a line isn't zero.
line_late : (bytes : List ℕ) (line : Line) → line_spelled bytes ≡ Some line → 1 ≤ line.time.0
line_late bytes line is = (spelled_is_line bytes line is).positive

-- ---- a line

module _ {S : Type 0} {tells : Type 0} {left : S → Option (List ℕ)} {faults : S → ℕ} {first s : SessionState} {lanes lanes_now : List (Lane S)} {began old : PlantState} {number before : ℕ} {mid : PlantState} {text : List ℕ}
    (h : Heard tells left faults first s lanes lanes_now began old number before mid text) (line : Line) (is : IsNextLine tells number before text mid.script (next.Line line)) where
  line_at : (number - 1 < most_lines) × (before ≤ line.time.0) × (line_spelled (first_line text) ≡ Some line)
  line_at = line_counts (number - 1) before (line_spelled (first_line text)) line is.1

  pub line_time : (1 ≤ line.time.0) × (session_time s ≤ line.time.0)
  line_time = (line_late (first_line text) line line_at.2, omega (arith, h.running.time, line_at.1))

-- What a line that was heard made of a session, of its lanes and of the plant.
pub record LineWent {S : Type 0} (tells : Type 0) (left : S → Option (List ℕ)) (faults : S → ℕ) (s nxt : SessionState) (lanes after : List (Lane S)) (old mid new : PlantState) (number before : ℕ) (text : List ℕ) (line : Line) : Type 0 where
  pub is : IsNextLine tells number before text mid.script (next.Line line)
  pub quiet : mid.console_faults ≡ old.console_faults
  pub same : IsSameSession s nxt
  pub keeps_line : KeepsPlant tells mid new
  pub fell : NoneFell mid new
  pub went : AllWent left faults lanes after
  pub unheard : tells → HearsNothing mid new
  pub begins : tells → s.site ≡ None → BeginsByLine s.session line mid new
  pub labels : tells → s.site ≡ None → IfSome nxt.site (λ site. AreLabelsRead mid new nxt.names.labels)

pub line_went_by : {S : Type 0} {tells : Type 0} {left : S → Option (List ℕ)} {faults : S → ℕ} {first s : SessionState} {lanes lanes_now : List (Lane S)} {began old : PlantState} {number before : ℕ} {mid : PlantState} {text : List ℕ} {nxt : SessionState} {after : List (Lane S)} {new : PlantState} → Heard tells left faults first s lanes lanes_now began old number before mid text
    → (line : Line) → IsNextLine tells number before text mid.script (next.Line line) → mid.console_faults ≡ old.console_faults → IsSameSession s nxt → KeepsPlant tells mid new → NoneFell mid new → AllWent left faults lanes_now after → (tells → HearsNothing mid new)
    → (tells → s.site ≡ None → BeginsByLine s.session line mid new) → (tells → s.site ≡ None → IfSome nxt.site (λ site. AreLabelsRead mid new nxt.names.labels)) → LineWent tells left faults s nxt lanes_now after old mid new number before text line
line_went_by h line is quiet same keeps fell went unheard begins labels =
    record { is = is; quiet = quiet; same = same; keeps_line = keeps; fell = fell; went = went; unheard = unheard; begins = begins; labels = labels }

module _ {S : Type 0} {tells : Type 0} {left : S → Option (List ℕ)} {faults : S → ℕ} {first s : SessionState} {lanes lanes_now : List (Lane S)} {began old : PlantState} {number before : ℕ} {mid : PlantState} {text : List ℕ} {nxt : SessionState} {after : List (Lane S)} {new : PlantState} {line : Line}
    (h : Heard tells left faults first s lanes lanes_now began old number before mid text) (d : LineWent tells left faults s nxt lanes_now after old mid new number before text line) where
  fell_line : NoneFell old new
  fell_line = fell_then old mid new (fell_heard h) d.fell

  pub line_keeps : KeepsPlant tells began new
  line_keeps = keeps_then tells began mid new (heard_keeps h) d.keeps_line

  pub line_went : AllWent left faults lanes after
  line_went = went_then left faults lanes lanes_now after h.running.went d.went

  begins_first : tells → s.site ≡ None → BeginsByLine first.session line mid new
  begins_first told none = subst (λ (n : List ℕ). BeginsByLine n line mid new) h.running.same.session (d.begins told none)

  unstarted_mid : tells → s.site ≡ None → LeavesAll began mid
  unstarted_mid told none = subst (λ (o : Option SiteState). HasBegunRun first.session o began mid) none (heard_begun h told)

  started_mid : tells → (site : SiteState) → s.site ≡ Some site → HasStartedRun first.session began mid
  started_mid told site some = subst (λ (o : Option SiteState). HasBegunRun first.session o began mid) some (heard_begun h told)

  started_new : tells → HasStartedRun first.session began mid → HasStartedRun first.session began new
  started_new told started =
      started_later first.session began mid new [] d.keeps_line.site (d.keeps_line.elapses told) (d.keeps_line.grows told) ((d.unheard told).heard ∙ sym (append-nil (mid.heard mid.clock))) started

  up_to_mid : tells → began.clock ≤ mid.clock
  up_to_mid told = (((heard_keeps h).elapses told).kept Control).later

  -- Whether the line starts the session.
  starts_none : tells → s.site ≡ None → level_started first.session line ≡ None → LeavesAll began new
  starts_none told none refused =
      leaves_then began mid new (up_to_mid told) (unstarted_mid told none) (d.keeps_line.elapses told)
      (subst (λ (o : Option Level). MatchOption o (LeavesAll mid new) (λ level. BeginsSafely first.session level line.time.0 mid new)) refused (begins_first told none))

  starts_some : tells → s.site ≡ None → (level : Level) → level_started first.session line ≡ Some level → BeginsRun first.session began new
  starts_some told none level starts =
      let was = h.running.heard told none in
      begins_by_start first.session line level began mid new was.lines text (unstarted_mid told none) (heard_keeps h).site ((heard_keeps h).elapses told) (start_heard first.session tells told began old mid number before text line was (h.hears told) d.is level starts)
      (heard_now first.session tells told began old mid number before text line was (h.hears told) d.is) d.keeps_line.site (d.keeps_line.elapses told) (d.unheard told).heard starts (begins_first told none)

  pub line_begins : tells → BeginsRun first.session began new
  line_begins told = by_site s.site refl
    where
      by_level : s.site ≡ None → (o : Option Level) → level_started first.session line ≡ o → BeginsRun first.session began new
      by_level none None refused = Unstarted (starts_none told none refused)
      by_level none (Some level) starts = starts_some told none level starts

      by_site : (o : Option SiteState) → s.site ≡ o → BeginsRun first.session began new
      by_site None none = by_level none (level_started first.session line) refl
      by_site (Some site) some = begun_run first.session (Some site) began new (started_new told (started_mid told site some))

  -- ---- the session by which its runs are known

  labels_new : tells → (o : Option SiteState) → s.site ≡ o → (k : SessionState) → known_by s nxt ≡ k → IfSome k.site (λ site. AreLabels began new 0 k.names.labels)
  labels_new told None none k known =
      subst (λ (x : SessionState). IfSome x.site (λ site. AreLabels began new 0 x.names.labels)) (sym (known_unstarted s nxt none) ∙ known) (by_site nxt.site (d.labels told none))
    where
      by_site : (o : Option SiteState) → IfSome o (λ site. AreLabelsRead mid new nxt.names.labels) → IfSome o (λ site. AreLabels began new 0 nxt.names.labels)
      by_site None no_labels = tt
      by_site (Some site) has = labels_before began mid new nxt.names.labels (heard_keeps h).site (unstarted_mid told none) has.are
  labels_new told (Some site) some k known = subst (λ (x : SessionState). IfSome x.site (λ y. AreLabels began new 0 x.names.labels)) (sym (known_started s nxt site some) ∙ known) (by_site s.site (labels_mid h told))
    where
      by_site : (o : Option SiteState) → IfSome o (λ y. AreLabels began mid 0 s.names.labels) → IfSome o (λ y. AreLabels began new 0 s.names.labels)
      by_site None none = tt
      by_site (Some y) has = labels_later began mid new s.names.labels (heard_counts h d.quiet).fell d.fell has

  name_of_known : (o : Option SiteState) → s.site ≡ o → (known_by s nxt).session ≡ s.session
  name_of_known None none = ap (λ (x : SessionState). x.session) (known_unstarted s nxt none) ∙ d.same.session
  name_of_known (Some site) some = ap (λ (x : SessionState). x.session) (known_started s nxt site some)

  pub line_known : tells → IsKnownSession first.session began new (known_by s nxt)
  line_known told = record { name = name_of_known s.site refl ∙ h.running.same.session; labels = labels_new told s.site refl (known_by s nxt) refl }

  -- A run that is known by it is one over what came before the line.
  its_before : (run : ScriptRun) (o : Option SiteState) → s.site ≡ o → IsRunOfSession (known_by s nxt) run → IsRunOfSession s run
  its_before run None none its = record {
    names = its.names;
    session = its.session ∙ name_of_known None none;
    level = subst (λ (o : Option SiteState). IfSome o (λ site. run.level ≡ site.level)) (sym none) tt;
    labels = subst (λ (o : Option SiteState). IfSome o (λ site. run.labels ≡ s.names.labels)) (sym none) tt;
  }
  its_before run (Some site) some its = subst (λ (x : SessionState). IsRunOfSession x run) (known_started s nxt site some) its

  turned : (run : ScriptRun) → AllTurnOut left run.traces lanes after → AllTurnOut left run.traces lanes lanes_now × AllTurnOut left run.traces lanes_now after
  turned run traces = traces_turn_out left run.traces lanes lanes_now after (went_read left faults lanes lanes_now h.running.went) (between_may_go_on tells s lanes_now old h.running.between) (went_read left faults lanes_now after d.went) traces

  over_first : (run : ScriptRun) → IsRunOver left run (known_by s nxt) lanes after began new → IsRunOver left run s lanes lanes_now began old
  over_first run over = record {
    its = its_before run s.site refl over.its;
    heads = over.heads;
    traces = (turned run over.traces).0;
    rises = rises_before run began old new fell_line over.rises;
  }

  over_line : (run : ScriptRun) → IsRunOver left run (known_by s nxt) lanes after began new → IsRunOver left run (known_by s nxt) lanes_now after began new
  over_line run over = record { its = over.its; heads = h.running.heads run.traces over.heads; traces = (turned run over.traces).1; rises = over.rises }

  -- In such a run the line was answered, or the session stopped in it.
  module _ (told : tells) (result : Result (Unit {0}) Stop) (answers : AnswersLine left line s nxt lanes_now after began mid new result) where
    line_in_run : (run : ScriptRun) → IsRunOver left run (known_by s nxt) lanes after began new
        → (lines : List Answered) × EndsLine run lines text line nxt after began new result × (number ≡ length lines + 1) × (last_line_time lines (length lines) ≡ before)
    line_in_run run over =
        let one = next_one tells number before text mid.script (next.Line line) d.is in
        let was = h.running.runs told run (over_first run over) in
        let heard = hears_on run was.0 was.1.0 text s lanes_now began old mid tells told h.works (h.hears told) (h.silent told) one (h.keeps told) was.1.1 in
        let asks = hears_line run was.0 was.1.0 text s lanes_now began old mid tells told h.works (h.hears told) (h.silent told) one (h.keeps told) was.1.1 line number before d.is was.2 was.3 in
        (was.0, answers run was.0 was.1.0 text (over_line run over) (record { answered = heard; next = asks }), was.2, was.3)

  -- ---- it stops

  pub line_stops : (told : tells) (stop : Stop) → HasStopCause mid new stop → (let r : Result (Unit {0}) Stop = Err stop in AnswersLine left line s nxt lanes_now after began mid new r → RunsLines tells left first.session nxt lanes after began new r)
  line_stops told stop cause answers = record {
    known = known_by s nxt;
    is_known = line_known told;
    last = tt;
    each = λ run over.
        let at = line_in_run told (Err stop) answers run over in (
          at.0,
          (
            text,
            record {
              stops = at.1.0;
              bad = λ bad. absurd (whole_not_bad tells number before text mid.script line d.is (bad_here at.0 at.2 at.3 bad));
              of_bad = λ n same_stop. absurd (no_bad n (subst (λ (x : Stop). HasStopCause mid new x) same_stop cause));
              applied = at.1.1;
              after_end = at.1.2;
            },
          ),
        );
  }
    where
      no_bad : (n : ℕ) → HasStopCause mid new (BadLine n) → ⊥
      no_bad n never = never

      bad_here : (lines : List Answered) → number ≡ length lines + 1 → last_line_time lines (length lines) ≡ before → IsBadAfter tells lines text new.script → IsNextLine tells number before text mid.script next.Bad
      bad_here lines counted time bad =
          subst (λ (b : ℕ). IsNextLine tells number b text mid.script next.Bad) time
          (subst (λ (n : ℕ). IsNextLine tells n (last_line_time lines (length lines)) text mid.script next.Bad) (sym counted)
          (subst (λ (l : List ℕ). IsNextLine tells (length lines + 1) (last_line_time lines (length lines)) text l next.Bad) (d.unheard told).script bad))

  pub line_cause : (stop : Stop) → HasStopCause mid new stop → HasRunCause began new stop
  line_cause stop cause = inl (cause_before began mid new stop (heard_counts h d.quiet).fell cause)

  pub line_counts_on : (result : Result (Unit {0}) Stop) → StopsByCount mid new result → StopsByCount began new result
  line_counts_on result counts = counts_after began mid new result (heard_counts h d.quiet) counts

  -- ---- it is answered

  module _ (counts : NoneRisen mid new) (between_new : IsBetween tells nxt after new) (keeps_start : KeepsStart s nxt) (starts : StartsByLine line s nxt) (time_new : session_time nxt ≤ line.time.0) (lanes_same : AreSameLanes lanes_now after)
      (answers : tells → (let r : Result (Unit {0}) Stop = Ok tt in AnswersLine left line s nxt lanes_now after began mid new r)) (replies : tells → s.site ≡ None → RepliesToStart s.session line mid new) where
    started_then : tells → (o p : Option SiteState) → s.site ≡ o → nxt.site ≡ p → HasBegunRun first.session p began new
    started_then told (Some site) None some none =
        absurd (subst (λ (q : Option SiteState). IsSomeAnd q (λ now. (now.level ≡ site.level) × (nxt.names.labels ≡ s.names.labels))) none
        (subst (λ (q : Option SiteState). IfSome q (λ x. IsSomeAnd nxt.site (λ now. (now.level ≡ x.level) × (nxt.names.labels ≡ s.names.labels)))) some keeps_start))
    started_then told (Some site) (Some now) some is_now = started_new told (started_mid told site some)
    started_then told None p none is_now = by_level (level_started first.session line) refl p is_now
      where
        named : (o : Option Level) → level_started first.session line ≡ o → level_started s.session line ≡ o
        named o is_level = ap (λ (n : List ℕ). level_started n line) h.running.same.session ∙ is_level

        by_level : (o : Option Level) → level_started first.session line ≡ o → (p : Option SiteState) → nxt.site ≡ p → HasBegunRun first.session p began new
        by_level None refused None is_none = starts_none told none refused
        by_level None refused (Some now) is_some =
            let never : nxt.site ≡ None = subst (λ (o : Option Level). MatchOption o (nxt.site ≡ None) (λ level. IsSomeAnd nxt.site (λ site. site.level ≡ level))) (named None refused) (starts none) in
            let clash : None ≡ Some now = sym never ∙ is_some in
            absurd cc
        by_level (Some level) starts_it None is_none =
            absurd (subst (λ (q : Option SiteState). IsSomeAnd q (λ site. site.level ≡ level)) is_none
            (subst (λ (o : Option Level). MatchOption o (nxt.site ≡ None) (λ l. IsSomeAnd nxt.site (λ site. site.level ≡ l))) (named (Some level) starts_it) (starts none)))
        by_level (Some level) starts_it (Some now) is_some =
            let was = h.running.heard told none in
            has_started first.session line level began mid new was.lines text (unstarted_mid told none) (heard_keeps h).site ((heard_keeps h).elapses told) (start_heard first.session tells told began old mid number before text line was (h.hears told) d.is level starts_it)
            (heard_now first.session tells told began old mid number before text line was (h.hears told) d.is) d.keeps_line.site (d.keeps_line.elapses told) (d.unheard told).heard starts_it (begins_first told none) ((heard_keeps h).grows told)
            (subst (λ (o : Option Level). IfSome o (λ l. new.said new.clock ≡ mid.said mid.clock ++ reply_to_start l line.time.0)) (named (Some level) starts_it) (replies told none))

    -- Where the session hasn't started yet, neither this line nor one before it starts it.
    heard_on : tells → (o : Option SiteState) → s.site ≡ o → nxt.site ≡ None → (l : Option Level) → level_started first.session line ≡ l → HasHeardLines first.session began new (number + 1) line.time.0
    heard_on told (Some site) some none l is_level =
        absurd (subst (λ (q : Option SiteState). IsSomeAnd q (λ now. (now.level ≡ site.level) × (nxt.names.labels ≡ s.names.labels))) none
        (subst (λ (q : Option SiteState). IfSome q (λ x. IsSomeAnd nxt.site (λ now. (now.level ≡ x.level) × (nxt.names.labels ≡ s.names.labels)))) some keeps_start))
    heard_on told None none still None refused = lines_heard first.session tells told began old mid number before text line (h.running.heard told none) (h.hears told) d.is new (d.unheard told) refused
    heard_on told None none still (Some level) starts_it =
        absurd (subst (λ (q : Option SiteState). IsSomeAnd q (λ site. site.level ≡ level)) still
        (subst (λ (o : Option Level). MatchOption o (nxt.site ≡ None) (λ l. IsSomeAnd nxt.site (λ site. site.level ≡ l))) (ap (λ (n : List ℕ). level_started n line) h.running.same.session ∙ starts_it) (starts none)))

    -- A run over what the session has come to is known by the session before it.
    known_run : (run : ScriptRun) (o : Option SiteState) → s.site ≡ o → IsRunOver left run nxt lanes after began new → IsRunOver left run (known_by s nxt) lanes after began new
    known_run run None none over = subst (λ (x : SessionState). IsRunOver left run x lanes after began new) (sym (known_unstarted s nxt none)) over
    known_run run (Some site) some over =
        subst (λ (x : SessionState). IsRunOver left run x lanes after began new) (sym (known_started s nxt site some))
        (record {
          its = (over_before left run s nxt lanes lanes_now after began old new keeps_start d.same.session (went_read left faults lanes lanes_now h.running.went) (between_may_go_on tells s lanes_now old h.running.between) (went_read left faults lanes_now after d.went) fell_line over).0.its;
          heads = over.heads;
          traces = over.traces;
          rises = over.rises;
        })

    labels_on : tells → (o p : Option SiteState) → s.site ≡ o → nxt.site ≡ p → IfSome p (λ site. AreLabels began new 0 nxt.names.labels)
    labels_on told o None is_o none = tt
    labels_on told None (Some now) none is_now =
        subst (λ (q : Option SiteState). IfSome q (λ site. AreLabels began new 0 nxt.names.labels)) is_now (labels_new told None none nxt (known_unstarted s nxt none))
    labels_on told (Some site) (Some now) some is_now =
        let was = subst (λ (q : Option SiteState). IfSome q (λ x. AreLabels began new 0 s.names.labels)) some (labels_new told (Some site) some s (known_started s nxt site some)) in
        let kept = subst (λ (q : Option SiteState). IsSomeAnd q (λ x. (x.level ≡ site.level) × (nxt.names.labels ≡ s.names.labels))) is_now
        (subst (λ (q : Option SiteState). IfSome q (λ x. IsSomeAnd nxt.site (λ y. (y.level ≡ x.level) × (nxt.names.labels ≡ s.names.labels)))) some keeps_start) in
        subst (λ (l : List NamedDevice). AreLabels began new 0 l) (sym kept.1) was

    pub line_running : IsRunning tells left faults first nxt lanes after began new (number + 1) line.time.0
    line_running = record {
      bound = omega (arith, (line_at h line d.is).0);
      between = between_new;
      same = record { session = d.same.session ∙ h.running.same.session; controls = d.same.controls ∙ h.running.same.controls };
      time = time_new;
      keeps = line_keeps;
      counts = none_risen_then began mid new (heard_counts h d.quiet) counts;
      went = line_went;
      heads = λ traces heads. heads_stay lanes_now after traces lanes_same (h.running.heads traces heads);
      labels = λ told. labels_on told s.site nxt.site refl refl;
      begun = λ told. started_then told s.site nxt.site refl refl;
      heard = λ told none. heard_on told s.site refl none (level_started first.session line) refl;
      runs = λ told run over.
          let at = line_in_run told (Ok tt) (answers told) run (known_run run s.site refl over) in
          let a = at.1.0 in
          (at.0 ++ a ∷ [], (at.1.3.0, at.1.3.1), omega (arith, at.2, length_push at.0 a), last_more at.0 a ∙ ap (λ (l : Line). l.time.0) at.1.1);
    }
