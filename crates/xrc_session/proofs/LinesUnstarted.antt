-- Lines that are answered before the start, and the start.
use Rattle.std.proofs.Common.{◌≡◌, inl, ℕ, ◌^◌, ◌<◌, ◌≤◌, Bool, true, false, true≢false, List, [], ◌∷◌, ◌++◌, length, Option, Some, None, refl, sym, ap, subst, ◌∙◌, arith}
use Rattle.std.specs.Prelude.{◌&&◌, ◌||◌, not, Result, Err, IfSome, MatchOption, bytes_eq, if◌then◌else◌, is_none, Ok}
use Rattle.crash_plant.specs.Calls.{Elapses, SameSite, Silent}
use Rattle.crash_plant.specs.Moments.{PlantState}
use Rattle.pair_table.specs.declared.command.Change.{Change}
use Rattle.pair_table.specs.declared.command.Change.TheVariants as changes
use Rattle.pair_table.specs.declared.command.Command.{Command}
use Rattle.pair_table.specs.declared.command.Command.TheVariants.{Start, AddPair, DelPair, Suspend, Query, End}
use Rattle.pair_table.specs.declared.command.Refusal.{Refusal}
use Rattle.pair_table.specs.declared.command.Refusal.TheVariants.{NoSession}
use Rattle.pair_table.specs.declared.level.Level.{Level}
use Rattle.pair_table.specs.Commands.{accepted, answer, answer_by, change_of, table_after}
use Rattle.pair_table.specs.Naming.{Naming}
use Rattle.pair_table.specs.Refusals.{refusal, refuses_command}
use Rattle.pair_table.specs.Tables.{Table, new_table}
use Rattle.state_set.specs.Slots.{started_table}
use Rattle.site_store.specs.Records.{VolumesStay}
use Rattle.site_store.specs.Sites.{SiteState}
use Rattle.consistency.specs.Answering.{answered_by, reply_content}
use Rattle.consistency.specs.Stages.{ScriptRun, Stage, accepts, breaks_of, names_of}
use Rattle.consistency.specs.Pauses.{RunGoesOn}
use Rattle.consistency.specs.Courses.{Answered, IsAnswered, stage_at}
use Rattle.consistency.specs.Leads.{Point}
use Rattle.consistency.specs.Replying.{HasNames, IsExact, said_tracks}
use Rattle.consistency.specs.Steps.{names_at}
use Rattle.consistency.specs.Ways.{PassedPoint}
use Rattle.consistency.proofs.Keeping.{stage_answered}
use Rattle.consistency.proofs.Naming.{course_has_names}
use Rattle.consistency.proofs.Replying.{inactive_exactly}
use Rattle.mover.specs.declared.lane.Lane.{Lane}
use Rattle.mover.specs.Epochs.{LanesBrokeAs}
use Rattle.xrc_command.specs.declared.line.Line.{Line}
use Rattle.xrc_status.specs.declared.stop.Stop.{Stop}
use Rattle.xrc_status.specs.declared.stop.Stop.TheVariants.{NoMemory, Spent}
use Rattle.xrc_session.specs.declared.answering.LineAnswer.{LineAnswer}
use Rattle.xrc_session.specs.LinePauses.{HasNotBegun, RestsAtSite, StandsAfterLines, stage_after_text}
use Rattle.xrc_session.specs.Ends.{StopsInLine}
use Rattle.xrc_session.specs.Frames.{ChangesRows, rows_passed}
use Rattle.xrc_session.specs.Replying.{level_in}
use Rattle.xrc_session.specs.Starting.{AreOwnSpent, level_started}
use Rattle.xrc_session.specs.States.{SessionState, session_time, site_time}
use Rattle.xrc_session.specs.Steps.{HasHeard, IsToReply, SaysAnswer, line_answered, WantsAsOwed}
use Rattle.xrc_session.specs.Trails.{Trail, first_leg}
use Rattle.xrc_session.proofs.Courses.{past_counted, unstarted_before, unstarted_past}
use Rattle.xrc_session.proofs.Exactly.{unstarted_told}
use Rattle.xrc_session.proofs.Names.{answers_alike}
use Rattle.xrc_session.proofs.RowFrames.{changes_rows_stay, changes_rows_then}
use Rattle.xrc_session.proofs.Trails.{unstarted_to_run}

-- ---- the answer

-- Before the start a command is refused, but for a start that names the session.
pub data AnswersUnstarted (names : Naming) (name session : List ℕ) : Command → Type 0 where
  Starts : (level : Level) → bytes_eq session name ≡ true → refusal names (new_table name) session (Start level) ≡ None → AnswersUnstarted names name session (Start level)
  Refuses : (c : Command) (why : Refusal) → refusal names (new_table name) session c ≡ Some why → ((level : Level) → c ≡ Start level → bytes_eq session name ≡ false) → AnswersUnstarted names name session c

pub answers_unstarted : (names : Naming) (name session : List ℕ) (c : Command) → AnswersUnstarted names name session c
answers_unstarted names name session (Start level) = by_name (bytes_eq session name) refl
  where
    by_name : (b : Bool) → bytes_eq session name ≡ b → AnswersUnstarted names name session (Start level)
    by_name true is = Starts level is (ap (λ (b : Bool). if not b || (true && not true) then Some NoSession else None) is)
    by_name false is = Refuses (Start level) NoSession (ap (λ (b : Bool). if not b || (true && not true) then Some NoSession else None) is) (λ l same. is)
answers_unstarted names name session (AddPair primary secondary group) = Refuses (AddPair primary secondary group) NoSession (by_name (bytes_eq session name) (refuses_command names [] (AddPair primary secondary group))) (λ l same. absurd cc)
  where
    by_name : (b : Bool) (rest : Option Refusal) → (if not b || true then Some NoSession else rest) ≡ Some NoSession
    by_name true rest = refl
    by_name false rest = refl
answers_unstarted names name session (DelPair choice) = Refuses (DelPair choice) NoSession (by_name (bytes_eq session name) (refuses_command names [] (DelPair choice))) (λ l same. absurd cc)
  where
    by_name : (b : Bool) (rest : Option Refusal) → (if not b || true then Some NoSession else rest) ≡ Some NoSession
    by_name true rest = refl
    by_name false rest = refl
answers_unstarted names name session (Suspend choice) = Refuses (Suspend choice) NoSession (by_name (bytes_eq session name) (refuses_command names [] (Suspend choice))) (λ l same. absurd cc)
  where
    by_name : (b : Bool) (rest : Option Refusal) → (if not b || true then Some NoSession else rest) ≡ Some NoSession
    by_name true rest = refl
    by_name false rest = refl
answers_unstarted names name session Query = Refuses Query NoSession (by_name (bytes_eq session name) None) (λ l same. absurd cc)
  where
    by_name : (b : Bool) (rest : Option Refusal) → (if not b || true then Some NoSession else rest) ≡ Some NoSession
    by_name true rest = refl
    by_name false rest = refl
answers_unstarted names name session End = Refuses End NoSession (by_name (bytes_eq session name) None) (λ l same. absurd cc)
  where
    by_name : (b : Bool) (rest : Option Refusal) → (if not b || true then Some NoSession else rest) ≡ Some NoSession
    by_name true rest = refl
    by_name false rest = refl

err_level : (c : Command) (why : Refusal) → level_in (Err why) c ≡ None
err_level (Start level) why = refl
err_level (AddPair primary secondary group) why = refl
err_level (DelPair choice) why = refl
err_level (Suspend choice) why = refl
err_level Query why = refl
err_level End why = refl

-- A start is done exactly if the line asks for one of the session.
pub level_is_started : (names : Naming) (name : List ℕ) (line : Line) → level_in (answer names (new_table name) line.session line.command) line.command ≡ level_started name line
level_is_started names name line = by_answer line.command (answers_unstarted names name line.session line.command)
  where
    none_started : (c : Command) → ((level : Level) → c ≡ Start level → bytes_eq line.session name ≡ false) → None ≡ level_started name (record line { command = c })
    none_started (Start level) other = sym (ap (λ (b : Bool). if b then Some level else None) (other level refl))
    none_started (AddPair primary secondary group) other = refl
    none_started (DelPair choice) other = refl
    none_started (Suspend choice) other = refl
    none_started Query other = refl
    none_started End other = refl

    by_answer : (c : Command) → AnswersUnstarted names name line.session c → level_in (answer names (new_table name) line.session c) c ≡ level_started name (record line { command = c })
    by_answer c (Starts level named none) =
        ap (λ (o : Option Refusal). level_in (answer_by o (change_of names (Start level) [])) (Start level)) none
        ∙ sym (ap (λ (b : Bool). if b then Some level else None) named)
    by_answer c (Refuses d why some other) =
        ap (λ (o : Option Refusal). level_in (answer_by o (change_of names d [])) d) some ∙ err_level d why ∙ none_started d other

-- the table after a line, by the level of the start that it is
abbrev pub table_by_level : (name : List ℕ) → Option Level → Table
table_by_level name None = new_table name
table_by_level name (Some level) = started_table name []

-- A line leaves the table, unless it is a start that is done.
pub table_unstarted : (names : Naming) (name : List ℕ) (line : Line) → table_after names (new_table name) line.session line.command line.time.0 ≡ table_by_level name (level_started name line)
table_unstarted names name line = by_answer line.command (answers_unstarted names name line.session line.command) (level_is_started names name line)
  where
    by_answer : (c : Command) → AnswersUnstarted names name line.session c → level_in (answer names (new_table name) line.session c) c ≡ level_started name (record line { command = c })
        → table_after names (new_table name) line.session c line.time.0 ≡ table_by_level name (level_started name (record line { command = c }))
    by_answer c (Starts level named none) is =
        ap (λ (o : Option Refusal). if is_none o then accepted names line.time.0 (Start level) (new_table name) else new_table name) none
        ∙ ap (table_by_level name) (sym (ap (λ (o : Option Refusal). level_in (answer_by o (change_of names (Start level) [])) (Start level)) none) ∙ is)
    by_answer c (Refuses d why some other) is =
        ap (λ (o : Option Refusal). if is_none o then accepted names line.time.0 d (new_table name) else new_table name) some
        ∙ ap (table_by_level name) (sym (err_level d why) ∙ sym (ap (λ (o : Option Refusal). level_in (answer_by o (change_of names d [])) d) some) ∙ is)

-- A start that is accepted is the one that is done.
pub accepted_level : (names : Naming) (name : List ℕ) (line : Line) (level : Level) → line.command ≡ Start level → is_none (refusal names (new_table name) line.session line.command) ≡ true → level_started name line ≡ Some level
accepted_level names name line level is none = by_answer line.command (answers_unstarted names name line.session line.command) is none
  where
    by_answer : (c : Command) → AnswersUnstarted names name line.session c → c ≡ Start level → is_none (refusal names (new_table name) line.session c) ≡ true → level_started name (record line { command = c }) ≡ Some level
    by_answer c (Starts other named free) same accepts_it = let levels : other ≡ level = cc in ap (λ (b : Bool). if b then Some other else None) named ∙ ap (λ (x : Level). Some x) levels
    by_answer c (Refuses d why some other) same accepts_it = absurd (true≢false (sym accepts_it ∙ ap is_none some))

-- So none is resumed.
none_resumes : (names : Naming) (name session : List ℕ) (c : Command) (device : ℕ) → answer names (new_table name) session c ≡ Ok (changes.Resumed device) → ⊥
none_resumes names name session c device is = by_answer c (answers_unstarted names name session c) is
  where
    by_answer : (c : Command) → AnswersUnstarted names name session c → answer names (new_table name) session c ≡ Ok (changes.Resumed device) → ⊥
    by_answer c (Starts level named none) is =
        let clash : Ok changes.Started ≡ Ok (changes.Resumed device) = sym (ap (λ (o : Option Refusal). answer_by o (change_of names (Start level) [])) none) ∙ is in
        cc
    by_answer c (Refuses d why some other) is =
        let clash : Err why ≡ Ok (changes.Resumed device) = sym (ap (λ (o : Option Refusal). answer_by o (change_of names d [])) some) ∙ is in
        cc

-- ---- in a run

module _ {S : Type 0} (run : ScriptRun) (lines : List Answered) (trail : Trail) (text : List ℕ) (line : Line) (s : SessionState) (lanes : List (Lane S)) (began old : PlantState) (heard : HasHeard run lines trail text line s lanes began old) (unstarted : s.site ≡ None)
    (fresh : s.table ≡ new_table s.session) where
  abbrev stage : Stage
  stage = stage_after_text run lines text began

  pub not_begun : HasNotBegun trail began old
  not_begun = subst (λ (o : Option SiteState). MatchOption o (HasNotBegun trail began old) (RestsAtSite run lines stage trail s began old)) unstarted heard.answered.stands.place

  pub table_is : stage.table ≡ new_table s.session
  table_is = heard.answered.stands.table ∙ fresh

  pub off : stage.table.is_started ≡ false
  off = ap (λ (t : Table). t.is_started) table_is

  pub none_started : (n : ℕ) → n ≤ length lines → (stage_at run lines n).table.is_started ≡ false
  none_started n within = unstarted_before run lines heard.answered.goes.now.course (length lines) n within (omega arith) off

  pub none_past : stage.past ≡ []
  none_past = unstarted_past run lines heard.answered.goes.now.course (length lines) (omega arith) off

  pub has_names : HasNames stage.table
  has_names = course_has_names run lines heard.answered.stands.its.names heard.answered.goes.now.course (length lines) (omega arith)

  -- What the line is answered with, whatever the names are.
  pub content_is : (names : Naming) → answer (names_at line.time.0 (breaks_of run) (names_of run)) stage.table line.session line.command ≡ answer names s.table line.session line.command
  content_is names =
      answers_alike (names_at line.time.0 (breaks_of run) (names_of run)) names stage.table line.session line.command (inl off)
      ∙ ap (λ (t : Table). answer names t line.session line.command) (table_is ∙ sym fresh)

  -- ---- a stop in the work for it

  module _ (new : PlantState) (site : SameSite old new) (elapses : Elapses old new) (silent : Silent old new) (tells : Type 0) (told : tells) (volumes : VolumesStay tells old new) where
    pub unstarted_goes : RunGoesOn run lines text began new
    unstarted_goes = unstarted_to_run began old new run lines text heard.answered.goes site elapses silent off

    pub unstarted_volumes : ChangesRows (rows_passed trail.points) began new
    unstarted_volumes =
        changes_rows_then (rows_passed trail.points) [] (rows_passed trail.points) began old new heard.answered.goes.now.site heard.answered.goes.now.later elapses (λ r has. has) (λ r has. absurd (omega (arith, has.1))) heard.answered.stands.volumes
        (changes_rows_stay [] tells old new told volumes)

    pub unstarted_stops : (stop : Stop) → (stop ≡ Spent → AreOwnSpent run stage began new) → StopsInLine run lines text began new stop
    unstarted_stops stop spent = record {
      trail = trail;
      stopped = record {
        part = None;
        stands = unstarted_goes;
        exact = heard.answered.exact;
        unstarted = λ unstarted_trail. not_begun.points;
        begun = λ on. absurd (true≢false (sym on ∙ off));
        next = None;
        on_trail = λ some. absurd (omega (arith, some, not_begun.started));
        goes_forth = λ past some. absurd (omega (arith, some, not_begun.started));
      };
      volumes = unstarted_volumes;
      spent = spent;
    }

  -- ---- the reply

  -- The level of the start that the line is, if it is one that is done, is the run's.
  module _ (levels : IfSome (level_started s.session line) (λ level. level ≡ run.level)) where
    level_of_start : (level : Level) → line.command ≡ Start level → accepts run stage.table line ≡ true → level ≡ run.level
    level_of_start level is accepts_it =
        let started = accepted_level (names_at line.time.0 (breaks_of run) (names_of run)) s.session line level is
        (ap (λ (t : Table). is_none (refusal (names_at line.time.0 (breaks_of run) (names_of run)) t line.session line.command)) (sym table_is) ∙ accepts_it) in
        subst (λ (o : Option Level). IfSome o (λ x. x ≡ run.level)) started levels

    pub unstarted_answers : (reply : List ℕ) (p : Point) (points : List PassedPoint) (number : ℕ) → (let a = answered_by run stage text reply line [] [] in IsExact run stage p points number a → IsAnswered run stage a)
    unstarted_answers reply p points number =
        inactive_exactly run stage text reply line p points number (ap (λ (b : Bool). b && not stage.table.is_ended) off) (past_counted run lines heard.answered.goes.now.course (length lines) (omega arith)) level_of_start has_names

  abbrev then_table : Table
  then_table = table_by_level s.session (level_started s.session line)

  -- The table after the line.
  pub unstarted_table : (reply : List ℕ) → (line_answered run lines text line [] [] began reply).table ≡ then_table
  unstarted_table reply =
      ap (λ (t : Table). table_after (names_at line.time.0 (breaks_of run) (names_of run)) t line.session line.command line.time.0) table_is ∙ table_unstarted (names_at line.time.0 (breaks_of run) (names_of run)) s.session line

  module _ (names : Naming) (answered : LineAnswer) (is : answered.answer ≡ answer names s.table line.session line.command) where
    pub unstarted_tells : (reply : List ℕ) (p : Point) (points : List PassedPoint) (number : ℕ) → SaysAnswer line (reply_content run stage p points number (line_answered run lines text line [] [] began reply)) answered
    unstarted_tells reply p points number =
        let a = line_answered run lines text line [] [] began reply in
        let content = reply_content run stage p points number a in
        record {
          is = content_is names ∙ sym is;
          tracks =
              unstarted_told (names_at line.time.0 (breaks_of run) (names_of run)) stage.table line.session line.command off content.tracks answered.tracks
              ∙ ap (λ (r : Result Change Refusal). said_tracks line.command r answered.tracks) (content_is names ∙ sym is);
        }

    -- It resumes nothing.
    pub unstarted_wants : (trail_now : Trail) (next : SessionState) (reply : List ℕ) → WantsAsOwed run lines trail_now text began (line_answered run lines text line [] [] began reply) next
    unstarted_wants trail_now next reply device resumes on =
        absurd (none_resumes names s.session line.session line.command device (ap (λ (t : Table). answer names t line.session line.command) (sym fresh) ∙ sym (content_is names) ∙ resumes))

    -- ---- a line that starts nothing

    module _ (refused : level_started s.session line ≡ None) (next : SessionState) (next_is : next ≡ record s { table = then_table }) (short : line.time.0 < 2 ^ 64) (lanes_now : List (Lane S)) (broke : LanesBrokeAs 0 run.traces lanes_now) (stops : StopsInLine run lines text began old NoMemory) where
      none_level : IfSome (level_started s.session line) (λ level. level ≡ run.level)
      none_level = subst (λ (o : Option Level). IfSome o (λ level. level ≡ run.level)) (sym refused) tt

      table_stays : then_table ≡ s.table
      table_stays = ap (table_by_level s.session) refused ∙ sym fresh

      same : next ≡ s
      same = next_is ∙ (λ i. record s { table = table_stays i })

      not_started : (reply : List ℕ) → (line_answered run lines text line [] [] began reply).table.is_started ≡ false
      not_started reply = ap (λ (t : Table). t.is_started) (unstarted_table reply ∙ ap (table_by_level s.session) refused)

      pub refused_to_reply : IsToReply run lines trail text line answered next lanes_now began old
      refused_to_reply = record {
        goes = heard.answered.goes;
        changes = [];
        hits = [];
        begins = record { within = omega (arith, not_begun.started); before = λ n early within. none_started n within; after = λ some there. absurd (omega (arith, some, not_begun.started)) };
        exact = heard.answered.exact;
        brings = λ reply on. absurd (true≢false (sym on ∙ off));
        applied = λ reply ended. let a = line_answered run lines text line [] [] began reply in
            absurd (true≢false (sym ended ∙ ap (λ (x : Stage). x.table.is_ended) (stage_answered run began.script lines a) ∙ ap (λ (t : Table). t.is_ended) (unstarted_table reply ∙ table_stays ∙ fresh)));
        stops = stops;
        unhit = λ reported. refl;
        tells = λ reply. unstarted_tells reply (first_leg run (lines ++ line_answered run lines text line [] [] began reply ∷ []) trail).point trail.points (length lines);
        may = λ reply exact. let a = line_answered run lines text line [] [] began reply in record {
          asks = heard.next;
          answered = unstarted_answers none_level reply (first_leg run (lines ++ a ∷ []) trail).point trail.points (length lines) exact;
          exact = exact;
          names = has_names;
          short = short;
          told = λ up started. absurd (true≢false (sym started ∙ off));
          may = λ started. absurd (true≢false (sym started ∙ off));
          shows = λ started. absurd (true≢false (sym started ∙ not_started reply));
        };
        stands = λ reply. let a = line_answered run lines text line [] [] began reply in
            subst (λ (x : SessionState). StandsAfterLines run (lines ++ a ∷ []) (stage_after_text run (lines ++ a ∷ []) [] began) trail x began old) (sym same)
            (record {
              its = heard.answered.stands.its;
              table = ap (λ (x : Stage). x.table) (stage_answered run began.script lines a) ∙ unstarted_table reply ∙ table_stays;
              volumes = heard.answered.stands.volumes;
              place =
                  subst (λ (o : Option SiteState). MatchOption o (HasNotBegun trail began old) (RestsAtSite run (lines ++ a ∷ []) (stage_after_text run (lines ++ a ∷ []) [] began) trail s began old)) (sym unstarted)
                  not_begun;
            });
        wants = unstarted_wants trail next;
        broke = subst (λ (x : SessionState). LanesBrokeAs (session_time x) run.traces lanes_now) (sym same) (subst (λ (o : Option SiteState). LanesBrokeAs (site_time o) run.traces lanes_now) (sym unstarted) broke);
      }
