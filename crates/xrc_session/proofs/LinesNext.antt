-- Where a script's run stands when its next line was heard, and how it ends there.
use Rattle.xrc_session.proofs.Growing.{silent_grows}
use Rattle.xrc_session.proofs.LinesDone.{between_told}
use Rattle.std.proofs.Common.{◌≡◌, inl, inr, ℕ, ◌≤◌, List, [], length, Option, Some, None, Result, Ok, Err, refl, sym, ap, subst, ◌∙◌, arith}
use Rattle.std.specs.Prelude.{◌+◌, IfSome, MatchOption}
use Rattle.xrc_edge.specs.Causes.{Rose}
use Rattle.crash_plant.specs.declared.device.Device.TheVariants.{Control, Volume}
use Rattle.crash_plant.specs.Calls.{WorksOnConsole}
use Rattle.crash_plant.specs.Moments.{PlantState}
use Rattle.crash_plant.proofs.Steps.{works_on_console_here}
use Rattle.pair_table.specs.Tables.{new_table}
use Rattle.site_store.specs.Sites.{SiteState}
use Rattle.consistency.specs.Stages.{ScriptRun}
use Rattle.consistency.specs.Courses.{Answered, last_line_time, lines_begun}
use Rattle.consistency.proofs.Between.{runs_begin}
use Rattle.script_lines.specs.declared.next.Next.TheVariants as next
use Rattle.script_lines.specs.Hearing.{HearsText, KeepsHearing, SaysNothing}
use Rattle.script_lines.specs.NextLines.{IsNextLine}
use Rattle.script_lines.specs.Texts.{IsFront}
use Rattle.mover.specs.declared.lane.Lane.{Lane}
use Rattle.mover.specs.Epochs.{LanesBrokeAs}
use Rattle.xrc_status.specs.declared.stop.Stop.{Stop}
use Rattle.xrc_status.specs.declared.stop.Stop.TheVariants.{BadLine, ConsoleFault}
use Rattle.xrc_session.specs.LinePauses.{HasAnswered, HasNotBegun, IsAtSite, IsBetween, IsRunOver, IsUnstarted, RestsAtSite, stage_after_text}
use Rattle.xrc_session.specs.Frames.{KeepsPlant, SaidGrows}
use Rattle.xrc_session.specs.Runs.{AreLabels, IsBadAfter, IsKnownSession, RunsLines}
use Rattle.xrc_session.specs.Starting.{BeginsRun, HasBegunRun}
use Rattle.xrc_session.specs.States.{SessionState, site_time}
use Rattle.xrc_session.specs.Stops.{HasRunCause, StopsByCount}
use Rattle.xrc_session.specs.Trails.{Trail}
use Rattle.xrc_session.proofs.Consoles.{between_on}
use Rattle.xrc_session.proofs.HeardLines.{none_heard}
use Rattle.xrc_session.proofs.Hearings.{next_one, no_feed_one}
use Rattle.xrc_session.proofs.InTurn.{NoneFell, NoneRisen, cause_before, keeps_console, keeps_here, keeps_then, none_risen_here, none_risen_then, rises_before, went_here}
use Rattle.xrc_session.proofs.LinesBegun.{between_may_go_on}
use Rattle.xrc_session.proofs.LinesRun.{IsRunning, hearing_stops, hears_on, labels_later}
use Rattle.xrc_session.proofs.Names.{as_many}
use Rattle.xrc_session.proofs.Readying.{unbroken_at_start}
use Rattle.xrc_session.proofs.RowFrames.{changes_rows_none}
use Rattle.xrc_session.proofs.SafeStarts.{begun_run, leaves_console, leaves_here, leaves_then, started_later}

-- ---- the first line

-- that of a session that hasn't started
abbrev pub no_trail : Trail
no_trail = record { started = 0; points = [] }

module _ {S : Type 0} (tells : Type 0) (left : S → Option (List ℕ)) (faults : S → ℕ) (s : SessionState) (lanes : List (Lane S)) (began : PlantState) (between : IsBetween tells s lanes began) (unstarted : s.site ≡ None) where
  not_started : IsUnstarted s lanes
  not_started = subst (λ (o : Option SiteState). MatchOption o (IsUnstarted s lanes) (IsAtSite tells s lanes began)) unstarted between.place

  none_answered : (run : ScriptRun) → IsRunOver left run s lanes lanes began began → HasAnswered run [] no_trail [] s lanes began began
  none_answered run over = record {
    goes = runs_begin began run;
    exact = λ n a at. absurd cc;
    stands = record {
      its = over.its;
      table = ap new_table over.its.session ∙ sym not_started.table;
      volumes = changes_rows_none [] began began (λ d within. leaves_here began (Volume d));
      place = by_place s.site unstarted;
    };
    broke = subst (λ (o : Option SiteState). LanesBrokeAs (site_time o) run.traces lanes) (sym unstarted) (unbroken_at_start s lanes run.traces not_started (as_many lanes run.traces over.heads));
    applied = λ number below. absurd (omega (arith, below));
  }
    where
      by_place : (o : Option SiteState) → o ≡ None → MatchOption o (HasNotBegun no_trail began began) (RestsAtSite run [] (stage_after_text run [] [] began) no_trail s began began)
      by_place None is = record { started = refl; points = refl; devices = leaves_here began }
      by_place (Some site) is = absurd cc

  pub begins_running : IsRunning tells left faults s s lanes lanes began began 1 0
  begins_running = record {
    bound = omega arith;
    between = between;
    same = record { session = refl; controls = refl };
    time = subst (λ (o : Option SiteState). site_time o ≤ 0) (sym unstarted) (omega arith);
    keeps = keeps_here tells began between.home (works_on_console_here tells began).elapses;
    counts = none_risen_here began;
    went = went_here left faults lanes (between_may_go_on tells s lanes began between);
    heads = λ traces heads. heads;
    labels = λ told. subst (λ (o : Option SiteState). IfSome o (λ site. AreLabels began began 0 s.names.labels)) (sym unstarted) tt;
    begun = λ told. subst (λ (o : Option SiteState). HasBegunRun s.session o began began) (sym unstarted) (leaves_here began);
    heard = λ told none. none_heard s.session began;
    runs = λ told run over. ([], (no_trail, none_answered run over), refl, refl);
  }

-- ---- what was heard

-- So a run of a script stands where its next line was heard, after lines that it answered.
pub record Heard {S : Type 0} (tells : Type 0) (left : S → Option (List ℕ)) (faults : S → ℕ) (first s : SessionState) (lanes lanes_now : List (Lane S)) (began old : PlantState) (number before : ℕ) (mid : PlantState) (text : List ℕ) : Type 0 where
  pub running : IsRunning tells left faults first s lanes lanes_now began old number before
  pub works : WorksOnConsole tells old mid
  pub console : old.console_faults ≤ mid.console_faults
  pub once : mid.console_faults ≤ old.console_faults + 1
  pub hears : tells → HearsText text old mid
  pub silent : tells → SaysNothing old mid
  pub keeps : tells → KeepsHearing [] text began old mid

pub hearing : {S : Type 0} {tells : Type 0} {left : S → Option (List ℕ)} {faults : S → ℕ} {first s : SessionState} {lanes lanes_now : List (Lane S)} {began old : PlantState} {number before : ℕ} {mid : PlantState} {text : List ℕ}
    → IsRunning tells left faults first s lanes lanes_now began old number before → WorksOnConsole tells old mid → old.console_faults ≤ mid.console_faults → mid.console_faults ≤ old.console_faults + 1 → (tells → HearsText text old mid) → (tells → SaysNothing old mid) → (tells → KeepsHearing [] text began old mid)
    → Heard tells left faults first s lanes lanes_now began old number before mid text
hearing running works console once hears silent keeps = record { running = running; works = works; console = console; once = once; hears = hears; silent = silent; keeps = keeps }

module _ {S : Type 0} {tells : Type 0} {left : S → Option (List ℕ)} {faults : S → ℕ} {first s : SessionState} {lanes lanes_now : List (Lane S)} {began old : PlantState} {number before : ℕ} {mid : PlantState} {text : List ℕ} (h : Heard tells left faults first s lanes lanes_now began old number before mid text) where
  pub fell_heard : NoneFell old mid
  fell_heard = record { devices = λ d. omega (arith, h.works.faults d); console = h.console }

  grows_heard : tells → SaidGrows old mid
  grows_heard told = silent_grows old mid ((h.works.elapses told).kept Control).later (h.silent told)

  pub heard_keeps : KeepsPlant tells began mid
  heard_keeps = keeps_then tells began old mid h.running.keeps (keeps_console tells old mid h.works grows_heard h.running.between.home)

  pub heard_between : IsBetween tells s lanes_now mid
  heard_between = between_on tells old mid h.works s lanes_now h.running.between

  pub up_to_old : tells → began.clock ≤ old.clock
  up_to_old told = ((h.running.keeps.elapses told).kept Control).later

  pub heard_begun : tells → HasBegunRun first.session s.site began mid
  heard_begun told = by_site s.site (h.running.begun told)
    where
      by_site : (o : Option SiteState) → HasBegunRun first.session o began old → HasBegunRun first.session o began mid
      by_site None leaves = leaves_then began old mid (up_to_old told) leaves (h.works.elapses told) (leaves_console tells old mid told h.works)
      by_site (Some site) started = started_later first.session began old mid text h.works.site (h.works.elapses told) (grows_heard told) (h.hears told).heard started

  pub heard_begins : tells → BeginsRun first.session began mid
  heard_begins told = begun_run first.session s.site began mid (heard_begun told)

  pub labels_mid : tells → IfSome s.site (λ site. AreLabels began mid 0 s.names.labels)
  labels_mid told = by_site s.site (h.running.labels told)
    where
      by_site : (o : Option SiteState) → IfSome o (λ site. AreLabels began old 0 s.names.labels) → IfSome o (λ site. AreLabels began mid 0 s.names.labels)
      by_site None none = tt
      by_site (Some site) labels = labels_later began old mid s.names.labels h.running.counts.fell fell_heard labels

  pub known_mid : tells → IsKnownSession first.session began mid s
  known_mid told = record { name = h.running.same.session; labels = labels_mid told }

  -- A run over what the lanes have read and the volumes failed has answered lines, and heard this.
  heard_runs : tells → lines_begun text ≤ 1 → (run : ScriptRun) → IsRunOver left run s lanes lanes_now began old
      → (lines : List Answered) × ((trail : Trail) × HasAnswered run lines trail text s lanes_now began mid) × (number ≡ length lines + 1) × (last_line_time lines (length lines) ≡ before)
  heard_runs told one run over =
      let was = h.running.runs told run over in
      (was.0, (was.1.0, hears_on run was.0 was.1.0 text s lanes_now began old mid tells told h.works (h.hears told) (h.silent told) one (h.keeps told) was.1.1), was.2, was.3)

  over_old : (run : ScriptRun) → IsRunOver left run s lanes lanes_now began mid → IsRunOver left run s lanes lanes_now began old
  over_old run over = record { its = over.its; heads = over.heads; traces = over.traces; rises = rises_before run began old mid fell_heard over.rises }

  -- ---- the console fails

  pub console_ends : IsFront text → tells → (let r : Result (Unit {0}) Stop = Err ConsoleFault in RunsLines tells left first.session s lanes lanes_now began mid r)
  console_ends front told = record {
    known = s;
    is_known = known_mid told;
    last = tt;
    each = λ run over.
        let at = heard_runs told (no_feed_one text front.no_feed) run (over_old run over) in (
          at.0,
          (
            text,
            record {
              stops = hearing_stops run at.0 at.1.0 text s lanes_now began mid ConsoleFault at.1.1 (between_told tells s lanes_now old h.running.between).unstarted (λ is. absurd cc);
              bad = λ bad. inr (refl, front.no_feed);
              of_bad = λ n is. absurd cc;
              applied = at.1.1.applied;
              after_end = λ ended. inr (inl refl);
            },
          ),
        );
  }

  pub console_counts : (let r : Result (Unit {0}) Stop = Err ConsoleFault in StopsByCount began mid r)
  console_counts = record {
    devices = λ d store other. h.works.faults d ∙ h.running.counts.devices d store;
    console = λ other. absurd (other refl);
    later = λ d. omega (arith, h.running.counts.fell.devices d, h.works.faults d);
    console_later = omega (arith, h.running.counts.fell.console, h.console);
    console_once = omega (arith, h.running.counts.console, h.once);
  }

  pub console_cause : Rose old.console_faults mid.console_faults → HasRunCause began mid ConsoleFault
  console_cause rose = inl (cause_before began old mid ConsoleFault h.running.counts.fell rose)

  -- ---- it doesn't

  module _ (quiet : mid.console_faults ≡ old.console_faults) where
    pub heard_counts : NoneRisen began mid
    heard_counts = none_risen_then began old mid h.running.counts (record { devices = λ d store. h.works.faults d; console = quiet; fell = fell_heard })

    -- A line that doesn't count.
    pub bad_ends : IsNextLine tells number before text mid.script next.Bad → tells → (let r : Result (Unit {0}) Stop = Err (BadLine number) in RunsLines tells left first.session s lanes lanes_now began mid r)
    bad_ends bad told = record {
      known = s;
      is_known = known_mid told;
      last = tt;
      each = λ run over.
          let at = heard_runs told (next_one tells number before text mid.script next.Bad bad) run (over_old run over) in
          let same = bad_of at.0 at.2 at.3 in (
            at.0,
            (
              text,
              record {
                stops = hearing_stops run at.0 at.1.0 text s lanes_now began mid (BadLine number) at.1.1 (between_told tells s lanes_now old h.running.between).unstarted (λ is. absurd cc);
                bad = λ is. inl (ap (λ (n : ℕ). BadLine n) at.2);
                of_bad = λ n is. (sym (bad_number number n is) ∙ at.2, same);
                applied = at.1.1.applied;
                after_end = λ ended. inr (inr (number, refl));
              },
            ),
          );
    }
      where
        bad_number : (n m : ℕ) → BadLine n ≡ BadLine m → n ≡ m
        bad_number n m is = cc

        bad_of : (lines : List Answered) → number ≡ length lines + 1 → last_line_time lines (length lines) ≡ before → IsBadAfter tells lines text mid.script
        bad_of lines counted time =
            subst (λ (n : ℕ). IsNextLine tells n (last_line_time lines (length lines)) text mid.script next.Bad) counted
            (subst (λ (b : ℕ). IsNextLine tells number b text mid.script next.Bad) (sym time) bad)

    -- The script's end.
    pub nothing_ends : IsNextLine tells number before text mid.script next.Nothing → tells → (let r : Result (Unit {0}) Stop = Ok tt in RunsLines tells left first.session s lanes lanes_now began mid r)
    nothing_ends nothing told = record {
      known = s;
      is_known = known_mid told;
      last = refl;
      each = λ run over.
          let at = heard_runs told (next_one tells number before text mid.script next.Nothing nothing) run (over_old run over) in
          (at.0, (at.1.0, subst (λ (l : List ℕ). HasAnswered run at.0 at.1.0 l s lanes_now began mid) nothing.text_is at.1.1), nothing.at_end told);
    }
