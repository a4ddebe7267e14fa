-- The run of a script as a whole.
use Rattle.std.proofs.Common.{◌≡◌, ◌⊎◌, inl, inr, ℕ, ◌+◌, ◌-◌, true, List, [], ◌∷◌, ◌++◌, length, Option, Some, None, Result, Ok, Err, refl, sym, ap, subst, ◌∙◌, append-nil, arith}
use Rattle.std.specs.Prelude.{IfErr, IfSome, IsErrOf, IsOk, IsTrue, MatchOption}
use Rattle.std.proofs.lemmas.Bool.{false≢true}
use Rattle.tod_stamp.specs.Names.{is_session}
use Rattle.crash_plant.specs.declared.device.Device.TheVariants.{Control, Volume}
use Rattle.crash_plant.specs.Calls.{Elapses, SameSite, Silent}
use Rattle.crash_plant.specs.Moments.{PlantState}
use Rattle.write_trace.specs.Headers.{serial_place}
use Rattle.write_trace.specs.declared.trace.HeaderError.{HeaderError}
use Rattle.write_trace.specs.declared.trace.Trace.{Trace}
use Rattle.pair_table.specs.declared.level.Level.{Level}
use Rattle.pair_table.specs.declared.level.Level.TheVariants as levels
use Rattle.pair_table.specs.declared.names.NamedDevice.{NamedDevice}
use Rattle.pair_table.specs.Tables.{Table}
use Rattle.record_rows.specs.Hits.{hit_now}
use Rattle.site_store.specs.IdleSites.{IsSiteIdle}
use Rattle.site_store.specs.Sites.{SiteState}
use Rattle.consistency.specs.Stages.{ScriptRun}
use Rattle.consistency.specs.Courses.{Answered, last_line_time, stage_at}
use Rattle.consistency.specs.Replying.{HasRunNames}
use Rattle.consistency.proofs.Between.{runs_begin}
use Rattle.script_lines.specs.NextLines.{IsNextLine}
use Rattle.script_lines.specs.declared.next.Next.TheVariants as next
use Rattle.mover.specs.declared.lane.Lane.{Lane}
use Rattle.mover.specs.Epochs.{AllTurnOut}
use Rattle.xrc_status.specs.declared.stop.Stop.{Stop}
use Rattle.xrc_status.specs.declared.stop.Stop.TheVariants as stops
use Rattle.xrc_session.specs.AppliedEnds.{StaysApplied}
use Rattle.xrc_session.proofs.AppliedEnds.{ended_answered, stays_worked}
use Rattle.xrc_session.specs.LinePauses.{IsAtSite, IsBetween, IsRunOfSession, IsRunOver, IsUnstarted, RisesCover}
use Rattle.xrc_session.specs.Lanes.{AllTold, AllWent, AreTracesGiven, HaveHeadsOf, SourceBytes, TurnOutFrom, trace_given}
use Rattle.xrc_session.specs.Lines.{MayFinish}
use Rattle.xrc_session.specs.Openings.{ComesEarly, OpensInOrder, first_named_again, opening_stop, serials_in_header, stop_of_header, stop_of_headers, stop_of_site}
use Rattle.xrc_session.specs.Runs.{AreCountsBelow, AreLabels, EndsScript, IsKnownSession, IsRunOfScript, RunsLines, RunsScript, RunsTold, StopsAtLine}
use Rattle.xrc_session.specs.Starting.{BeginsRun, HasBegunRun}
use Rattle.xrc_session.specs.Starting.BeginsRun.{Unstarted}
use Rattle.xrc_session.specs.States.{SessionState}
use Rattle.xrc_session.specs.Steps.{EndsFinishing, FinishesRuns}
use Rattle.xrc_session.specs.Stops.{HasStopCause}
use Rattle.xrc_session.proofs.InTurn.{NoneFell, fell_here, fell_then, rises_before}
use Rattle.xrc_session.proofs.LinesNext.{no_trail}
use Rattle.xrc_session.proofs.LinesRun.{labels_later}
use Rattle.xrc_session.proofs.RowFrames.{changes_rows_none}
use Rattle.xrc_session.proofs.RunNames.{labels_have_serials, some_labels, traces_have_serials}
use Rattle.xrc_session.proofs.ScriptOpens.{opening_none}
use Rattle.xrc_session.proofs.Growing.{silent_grows}
use Rattle.xrc_session.proofs.SafeStarts.{begun_by_start, leaves_here, started_later}

-- ---- the traces

-- Where no header stops a run, the sources gave traces.
headers_good : (k : ℕ) (named : List (List ℕ)) (sources : List SourceBytes) → stop_of_headers k named sources ≡ None → (traces : List Trace) × AreTracesGiven sources traces
headers_good k named [] none = ([], refl)
headers_good k named (s ∷ sources) none = by_trace (λ more. headers_good (k + 1) more sources) (trace_given s) refl none
  where
    by_again : (t : Trace) → trace_given s ≡ Ok t → (let P : Type 0 = (traces : List Trace) × AreTracesGiven sources traces in ((more : List (List ℕ)) → stop_of_headers (k + 1) more sources ≡ None → P)) → (o : Option ℕ)
        → (let x : Option Stop = elim o [ Some v ↦ Some (stops.BadHeader k (serial_place t.header.version v)) | None ↦ stop_of_headers (k + 1) (named ++ serials_in_header t.header.volumes) sources ] in x ≡ None) → (traces : List Trace) × AreTracesGiven (s ∷ sources) traces
    by_again t is others None rest = let more = others (named ++ serials_in_header t.header.volumes) rest in (t ∷ more.0, (λ i. is i ∷ more.1 i))
    by_again t is others (Some v) rest = absurd cc

    by_trace : (let P : Type 0 = (traces : List Trace) × AreTracesGiven sources traces in ((more : List (List ℕ)) → stop_of_headers (k + 1) more sources ≡ None → P)) → (r : Result Trace HeaderError) → trace_given s ≡ r
        → (let x : Option Stop = elim r [ Err error ↦ Some (stop_of_header k error) | Ok t ↦ elim (first_named_again named 0 t.header.volumes) [ Some v ↦ Some (stops.BadHeader k (serial_place t.header.version v)) | None ↦ stop_of_headers (k + 1) (named ++ serials_in_header t.header.volumes) sources ] ] in x ≡ None)
        → (traces : List Trace) × AreTracesGiven (s ∷ sources) traces
    by_trace others (Ok t) is rest = by_again t is others (first_named_again named 0 t.header.volumes) rest
    by_trace others (Err error) is rest = absurd cc

pub given_traces : (controls : ℕ) (plant : PlantState) (sources : List SourceBytes) → opening_stop controls plant sources ≡ None → (traces : List Trace) × AreTracesGiven sources traces
given_traces controls plant sources none = headers_good 0 [] sources (opening_none controls plant sources none).1

-- ---- the run

-- The run of a script, by what is known of its session.
abbrev run_of : (session : List ℕ) → List Trace → List NamedDevice → Level → (old new : PlantState) → ScriptRun
run_of session traces labels level old new = record { session = session; traces = traces; labels = labels; level = level; rises = λ d. new.faults (Volume d) - old.faults (Volume d) }

module _ (session : List ℕ) (valid : is_session session ≡ true) (sources : List SourceBytes) (traces : List Trace) (given : AreTracesGiven sources traces) (old new : PlantState) (fell : NoneFell old new) where
  module _ (labels : List NamedDevice) (are : AreLabels old new 0 labels) (level : Level) where
    run_names : HasRunNames (run_of session traces labels level old new)
    run_names = record { named = valid; volumes = traces_have_serials 0 sources traces given; labels = labels_have_serials old new 0 labels are }

    of_script : IsRunOfScript session sources old new (run_of session traces labels level old new)
    of_script = record { name = refl; traces = given; labels = are; rises = λ d. omega (arith, fell.devices (Volume d)) }

  -- There is a run of the script that is known by this session.
  pub record KnownRun (known : SessionState) : Type 0 where
    pub run : ScriptRun
    pub its : IsRunOfSession known run
    pub traces_are : run.traces ≡ traces
    pub over : IsRunOfScript session sources old new run

  pub known_run : (known : SessionState) → known.session ≡ session → IfSome known.site (λ site. AreLabels old new 0 known.names.labels) → KnownRun known
  known_run known name labels = by_site known.site refl labels
    where
      by_site : (o : Option SiteState) → known.site ≡ o → IfSome o (λ site. AreLabels old new 0 known.names.labels) → KnownRun known
      by_site None is none =
          let some = some_labels old new old.volumes 0 (omega arith) in
          record {
            run = run_of session traces some.0 levels.Volume old new;
            its = record {
              names = run_names some.0 some.1 levels.Volume;
              session = sym name;
              level = subst (λ (o : Option SiteState). IfSome o (λ site. levels.Volume ≡ site.level)) (sym is) tt;
              labels = subst (λ (o : Option SiteState). IfSome o (λ site. some.0 ≡ known.names.labels)) (sym is) tt;
            };
            traces_are = refl;
            over = of_script some.0 some.1 levels.Volume;
          }
      by_site (Some site) is are = record {
        run = run_of session traces known.names.labels site.level old new;
        its = record {
          names = run_names known.names.labels are site.level;
          session = sym name;
          level = subst (λ (o : Option SiteState). IfSome o (λ x. site.level ≡ x.level)) (sym is) refl;
          labels = subst (λ (o : Option SiteState). IfSome o (λ x. known.names.labels ≡ known.names.labels)) (sym is) refl;
        };
        traces_are = refl;
        over = of_script known.names.labels are site.level;
      }

-- ---- no line

-- Nothing that was heard is no bad line.
none_bad : (tells : Type 0) (number before : ℕ) (left : List ℕ) → IsNextLine tells number before [] left next.Bad → ⊥
none_bad tells number before left (inl (inl fed, asks)) = too_long fed.line fed.text_is
  where
    too_long : (line : List ℕ) → [] ≡ line ++ 10 ∷ [] → ⊥
    too_long [] is = cc
    too_long (b ∷ line) is = cc
none_bad tells number before left (inl (inr last, asks)) = absurd (omega (arith, last.some))
none_bad tells number before left (inr long) = absurd (omega (arith, long.size))

-- A run that stopped before its first line for want of memory.
module _ {S : Type 0} (tells : Type 0) (left : S → Option (List ℕ)) (faults : S → ℕ) (session : List ℕ) (valid : is_session session ≡ true) (storage : ℕ) (before now : List (Lane S)) (old : PlantState) where
  pub early_runs : (stop : Stop) → ComesEarly stop ⊎ (stop ≡ stops.NoMemory) → (let r : Result (Unit {0}) Stop = Err stop in OpensInOrder left faults storage before now old r → RunsTold tells left faults session storage before now old old r)
  early_runs stop why opens sources below told none = by_why why
    where
      traces : (traces : List Trace) × AreTracesGiven sources traces
      traces = given_traces storage old sources none

      is_it : (let r : Result (Unit {0}) Stop = Err stop in IsErrOf r stop)
      is_it = refl

      not_early : ComesEarly stop → ⊥
      not_early (inl of) =
          let due = opens.of_site stop of is_it in
          let clash : Some stop ≡ None = sym due ∙ ap (λ (n : ℕ). stop_of_site storage n old) (sym told.many) ∙ (opening_none storage old sources none).0 in
          cc
      not_early (inr of) = let clash : Some stop ≡ None = sym (opens.of_headers sources stop told of is_it) ∙ none in cc

      by_why : ComesEarly stop ⊎ (stop ≡ stops.NoMemory) → (let r : Result (Unit {0}) Stop = Err stop in RunsScript tells session sources old old r)
      by_why (inl early) = absurd (not_early early)
      by_why (inr memory) =
          let some = some_labels old old old.volumes 0 (omega arith) in
          let run = run_of session traces.0 some.0 levels.Volume old old in
          record {
            run = run;
            over = of_script session valid sources traces.0 traces.1 old old (fell_here old) some.0 some.1 levels.Volume;
            lines = [];
            text = [];
            ends = record {
              stops = record {
                trail = no_trail;
                stopped = record { part = None; stands = runs_begin old run; exact = λ n a at. absurd cc; begun = λ on. absurd (cc on); unstarted = λ unstarted. refl; next = None; on_trail = λ started. absurd (omega (arith, started)); goes_forth = λ past started. absurd (omega (arith, started)) };
                volumes = changes_rows_none [] old old (λ d within. leaves_here old (Volume d));
                spent = λ is. let clash : stops.NoMemory ≡ stops.Spent = sym memory ∙ is in absurd cc;
              };
              bad = λ bad. absurd (none_bad tells 1 0 old.script bad);
              of_bad = λ n is. let clash : stops.NoMemory ≡ stops.BadLine n = sym memory ∙ is in absurd cc;
              applied = λ number below. absurd (omega (arith, below));
              after_end = λ ended. inl memory;
            };
          }

-- ---- the lines

module _ {S : Type 0} (tells : Type 0) (left : S → Option (List ℕ)) (faults : S → ℕ) (session : List ℕ) (valid : is_session session ≡ true) (storage : ℕ) (before opened last : List (Lane S)) (old mid new : PlantState) (turn_out : TurnOutFrom left faults before opened) (went : AllWent left faults opened last)
    (s : SessionState) (fell : NoneFell old mid) (fell_on : NoneFell mid new) where
  fell_all : NoneFell old new
  fell_all = fell_then old mid new fell fell_on

  -- A known run is one over what the lanes read and the volumes failed up to the lines' end.
  over_lines : (sources : List SourceBytes) (traces : List Trace) (given : AreTracesGiven sources traces) (known : SessionState) → AreCountsBelow new → AllTold left faults before last sources
      → (k : KnownRun session valid sources traces given old new fell_all known) → IsRunOver left k.run known opened last old mid × RisesCover k.run old new
  over_lines sources traces given known below told k =
      let turns = turn_out last sources traces told given went in
      let rises : RisesCover k.run old new = λ d. (below d, omega (arith, k.over.rises d)) in (
        record {
          its = k.its;
          heads = subst (λ (ts : List Trace). HaveHeadsOf opened ts) (sym k.traces_are) turns.1;
          traces = subst (λ (ts : List Trace). AllTurnOut left ts opened last) (sym k.traces_are) turns.0;
          rises = rises_before k.run old mid new fell_on rises;
        },
        rises,
      )

  known_of : (sources : List SourceBytes) (traces : List Trace) (given : AreTracesGiven sources traces) (known : SessionState) → IsKnownSession session old mid known → KnownRun session valid sources traces given old new fell_all known
  known_of sources traces given known is = known_run session valid sources traces given old new fell_all known is.name (by_site known.site is.labels)
    where
      by_site : (o : Option SiteState) → IfSome o (λ site. AreLabels old mid 0 known.names.labels) → IfSome o (λ site. AreLabels old new 0 known.names.labels)
      by_site None none = tt
      by_site (Some site) are = labels_later old mid new known.names.labels fell fell_on are

  -- The run stops in its lines.
  pub lines_stop : new ≡ mid → (stop : Stop) → (let r : Result (Unit {0}) Stop = Err stop in RunsLines tells left session s opened last old mid r → RunsTold tells left faults session storage before last old new r)
  lines_stop same stop runs sources below told none =
      let given = given_traces storage old sources none in
      let k = known_of sources given.0 given.1 runs.known runs.is_known in
      let ends = runs.each k.run (over_lines sources given.0 given.1 runs.known below told k).0 in
      record { run = k.run; over = k.over; lines = ends.0; text = ends.1.0; ends = subst (λ (p : PlantState). StopsAtLine tells k.run ends.0 ends.1.0 old p stop) (sym same) ends.1.1 }

  -- It comes to the script's end, and is finished.
  pub lines_finish : (done : Unit {0}) (result : Result (Unit {0}) Stop) → (let r : Result (Unit {0}) Stop = Ok done in RunsLines tells left session s opened last old mid r) → FinishesRuns s old mid new result → IfErr result (HasStopCause mid new) → IsBetween tells s last mid → (s.is_ended ≡ true → (new ≡ mid) × IsOk result)
      → RunsTold tells left faults session storage before last old new result
  lines_finish done result runs finishes cause between untouched sources below told none =
      let given = given_traces storage old sources none in
      let k = known_of sources given.0 given.1 runs.known runs.is_known in
      let over = over_lines sources given.0 given.1 runs.known below told k in
      let ends = runs.each k.run over.0 in
      let answered = ends.1.1 in
      let finished = finishes k.run ends.0 ends.1.0 over.1 ends.2 answered.goes answered.exact answered.stands in
      record { run = k.run; over = k.over; lines = ends.0; text = []; ends = by_result k.run ends.0 result cause finished (stays_worked tells k.run ends.0 ends.1.0 [] s last old mid new between (λ ended. (untouched ended).0) answered) (λ ended. (untouched (ended_answered tells k.run ends.0 ends.1.0 [] s last old mid between answered ended)).1) }
    where
      by_result : (run : ScriptRun) (lines : List Answered) (r : Result (Unit {0}) Stop) → IfErr r (HasStopCause mid new) → EndsFinishing run lines old new r → StaysApplied run lines old new → (IsTrue (stage_at run lines (length lines)).table.is_ended → IsOk r) → EndsScript tells run lines [] old new r
      by_result run lines (Ok value) why finished applied done = (refl, finished, applied)
      by_result run lines (Err stop) why finished applied done = record {
        stops = finished;
        bad = λ bad. absurd (none_bad tells (length lines + 1) (last_line_time lines (length lines)) new.script bad);
        of_bad = λ n is. absurd (no_bad n (subst (λ (x : Stop). HasStopCause mid new x) is why));
        applied = applied;
        after_end = λ ended. absurd (false≢true (done ended));
      }
        where
          no_bad : (n : ℕ) → HasStopCause mid new (stops.BadLine n) → ⊥
          no_bad n never = never

-- ---- the end

-- A session that stands between two lines may be finished.
pub between_may_finish : {S : Type 0} (tells : Type 0) (s : SessionState) (lanes : List (Lane S)) (plant : PlantState) → IsBetween tells s lanes plant → MayFinish tells s plant
between_may_finish {S} tells s lanes plant between = record {
  home = between.home;
  unstarted = λ none. ap (λ (t : Table). t.is_started) (subst (λ (o : Option SiteState). MatchOption o (IsUnstarted s lanes) (IsAtSite tells s lanes plant)) none between.place).table;
  idle = idle s.site between.place;
  ended = ended s.site between.place;
  told = told s.site between.place;
  empty = empty s.site between.place;
}
  where
    idle : (o : Option SiteState) → MatchOption o (IsUnstarted s lanes) (IsAtSite tells s lanes plant) → IfSome o (λ site. IsSiteIdle tells site plant)
    idle None none = tt
    idle (Some site) at = at.may.idle

    ended : (o : Option SiteState) → MatchOption o (IsUnstarted s lanes) (IsAtSite tells s lanes plant) → IfSome o (λ site. s.is_ended ≡ site.table.is_ended)
    ended None none = tt
    ended (Some site) at = at.ended

    told : (o : Option SiteState) → MatchOption o (IsUnstarted s lanes) (IsAtSite tells s lanes plant) → IfSome o (λ site. hit_now site.failed site.told ≡ [])
    told None none = tt
    told (Some site) at = at.may.told

    empty : (o : Option SiteState) → MatchOption o (IsUnstarted s lanes) (IsAtSite tells s lanes plant) → IfSome o (λ site. site.table.is_ended ≡ true → site.at ≡ site.mark.at)
    empty None none = tt
    empty (Some site) at = at.empty

-- What has begun stays so once the run is finished.
pub finished_begins : (session : List ℕ) (site : Option SiteState) (old mid new : PlantState) → SameSite mid new → Elapses mid new → Silent mid new → (site ≡ None → new ≡ mid) → HasBegunRun session site old mid → BeginsRun session old new
finished_begins session None old mid new same past silent still begun = subst (λ (p : PlantState). BeginsRun session old p) (sym (still refl)) (Unstarted begun)
finished_begins session (Some site) old mid new same past silent still begun =
    begun_by_start session old new (started_later session old mid new [] same past (silent_grows mid new (past.kept Control).later silent.said) (silent.heard new.clock ((past.kept Control).later) (omega arith) ∙ sym (append-nil (mid.heard mid.clock))) begun)
