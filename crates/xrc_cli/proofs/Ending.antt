-- How a run ends: done, or by a stop whose line is said last.
use Rattle.std.proofs.Common.{◌≡◌, ◌⊎◌, inl, inr, ℕ, ◌+◌, ◌<◌, ◌≤◌, List, [], ◌∷◌, ◌++◌, length, take, drop, false, Option, Some, None, Result, Ok, Err, refl, sym, ap, subst, ◌∙◌, append_assoc, append-nil, arith}
use Rattle.std.specs.Prelude.{◌≢◌, IfErr, IsTrue}
use Rattle.std.proofs.Math.Seq.{take-append_seam}
use Rattle.std.proofs.lemmas.Bool.{cases_eq}
use Rattle.xrc_edge.specs.Causes.{Rose}
use Rattle.crash_plant.specs.declared.device.Device.TheVariants.{Control, Volume}
use Rattle.crash_plant.specs.Calls.{Says, WorksOnConsole}
use Rattle.crash_plant.specs.Moments.{PlantState}
use Rattle.consistency.specs.Stages.{ScriptRun}
use Rattle.consistency.specs.Pauses.{RunGoesOn}
use Rattle.consistency.specs.Courses.{Answered, replies_of, texts_of}
use Rattle.consistency.specs.Leads.{Point}
use Rattle.consistency.proofs.Keeping.{keeps_says_status, keeps_throughout}
use Rattle.script_lines.specs.NextLines.{IsNextLine}
use Rattle.script_lines.specs.Texts.{has_feed}
use Rattle.script_lines.specs.declared.next.Next.TheVariants.{Bad}
use Rattle.mover.specs.declared.lane.Lane.{Lane}
use Rattle.xrc_status.specs.declared.stop.Stop.{Stop}
use Rattle.xrc_status.specs.declared.stop.Stop.TheVariants.{BadLine, ConsoleFault, NoMemory, Spent}
use Rattle.xrc_status.specs.Saying.{SaidWhole, SaysLast}
use Rattle.xrc_status.specs.Stops.{last_line, status_of}
use Rattle.xrc_session.specs.LinePauses.{stage_after_text}
use Rattle.xrc_session.specs.Frames.{ChangesRows, KeepsPlant, rows_passed}
use Rattle.xrc_session.specs.Lanes.{AllTold, SourceBytes}
use Rattle.xrc_session.specs.Openings.{ComesEarly, IsOfSite, OpensInOrder, opening_stop, stop_of_headers, stop_of_site}
use Rattle.xrc_session.specs.Runs.{AreCountsBelow, IsBadAfter, IsRunOfScript, RunsScript, RunsTold, StopsAtLine}
use Rattle.xrc_session.specs.AppliedEnds.{StaysApplied}
use Rattle.xrc_session.proofs.AppliedEnds.{stays_more, stays_on}
use Rattle.xrc_session.proofs.Courses.{none_next}
use Rattle.xrc_session.specs.Starting.{AreOwnSpent, BeginsRun}
use Rattle.xrc_session.specs.Stops.{HasRunCause, IsStopAfterEnd, RepliesInPart, StandsStopped, StopsByCount, line_asked, lines_said}
use Rattle.xrc_session.specs.Trails.{AreExact, GoesForth, Trail, HasBegunTrail, StandsOnTrail}
use Rattle.xrc_session.proofs.Made.{site_stop_is}
use Rattle.xrc_cli.specs.Statuses.{EndsScriptRun, IsHeardAfter, OpensFirst, Ran, SaidAfter, SaysLineOnly, StopsWith}
use Rattle.xrc_cli.specs.Statuses.SaidInPart.{AllReplies, LastInPart}
use Rattle.xrc_cli.proofs.Lasting.{begins_still, cause_still, forth_still, keeps_still, rows_still, script_still, own_spent_still, along_still, bears_still}
use Rattle.xrc_cli.proofs.StatusLines.{stop_says_none}
use Rattle.xrc_cli.proofs.Stopping.{EndsBy, ends_by, is_console, is_of_headers, is_of_site, is_spent, not_done, status_cause, status_known, StoresAsWere}

-- What is so where a script was run, before the line of a stop is said.
pub record RanScript {S P : Type 0} (tells : Type 0) (state : P → PlantState) (left : S → Option (List ℕ)) (faults : S → ℕ) (session : List ℕ) (storage : ℕ) (before now : List (Lane S)) (old mid : P) (result : Result (Unit {0}) Stop) : Type 0 where
  pub lanes_stay : length now ≡ length before
  pub opens : OpensInOrder left faults storage before now (state old) result
  pub early : IfErr result (λ stop. ComesEarly stop → mid ≡ old)
  pub unopened : (sources : List SourceBytes) (stop : Stop) → AllTold left faults before now sources → opening_stop storage (state old) sources ≡ Some stop → mid ≡ old
  pub keeps : KeepsPlant tells (state old) (state mid)
  pub runs : tells → RunsTold tells left faults session storage before now (state old) (state mid) result
  pub begins : tells → BeginsRun session (state old) (state mid)
  pub cause : IfErr result (λ stop. ComesEarly stop ⊎ HasRunCause (state old) (state mid) stop)
  pub counts : StopsByCount (state old) (state mid) result

abbrev pub done : Result (Unit {0}) Stop
done = Ok tt

abbrev pub failed : Stop → Result (Unit {0}) Stop
failed stop = Err stop

err_is : (a b : Stop) → failed a ≡ failed b → a ≡ b
err_is a b is = cc

no_err : (stop : Stop) → done ≡ failed stop → ⊥
no_err stop is = cc

-- What was lent of a list comes back in its place.
pub taken_back : {A : Type 0} (len : ℕ) (items new : List A) → length new ≡ len → take len (new ++ drop (length new) items) ≡ new
taken_back len items new is = ap (λ (n : ℕ). take n (new ++ drop (length new) items)) (sym is) ∙ take-append_seam new (drop (length new) items)

-- Nothing that was heard is no bad line.
none_bad : (tells : Type 0) (number before : ℕ) (left : List ℕ) → IsNextLine tells number before [] left Bad → ⊥
none_bad tells number before left (inl (inl fed, asks)) = too_long fed.line fed.text_is
  where
    too_long : (line : List ℕ) → [] ≡ line ++ 10 ∷ [] → ⊥
    too_long [] is = cc
    too_long (b ∷ line) is = cc
none_bad tells number before left (inl (inr last, asks)) = omega (arith, last.some)
none_bad tells number before left (inr long) = omega (arith, long.size)

-- ---- a run that stopped after its lines

module _ (tells : Type 0) (told : tells) (session : List ℕ) (sources : List SourceBytes) (stop : Stop) (old mid : PlantState) (run : ScriptRun) (lines : List Answered) (trail : Trail) (next : Option Point) where
  -- The console failed within the reply to a line.
  module _ (a : Answered) (none : trail.started ≡ 0 → trail.points ≡ []) (over : IsRunOfScript session sources old mid run) (is : stop ≡ ConsoleFault) (cause : HasRunCause old mid stop) (part : RepliesInPart run lines a old mid) (exact : AreExact run (lines ++ a ∷ []) trail) (begun : HasBegunTrail run (lines ++ a ∷ []) trail)
      (along : 0 < trail.started → StandsOnTrail run (lines ++ a ∷ []) None trail next mid) (forth : 0 < old.clock → 0 < trail.started → GoesForth run (lines ++ a ∷ []) None trail next old mid) (volumes : ChangesRows (rows_passed trail.points) old mid) (as_were : StoresAsWere old mid stop) (applied : StaysApplied run lines old mid) where
    heard_whole : mid.heard mid.clock ≡ old.heard old.clock ++ (texts_of (lines ++ a ∷ []) ++ [])
    heard_whole = part.heard ∙ ap (λ (l : List ℕ). old.heard old.clock ++ l) (sym (append-nil (texts_of (lines ++ a ∷ []))))

    heard_none : IsHeardAfter run (lines ++ a ∷ []) old mid None
    heard_none = ([], heard_whole, none_next run old.script (lines ++ a ∷ []))

    pub ran_in_part : Ran tells session sources old mid (status_of stop)
    ran_in_part = record {
      run = run;
      over = over;
      lines = lines ++ a ∷ [];
      trail = trail;
      course = part.course;
      asked = part.asked;
      bears = part.bears;
      exact = exact;
      unstarted = none;
      begun = begun;
      goes_forth = λ up some. (None, heard_none, (next, forth up some));
      on_trail = λ some. (None, heard_none, (next, along some));
      applied = stays_more run lines a old mid part.applied part.stays applied;
      volumes = volumes;
      done = λ zero. absurd (omega (arith, zero, ap status_of is));
      stopped = λ not. record {
        stop = stop;
        status_is = refl;
        cause = cause;
        counts = as_were;
        text = [];
        heard = heard_whole;
        script = part.script ∙ ap (λ (l : List ℕ). l ++ mid.script) (sym (append-nil (texts_of (lines ++ a ∷ []))));
        one_line = omega arith;
        said = λ other. absurd (other (ap status_of is));
        in_part = λ three. LastInPart lines a part.front.0 refl part.front.1 part.front.2;
        bad = λ bad. absurd (none_bad tells _ _ mid.script bad);
        of_bad = λ n line. absurd (let clash : ConsoleFault ≡ BadLine n = sym is ∙ line in cc clash);
        spent = λ spent. absurd (omega (arith, spent, ap status_of is));
        bears_now = part.bears_now;
        after_end = λ ended. inr (inl is);
      };
    }

  -- It stopped between replies, and its line was said.
  module _ (text : List ℕ) (new : PlantState) (none : trail.started ≡ 0 → trail.points ≡ []) (ends : EndsBy old new stop) (keeps : KeepsPlant tells old mid) (last : SaysLast tells (last_line stop) mid new) (unfailed : stop ≢ ConsoleFault → mid.console_faults ≡ old.console_faults) (over : IsRunOfScript session sources old new run) (cause : HasRunCause old new stop)
      (goes : RunGoesOn run lines text old mid) (exact : AreExact run lines trail) (begun : HasBegunTrail run lines trail) (along : 0 < trail.started → StandsOnTrail run lines (stage_after_text run lines text old).next trail next mid) (forth : 0 < old.clock → 0 < trail.started → GoesForth run lines (stage_after_text run lines text old).next trail next old mid) (volumes : ChangesRows (rows_passed trail.points) old mid)
      (spent : stop ≡ Spent → AreOwnSpent run (stage_after_text run lines text old) old mid) (bad : IsBadAfter tells lines text mid.script → (stop ≡ BadLine (length lines + 1)) ⊎ ((stop ≡ ConsoleFault) × (has_feed text ≡ false))) (of_bad : (n : ℕ) → stop ≡ BadLine n → (n ≡ length lines + 1) × IsBadAfter tells lines text mid.script)
      (silent : stop ≡ ConsoleFault → new.said new.clock ≡ mid.said mid.clock) (as_were : StoresAsWere old new stop) (applied : StaysApplied run lines old mid) (after_end : IsTrue (stage_after_text run lines text old).table.is_ended → IsStopAfterEnd stop) where
    works : WorksOnConsole tells mid new
    works = last.front.only

    says : Says (last_line stop) mid new
    says = last.front.moments told

    later : mid.clock ≤ new.clock
    later = ((works.elapses told).kept Control).later

    since : old.clock ≤ mid.clock
    since = ((keeps.elapses told).kept Control).later

    heard_is : new.heard new.clock ≡ old.heard old.clock ++ (texts_of lines ++ text)
    heard_is = says.heard new.clock later (omega arith) ∙ goes.now.heard

    said_after : stop ≢ ConsoleFault → SaidAfter lines (last_line stop) old new
    said_after other =
        let front = says.front new.clock later (omega arith) in
        record {
          said = (front.0, front.1, front.2 ∙ ap (λ (l : List ℕ). l ++ take front.0 (last_line stop)) goes.now.said ∙ append_assoc (old.said old.clock) (replies_of lines) (take front.0 (last_line stop)));
          whole = by_sides (last.whole told) last.console_count;
        }
      where
        rose_before : Rose mid.console_faults new.console_faults → Rose old.console_faults new.console_faults
        rose_before rose = subst (λ (n : ℕ). Rose n new.console_faults) (unfailed other) rose

        by_sides : SaidWhole (last_line stop) mid new ⊎ Rose mid.console_faults new.console_faults → (new.console_faults ≡ mid.console_faults) ⊎ Rose mid.console_faults new.console_faults
            → ((new.said new.clock ≡ old.said old.clock ++ (replies_of lines ++ last_line stop)) × (new.console_faults ≡ old.console_faults)) ⊎ Rose old.console_faults new.console_faults
        by_sides (inr rose) count = inr (rose_before rose)
        by_sides (inl whole) (inr rose) = inr (rose_before rose)
        by_sides (inl whole) (inl same) = inl (whole ∙ ap (λ (l : List ℕ). l ++ last_line stop) goes.now.said ∙ append_assoc (old.said old.clock) (replies_of lines) (last_line stop), same ∙ unfailed other)

    heard_after : IsHeardAfter run lines old new (stage_after_text run lines text old).next
    heard_after = (text, heard_is, refl)

    stops_with : StopsWith tells run lines old new (status_of stop)
    stops_with = record {
      stop = stop;
      status_is = refl;
      cause = cause;
      counts = as_were;
      text = text;
      heard = heard_is;
      script = goes.now.script ∙ ap (λ (l : List ℕ). texts_of lines ++ text ++ l) (sym says.script);
      one_line = goes.now.one_line;
      said = λ other. said_after (λ is. other (ap status_of is));
      in_part = λ three. AllReplies (silent (is_console old new stop ends three) ∙ goes.now.said);
      bad = λ is. bad (subst (λ (l : List ℕ). IsBadAfter tells lines text l) says.script is);
      of_bad = λ n is. let line = of_bad n is in (line.0, subst (λ (l : List ℕ). IsBadAfter tells lines text l) (sym says.script) line.1);
      spent = λ is. own_spent_still tells told mid new works run (stage_after_text run lines text old) old (spent (is_spent old new stop ends is));
      bears_now = λ started. bears_still tells told mid new works run (stage_after_text run lines text old) (replies_of lines) (goes.now.bears started);
      after_end = after_end;
    }

    pub ran_to_stop : Ran tells session sources old new (status_of stop)
    ran_to_stop = record {
      run = run;
      over = over;
      lines = lines;
      trail = trail;
      course = goes.now.course;
      asked = goes.now.asked;
      bears = λ up.
          let none = stop_says_none stop (status_known old new stop ends) in
          keeps_says_status run lines text old mid new up (goes.keeps up) tells told works (last_line stop) says none.0 none.1;
      exact = exact;
      unstarted = none;
      begun = begun;
      goes_forth = λ up some.
          let heard = (stage_after_text run lines text old).next in
          (heard, heard_after, (next, forth_still tells told mid new works (omega (arith, up, since)) run lines heard trail next old (forth up some)));
      on_trail = λ some.
          let heard = (stage_after_text run lines text old).next in
          (heard, heard_after, (next, along_still tells told mid new works run lines heard trail next (along some)));
      applied = stays_on tells told run lines old mid new works applied;
      volumes = rows_still tells told mid new works (rows_passed trail.points) old goes.now.site goes.now.later volumes;
      done = λ zero. absurd (not_done old new stop ends zero);
      stopped = λ not. stops_with;
    }

-- ---- the whole

module _ {S P : Type 0} (tells : Type 0) (state : P → PlantState) (left : S → Option (List ℕ)) (faults : S → ℕ) (session : List ℕ) (storage : ℕ) (before now : List (Lane S)) (old mid : P) where
  -- ---- done

  pub ends_done : RanScript tells state left faults session storage before now old mid done → EndsScriptRun tells state left faults session storage before now old mid 0
  ends_done r = record {
    lanes_stay = r.lanes_stay;
    cause = record {
      known = refl;
      counts = λ d store not. r.counts.devices d store (λ stop. no_err _ stop);
      console_count = λ is. r.counts.console (λ stop. no_err _ stop);
      console_once = r.counts.console_once;
      console = λ is. absurd (omega (arith, is));
      journal = λ is. absurd (omega (arith, is));
      control = λ is. absurd (omega (arith, is));
      state = λ is. absurd (omega (arith, is));
    };
    keeps = r.keeps;
    opens = record {
      site = λ stop due. absurd (no_err stop (r.opens.site stop due).0);
      of_site = λ is. absurd (elim is [ inl one ↦ omega (arith, one) | inr two ↦ omega (arith, two) ]);
      headers = λ sources stop given due. absurd (elim (r.opens.headers sources stop given due) [ inl one ↦ no_err stop one | inr two ↦ no_err NoMemory two ]);
      of_headers = λ is. absurd (elim is [ inl one ↦ omega (arith, one) | inr two ↦ omega (arith, two) ]);
    };
    begins = r.begins;
    ran = λ told below sources given none.
        let runs = r.runs told sources below given none in
        let trail = runs.ends.1.0 in
        let is = runs.ends.1.1 in
        let heard_none : IsHeardAfter runs.run runs.lines (state old) (state mid) None = ([], is.goes.now.heard, none_next runs.run (state old).script runs.lines) in
        record {
          run = runs.run;
          over = runs.over;
          lines = runs.lines;
          trail = trail;
          course = is.goes.now.course;
          asked = is.goes.now.asked;
          bears = λ up. keeps_throughout runs.run runs.lines [] (state old) (state mid) (is.goes.keeps up);
          exact = is.exact;
          unstarted = is.unstarted;
          begun = is.begun;
          goes_forth = λ up some. (None, heard_none, (None, is.goes_forth up some));
          on_trail = λ some. (None, heard_none, (None, is.on_trail some));
          applied = runs.ends.2;
          volumes = is.volumes;
          done = λ zero. is;
          stopped = λ not. absurd (not refl);
        };
  }

  -- ---- stopped

  module _ (stop : Stop) (new : P) (r : RanScript tells state left faults session storage before now old mid (failed stop)) (last : SaysLast tells (last_line stop) (state mid) (state new)) (silent : stop ≡ ConsoleFault → new ≡ mid) where
    cause_now : ComesEarly stop ⊎ HasRunCause (state old) (state new) stop
    cause_now = elim r.cause [
      | inl early ↦ inl early
      | inr late ↦ inr (cause_still (state old) (state mid) (state new) last.front.only.faults stop (λ is. ap (λ (p : P). (state p).console_faults) (silent is)) late)
    ]

    ends : EndsBy (state old) (state new) stop
    ends = ends_by (state old) (state new) stop cause_now

    as_were_mid : StoresAsWere (state old) (state mid) stop
    as_were_mid d store other = r.counts.devices d store (λ is. other (err_is stop _ is))

    as_were : StoresAsWere (state old) (state new) stop
    as_were d store other = last.front.only.faults d ∙ as_were_mid d store other

    -- After a fault of the console nothing is said.
    once : (state new).console_faults ≤ (state old).console_faults + 1
    once = by_status (cases_eq (status_of stop) 3)
      where
        by_status : (status_of stop ≡ 3) ⊎ (status_of stop ≢ 3) → (state new).console_faults ≤ (state old).console_faults + 1
        by_status (inl is) = (let first = r.counts.console_once in let quiet = ap (λ (p : P). (state p).console_faults) (silent (is_console (state old) (state new) stop ends is)) in omega (arith, first, quiet))
        by_status (inr other) = (let quiet = r.counts.console (λ is. other (ap status_of (err_is stop ConsoleFault is))) in let one = last.console_once in omega (arith, quiet, one))

    -- ---- opening

    says_only : (other : Stop) → stop ≡ other → mid ≡ old → SaysLineOnly tells other (state old) (state new) (status_of stop)
    says_only other is same = record {
      status_is = ap status_of is;
      says = subst (λ (x : Stop). SaysLast tells (last_line x) (state old) (state new)) is (subst (λ (p : P). SaysLast tells (last_line stop) (state p) (state new)) same last);
    }

    opens_now : OpensFirst tells left faults storage before now (state old) (state new) (status_of stop)
    opens_now = record {
      site = λ other due.
          let at = r.opens.site other due in
          let is = err_is stop other at.0 in
          (at.1, says_only other is (r.early (inl (subst IsOfSite (sym is) (site_stop_is storage (length before) (state old) other due)))));
      of_site = λ is. let kind = is_of_site (state old) (state new) stop ends is in (stop, kind, r.opens.of_site stop kind refl);
      headers = λ sources other given due.
          let same = r.unopened sources other given due in
          elim (r.opens.headers sources other given due) [ inl is ↦ inl (says_only other (err_is stop other is) same) | inr is ↦ inr (says_only NoMemory (err_is stop NoMemory is) same) ];
      of_headers = λ is.
          let kind = is_of_headers (state old) (state new) stop ends is in
          (stop, kind, says_only stop refl (r.early (inr kind)), λ sources given. r.opens.of_headers sources stop given kind refl, λ k d fault. r.opens.fault k d (ap failed fault));
    }

    -- ---- after the opening

    module _ (told : tells) (below : AreCountsBelow (state new)) (sources : List SourceBytes) (given : AllTold left faults before now sources) (none : opening_stop storage (state old) sources ≡ None) where
      not_early : ComesEarly stop → ⊥
      not_early (inl site) =
          let due : stop_of_site storage (length sources) (state old) ≡ Some stop = ap (λ (n : ℕ). stop_of_site storage n (state old)) given.many ∙ r.opens.of_site stop site refl in
          let stops : opening_stop storage (state old) sources ≡ Some stop = ap (λ (o : Option Stop). elim o [ Some x ↦ Some x | None ↦ stop_of_headers 0 [] sources ]) due in
          cc (none, stops)
      not_early (inr header) = let stops = r.opens.of_headers sources stop given header refl in cc (none, stops)

      late : HasRunCause (state old) (state mid) stop
      late = elim r.cause [ inl early ↦ absurd (not_early early) | inr cause ↦ cause ]

      late_now : HasRunCause (state old) (state new) stop
      late_now = elim cause_now [ inl early ↦ absurd (not_early early) | inr cause ↦ cause ]

      runs : RunsScript tells session sources (state old) (state mid) (failed stop)
      runs = r.runs told sources (λ d. let same = last.front.only.faults (Volume d) in let less = below d in omega (arith, same, less)) given none

      over_now : IsRunOfScript session sources (state old) (state new) runs.run
      over_now = script_still (state old) (state mid) (state new) last.front.only.faults session sources runs.run runs.over

      at_line : StopsAtLine tells runs.run runs.lines runs.text (state old) (state mid) stop
      at_line = runs.ends

      abbrev trail : Trail
      trail = at_line.stops.trail

      abbrev next : Option Point
      next = at_line.stops.stopped.next

      by_part : (part : Option Answered) → StandsStopped runs.run runs.lines runs.text part (state old) (state mid) stop → AreExact runs.run (lines_said runs.lines part) trail → HasBegunTrail runs.run (lines_said runs.lines part) trail
          → (0 < trail.started → StandsOnTrail runs.run (lines_said runs.lines part) (line_asked (stage_after_text runs.run runs.lines runs.text (state old)).next part) trail next (state mid))
          → (0 < (state old).clock → 0 < trail.started → GoesForth runs.run (lines_said runs.lines part) (line_asked (stage_after_text runs.run runs.lines runs.text (state old)).next part) trail next (state old) (state mid))
          → Ran tells session sources (state old) (state new) (status_of stop)
      by_part None goes exact begun along forth =
          ran_to_stop tells told session sources stop (state old) (state mid) runs.run runs.lines trail next runs.text (state new) at_line.stops.stopped.unstarted ends r.keeps last (λ other. r.counts.console (λ is. other (err_is stop ConsoleFault is))) over_now late_now goes exact begun along forth at_line.stops.volumes
          at_line.stops.spent at_line.bad at_line.of_bad (λ is. ap (λ (p : P). (state p).said (state p).clock) (silent is)) as_were at_line.applied at_line.after_end
      by_part (Some a) stands exact begun along forth =
          subst (λ (p : P). Ran tells session sources (state old) (state p) (status_of stop)) (sym (silent stands.0))
          (ran_in_part tells told session sources stop (state old) (state mid) runs.run runs.lines trail next a at_line.stops.stopped.unstarted runs.over stands.0 late stands.2 exact begun along forth at_line.stops.volumes as_were_mid at_line.applied)

      ran_now : Ran tells session sources (state old) (state new) (status_of stop)
      ran_now = by_part at_line.stops.stopped.part at_line.stops.stopped.stands at_line.stops.stopped.exact at_line.stops.stopped.begun at_line.stops.stopped.on_trail at_line.stops.stopped.goes_forth

    pub ends_stopped : EndsScriptRun tells state left faults session storage before now old new (status_of stop)
    ends_stopped = record {
      lanes_stay = r.lanes_stay;
      cause = status_cause (state old) (state new) stop ends as_were once;
      keeps = keeps_still tells stop session (state old) (state mid) (state new) r.keeps last;
      opens = opens_now;
      begins = λ told. begins_still tells told stop session (state old) (state mid) (state new) r.keeps last (r.begins told);
      ran = ran_now;
    }
