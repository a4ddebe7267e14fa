-- The lines of a script, one after another.
use Rattle.xrc_session.proofs.OnTrail.{rests_on_trail}
use Rattle.pair_table.specs.Tables.{Table}
use Rattle.std.proofs.Common.{◌≡◌, inl, inr, ℕ, suc, ◌+◌, ◌<◌, ◌≤◌, false, true≢false, List, [], ◌++◌, length, Option, Some, None, sym, ap, ◌∙◌, append_assoc, append-nil, arith, refl}
use Rattle.std.specs.Prelude.{IfSome, IsSomeAnd, MatchOption, IsTrue}
use Rattle.crash_plant.specs.declared.device.Device.TheVariants.{Volume}
use Rattle.crash_plant.specs.Calls.{SameSite, WorksOnConsole}
use Rattle.crash_plant.specs.Moments.{PlantState}
use Rattle.write_trace.specs.declared.trace.Trace.{Trace}
use Rattle.pair_table.specs.declared.names.NamedDevice.{NamedDevice}
use Rattle.site_store.specs.Sites.{SiteState}
use Rattle.consistency.specs.Stages.{ScriptRun}
use Rattle.consistency.specs.Courses.{Answered, last_line_time, lines_begun, most_lines, texts_of, stage_at}
use Rattle.script_lines.specs.declared.next.Next.TheVariants as next
use Rattle.script_lines.specs.Hearing.{HearsText, KeepsHearing, SaysNothing}
use Rattle.script_lines.specs.NextLines.{IsNextLine}
use Rattle.script_lines.proofs.EndLaws.{fed_has}
use Rattle.mover.specs.declared.lane.Lane.{Lane}
use Rattle.mover.specs.Epochs.{AllTurnOut}
use Rattle.mover.specs.TurningOut.{AllMayGoOn, AllReadOn}
use Rattle.mover.proofs.TurningOut.{traces_turn_out}
use Rattle.xrc_command.specs.declared.line.Line.{Line}
use Rattle.xrc_status.specs.declared.stop.Stop.{Stop}
use Rattle.xrc_status.specs.declared.stop.Stop.TheVariants.{Spent}
use Rattle.xrc_session.specs.LinePauses.{HasAnswered, HasNotBegun, IsBetween, IsRunOver, LeavesAll, RestsAtSite, stage_after_text}
use Rattle.xrc_session.specs.Ends.{StopsInLine}
use Rattle.xrc_session.specs.Frames.{KeepsPlant}
use Rattle.xrc_session.specs.Lanes.{AllWent, HaveHeadsOf}
use Rattle.xrc_session.specs.Lines.{IsSameSession, KeepsStart}
use Rattle.xrc_session.specs.Runs.{AreLabels}
use Rattle.xrc_session.specs.Starting.{HasBegunRun}
use Rattle.xrc_session.specs.States.{SessionState, session_time}
use Rattle.xrc_session.specs.Trails.{GoesForth, Trail, BeginsAtStart, StandsOnTrail}
use Rattle.xrc_session.proofs.Consoles.{after_heard, after_on}
use Rattle.xrc_session.proofs.HeardLines.{HasHeardLines, next_is_line}
use Rattle.xrc_session.proofs.AppliedEnds.{stays_on}
use Rattle.xrc_session.proofs.Hearings.{hearing_goes_on}
use Rattle.xrc_session.proofs.Labelled.{labels_since, labels_still}
use Rattle.xrc_session.proofs.InTurn.{NoneFell, NoneRisen, rises_before}

-- ---- labels

-- Labels are those that volumes gave still, while counts rise.
pub labels_later : (old mid new : PlantState) (labels : List NamedDevice) → NoneFell old mid → NoneFell mid new → AreLabels old mid 0 labels → AreLabels old new 0 labels
labels_later old mid new labels before fell are = labels_still old mid new 0 labels (λ d. before.devices (Volume d)) (λ d. fell.devices (Volume d)) are

-- They are those that volumes gave since before, where these were left alone.
pub labels_before : (old mid new : PlantState) (labels : List NamedDevice) → SameSite old mid → LeavesAll old mid → AreLabels mid new 0 labels → AreLabels old new 0 labels
labels_before old mid new labels site leaves are = labels_since old mid new 0 labels site (λ d. (leaves (Volume d)).bytes) (λ d. omega (arith, (leaves (Volume d)).faults)) are

-- ---- hearing

module _ {S : Type 0} (run : ScriptRun) (lines : List Answered) (trail : Trail) (text : List ℕ) (s : SessionState) (lanes : List (Lane S)) (began old new : PlantState) (tells : Type 0) (told : tells) (works : WorksOnConsole tells old new) (heard : HearsText text old new) (silent : SaysNothing old new)
    (one : lines_begun text ≤ 1) (keeps : KeepsHearing [] text began old new) (answered : HasAnswered run lines trail [] s lanes began old) where
  -- So much was heard after the lines that a session has answered.
  pub hears_on : HasAnswered run lines trail text s lanes began new
  hears_on = record {
    goes = hearing_goes_on began old new run lines text answered.goes tells told works heard silent one keeps;
    exact = answered.exact;
    stands =
        after_on tells old new works told run lines (stage_after_text run lines text began) trail s began answered.goes.now.site answered.goes.now.later
        (after_heard run lines (stage_after_text run lines [] began) (stage_after_text run lines text began).next trail s began old (answered.goes.now.heard ∙ ap (λ (l : List ℕ). began.heard began.clock ++ l) (append-nil (texts_of lines))) answered.goes.now.said answered.stands);
    broke = answered.broke;
    applied = stays_on tells told run lines began old new works answered.applied;
  }

  -- A line that was heard whole is the next one.
  pub hears_line : (line : Line) (number before : ℕ) → IsNextLine tells number before text new.script (next.Line line) → number ≡ length lines + 1 → last_line_time lines (length lines) ≡ before → (stage_after_text run lines text began).next ≡ Some line
  hears_line line number before is counted time =
      next_is_line tells told began.script lines text new.script line number before
      (answered.goes.now.script ∙ ap (λ (l : List ℕ). l ++ old.script) (append-nil (texts_of lines)) ∙ ap (λ (l : List ℕ). texts_of lines ++ l) heard.script ∙ sym (append_assoc (texts_of lines) text new.script)) is counted time

-- A run stops after lines where so much was heard of the next one.
pub hearing_stops : {S : Type 0} (run : ScriptRun) (lines : List Answered) (trail : Trail) (text : List ℕ) (s : SessionState) (lanes : List (Lane S)) (began now : PlantState) (stop : Stop) → HasAnswered run lines trail text s lanes began now → (s.site ≡ None → s.table.is_started ≡ false) → ¬ (stop ≡ Spent) → StopsInLine run lines text began now stop
hearing_stops {S} run lines trail text s lanes began now stop answered unstarted other = record {
  trail = trail;
  stopped = record {
    part = None;
    stands = answered.goes;
    exact = answered.exact;
    unstarted = λ unstarted_trail. by_none s.site unstarted_trail answered.stands.place;
    begun = λ on. by_begun s.site refl on answered.stands.place;
    next = None;
    on_trail = λ some. by_along s.site some answered.stands.place;
    goes_forth = λ past some. by_place s.site (omega (arith, past, answered.goes.now.later)) some answered.stands.place;
  };
  volumes = answered.stands.volumes;
  spent = λ is. absurd (other is);
}
  where
    by_begun : (o : Option SiteState) → s.site ≡ o → IsTrue (stage_at run lines (length lines)).table.is_started → MatchOption o (HasNotBegun trail began now) (RestsAtSite run lines (stage_after_text run lines text began) trail s began now)
        → (0 < trail.started) × BeginsAtStart run lines trail
    by_begun None is on none = absurd (true≢false (sym on ∙ ap (λ (t : Table). t.is_started) answered.stands.table ∙ unstarted is))
    by_begun (Some site) is on rests = (rests.under_way.some, rests.under_way.begins)

    by_none : (o : Option SiteState) → trail.started ≡ 0 → MatchOption o (HasNotBegun trail began now) (RestsAtSite run lines (stage_after_text run lines text began) trail s began now) → trail.points ≡ []
    by_none None zero not_begun = not_begun.points
    by_none (Some site) zero rests = absurd (omega (arith, zero, rests.under_way.some))

    by_along : (o : Option SiteState) → 0 < trail.started → MatchOption o (HasNotBegun trail began now) (RestsAtSite run lines (stage_after_text run lines text began) trail s began now)
        → StandsOnTrail run lines (stage_after_text run lines text began).next trail None now
    by_along None some none = absurd (omega (arith, some, none.started))
    by_along (Some site) some rests = rests_on_trail run lines (stage_after_text run lines text began) trail s began now site rests

    by_place : (o : Option SiteState) → 0 < now.clock → 0 < trail.started → MatchOption o (HasNotBegun trail began now) (RestsAtSite run lines (stage_after_text run lines text began) trail s began now)
        → GoesForth run lines (stage_after_text run lines text began).next trail None began now
    by_place None up some none = absurd (omega (arith, some, none.started))
    by_place (Some site) up some rests = rests.under_way.goes_forth up

-- ---- stops

-- No line that counts is bad.
pub whole_not_bad : (tells : Type 0) (number before : ℕ) (text left : List ℕ) (line : Line) → IsNextLine tells number before text left (next.Line line) → IsNextLine tells number before text left next.Bad → ⊥
whole_not_bad tells number before text left line is (inl bad) = let clash : Some line ≡ None = sym is.1 ∙ bad.1 in cc
whole_not_bad tells number before text left line (inl fed, asks) (inr long) = true≢false (sym (fed_has text fed) ∙ long.no_feed)
whole_not_bad tells number before text left line (inr last, asks) (inr long) = absurd (omega (arith, last.front.short, long.size))

-- ---- between two lines of a script

-- How a run of a script stands between two lines: the next one has this number, and the last one this time.
pub record IsRunning {S : Type 0} (tells : Type 0) (left : S → Option (List ℕ)) (faults : S → ℕ) (first s : SessionState) (lanes lanes_now : List (Lane S)) (began now : PlantState) (number before : ℕ) : Type 0 where
  pub bound : number ≤ suc most_lines
  pub between : IsBetween tells s lanes_now now
  pub same : IsSameSession first s
  pub time : session_time s ≤ before
  pub keeps : KeepsPlant tells began now
  pub counts : NoneRisen began now
  pub went : AllWent left faults lanes lanes_now
  pub heads : (traces : List Trace) → HaveHeadsOf lanes traces → HaveHeadsOf lanes_now traces
  pub labels : tells → IfSome s.site (λ site. AreLabels began now 0 s.names.labels)
  pub begun : tells → HasBegunRun first.session s.site began now
  pub heard : tells → s.site ≡ None → HasHeardLines first.session began now number before
  pub runs : tells → (run : ScriptRun) → IsRunOver left run s lanes lanes_now began now
      → (lines : List Answered) × ((trail : Trail) × HasAnswered run lines trail [] s lanes_now began now) × (number ≡ length lines + 1) × (last_line_time lines (length lines) ≡ before)

-- ---- one line

-- A run over what a session has come to after a line is one over what it was before it.
pub over_before : {S : Type 0} (left : S → Option (List ℕ)) (run : ScriptRun) (s next : SessionState) (lanes mid after : List (Lane S)) (began old new : PlantState) → KeepsStart s next → next.session ≡ s.session → AllReadOn left lanes mid → AllMayGoOn mid → AllReadOn left mid after → NoneFell old new
    → IsRunOver left run next lanes after began new → IsRunOver left run s lanes mid began old × AllTurnOut left run.traces mid after
over_before {S} left run s next lanes mid after began old new keeps name first may on_to fell over =
    let turned = traces_turn_out left run.traces lanes mid after first may on_to over.traces in (
      record {
        its = record { names = over.its.names; session = over.its.session ∙ name; level = by_level s.site next.site keeps over.its.level; labels = by_labels s.site next.site keeps over.its.labels };
        heads = over.heads;
        traces = turned.0;
        rises = rises_before run began old new fell over.rises;
      },
      turned.1,
    )
  where
    by_level : (o p : Option SiteState) → IfSome o (λ site. IsSomeAnd p (λ now. (now.level ≡ site.level) × (next.names.labels ≡ s.names.labels))) → IfSome p (λ site. run.level ≡ site.level) → IfSome o (λ site. run.level ≡ site.level)
    by_level None p keeps level = tt
    by_level (Some site) None keeps level = absurd keeps
    by_level (Some site) (Some now) keeps level = level ∙ keeps.0

    by_labels : (o p : Option SiteState) → IfSome o (λ site. IsSomeAnd p (λ now. (now.level ≡ site.level) × (next.names.labels ≡ s.names.labels))) → IfSome p (λ site. run.labels ≡ next.names.labels) → IfSome o (λ site. run.labels ≡ s.names.labels)
    by_labels None p keeps labels = tt
    by_labels (Some site) None keeps labels = absurd keeps
    by_labels (Some site) (Some now) keeps labels = labels ∙ keeps.1
