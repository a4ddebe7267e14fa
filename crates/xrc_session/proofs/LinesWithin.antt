-- A started session within a line: after what it heard, and after points that it has passed since.
use Rattle.xrc_session.proofs.OnTrail.{passed_on_trail}
use Rattle.std.proofs.Common.{◌≡◌, ◌⊎◌, inl, inr, ℕ, ◌<◌, ◌≤◌, Bool, true, false, true≢false, List, [], ◌++◌, length, Option, Some, None, refl, sym, subst, ◌∙◌, arith}
use Rattle.std.specs.Prelude.{fold, MatchOption}
use Rattle.std.proofs.lemmas.Bool.{cases_lt}
use Rattle.crash_plant.specs.declared.device.Device.TheVariants.{Control}
use Rattle.crash_plant.specs.Calls.{Elapses, SameSite, Silent}
use Rattle.crash_plant.specs.Moments.{PlantState}
use Rattle.xrc_command.specs.declared.line.Line.{Line}
use Rattle.site_store.specs.Sites.{SiteState}
use Rattle.consistency.specs.Bearing.{MayBeMeant}
use Rattle.consistency.specs.Stages.{ScriptRun, Stage}
use Rattle.consistency.specs.Pauses.{RunGoesOn}
use Rattle.consistency.specs.Courses.{Answered}
use Rattle.consistency.specs.Leads.{Point}
use Rattle.consistency.specs.Ways.{ComesNext, Leg, PassedPoint, leg_after}
use Rattle.passages.specs.Points.{last_point}
use Rattle.passages.proofs.InARow.{links_go_on}
use Rattle.mover.specs.declared.lane.Lane.{Lane}
use Rattle.xrc_status.specs.declared.stop.Stop.{Stop}
use Rattle.xrc_status.specs.declared.stop.Stop.TheVariants.{Spent}
use Rattle.xrc_session.specs.LinePauses.{HasNotBegun, RestsAtSite, stage_after_text}
use Rattle.xrc_session.specs.Ends.{StopsInLine}
use Rattle.xrc_session.specs.Frames.{ChangesRows, rows_passed}
use Rattle.xrc_session.specs.States.{SessionState}
use Rattle.xrc_session.specs.Steps.{BeginsToPass, HasHeard, PassesPointsOn}
use Rattle.xrc_session.specs.Stops.{IsSpentNow}
use Rattle.xrc_session.specs.Trails.{AreExact, AreNext, BeginsAtStart, GoesForth, Trail, asked_with, first_leg, last_leg, with_points, StandsOnTrail}
use Rattle.xrc_session.proofs.Asked.{fold_append, last_of_leg}
use Rattle.xrc_session.proofs.Courses.{past_counted, unstarted_before}
use Rattle.xrc_session.proofs.Exactly.{exact_stays}
use Rattle.xrc_session.proofs.RowFrames.{changes_rows_on}
use Rattle.xrc_session.proofs.Trails.{goes_forth_on, last_meant, rest_is_meant, works_to_run}

-- A session that has started is within a line that it heard after others, or after them where it heard none: its devices have gone to the last leg
-- of its trail, whose point may be meant. All lines before were answered there, and no mark was made for the line's command alone.
pub record IsWithin (run : ScriptRun) (lines : List Answered) (trail : Trail) (text : List ℕ) (line : Option Line) (began now : PlantState) : Type 0 where
  pub goes : RunGoesOn run lines text began now
  pub exact : AreExact run lines trail
  pub some : 0 < trail.started
  pub started : trail.started ≤ length lines
  pub begins : BeginsAtStart run lines trail
  pub rowless : (first_leg run lines trail).point.rows ≡ []
  pub next : AreNext run lines line trail
  pub goes_forth : 0 < now.clock → GoesForth run lines line trail None began now
  pub marked : (last_leg run lines trail).marked ≡ []
  pub answered : length lines ≤ (last_leg run lines trail).answered
  pub volumes : ChangesRows (rows_passed trail.points) began now
  pub may : MayBeMeant run (stage_after_text run lines text began) (last_leg run lines trail).point

module _ (run : ScriptRun) (lines : List Answered) (trail : Trail) (text : List ℕ) (line : Option Line) (began old new : PlantState) (heard : (stage_after_text run lines text began).next ≡ line) (within : IsWithin run lines trail text line began old)
    (site : SameSite old new) (elapses : Elapses old new) (silent : Silent old new) where
  abbrev stage : Stage
  stage = stage_after_text run lines text began

  abbrev l : Leg
  l = last_leg run lines trail

  abbrev first : Leg
  first = first_leg run lines trail

  here : l.point ≡ last_point first.point trail.points
  here = last_of_leg run (asked_with lines line) first trail.points within.marked within.next

  module _ (more : List PassedPoint) (next : Option Point) (passes : PassesPointsOn run stage (asked_with lines line) l more next old new) where
    pub goes_still : RunGoesOn run lines text began new
    goes_still = works_to_run began old new run lines text within.goes site elapses silent (asked_with lines line) l more next (λ started. (within.may, passes))

    past_before : 0 < new.clock → 0 < old.clock
    past_before up = by_past (cases_lt 0 old.clock)
      where
        by_past : (0 < old.clock) ⊎ (old.clock ≤ 0) → 0 < old.clock
        by_past (inl past) = past
        by_past (inr none) = let still = (elapses.kept Control).still (omega (arith, none)) in absurd (omega (arith, up, still))

    pub forth_still : 0 < old.clock → GoesForth run lines line (with_points more trail) next began new
    forth_still past = goes_forth_on run lines line trail began old new site elapses past (within.goes_forth past) stage more next within.marked passes

    pub along_still : StandsOnTrail run lines line (with_points more trail) next new
    along_still = passed_on_trail run lines line trail stage more next old new within.rowless within.next within.marked passes

    pub volumes_still : ChangesRows (rows_passed (trail.points ++ more)) began new
    volumes_still =
        changes_rows_on first.point trail.points more began old new within.goes.now.site within.goes.now.later elapses within.rowless within.volumes
        (subst (λ (p : Point). ChangesRows (p.rows ++ rows_passed more) old new) here passes.volumes)

    pub exact_still : AreExact run lines (with_points more trail)
    exact_still = exact_stays run lines trail within.begins line more within.next within.answered within.exact

  -- It has started.
  has_started : stage.table.is_started ≡ true
  has_started = by_started stage.table.is_started refl
    where
      by_started : (b : Bool) → stage.table.is_started ≡ b → stage.table.is_started ≡ true
      by_started true is = is
      by_started false is =
          let before = unstarted_before run lines within.goes.now.course (length lines) trail.started within.started (omega arith) is in
          absurd (true≢false (sym (within.begins.after within.some within.started) ∙ before))

  -- It goes on by points, and stops after some.
  pub within_stops : (stop : Stop) → (stop ≡ Spent → IsSpentNow new) → BeginsToPass run stage (asked_with lines line) l old new → StopsInLine run lines text began new stop
  within_stops stop spent begins =
      let more = begins.0 in
      let next = begins.1.0 in
      let passes = begins.1.1 in
      record {
        trail = with_points more trail;
        stopped = record {
          part = None;
          stands = goes_still more next passes;
          exact = exact_still more next passes;
          unstarted = λ unstarted. absurd (omega (arith, unstarted, within.some));
          begun = λ on. (within.some, record { within = within.begins.within; before = within.begins.before; after = within.begins.after });
          next = next;
          on_trail = λ some. subst (λ (o : Option Line). StandsOnTrail run lines o (with_points more trail) next new) (sym heard) (along_still more next passes);
          goes_forth = λ past some. subst (λ (o : Option Line). GoesForth run lines o (with_points more trail) next began new) (sym heard) (forth_still more next passes (omega (arith, past, within.goes.now.later)));
        };
        volumes = volumes_still more next passes;
        spent = λ is. record { spent = spent is; own = inl has_started };
      }

  pub within_on : (more : List PassedPoint) → PassesPointsOn run stage (asked_with lines line) l more None old new → (fold leg_after l more).marked ≡ [] → length lines ≤ (fold leg_after l more).answered → IsWithin run lines (with_points more trail) text line began new
  within_on more passes none all = record {
    goes = goes_still more None passes;
    exact = exact_still more None passes;
    some = within.some;
    started = within.started;
    begins = record { within = within.begins.within; before = within.begins.before; after = within.begins.after };
    rowless = within.rowless;
    next = links_go_on Leg PassedPoint (ComesNext run (asked_with lines line)) leg_after first trail.points more within.next passes.linked;
    goes_forth = λ up. forth_still more None passes (past_before more None passes up);
    marked = subst (λ (k : Leg). k.marked ≡ []) (sym joined) none;
    answered = subst (λ (k : Leg). length lines ≤ k.answered) (sym joined) all;
    volumes = volumes_still more None passes;
    may = subst (λ (k : Leg). MayBeMeant run stage k.point) (sym joined) (subst (λ (p : Point). MayBeMeant run stage p) (sym there) (last_meant run stage l.point more within.may passes.may));
  }
    where
      joined : last_leg run lines (with_points more trail) ≡ fold leg_after l more
      joined = fold_append first trail.points more

      there : (fold leg_after l more).point ≡ last_point l.point more
      there = last_of_leg run (asked_with lines line) l more none passes.linked

-- ---- at first

-- A started session that heard a line at rest is within it.
module _ {S : Type 0} (run : ScriptRun) (lines : List Answered) (trail : Trail) (text : List ℕ) (line : Line) (s : SessionState) (lanes : List (Lane S)) (began old : PlantState) (heard : HasHeard run lines trail text line s lanes began old) (site : SiteState) (is : s.site ≡ Some site) where
  pub rests_at : RestsAtSite run lines (stage_after_text run lines text began) trail s began old site
  rests_at = subst (λ (o : Option SiteState). MatchOption o (HasNotBegun trail began old) (RestsAtSite run lines (stage_after_text run lines text began) trail s began old)) is heard.answered.stands.place

  pub within_first : IsWithin run lines trail text (Some line) began old
  within_first = record {
    goes = heard.answered.goes;
    exact = heard.answered.exact;
    some = rests_at.under_way.some;
    started = rests_at.under_way.started;
    begins = rests_at.under_way.begins;
    rowless = rests_at.under_way.rowless;
    next = subst (λ (o : Option Line). AreNext run lines o trail) heard.next rests_at.under_way.next;
    goes_forth = λ up. subst (λ (o : Option Line). GoesForth run lines o trail None began old) heard.next (rests_at.under_way.goes_forth up);
    marked = rests_at.rest.marked;
    answered = omega (arith, rests_at.rest.answered);
    volumes = heard.answered.stands.volumes;
    may =
        rest_is_meant run began.script lines text heard.answered.goes.now.asked (past_counted run lines heard.answered.goes.now.course (length lines) (omega arith)) (last_leg run lines trail)
        rests_at.under_way.at.leg rests_at.rest.point rests_at.rest.changes;
  }
