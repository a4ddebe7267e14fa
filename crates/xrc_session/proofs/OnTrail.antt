-- A started session stands on its trail.
use Rattle.std.proofs.Common.{◌≡◌, List, [], Option, Some, None, sym, ap, subst, ◌∙◌}
use Rattle.std.specs.Prelude.{fold, IfSome}
use Rattle.crash_plant.specs.Choices.{AtNow}
use Rattle.crash_plant.specs.Moments.{PlantState}
use Rattle.site_means.specs.Images.{shape_of}
use Rattle.xrc_command.specs.declared.line.Line.{Line}
use Rattle.consistency.specs.Bearing.{MayBeMeant, ShowsPoint}
use Rattle.consistency.specs.Stages.{ScriptRun, Stage}
use Rattle.consistency.specs.Courses.{Answered}
use Rattle.consistency.specs.Leads.{Point}
use Rattle.consistency.specs.Ways.{ComesNext, Leg, PassedPoint, leg_after}
use Rattle.site_store.specs.Sites.{SiteState}
use Rattle.passages.specs.Points.{last_point}
use Rattle.passages.proofs.InARow.{links_go_on}
use Rattle.mover.specs.Working.{IsOnItsWay, ShowsLast}
use Rattle.xrc_session.specs.LinePauses.{RestsAtSite}
use Rattle.xrc_session.specs.States.{SessionState}
use Rattle.xrc_session.specs.Steps.{PassesPointsOn}
use Rattle.xrc_session.specs.Trails.{AreNext, StandsOnTrail, Trail, asked_with, first_leg, last_leg, with_points}
use Rattle.xrc_session.proofs.LastPoints.{last_append}
use Rattle.xrc_session.proofs.Asked.{fold_append, last_of_leg}

-- It does where each choice shows the point of its last leg.
pub shown_on_trail : (run : ScriptRun) (lines : List Answered) (asked : Option Line) (trail : Trail) (now : PlantState) → (first_leg run lines trail).point.rows ≡ [] → AreNext run lines asked trail → (last_leg run lines trail).marked ≡ []
    → AtNow (ShowsPoint run (shape_of now) (last_leg run lines trail).point) now → StandsOnTrail run lines asked trail None now
shown_on_trail run lines asked trail now rowless linked none shows = record {
  rowless = rowless;
  linked = linked;
  on_its_way = tt;
  shows = subst (λ (p : Point). AtNow (ShowsLast run now p None) now) (last_of_leg run (asked_with lines asked) (first_leg run lines trail) trail.points none linked) shows;
}

-- It does where it rests.
pub rests_on_trail : (run : ScriptRun) (lines : List Answered) (stage : Stage) (trail : Trail) (s : SessionState) (began now : PlantState) (site : SiteState) → RestsAtSite run lines stage trail s began now site → StandsOnTrail run lines stage.next trail None now
rests_on_trail run lines stage trail s began now site rests =
    shown_on_trail run lines stage.next trail now rests.under_way.rowless rests.under_way.next rests.rest.marked
    (subst (λ (p : Point). AtNow (ShowsPoint run (shape_of now) p) now) (sym rests.under_way.at.here) rests.under_way.at.shows)

-- It does after more points.
pub passed_on_trail : (run : ScriptRun) (lines : List Answered) (asked : Option Line) (trail : Trail) (s : Stage) (more : List PassedPoint) (next : Option Point) (old new : PlantState) → (first_leg run lines trail).point.rows ≡ [] → AreNext run lines asked trail → (last_leg run lines trail).marked ≡ []
    → PassesPointsOn run s (asked_with lines asked) (last_leg run lines trail) more next old new → StandsOnTrail run lines asked (with_points more trail) next new
passed_on_trail run lines asked trail s more next old new rowless linked none passes = record {
  rowless = rowless;
  linked = links_go_on Leg PassedPoint (ComesNext run (asked_with lines asked)) leg_after (first_leg run lines trail) trail.points more linked passes.linked;
  on_its_way = of_next next passes.on_its_way;
  shows = subst (λ (p : Point). AtNow (ShowsLast run new p next) new) (ap (λ (p : Point). last_point p more) there ∙ sym (last_append (first_leg run lines trail).point trail.points more)) passes.now;
}
  where
    there : (last_leg run lines trail).point ≡ last_point (first_leg run lines trail).point trail.points
    there = last_of_leg run (asked_with lines asked) (first_leg run lines trail) trail.points none linked

    of_next : (o : Option Point) → IfSome o (λ q. IsOnItsWay run (asked_with lines asked) (fold leg_after (last_leg run lines trail) more) q × MayBeMeant run s q) → IfSome o (IsOnItsWay run (asked_with lines asked) (last_leg run lines (with_points more trail)))
    of_next None on = tt
    of_next (Some q) on = subst (λ (l : Leg). IsOnItsWay run (asked_with lines asked) l q) (sym (fold_append (first_leg run lines trail) trail.points more)) on.0
