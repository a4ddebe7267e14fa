-- What is mapped after an epoch, by what the rows owe.
use Rattle.std.proofs.Common.{◌≡◌, ◌∙◌, ℕ, false, List, [], ◌∷◌, ◌++◌, length, Option, refl, sym, ap, subst, arith}
use Rattle.crash_plant.specs.Moments.{PlantState}
use Rattle.pair_table.specs.declared.level.Level.{Level}
use Rattle.pair_table.specs.declared.row.PairRow.{PairRow}
use Rattle.pair_table.specs.Tables.{none_clash}
use Rattle.xrc_command.specs.declared.line.Line.{Line}
use Rattle.group_state.specs.Groups.{Group}
use Rattle.record_rows.specs.Deeds.{rows_by_deed}
use Rattle.passages.specs.Points.{last_point}
use Rattle.site_store.specs.DeedChanges.{DeedOfChanges, deeds_of}
use Rattle.site_store.specs.Sites.{SiteState}
use Rattle.consistency.specs.Stages.{breaks_of}
use Rattle.consistency.specs.Leads.{Point}
use Rattle.consistency.specs.Ways.{PassedPoint}
use Rattle.fed_logs.specs.Logs.{BeginsLog}
use Rattle.mover.specs.declared.ends.EpochEnd.TheVariants as ends
use Rattle.mover.specs.declared.lane.Lane.{Lane}
use Rattle.mover.specs.Bearing.{IsEpochOf, RunSoFar}
use Rattle.mover.specs.Epochs.{ReachedBy, point_of}
use Rattle.mover.specs.Points.{point_after_deeds, point_by, points_by}
use Rattle.mover.specs.SilentBreaks.{all_silent, with_silent}
use Rattle.mover.specs.OwedTracks.{CarriedAsLive, held_by_choice}
use Rattle.mover.proofs.Leading.{count_deeds}
use Rattle.xrc_session.specs.LinePauses.{site_point}
use Rattle.mover.specs.Moves.{LogsEntriesOf}
use Rattle.xrc_session.specs.MapsLaws.{ReachesLimit}
use Rattle.xrc_session.specs.MapsOwed.{HasCutOrNoRow, HaveRowsOf, MapsOwed, MapsRest}
use Rattle.xrc_session.proofs.MapsEpochs.{maps_owed_after_epochs}

-- ---- points of deeds

-- The last point of deeds is the one after them.
pub last_by : (level : Level) (p : Point) (moments : List ℕ) (steps : List DeedOfChanges) → length moments ≡ length steps → last_point p (points_by level p moments steps) ≡ point_after_deeds level p steps
last_by level p [] [] each = refl
last_by level p [] (step ∷ steps) each = absurd (omega (arith, each))
last_by level p (t ∷ moments) [] each = absurd (omega (arith, each))
last_by level p (t ∷ moments) (step ∷ steps) each = last_by level (point_by level p step) moments steps (omega (arith, each))

-- The points of deeds have their rows, whichever breaks are named with their changes.
rows_by : (limit : ℕ) (breaks : List (Option ℕ)) (level : Level) (p : Point) (moments : List ℕ) (steps : List DeedOfChanges) → length moments ≡ length steps → HaveRowsOf (points_by level p moments (all_silent limit breaks steps)) (deeds_of steps)
rows_by limit breaks level p [] [] each = refl
rows_by limit breaks level p [] (step ∷ steps) each = absurd (omega (arith, each))
rows_by limit breaks level p (t ∷ moments) [] each = absurd (omega (arith, each))
rows_by limit breaks level p (t ∷ moments) (step ∷ steps) each =
    ap (λ (rows : List (List PairRow)). rows_by_deed step.deed ∷ rows) (rows_by limit breaks level (point_by level p (with_silent limit breaks step)) moments steps (omega (arith, each)))

-- ---- an epoch of a run

module _ {S : Type 0} (tells : Type 0) (left : S → Option (List ℕ)) (faults : S → ℕ) (was is : PlantState) (so : RunSoFar) (line : Line) (group next : Group) (old new : List (Lane S)) (site after : SiteState)
    (e : IsEpochOf tells left faults so line group old new site after was is (ends.Reached next)) (reached : ReachedBy tells left line.time.0 group old new site next after is) where
  going : site.mark.ended ≡ false
  going = e.stands.has_site.goes_on

  -- It reached its limit.
  abbrev reaches : ReachesLimit tells left faults line.time.0 so.run group next old new site after was is
  reaches = record {
    goes = e.goes;
    reached = reached;
    up = (let low = reached.begins.rests.fast.fits.time in let at = reached.time.time in omega (arith, low, at));
    turns = e.for_line.turns;
    level = e.stands.has_site.level;
    going = going;
    keeps = e.stands.has_state.keeps;
    broke = e.stands.has_state.broke;
    come = e.stands.has_state.awaits;
    size = so.size;
    held = held_by_choice was e.stands.some.0 site.told;
    done = so.done;
    begins = subst (λ (p : Point). BeginsLog so.size so.run.traces (held_by_choice was e.stands.some.0 p.rows) group p.time p.rows so.done) e.stands.at (e.stands.rows.holds e.stands.some.0 e.stands.some.1);
    apart = ap (λ (p : Point). none_clash p.rows) (sym e.stands.at) ∙ e.stands.rows.apart;
    carried = subst (λ (p : Point). CarriedAsLive group p.rows) e.stands.at e.stands.rows.carried;
  }

  entries : LogsEntriesOf site.told (deeds_of e.goes.ran.steps)
  entries = e.goes.ran.entries

  site_is : site_point site ≡ point_of site
  site_is = λ i. record (point_of site) { is_ended = going i }

  after_is : point_of after ≡ site_point after
  after_is = λ i. record (point_of after) { is_ended = sym (reached.time.going going) i }

  -- The points are those of the epoch's deeds, with the silent breaks among their changes.
  abbrev pub points_of_epoch : (moments : List ℕ) → List PassedPoint
  points_of_epoch moments = points_by so.run.level so.leg.point moments (all_silent line.time.0 (breaks_of so.run) e.goes.ran.steps)

  -- Where the maps had what rows owe, they do so after it.
  pub maps_over_epoch : (first : Point) (points : List PassedPoint) (moments : List ℕ) → length moments ≡ length (deeds_of e.goes.ran.steps) → (last_point first points).rows ≡ site.told → MapsRest (site_point site) group
      → HasCutOrNoRow site.time site.told group → MapsOwed so.run first points (site_point site) group
      → MapsOwed so.run first (points ++ points_of_epoch moments) (site_point after) next × MapsRest (site_point after) next
  maps_over_epoch first points moments each here rest cut maps =
      let more = points_of_epoch moments in
      let have = rows_by line.time.0 (breaks_of so.run) so.run.level so.leg.point moments e.goes.ran.steps (each ∙ count_deeds e.goes.ran.steps) in
      subst (λ (p : Point). MapsOwed so.run first (points ++ more) p next × MapsRest p next) after_is
      (maps_owed_after_epochs tells left faults was is line.time.0 so.run group next old new site after first points more reaches entries have here (subst (λ (p : Point). MapsRest p group) site_is rest) cut
      (subst (λ (p : Point). MapsOwed so.run first points p group) site_is maps))
