-- A site that a run shows, and what a mark leaves of a site.
use Rattle.std.proofs.Common.{◌≡◌, inl, inr, ℕ, Bool, true, false, List, [], ◌∷◌, map, length, Option, Some, None, Ok, refl, sym, ap, subst, ◌∙◌}
use Rattle.std.specs.Prelude.{is_none}
use Rattle.crash_plant.specs.declared.device.Device.{Device}
use Rattle.crash_plant.specs.declared.device.Device.TheVariants.{Control, State, Journal, Volume}
use Rattle.crash_plant.specs.Choices.{AtNow, Choice, IsChoice}
use Rattle.crash_plant.specs.Moments.{PlantState}
use Rattle.pair_table.specs.declared.command.Command.{Command}
use Rattle.pair_table.specs.declared.command.Command.TheVariants.{Start, AddPair, DelPair, Suspend, Query, End}
use Rattle.pair_table.specs.declared.level.Level.{Level}
use Rattle.pair_table.specs.declared.row.PairRow.{PairRow}
use Rattle.pair_table.specs.Refusals.{refusal}
use Rattle.pair_table.specs.Tables.{Table, with_rows}
use Rattle.row_changes.specs.Changes.{FaultReach, Timed, reach_of, row_after_change}
use Rattle.row_changes.specs.Changes.RowChange.{Hit}
use Rattle.row_changes.proofs.Reaching.{changes_state}
use Rattle.record_rows.specs.Hits.{hit_now, rows_hit}
use Rattle.record_rows.specs.Records.{rows_with_hits}
use Rattle.record_rows.specs.ToldRows.{InPlaces}
use Rattle.site_means.specs.declared.means.Means.{Means}
use Rattle.site_means.specs.Images.{shape_of}
use Rattle.site_means.specs.Sight.{meant_by}
use Rattle.xrc_command.specs.declared.line.Line.{Line}
use Rattle.site_store.specs.IdleSites.{IsSiteIdle}
use Rattle.site_store.specs.Exceptions.{Exceptions}
use Rattle.site_store.specs.Marking.{Marks}
use Rattle.site_store.specs.Records.{IsOfMark, IsOfRecord}
use Rattle.site_store.specs.Sites.{SiteState, meant_for}
use Rattle.site_store.specs.Standing.{Leaves, SiteStands, none_excepted}
use Rattle.site_store.proofs.Between.{may_mark}
use Rattle.consistency.specs.Stages.{ScriptRun, accepts_end, breaks_of, names_of}
use Rattle.consistency.specs.Bearing.{ShowsPoint}
use Rattle.consistency.specs.Leads.{Point}
use Rattle.consistency.specs.Steps.{names_at}
use Rattle.mover.specs.Epochs.{IsSamePair}
use Rattle.mover.specs.Moves.{IsOfMover}
use Rattle.mover.proofs.SiteCalls.{worked_written}
use Rattle.xrc_session.specs.Answering.{IsMarkedSite}
use Rattle.xrc_session.proofs.RestingMarks.{marks_begin_walks}
use Rattle.xrc_session.proofs.RestingSites.{commands_come_after_marks, idle_after_marks, told_after_marks}

-- ---- what a run shows

-- The name and the level of a site are those of a run that a point is shown of, if a crash may leave something.
pub record IsSiteOfRun (run : ScriptRun) (site : SiteState) : Type 0 where
  pub session : site.table.session ≡ run.session
  pub level : site.level ≡ run.level

pub site_of_run : (run : ScriptRun) (plant : PlantState) (excepted : Exceptions) (site : SiteState) (p : Point) → SiteStands excepted site plant → AtNow (ShowsPoint run (shape_of plant) p) plant → (some : (c : Choice) × IsChoice plant plant.clock c) → IsSiteOfRun run site
site_of_run run plant excepted site p stands shows some =
    let shown = shows some.0 some.1 in
    let same : shown.means ≡ meant_for site = (let defined = shown.defined in let meant = ap meant_by (stands.meant some.0 some.1) in cc) in
    record { session = ap (λ (m : Means). m.session) (sym same) ∙ shown.session; level = ap (λ (m : Means). m.level) (sym same) ∙ shown.level }

-- ---- an end

-- Once a session has ended no end is accepted.
pub ended_accepts_none : (run : ScriptRun) (table : Table) (next : Option Line) → table.is_ended ≡ true → accepts_end run table next ≡ false
ended_accepts_none run table None ended = refl
ended_accepts_none run table (Some line) ended = by_command line.command
  where
    refused : (command : Command) → is_none (refusal (names_at line.time.0 (breaks_of run) (names_of run)) table line.session command) ≡ false
    refused command = rw ended refl

    by_command : (command : Command) → accepts_end run table (Some (record line { command = command })) ≡ false
    by_command (Start level) = refl
    by_command (AddPair primary secondary group) = refl
    by_command (DelPair choice) = refl
    by_command (Suspend choice) = refl
    by_command Query = refl
    by_command End = refused End

-- ---- pairs stay after hits

changed_in_places : (reach : FaultReach) (t : Timed) (rows : List PairRow) → InPlaces IsSamePair rows (map (row_after_change reach t) rows)
changed_in_places reach t [] = tt
changed_in_places reach t (r ∷ rows) = (changes_state reach t r, changed_in_places reach t rows)

pairs_stay : (rows : List PairRow) → InPlaces IsSamePair rows rows
pairs_stay [] = tt
pairs_stay (r ∷ rows) = (refl, pairs_stay rows)

pub hits_in_places : (level : Level) (time : ℕ) (failed : List Bool) (rows : List PairRow) → InPlaces IsSamePair rows (rows_with_hits level time failed rows)
hits_in_places level time failed rows = by_hits (hit_now failed rows)
  where
    by_hits : (hit : List ℕ) → InPlaces IsSamePair rows (rows_hit level time hit rows)
    by_hits [] = pairs_stay rows
    by_hits (d ∷ hit) = changed_in_places (reach_of level rows) (record { time = time; change = Hit (d ∷ hit) }) rows

-- ---- devices

pub mark_of_mover : (site : SiteState) (d : Device) → IsOfMark site d → IsOfMover site d
mark_of_mover site Control of = inl tt
mark_of_mover site State of = inl tt
mark_of_mover site (Journal j) of = absurd of
mark_of_mover site (Volume v) of = inr (v, refl, worked_written site v of)

pub record_of_mover : (site : SiteState) (d : Device) → IsOfRecord site d → IsOfMover site d
record_of_mover site d (inr of) = mark_of_mover site d of
record_of_mover site Control (inl of) = absurd of
record_of_mover site State (inl of) = absurd of
record_of_mover site (Journal j) (inl of) = inl tt
record_of_mover site (Volume v) (inl of) = absurd of

-- ---- a mark

pub marked_site : {P : Type 0} (tells : Type 0) (was is : P) (old new : PlantState) (site next : SiteState) (ended : Bool) → IsSiteIdle tells site old → length next.failed ≡ length site.failed → Leaves tells (λ e. none_excepted) site next old new
    → Marks site next ended was is (Ok tt) → IsMarkedSite tells ended site next new
marked_site tells was is old new site next ended idle count leaves marks = record {
  idle = idle_after_marks tells was is old new site next ended (Ok tt) (may_mark tells site old idle) leaves marks;
  told = told_after_marks was is site next ended (Ok tt) marks;
  controls = ap (λ (s : SiteState). s.controls) marks.next_is;
  level = ap (λ (s : SiteState). s.level) marks.next_is;
  time = ap (λ (s : SiteState). s.time) marks.next_is;
  table = ap (λ (s : SiteState). s.table) marks.next_is ∙ ap (λ (rows : List PairRow). with_rows site.table rows) (sym told_is);
  pairs = subst (λ (rows : List PairRow). InPlaces IsSamePair site.told rows) (sym told_is) (hits_in_places site.level site.time next.failed site.told);
  flag = ap (λ (s : SiteState). s.mark.ended) marks.next_is;
  marked = ap (λ (s : SiteState). s.since) marks.next_is;
  empty = marks_begin_walks was is site next ended (Ok tt) marks;
  commands = λ names may. commands_come_after_marks was is names site next ended (Ok tt) may idle.same count marks;
}
  where
    told_is : next.told ≡ rows_with_hits site.level site.time next.failed site.told
    told_is = ap (λ (s : SiteState). s.told) marks.next_is
