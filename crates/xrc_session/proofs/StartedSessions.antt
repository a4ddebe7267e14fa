-- A session that has just started has what an epoch begins with.
use Rattle.std.proofs.Common.{◌≡◌, ℕ, ◌+◌, ◌≤◌, false, Option, Some, None, refl, sym, ap, subst, arith}
use Rattle.tod_stamp.specs.declared.stamp.Stamp.{Stamp}
use Rattle.crash_plant.specs.declared.device.Device.{Device}
use Rattle.crash_plant.specs.declared.device.Device.TheVariants.{Volume}
use Rattle.crash_plant.specs.Calls.{IsThere}
use Rattle.crash_plant.specs.Choices.{AtNow, Choice, IsChoice}
use Rattle.crash_plant.specs.Moments.{PlantState}
use Rattle.group_state.specs.Controls.{ControlState, new_control}
use Rattle.group_state.specs.Groups.{Group, control_at, new_group}
use Rattle.group_state.specs.SoundStates.{IsGroupSound}
use Rattle.group_state.proofs.GroupLaws.{length_new}
use Rattle.group_state.proofs.Kept.{kept_first}
use Rattle.group_state.proofs.Stands.{new_at}
use Rattle.site_means.specs.Images.{shape_of}
use Rattle.site_means.specs.Sight.{meant_by}
use Rattle.xrc_command.specs.declared.line.Line.{Line}
use Rattle.consistency.specs.Stages.{ScriptRun}
use Rattle.fed_logs.specs.Logs.{Sizes}
use Rattle.fed_logs.specs.ShownBreaks.{BreaksAreToCome, BrokeAsTraces, StillReports}
use Rattle.fed_logs.proofs.BreaksToCome.{all_breaks_are_to_come}
use Rattle.fed_logs.proofs.ShownBreaks.{new_groups_are_unbroken}
use Rattle.consistency.specs.Bearing.{ShowsPoint}
use Rattle.consistency.specs.Leads.{Point}
use Rattle.consistency.proofs.Legs.{leg_begins}
use Rattle.xrc_session.specs.EpochPauses.{Between, HasNothing, MayBegin}
use Rattle.xrc_session.proofs.Beginning.{first_rows_stand}
use Rattle.site_store.specs.Sites.{SiteState, meant_for}
use Rattle.site_store.specs.Standing.{none_excepted}
use Rattle.site_store.proofs.RowRoom.{reads_choice}
use Rattle.mover.specs.Bearing.{RunSoFar, StandsSoFar}
use Rattle.mover.specs.Epochs.{point_of}
use Rattle.xrc_session.specs.Beginnings.{HasJustStarted, run_at_start, stage_at_start}

-- A new state has no volume, and nothing waits in it.
has_nothing : (n records blocks : ℕ) → HasNothing (new_group n records blocks)
has_nothing n records blocks k low =
    let is : control_at (new_group n records blocks) k ≡ new_control (0 + k) records blocks = new_at n 0 records blocks k (new_control 0 0 0) (omega (arith, low, length_new n 0 records blocks)) in
    (ap (λ (c : ControlState). c.volumes) is, ap (λ (c : ControlState). c.queue.waiting) is)

module _ (tells : Type 0) (plant : PlantState) (run : ScriptRun) (time : Stamp) (next : Option Line) (answered : ℕ) (size : Sizes) (counts : (device : ℕ) → ℕ) (group : Group) (site : SiteState) (h : HasJustStarted tells run time counts group site plant)
    (read : (d : Device) → IsThere plant d → plant.images plant.clock d (plant.bytes d)) where
  abbrev so : RunSoFar
  so = run_at_start run (stage_at_start run time.0 next) answered size counts

  abbrev p : Point
  p = so.leg.point

  at_start : p ≡ point_of site
  at_start = ap point_of (sym h.is_new)

  some_left : (c : Choice) × IsChoice plant plant.clock c
  some_left = (plant.bytes, reads_choice plant h.fits.home read)

  -- Whatever a crash leaves means the session without a row.
  shows_start : AtNow (ShowsPoint run (shape_of plant) p) plant
  shows_start c left = record {
    means = meant_for site;
    defined = ap meant_by (h.stands.meant c left);
    session = ap (λ (s : SiteState). s.table.session) h.is_new;
    level = ap (λ (s : SiteState). s.level) h.is_new;
    at = ap (λ (s : SiteState). s.time) h.is_new;
    rows = ap (λ (s : SiteState). s.told) h.is_new;
    ended = ap (λ (s : SiteState). s.mark.ended) h.is_new;
    tracks = λ place r at duplex x low. let none : None ≡ Some r = at in cc none;
  }

  keeps : IsGroupSound group
  keeps = subst IsGroupSound (sym h.shared) (kept_first h.controls h.records h.blocks h.some h.few h.most)

  abbrev between : Between
  between = record { run = run; size = size; excepted = none_excepted; group = group; point = p; done = λ k v. false }

  may_begin : MayBegin plant between
  may_begin = record {
    none = refl;
    nothing = subst HasNothing (sym h.shared) (has_nothing h.controls h.records h.blocks);
    known = λ k v. refl;
    last = subst (λ (s : Group). s.last.0 ≤ time.0) (sym h.shared) (omega arith);
    keeps = keeps;
    some = some_left;
  }

  broke : BrokeAsTraces run.traces group
  broke = subst (BrokeAsTraces run.traces) (sym h.shared) (new_groups_are_unbroken run.traces h.controls h.records h.blocks)

  awaits : BreaksAreToCome run.traces site.time group
  awaits k b t at breaks late = subst (λ (s : Group). StillReports s k b) (sym h.shared) (all_breaks_are_to_come run.traces h.controls h.records h.blocks h.many k b t at breaks (omega arith))

  pub started_stands : StandsSoFar so group site plant
  started_stands = record {
    leg_is = leg_begins run so.stage answered refl;
    at = at_start;
    early = refl;
    hits = λ d. let up : 0 + counts d ≤ plant.faults (Volume d) = omega (arith, h.counted d) in up;
    shows = shows_start;
    rows = (first_rows_stand plant between may_begin).rows;
    has_site = record { level = sym (ap (λ (s : SiteState). s.level) h.is_new); goes_on = ap (λ (s : SiteState). s.mark.ended) h.is_new; idle = ap (λ (s : SiteState). s.waiting) h.is_new; stands = h.stands };
    has_state = record { keeps = keeps; broke = broke; awaits = awaits };
    some = some_left;
  }
