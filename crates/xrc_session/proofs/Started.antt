-- A session after its start: the site stands after its first epoch, without a row.
use Rattle.std.proofs.Common.{◌≡◌, inl, inr, ℕ, ◌<◌, ◌≤◌, true, false, List, [], ◌∷◌, length, Option, Some, None, Ok, refl, sym, ap, subst, ◌∙◌, arith, true≢false}
use Rattle.std.specs.Prelude.{IsSomeAnd}
use Rattle.std.specs.List.{Contains}
use Rattle.std.proofs.lemmas.Bool.{cases_lt}
use Rattle.std.proofs.lemmas.List.{get_or_past, length-map}
use Rattle.tod_stamp.specs.declared.stamp.Stamp.{Stamp}
use Rattle.ckd_track.specs.declared.layout.TheConstants.{BLOCKS_OF_QUEUE, WRITES_OF_RUN}
use Rattle.crash_plant.specs.declared.device.Device.{Device}
use Rattle.crash_plant.specs.declared.device.Device.TheVariants.{Volume}
use Rattle.crash_plant.specs.Calls.{Elapses, IsThere, SameSite}
use Rattle.crash_plant.specs.Choices.{AtEveryMoment, AtNow, Choice, IsChoice}
use Rattle.crash_plant.specs.Moments.{PlantState}
use Rattle.crash_plant.proofs.Choices.{choices_then, past_choice}
use Rattle.pair_table.specs.declared.command.Command.TheVariants.{Query}
use Rattle.pair_table.specs.declared.level.Level.{Level}
use Rattle.pair_table.specs.declared.row.PairRow.{PairRow}
use Rattle.pair_table.specs.Naming.{Naming}
use Rattle.pair_table.specs.Tables.{none_clash, with_rows}
use Rattle.group_state.specs.declared.volume.Volume.{Volume as GroupVolume}
use Rattle.group_state.specs.Controls.{ControlState, new_control}
use Rattle.group_state.specs.Groups.{Group, control_at, new_group}
use Rattle.group_state.specs.Volumes.{passes, volume_of}
use Rattle.group_state.proofs.GroupLaws.{length_new}
use Rattle.group_state.proofs.Kept.{kept_first}
use Rattle.group_state.proofs.Stands.{new_at}
use Rattle.turn_group.specs.Notes.{known_of, volumes_known}
use Rattle.record_rows.specs.ToldRows.{InPlaces}
use Rattle.site_means.specs.Images.{Shape, shape_of}
use Rattle.site_means.specs.Sight.{means_in}
use Rattle.site_means.proofs.Goes.{shape_same}
use Rattle.xrc_command.specs.declared.line.Line.{Line}
use Rattle.site_store.specs.Sites.{SiteState, new_site}
use Rattle.site_store.specs.Standing.{SiteStands, none_excepted}
use Rattle.consistency.specs.Stages.{ScriptRun, Stage}
use Rattle.consistency.specs.Bearing.{ShowsPoint}
use Rattle.consistency.specs.Leads.{Point}
use Rattle.consistency.specs.Ways.{Leg, PassedPoint, leg_at}
use Rattle.mover.specs.declared.lane.Lane.{Lane}
use Rattle.mover.specs.Bearing.{StandsSoFar}
use Rattle.mover.specs.Epochs.{AllTurnOut, IsSamePair, point_of}
use Rattle.mover.specs.Rounds.{AreLanesOf}
use Rattle.mover.specs.Working.{LinesAsked, StandsForRows}
use Rattle.xrc_session.specs.declared.kept.SessionParts.{SessionParts}
use Rattle.xrc_session.specs.Beginnings.{HasJustStarted, run_at_start, stage_at_start}
use Rattle.xrc_session.specs.LinePauses.{AreCountsFrom, HasCut, IsReadyForEpoch, MayCommandSite, RisesCover, StandsForSite, site_point}
use Rattle.xrc_session.specs.MapsOwed.{MapsOwed, MapsRest}
use Rattle.xrc_session.specs.Bringing.{IsSiteBrought}
use Rattle.xrc_session.specs.Lanes.{sizes_of, with_lanes_broken}
use Rattle.xrc_session.specs.Starting.{FormatsFirst, IsSafeThroughout, IsSiteStarted, MeansStart, ShutsOrStarts, StandsStarted, StartsRuns}
use Rattle.xrc_session.specs.Steps.{BringsOn, HasBrought, MayBring}
use Rattle.xrc_session.specs.Taking.{IsSoundForRows}
use Rattle.xrc_session.proofs.JoinsLanes.{lanes_later}
use Rattle.xrc_session.proofs.JoinsRows.{kept_known}
use Rattle.xrc_session.proofs.MapsKeeps.{new_groups_keep_maps}
use Rattle.xrc_session.proofs.Readying.{broken_alone, commands_again}
use Rattle.xrc_session.proofs.StartedSessions.{started_stands}

-- ---- the shared state

abbrev pub first_group : (controls : ℕ) → Group
first_group controls = new_group controls WRITES_OF_RUN BLOCKS_OF_QUEUE

count_first : (controls : ℕ) → length (first_group controls).controls ≡ controls
count_first controls = length_new controls 0 WRITES_OF_RUN BLOCKS_OF_QUEUE

no_volume : (controls k : ℕ) → (control_at (first_group controls) k).volumes ≡ []
no_volume controls k = elim (cases_lt k (length (first_group controls).controls)) [
  | inl low ↦ ap (λ (c : ControlState). c.volumes) (new_at controls 0 WRITES_OF_RUN BLOCKS_OF_QUEUE k (new_control 0 0 0) (let count = count_first controls in omega (arith, low, count)))
  | inr high ↦ ap (λ (c : ControlState). c.volumes) (get_or_past (first_group controls).controls k (new_control 0 0 0) high)
]

no_row : (r : PairRow) → Contains {X = PairRow} [] r → ⊥
no_row r among = absurd (let low = among.1 in omega (arith, low))

-- A new state keeps volumes for no row.
keeps_none : (controls : ℕ) (rows : List PairRow) → 1 ≤ controls → controls ≤ 16 → rows ≡ [] → IsSoundForRows (first_group controls) rows
keeps_none controls rows some few none = record {
  keeps = kept_first controls WRITES_OF_RUN BLOCKS_OF_QUEUE some few (omega arith);
  apart = ap none_clash none;
  each = λ r among. absurd (no_row r (subst (λ (l : List PairRow). Contains l r) none among));
  rowed = λ k v kept. absurd (true≢false (sym kept ∙ ap (λ (us : List GroupVolume). passes (λ u. true) (volume_of v us)) (no_volume controls k)));
}

-- The first epoch may begin at the time of the start.
pub ready_at_start : {S : Type 0} (tells : Type 0) (controls volumes : ℕ) (session : List ℕ) (level : Level) (at : Stamp) (lanes : List (Lane S)) (names : Naming) (site : SiteState) (plant : PlantState) → 1 ≤ controls → controls ≤ 16 → site ≡ new_site controls volumes session level at
    → MayCommandSite tells names plant site → AreLanesOf (first_group controls) 0 lanes → IsReadyForEpoch tells lanes site plant (first_group controls)
ready_at_start tells controls volumes session level at lanes names site plant some few is may of = record {
  begins = record {
    rests = may.idle.may;
    marked = ap (λ (s : SiteState). s.since) is;
    knows = record {
      rows = kept_known (first_group controls) site.told kept;
      controls = many;
      in_step = record { up = omega arith; same = inl none };
      below = omega arith;
      told = may.told;
    };
  };
  lanes_of = lanes_later lanes (first_group controls) 0 site.time (omega arith) of;
  kept = kept;
}
  where
    none : site.told ≡ []
    none = ap (λ (s : SiteState). s.told) is

    kept : IsSoundForRows (first_group controls) site.told
    kept = keeps_none controls site.told some few none

    many : length (volumes_known (first_group controls)) ≤ site.controls
    many =
        let count = length-map (first_group controls).controls known_of in
        let first = count_first controls in
        let same = ap (λ (s : SiteState). s.controls) is in
        omega (arith, count, first, same)

-- ---- without rows

rows_stay : (next : List PairRow) → InPlaces IsSamePair [] next → next ≡ []
rows_stay [] places = refl
rows_stay (s ∷ next) places = absurd places

pub none_brought : (time : ℕ) (site after : SiteState) → site.told ≡ [] → IsSiteBrought time site after → after.told ≡ []
none_brought time site after none brought = rows_stay after.told (subst (λ (l : List PairRow). InPlaces IsSamePair l after.told) none brought.pairs)

-- Nothing is owed without a row.
no_maps : (run : ScriptRun) (first : Point) (points : List PassedPoint) (p : Point) (group : Group) → p.rows ≡ [] → MapsOwed run first points p group
no_maps run first points p group none r among = absurd (no_row r (subst (λ (l : List PairRow). Contains l r) none among))

-- Maps of a new state are at rest, since it has no cut and there is no row.
rests_at_start : (controls : ℕ) (p : Point) → 1 ≤ p.time → p.rows ≡ [] → MapsRest p (first_group controls)
rests_at_start controls p later none = record {
  keeps = new_groups_keep_maps controls WRITES_OF_RUN BLOCKS_OF_QUEUE;
  rests = λ cut. let start : 0 ≡ p.time = cut in absurd (omega (arith, later, start));
  since = λ r cause since among state. absurd (no_row r (subst (λ (l : List PairRow). Contains l r) none among));
}

-- ---- the site

some_group : {P Q : Group → Type 0} (o : Option Group) → ((s : Group) → P s → Q s) → IsSomeAnd o P → IsSomeAnd o Q
some_group None up is = absurd is
some_group (Some s) up is = up s is

and_then : {P : Group → Type 0} {Q : Type 0} (o : Option Group) → ((s : Group) → P s → Q) → IsSomeAnd o P → Q
and_then None up is = absurd is
and_then (Some s) up is = up s is

-- A site after its first epoch.
pub site_started : {S : Type 0} (tells : Type 0) (controls volumes : ℕ) (session : List ℕ) (level : Level) (at : Stamp) (lanes : List (Lane S)) (names now : Naming) (group : Option Group) (site after : SiteState) (mid new : PlantState) → site ≡ new_site controls volumes session level at
    → MayCommandSite tells names mid site → names.broken ≡ [] → SameSite mid new → IsSiteBrought at.0 site after → IsSomeAnd group (IsReadyForEpoch tells lanes after new) → IsSomeAnd group (HasCut at.0) → now ≡ with_lanes_broken 0 lanes names
    → IsSiteStarted tells session level controls at.0 lanes now group new after
site_started tells controls volumes session level at lanes names now group site after mid new is may unbroken same brought ready cut named = record {
  table = brought.table ∙ (λ i. with_rows (is i).table (none i));
  level_is = brought.level ∙ ap (λ (s : SiteState). s.level) is;
  controls_are = brought.controls ∙ ap (λ (s : SiteState). s.controls) is;
  time = brought.at;
  flag = brought.goes_on ∙ ap (λ (s : SiteState). s.mark.ended) is;
  may = subst (λ (n : Naming). MayCommandSite tells n new after) (sym named) (and_then group (λ s r. commands_again tells at.0 lanes names site after s mid new may brought r same) ready);
  broken = λ was primaries labels broken.
      let alone = broken_alone lanes names in
      let first = primaries ∙ ap (λ (n : Naming). n.primaries) named ∙ alone.0 in
      let second = labels ∙ ap (λ (n : Naming). n.labels) named ∙ alone.1 in
      let third = broken ∙ sym unbroken in
      named ∙ (λ i. with_lanes_broken 0 lanes (record { primaries = sym first i; labels = sym second i; broken = sym third i }));
  ready = ready;
  cut = cut;
}
  where
    none : after.told ≡ []
    none = none_brought at.0 site after (ap (λ (s : SiteState). s.told) is) brought

-- ---- in runs

module _ {S : Type 0} (tells : Type 0) (told : tells) (left : S → Option (List ℕ)) (controls volumes : ℕ) (session : List ℕ) (level : Level) (at : Stamp) (lanes then : List (Lane S)) (kept kept_now : SessionParts) (site after : SiteState) (began old mid new : PlantState) (some : 1 ≤ controls) (few : controls ≤ 16) (later : 1 ≤ at.0)
    (is : site ≡ new_site controls volumes session level at) (stands : SiteStands none_excepted site mid) (names : Naming) (may : MayCommandSite tells names mid site) (shared : kept.group ≡ Some (first_group controls)) (of : AreLanesOf (first_group controls) 0 lanes)
    (up : (d : ℕ) → old.faults (Volume d) ≤ mid.faults (Volume d)) (brought : IsSiteBrought at.0 site after) (brings : BringsOn left at.0 lanes then kept kept_now site after began mid new (Ok tt)) (read : (d : Device) → IsThere mid d → mid.images mid.clock d (mid.bytes d)) where
  module _ (run : ScriptRun) (name : run.session ≡ session) (at_level : run.level ≡ level) (from : AreCountsFrom began old) (turns : AllTurnOut left run.traces lanes then) (rises : RisesCover run began new) where
    abbrev group : Group
    group = first_group controls

    -- a line for the start's time
    abbrev line : Line
    line = record { time = at; session = run.session; command = Query }

    abbrev stage : Stage
    stage = stage_at_start run at.0 (Some line)

    abbrev leg : Leg
    leg = leg_at stage 0

    abbrev asked : LinesAsked
    asked n = Some line

    is_new : site ≡ new_site controls volumes run.session run.level at
    is_new = is ∙ (λ i. new_site controls volumes (sym name i) (sym at_level i) at)

    just : HasJustStarted tells run at (λ d. began.faults (Volume d)) group site mid
    just = record {
      told = told;
      controls = controls;
      records = WRITES_OF_RUN;
      blocks = BLOCKS_OF_QUEUE;
      some = some;
      few = few;
      most = omega arith;
      shared = refl;
      many = turns.many ∙ of.many ∙ count_first controls;
      volumes = volumes;
      is_new = is_new;
      fits = may.idle.may.fast.fits;
      stands = stands;
      counted = λ d. (let first = from d in let then = up d in omega (arith, first, then));
    }

    so : StandsSoFar (run_at_start run stage 0 (sizes_of run.traces) (λ d. began.faults (Volume d))) group site mid
    so = started_stands tells mid run at (Some line) 0 (sizes_of run.traces) (λ d. began.faults (Volume d)) group site just read

    goes_on : site.mark.ended ≡ false
    goes_on = ap (λ (s : SiteState). s.mark.ended) is

    here : leg.point ≡ site_point site
    here = so.at ∙ (λ i. record (point_of site) { is_ended = sym goes_on i })

    stands_for : StandsForSite run site group mid
    stands_for = record {
      excepted = none_excepted;
      done = λ k v. false;
      stands = stands;
      rows = record {
        rows = subst (λ (p : Point). StandsForRows run (sizes_of run.traces) mid none_excepted group p (λ k v. false)) here so.rows;
        keeps = so.has_state.keeps;
        some = so.some;
      };
    }

    may_bring : MayBring run stage line asked leg leg.point [] site began mid group
    may_bring = record {
      heard = refl;
      asked_is = refl;
      active = refl;
      unchanged = refl;
      at = record {
        here = here;
        shows = subst (λ (p : Point). AtNow (ShowsPoint run (shape_of mid) p) mid) here so.shows;
        leg = so.leg_is;
        counted = λ d below. so.hits d;
      };
      at_work = record { goes_on = refl; not_ending = refl; none_marked = refl };
      goes_on = record {
        rows = stands_for;
        broke = so.has_state.broke;
        come = so.has_state.awaits;
        last = ap (λ (p : Point). p.rows) here;
        maps = no_maps run leg.point [] (site_point site) group (ap (λ (s : SiteState). s.told) is);
        maps_rest = rests_at_start controls (site_point site) (let time = ap (λ (s : SiteState). s.time) is in omega (arith, later, time)) (ap (λ (s : SiteState). s.told) is);
      };
      cut = inr (ap (λ (s : SiteState). s.told) is);
    }

    none : after.told ≡ []
    none = none_brought at.0 site after (ap (λ (s : SiteState). s.told) is) brought

    started : (s : Group) (l : Leg) (points : List PassedPoint) → HasBrought run stage line asked l leg.point points after began new s → StandsStarted run after new s
    started s l points h = record {
      shows = h.at.shows;
      goes_on = record { rows = h.goes_on.rows; broke = h.goes_on.broke; come = h.goes_on.come; last = refl; maps = no_maps run (site_point after) [] (site_point after) s none; maps_rest = h.goes_on.maps_rest };
    }

    pub starts_run : IsSomeAnd kept_now.group (StandsStarted run after new)
    starts_run =
        let ends = brings run stage line asked leg leg.point [] refl (at_level ∙ sym (ap (λ (s : SiteState). s.level) is)) (subst (λ (o : Option Group). IsSomeAnd o (MayBring run stage line asked leg leg.point [] site began mid)) (sym shared) may_bring) turns rises in
        some_group kept_now.group (λ s h. started s _ _ h) ends.2

  -- In each run over the traces the session stands at its start.
  pub starts_runs : StartsRuns left session level lanes then kept_now.group began old new after
  starts_runs run name at_level heads from turns rises = starts_run run name at_level from turns rises

-- ---- safe

-- What means the start on a plant means it on one of the same site.
pub start_before : (session : List ℕ) (level : Level) (at : ℕ) (old mid : PlantState) (c : Choice) → SameSite old mid → MeansStart session level at mid c → MeansStart session level at old c
start_before session level at old mid c same m = record {
  means = m.means;
  defined = ap (λ (s : Shape). means_in s c) (sym (shape_same old mid same)) ∙ m.defined;
  session_is = m.session_is;
  level_is = m.level_is;
  time = m.time;
  rows = m.rows;
  ended = m.ended;
}

-- After calls that are safe, work that leaves just the session that starts is safe.
pub safe_then : (session : List ℕ) (level : Level) (at : ℕ) (old mid new : PlantState) → old.clock ≤ mid.clock → SameSite old mid → SameSite mid new → Elapses mid new → (some : (c : Choice) × IsChoice mid mid.clock c) → IsSafeThroughout session level at old mid
    → AtEveryMoment (MeansStart session level at mid) mid new → IsSafeThroughout session level at old new
safe_then session level at old mid new later first same elapses some safe means durable =
    choices_then old mid new (ShutsOrStarts session level at old) (λ y z. MeansStart session level at old z) (ShutsOrStarts session level at old) later (safe durable) same elapses
    (λ t from to c left. (some.0, some.1, start_before session level at old mid c first (means t from to c left)))
    (λ x y was step. step) (λ x y z was here step starts. inr starts)

-- A session that was formatted stays so.
pub formats_on : (session : List ℕ) (level : Level) (at : ℕ) (old mid new : PlantState) (to later : ℕ) → SameSite mid new → Elapses mid new → 0 < mid.clock → to ≤ mid.clock → to ≤ later → FormatsFirst session level at old mid to → FormatsFirst session level at old new later
formats_on session level at old mid new to later site past up within le f = record {
  formatted_at = f.formatted_at;
  since = f.since;
  within = omega (arith, f.within, le);
  before = λ t from upto c left. f.before t from upto c (past_choice mid new t c site past up (omega (arith, upto, f.within, within)) left);
  first = λ c left. f.first c (past_choice mid new f.formatted_at c site past up (omega (arith, f.within, within)) left);
}
