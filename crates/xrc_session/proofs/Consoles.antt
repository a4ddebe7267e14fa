-- What stands between two epochs, while the console alone works.
use Rattle.std.proofs.Common.{◌≡◌, ◌⊎◌, inl, inr, ℕ, ◌<◌, ◌≤◌, List, [], ◌++◌, length, Option, Some, None, refl, sym, ap, subst, ◌∙◌, arith}
use Rattle.std.specs.Prelude.{◌+◌, ◌*◌, ◌&&◌, IsSomeAnd, IsTrue, MatchOption, find, nat_le, nat_lt}
use Rattle.std.specs.List.{list_all}
use Rattle.std.proofs.lemmas.Bool.{cases_lt}
use Rattle.crash_plant.specs.declared.device.Device.{Device}
use Rattle.crash_plant.specs.declared.device.Device.TheVariants.{Control, Journal, State, Volume}
use Rattle.crash_plant.specs.Calls.{SameSite, WorksOnConsole}
use Rattle.crash_plant.specs.Choices.{AtNow, Choice, IsChoice}
use Rattle.crash_plant.specs.Moments.{IsDurable, SamePast, PlantState, Same, Standing, Stays, on}
use Rattle.crash_plant.proofs.Choices.{part_before}
use Rattle.crash_plant.proofs.Steps.{follows_then, none_lent_console}
use Rattle.pair_table.specs.declared.row.PairRow.{PairRow}
use Rattle.pair_table.specs.Naming.{Naming}
use Rattle.pair_table.specs.Tables.{are_below}
use Rattle.site_means.specs.Images.{Shape, shape_of}
use Rattle.site_means.specs.Meaning.{chosen_in, meaning_in}
use Rattle.site_means.proofs.Goes.{shape_same}
use Rattle.xrc_command.specs.declared.line.Line.{Line}
use Rattle.group_state.specs.Groups.{Group}
use Rattle.site_store.specs.Commands.{LabelsFit}
use Rattle.site_store.specs.Exceptions.{Exceptions}
use Rattle.site_store.specs.Sites.{SiteState}
use Rattle.site_store.specs.Standing.{AreApplied, FitsPlant, MayRecord, SiteStands, StandsFast}
use Rattle.site_store.proofs.MarkFits.{lengths_still, site_fits}
use Rattle.site_store.proofs.Seeing.{same_content}
use Rattle.consistency.specs.Bearing.{ShowsPoint}
use Rattle.consistency.specs.Stages.{ScriptRun, Stage}
use Rattle.consistency.specs.Courses.{Answered, replies_of, texts_of}
use Rattle.consistency.specs.Leads.{Point}
use Rattle.consistency.specs.Ways.{IsLegOf, Leg, PassedPoint}
use Rattle.consistency.proofs.Standing.{console_choice}
use Rattle.fed_logs.specs.Logs.{BeginsLog, Sizes}
use Rattle.fed_logs.specs.Moves.{Plans}
use Rattle.fed_logs.specs.ToldTracks.{HeldTracks}
use Rattle.mover.specs.declared.lane.Lane.{Lane}
use Rattle.mover.specs.Epochs.{MayBeginEpoch}
use Rattle.mover.specs.Moves.{is_row_of_volume}
use Rattle.mover.specs.OwedTracks.{held_by_choice, held_of_row}
use Rattle.mover.specs.Working.{StandsForRows}
use Rattle.xrc_session.specs.LinePauses.{GoesOnFrom, HasNotBegun, IsAtSite, IsBetween, IsReadyForEpoch, IsUnderWay, IsUnstarted, LeavesAll, MayCommandSite, RestsAtSite, StandsAfterLines, StandsAtLeg, StandsForSite, site_point}
use Rattle.xrc_session.specs.EpochPauses.{Between, StandsBetween}
use Rattle.xrc_session.specs.Frames.{rows_passed}
use Rattle.xrc_session.specs.Lanes.{sizes_of}
use Rattle.xrc_session.specs.States.{SessionState}
use Rattle.xrc_session.specs.Trails.{AreHitsOfFaults, GoesForth, Trail, first_leg, last_leg}
use Rattle.xrc_session.proofs.RowFrames.{changes_rows_none, changes_rows_then}
use Rattle.xrc_session.proofs.Trails.{forth_heard, goes_forth_said, next_heard}

-- ---- devices that are left alone

-- A device that was left alone is left alone by further calls.
pub stays_then : (a b c : Standing) → a.clock ≤ b.clock → Stays a b → SamePast b c → Stays b c → Stays a c
stays_then a b c later x k y = record {
  bytes = y.bytes ∙ x.bytes;
  images = follows_then a b c Same Same Same later x.images k y.images (λ p q here e. e) (λ p q r here there e more. more ∙ e);
  all = λ t from to e was. elim (cases_lt t b.clock) [
    | inl early ↦ k.all t (omega (arith, early)) (omega (arith, early)) e (x.all t from (omega (arith, early)) e was)
    | inr late ↦ y.all t late to e (x.all b.clock later (omega arith) e was)
  ];
  faults = y.faults ∙ x.faults;
}

module _ (tells : Type 0) (old new : PlantState) (works : WorksOnConsole tells old new) where
  module _ (told : tells) where
    reaches : old.clock ≤ new.clock
    reaches = ((works.elapses told).kept Control).later

    pub choice_back : (c : Choice) → IsChoice new new.clock c → IsChoice old old.clock c
    choice_back c is = console_choice tells told old new new.clock c works reaches (omega arith) is

    pub choice_on : (c : Choice) → IsChoice old old.clock c → IsChoice new new.clock c
    choice_on c is d part = (works.devices told d).all new.clock reaches (omega arith) (c d) (is d (part_before old new d works.site part))

    same_shape : shape_of new ≡ shape_of old
    same_shape = shape_same old new works.site

    durable_on : (d : Device) → IsDurable (on old d) → IsDurable (on new d)
    durable_on d durable c left =
        let start = (works.devices told d).images new.clock reaches (omega arith) c left in
        start.2 ∙ durable start.0 start.1 ∙ sym (works.devices told d).bytes

    -- Every crash leaves the site still.
    pub stands_on : (excepted : Exceptions) (site : SiteState) → SiteStands excepted site old → SiteStands excepted site new
    stands_on excepted site stands = record {
      walk = stands.walk;
      meant = λ c is. ap (λ (shape : Shape). meaning_in shape c) same_shape ∙ stands.meant c (choice_back c is);
      chosen = λ c is. ap (λ (shape : Shape). chosen_in shape c) same_shape ∙ stands.chosen c (choice_back c is);
      at = stands.at;
      last = stands.last;
      control = durable_on Control stands.control;
      state = durable_on State stands.state;
      journals = λ j has. durable_on (Journal j) (stands.journals j has);
      done = stands.done;
      items = stands.items;
      applied = λ d there fine. subst (λ (l : List ℕ). AreApplied (excepted d) stands.done d l) (sym (works.devices told (Volume d)).bytes) (stands.applied d (omega (arith, there, works.site.volumes)) fine);
      unwritten = λ d there fine x has. stands.unwritten d (omega (arith, there, works.site.volumes)) fine x has;
    }

    pub shows_on : (run : ScriptRun) (p : Point) → AtNow (ShowsPoint run (shape_of old) p) old → AtNow (ShowsPoint run (shape_of new) p) new
    shows_on run p shows c is = subst (λ (shape : Shape). ShowsPoint run shape p c) (sym same_shape) (shows c (choice_back c is))

    held_same : (c : Choice) (x : ℕ) (o : Option PairRow) → held_of_row new c x o ≡ held_of_row old c x o
    held_same c x None = refl
    held_same c x (Some r) = same_content old new works.site c r.device x

    held_on : (c : Choice) (rows : List PairRow) → held_by_choice new c rows ≡ held_by_choice old c rows
    held_on c rows = λ i k v x. held_same c x (find (is_row_of_volume k v) rows) i

    rows_on : (run : ScriptRun) (size : Sizes) (excepted : Exceptions) (s : Group) (p : Point) (done : Plans) → StandsForRows run size old excepted s p done → StandsForRows run size new excepted s p done
    rows_on run size excepted s p done stands = record {
      apart = stands.apart;
      below = subst (λ (n : ℕ). IsTrue (are_below n p.rows)) (sym works.site.volumes) stands.below;
      sized = stands.sized;
      holds = λ c is. subst (λ (held : HeldTracks). BeginsLog size run.traces held s p.time p.rows done) (sym (held_on c p.rows)) (stands.holds c (choice_back c is));
      rowed = stands.rowed;
      owed = stands.owed;
      failed = stands.failed;
      carried = stands.carried;
    }

    pub state_on : (b : Between) → StandsBetween old b → StandsBetween new b
    state_on b stands = record {
      rows = rows_on b.run b.size b.excepted b.group b.point b.done stands.rows;
      keeps = stands.keeps;
      some = (stands.some.0, choice_on stands.some.0 stands.some.1);
    }

    for_site_on : (run : ScriptRun) (site : SiteState) (group : Group) → StandsForSite run site group old → StandsForSite run site group new
    for_site_on run site group stands = record {
      excepted = stands.excepted;
      done = stands.done;
      stands = stands_on stands.excepted site stands.stands;
      rows = state_on (record { run = run; size = sizes_of run.traces; excepted = stands.excepted; group = group; point = site_point site; done = stands.done }) stands.rows;
    }

    pub goes_on_from : (run : ScriptRun) (first : Point) (points : List PassedPoint) (site : SiteState) (group : Group) → GoesOnFrom run first points site old group → GoesOnFrom run first points site new group
    goes_on_from run first points site group goes = record { rows = for_site_on run site group goes.rows; broke = goes.broke; come = goes.come; last = goes.last; maps = goes.maps; maps_rest = goes.maps_rest }

    some_goes_on : (run : ScriptRun) (first : Point) (points : List PassedPoint) (site : SiteState) (group : Option Group) → IsSomeAnd group (GoesOnFrom run first points site old) → IsSomeAnd group (GoesOnFrom run first points site new)
    some_goes_on run first points site (Some group) goes = goes_on_from run first points site group goes
    some_goes_on run first points site None goes = absurd goes

    hits_on : (l : Leg) (began : PlantState) → AreHitsOfFaults l began old → AreHitsOfFaults l began new
    hits_on l began hits d below = let same = works.faults (Volume d) in omega (arith, hits d (omega (arith, below, same)), same)

    pub at_leg_on : (run : ScriptRun) (stage : Stage) (l : Leg) (site : SiteState) (began : PlantState) → StandsAtLeg run stage l site began old → StandsAtLeg run stage l site began new
    at_leg_on run stage l site began at = record { here = at.here; shows = shows_on run (site_point site) at.shows; leg = at.leg; counted = hits_on l began at.counted }

    leaves_on : (began : PlantState) → began.clock ≤ old.clock → LeavesAll began old → LeavesAll began new
    leaves_on began later leaves d = stays_then (on began d) (on old d) (on new d) later (leaves d) ((works.elapses told).kept d) (works.devices told d)

    under_way_on : (run : ScriptRun) (lines : List Answered) (stage : Stage) (trail : Trail) (s : SessionState) (began : PlantState) (site : SiteState) → IsUnderWay run lines stage trail s began old site → IsUnderWay run lines stage trail s began new site
    under_way_on run lines stage trail s began site way = record {
      some = way.some;
      started = way.started;
      begins = way.begins;
      rowless = way.rowless;
      next = way.next;
      goes_forth = λ up. by_past (cases_lt 0 old.clock) up;
      at = at_leg_on run stage (last_leg run lines trail) site began way.at;
      goes_on = λ on. some_goes_on run (first_leg run lines trail).point trail.points site s.group (way.goes_on on);
    }
      where
        by_past : (0 < old.clock) ⊎ (old.clock ≤ 0) → 0 < new.clock → GoesForth run lines stage.next trail None began new
        by_past (inl past) up = goes_forth_said run lines stage.next trail began old new works.site (works.elapses told) past (way.goes_forth past) tells told works
        by_past (inr none) up = let still = ((works.elapses told).kept Control).still (omega (arith, none)) in absurd (omega (arith, up, still))

    -- What a session has come to after its lines stays as it is.
    pub after_on : (run : ScriptRun) (lines : List Answered) (stage : Stage) (trail : Trail) (s : SessionState) (began : PlantState) → SameSite began old → began.clock ≤ old.clock → StandsAfterLines run lines stage trail s began old
        → StandsAfterLines run lines stage trail s began new
    after_on run lines stage trail s began site later stands = record {
      its = stands.its;
      table = stands.table;
      volumes = changes_rows_then (rows_passed trail.points) [] (rows_passed trail.points) began old new site later (works.elapses told) (λ r has. has) (λ r has. absurd (omega (arith, has.1))) stands.volumes
          (changes_rows_none [] old new (λ d there. works.devices told (Volume d)));
      place = by_place s.site stands.place;
    }
      where
        by_place : (o : Option SiteState) → MatchOption o (HasNotBegun trail began old) (RestsAtSite run lines stage trail s began old) → MatchOption o (HasNotBegun trail began new) (RestsAtSite run lines stage trail s began new)
        by_place None none = record { started = none.started; points = none.points; devices = leaves_on began later none.devices }
        by_place (Some at) rests = record { under_way = under_way_on run lines stage trail s began at rests.under_way; rest = rests.rest; named = rests.named }

  -- ---- in memory and on the devices

  fits_on : (site : SiteState) → FitsPlant site old → FitsPlant site new
  fits_on site fits = site_fits site site.failed old new works.site (none_lent_console tells old new works fits.home) refl fits

  fast_on : (site : SiteState) → StandsFast tells site old → StandsFast tells site new
  fast_on site fast = record { fits = fits_on site fast.fits; stands = λ told. let stands = fast.stands told in (stands.0, stands_on told stands.0 site stands.1) }

  record_on : (site : SiteState) → MayRecord tells site old → MayRecord tells site new
  record_on site may = record { fast = fast_on site may.fast; level = may.level; idle = may.idle }

  labels_on : (names : Naming) → LabelsFit old names → LabelsFit new names
  labels_on names fit = subst (λ (x : Type 0). x) (λ i. IsTrue (list_all (λ label. nat_lt label.device (sym works.site.volumes i) && nat_le (512 + label.cylinders * 860160) (sym (works.site.lengths (Volume label.device)) i)) names.labels)) fit

  pub command_on : (names : Naming) (site : SiteState) → MayCommandSite tells names old site → MayCommandSite tells names new site
  command_on names site may = record { idle = record { may = record_on site may.idle.may; same = may.idle.same }; told = may.told; commands = may.commands; labels = labels_on names may.labels }

  epoch_on : (limit : ℕ) (group : Group) (site : SiteState) → MayBeginEpoch tells limit group site old → MayBeginEpoch tells limit group site new
  epoch_on limit group site may = record { rests = record_on site may.rests; knows = may.knows; marked = may.marked }

  ready_on : {S : Type 0} (lanes : List (Lane S)) (site : SiteState) (group : Group) → IsReadyForEpoch tells lanes site old group → IsReadyForEpoch tells lanes site new group
  ready_on lanes site group ready = record { begins = epoch_on site.time group site ready.begins; lanes_of = ready.lanes_of; kept = ready.kept }

  some_ready_on : {S : Type 0} (lanes : List (Lane S)) (site : SiteState) (group : Option Group) → IsSomeAnd group (IsReadyForEpoch tells lanes site old) → IsSomeAnd group (IsReadyForEpoch tells lanes site new)
  some_ready_on lanes site (Some group) ready = ready_on lanes site group ready
  some_ready_on lanes site None ready = absurd ready

  -- A session stands between two lines still.
  pub between_on : {S : Type 0} (s : SessionState) (lanes : List (Lane S)) → IsBetween tells s lanes old → IsBetween tells s lanes new
  between_on {S} s lanes between = record {
    home = none_lent_console tells old new works between.home;
    few = between.few;
    many = between.many;
    lengths = lengths_still s.controls old new works.site between.lengths;
    volumes = omega (arith, between.volumes, works.site.volumes);
    headed = between.headed;
    named = between.named;
    apart = between.apart;
    place = by_place s.site between.place;
  }
    where
      at_site : (site : SiteState) → IsAtSite tells s lanes old site → IsAtSite tells s lanes new site
      at_site site at = record {
        table = at.table;
        session = at.session;
        controls = at.controls;
        ended = at.ended;
        flag = at.flag;
        may = command_on s.names site at.may;
        empty = at.empty;
        may_go_on = at.may_go_on;
        ready = λ on. some_ready_on lanes site s.group (at.ready on);
        cut = at.cut;
      }

      by_place : (o : Option SiteState) → MatchOption o (IsUnstarted s lanes) (IsAtSite tells s lanes old) → MatchOption o (IsUnstarted s lanes) (IsAtSite tells s lanes new)
      by_place None none = none
      by_place (Some site) at = at_site site at

-- ---- a line is heard

-- A leg of a stage is one whatever was heard.
pub leg_heard : (run : ScriptRun) (s : Stage) (heard : Option Line) (l : Leg) → IsLegOf run s l → IsLegOf run (record s { next = heard }) l
leg_heard run s heard l leg = record { table = leg.table; replied = leg.replied; whole = leg.whole; counted = leg.counted }

-- What a session has come to after its lines stays when a line is heard.
pub after_heard : (run : ScriptRun) (lines : List Answered) (stage : Stage) (heard : Option Line) (trail : Trail) (s : SessionState) (began now : PlantState) → now.heard now.clock ≡ began.heard began.clock ++ texts_of lines → now.said now.clock ≡ began.said began.clock ++ replies_of lines → StandsAfterLines run lines stage trail s began now
    → StandsAfterLines run lines (record stage { next = heard }) trail s began now
after_heard run lines stage heard trail s began now all said stands = record { its = stands.its; table = stands.table; volumes = stands.volumes; place = by_place s.site stands.place }
  where
    at_site : (site : SiteState) → RestsAtSite run lines stage trail s began now site → RestsAtSite run lines (record stage { next = heard }) trail s began now site
    at_site site rests =
        let way = rests.under_way in
        let up : (last_leg run lines trail).answered ≤ length lines = omega (arith, rests.rest.answered) in
        record {
          under_way = record {
            some = way.some;
            started = way.started;
            begins = way.begins;
            rowless = way.rowless;
            next = next_heard run lines trail stage.next heard rests.rest.marked up way.next;
            goes_forth = λ past. forth_heard run lines trail stage.next heard began now rests.rest.marked up all said (way.goes_forth past);
            at = record { here = way.at.here; shows = way.at.shows; leg = leg_heard run stage heard (last_leg run lines trail) way.at.leg; counted = way.at.counted };
            goes_on = way.goes_on;
          };
          rest = rests.rest;
          named = rests.named;
        }

    by_place : (o : Option SiteState) → MatchOption o (HasNotBegun trail began now) (RestsAtSite run lines stage trail s began now) → MatchOption o (HasNotBegun trail began now) (RestsAtSite run lines (record stage { next = heard }) trail s began now)
    by_place None none = none
    by_place (Some site) rests = at_site site rests
