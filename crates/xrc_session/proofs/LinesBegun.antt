-- A session that starts.
use Rattle.std.proofs.Common.{◌≡◌, ℕ, ◌≤◌, true≢false, List, [], Option, Some, None, refl, sym, ap, subst, ◌∙◌, arith}
use Rattle.std.specs.Prelude.{IfSome, IsSomeAnd, IsTrue, MatchOption, slice_index_or}
use Rattle.ckd_track.specs.declared.layout.TheConstants.{BLOCKS_OF_QUEUE, WRITES_OF_RUN}
use Rattle.crash_plant.specs.declared.device.Device.TheVariants.{Volume}
use Rattle.crash_plant.specs.Calls.{NoneLent, SameSite}
use Rattle.crash_plant.specs.Choices.{AtNow}
use Rattle.crash_plant.specs.Moments.{PlantState}
use Rattle.pair_table.specs.declared.level.Level.{Level}
use Rattle.pair_table.specs.declared.names.NamedVolume.{NamedVolume}
use Rattle.pair_table.specs.Naming.{Naming, none_alike}
use Rattle.pair_table.specs.Tables.{Table}
use Rattle.state_set.specs.Slots.{started_table}
use Rattle.site_means.specs.Sight.{meant_by}
use Rattle.site_store.specs.Sites.{SiteState, meant_for}
use Rattle.site_store.proofs.MarkFits.{lengths_still}
use Rattle.group_state.specs.Groups.{Group, new_group}
use Rattle.consistency.specs.Stages.{ScriptRun, breaks_of, names_of}
use Rattle.consistency.specs.Steps.{names_at}
use Rattle.mover.specs.declared.lane.Lane.{Lane}
use Rattle.mover.specs.Epochs.{AreSameLanes, LanesBrokeAs}
use Rattle.mover.specs.Lanes.{IsReaderOf, IsSameLane, MayGoOn}
use Rattle.mover.specs.Readers.{LaneReaderState}
use Rattle.mover.specs.Rounds.{AreLanesOf}
use Rattle.mover.specs.TurningOut.{AllMayGoOn}
use Rattle.xrc_session.specs.LinePauses.{AreCountsFrom, HasCut, IsAtSite, IsBetween, IsReadyForEpoch, IsRunOfSession, IsRunOver, IsUnstarted, MayCommandSite}
use Rattle.xrc_session.specs.Bringing.{BreakOnAsTraces}
use Rattle.xrc_session.specs.Lanes.{HaveHeadsOf, primaries_in}
use Rattle.xrc_session.specs.Lines.{IsBegunTable, IsStartedAt, StandsStartedAt}
use Rattle.xrc_session.specs.Starting.{IsSiteStarted, MayBeStarted, MeansStart, StandsStarted, StartsRuns}
use Rattle.xrc_session.specs.States.{SessionState, site_time, with_site}
use Rattle.xrc_session.proofs.LinesStarted.{IsJustStarted}
use Rattle.xrc_session.proofs.Names.{as_many, names_at_start, names_at_time}
use Rattle.xrc_session.proofs.Readying.{heads_stay, primaries_stay, unbroken_at_start, volumes_stay}
use Rattle.xrc_session.proofs.SafeStarts.{means_same}

-- ---- lanes

-- No reader of lanes that are a shared state's wants memory.
pub lanes_may_go_on : {S : Type 0} (group : Group) (limit : ℕ) (lanes : List (Lane S)) → AreLanesOf group limit lanes → AllMayGoOn lanes
lanes_may_go_on {S} group limit lanes are k d within = by_reader (slice_index_or lanes k d).reader (are.each k d within)
  where
    by_reader : (o : Option LaneReaderState) → IsSomeAnd o (IsReaderOf group k limit) → IsSomeAnd o (λ r. MayGoOn r.feed)
    by_reader None is = absurd is
    by_reader (Some r) is = is.goes

some_ready : {S : Type 0} (tells : Type 0) (lanes : List (Lane S)) (site : SiteState) (plant : PlantState) (group : Option Group) → IsSomeAnd group (IsReadyForEpoch tells lanes site plant) → AllMayGoOn lanes
some_ready tells lanes site plant None is = absurd is
some_ready tells lanes site plant (Some group) is = lanes_may_go_on group site.time lanes is.lanes_of

-- No reader of a session that stands between two lines wants memory.
pub between_may_go_on : {S : Type 0} (tells : Type 0) (s : SessionState) (lanes : List (Lane S)) (plant : PlantState) → IsBetween tells s lanes plant → AllMayGoOn lanes
between_may_go_on {S} tells s lanes plant between = by_site s.site between.place
  where
    by_site : (o : Option SiteState) → MatchOption o (IsUnstarted s lanes) (IsAtSite tells s lanes plant) → AllMayGoOn lanes
    by_site None none = lanes_may_go_on (new_group s.controls WRITES_OF_RUN BLOCKS_OF_QUEUE) 0 lanes none.lanes_of
    by_site (Some site) at = at.may_go_on

-- Lanes that have readers are the same as they are.
pub same_lanes_here : {S : Type 0} (lanes : List (Lane S)) → AllMayGoOn lanes → AreSameLanes lanes lanes
same_lanes_here {S} lanes may = record { many = refl; each = λ k d low. by_reader (slice_index_or lanes k d).reader (may k d low) }
  where
    by_reader : (o : Option LaneReaderState) → IsSomeAnd o (λ r. MayGoOn r.feed) → IsSomeAnd o (λ was. IsSomeAnd o (λ is. IsSameLane was.feed is.feed))
    by_reader None is = absurd is
    by_reader (Some r) is = record { control = refl; heads = refl }

-- ---- between

-- What stands of an unstarted session lets it start.
module _ {S : Type 0} (tells : Type 0) (s : SessionState) (lanes : List (Lane S)) (old : PlantState) (between : IsBetween tells s lanes old) (unstarted : s.site ≡ None) where
  pub unstarted_is : IsUnstarted s lanes
  unstarted_is = subst (λ (o : Option SiteState). MatchOption o (IsUnstarted s lanes) (IsAtSite tells s lanes old)) unstarted between.place

  pub may_be_started : (at : ℕ) → 1 ≤ at → MayBeStarted s.controls at s.names s.group lanes old
  may_be_started at later = record {
    time = later;
    few = between.few;
    home = between.home;
    lengths = between.lengths;
    labels = unstarted_is.labels;
    broken = unstarted_is.broken;
    fresh = unstarted_is.fresh;
    lanes_of = unstarted_is.lanes_of;
  }

  -- After its start it stands between two lines.
  module _ (level : Level) (at : ℕ) (lanes_now : List (Lane S)) (names : Naming) (group : Option Group) (site : SiteState) (new : PlantState) (same : SameSite old new) (home : NoneLent new) (lanes_same : AreSameLanes lanes lanes_now)
      (primaries : names.primaries ≡ s.names.primaries) (started : IsSiteStarted tells s.session level s.controls at lanes_now names group new site) where
    abbrev now : SessionState
    now = with_site names group site s

    named_now : names.primaries ≡ primaries_in 0 lanes_now
    named_now = primaries ∙ between.named ∙ sym (primaries_stay lanes lanes_now lanes_same)

    pub started_at_site : IsAtSite tells now lanes_now new site
    started_at_site = record {
      table = refl;
      session = ap (λ (t : Table). t.session) started.table;
      controls = started.controls_are;
      ended = unstarted_is.goes_on ∙ sym (ap (λ (t : Table). t.is_ended) started.table);
      flag = started.flag ∙ sym (ap (λ (t : Table). t.is_ended) started.table);
      may = started.may;
      empty = λ ended. absurd (true≢false (sym ended ∙ ap (λ (t : Table). t.is_ended) started.table));
      may_go_on = some_ready tells lanes_now site new group started.ready;
      ready = λ on. started.ready;
      cut = λ on. subst (λ (n : ℕ). IsSomeAnd group (HasCut n)) (sym started.time) started.cut;
    }

    pub started_between : IsBetween tells now lanes_now new
    started_between = record {
      home = home;
      few = between.few;
      many = lanes_same.many ∙ between.many;
      lengths = lengths_still s.controls old new same between.lengths;
      volumes = omega (arith, between.volumes, same.volumes);
      headed = volumes_stay lanes lanes_now lanes_same between.headed;
      named = named_now;
      apart = subst (λ (l : List NamedVolume). IsTrue (none_alike l)) (sym primaries) between.apart;
      place = started_at_site;
    }

    -- ---- in a run

    module _ (left : S → Option (List ℕ)) (later : 1 ≤ at) (broke : BreakOnAsTraces left at lanes lanes_now) (began : PlantState) (run : ScriptRun) (over : IsRunOver left run now lanes lanes_now began new) (counts : AreCountsFrom began old)
        (runs : StartsRuns left s.session level lanes lanes_now group began old new site) where
      unbroken : LanesBrokeAs 0 run.traces lanes
      unbroken = unbroken_at_start s lanes run.traces unstarted_is (as_many lanes run.traces over.heads)

      broke_now : LanesBrokeAs at run.traces lanes_now
      broke_now = broke run.traces 0 (omega arith) over.traces unbroken

      heads_now : HaveHeadsOf lanes_now run.traces
      heads_now = heads_stay lanes lanes_now run.traces lanes_same over.heads

      named_first : (before : Naming) → before ≡ record names { broken = [] } → before ≡ names_at 0 (breaks_of run) (names_of run)
      named_first before is =
          names_at_start run lanes_now before heads_now (ap (λ (n : Naming). n.primaries) is ∙ named_now) (ap (λ (n : Naming). n.labels) is ∙ sym over.its.labels) (ap (λ (n : Naming). n.broken) is)

      named_at : names ≡ names_at at (breaks_of run) (names_of run)
      named_at =
          names_at_time run lanes_now 0 at (record names { broken = [] }) names (omega arith) broke_now heads_now (volumes_stay lanes lanes_now lanes_same between.headed) (named_first (record names { broken = [] }) refl)
          (started.broken (record names { broken = [] }) refl refl refl)

      pub stands_started : StandsStartedAt run now lanes_now new
      stands_started = record {
        stands = runs run over.its.session (over.its.level ∙ started.level_is) over.heads counts over.traces over.rises;
        broke = subst (λ (n : ℕ). LanesBrokeAs n run.traces lanes_now) (sym started.time) broke_now;
        named = subst (λ (n : ℕ). names ≡ names_at n (breaks_of run) (names_of run)) (sym started.time) named_at;
      }

-- ---- from a table that has taken a start

-- What stands of a session whose own table has taken the start.
module _ {S : Type 0} (tells : Type 0) (s : SessionState) (lanes : List (Lane S)) (old : PlantState) (begun : IsBegunTable tells s lanes old) where
  pub begun_may_start : (at : ℕ) → 1 ≤ at → MayBeStarted s.controls at s.names s.group lanes old
  begun_may_start at later =
      subst (λ (x : SessionState). MayBeStarted x.controls at x.names x.group lanes old) (sym begun.is)
      (may_be_started tells begun.before lanes old begun.between begun.unstarted at later)

  pub begun_unstarted : s.site ≡ None
  begun_unstarted = ap (λ (x : SessionState). x.site) begun.is ∙ begun.unstarted

  module _ (level : Level) (at : ℕ) (lanes_now : List (Lane S)) (names : Naming) (group : Option Group) (site : SiteState) (new : PlantState) (same : SameSite old new) (home : NoneLent new) (lanes_same : AreSameLanes lanes lanes_now)
      (primaries : names.primaries ≡ s.names.primaries) (started : IsSiteStarted tells s.session level s.controls at lanes_now names group new site) where
    primaries_first : names.primaries ≡ begun.before.names.primaries
    primaries_first = primaries ∙ ap (λ (x : SessionState). x.names.primaries) begun.is

    started_first : IsSiteStarted tells begun.before.session level begun.before.controls at lanes_now names group new site
    started_first = subst (λ (x : SessionState). IsSiteStarted tells x.session level x.controls at lanes_now names group new site) begun.is started

    pub begun_between : IsBetween tells (with_site names group site s) lanes_now new
    begun_between =
        subst (λ (x : SessionState). IsBetween tells (with_site names group site x) lanes_now new) (sym begun.is)
        (started_between tells begun.before lanes old begun.between begun.unstarted level at lanes_now names group site new same home lanes_same primaries_first started_first)

    pub begun_is_started_at : IsStartedAt level at s (with_site names group site s)
    begun_is_started_at = record { same = record { session = refl; controls = refl }; table = started.table; started = (started.level_is, started.time) }

    pub begun_stands : (left : S → Option (List ℕ)) → 1 ≤ at → BreakOnAsTraces left at lanes lanes_now → (began : PlantState) (run : ScriptRun) → IsRunOver left run (with_site names group site s) lanes lanes_now began new → AreCountsFrom began old
        → StartsRuns left s.session level lanes lanes_now group began old new site → StandsStartedAt run (with_site names group site s) lanes_now new
    begun_stands left later broke began run over counts runs =
        subst (λ (x : SessionState). StandsStartedAt run (with_site names group site x) lanes_now new) (sym begun.is)
        (stands_started tells begun.before lanes old begun.between begun.unstarted level at lanes_now names group site new same home lanes_same primaries_first started_first left later broke began run
        (subst (λ (x : SessionState). IsRunOver left run (with_site names group site x) lanes lanes_now began new) begun.is over) counts
        (subst (λ (x : SessionState). StartsRuns left x.session level lanes lanes_now group began old new site) begun.is runs))

-- ---- what it means

-- Whatever a crash leaves means just the session that started.
pub started_means : (tells : Type 0) → tells → (name : List ℕ) (level : Level) (at : ℕ) (site : SiteState) (names : Naming) (old new : PlantState) → SameSite old new → MayCommandSite tells names new site → site.table ≡ started_table name [] → site.level ≡ level → site.time ≡ at
    → site.mark.ended ≡ site.table.is_ended → AtNow (MeansStart name level at old) new
started_means tells told name level at site names old new same may table level_is time flag c is =
    let stands = may.idle.may.fast.stands told in
    means_same name level at old new same c
    (record {
      means = meant_for site;
      defined = ap meant_by (stands.1.meant c is);
      session_is = ap (λ (t : Table). t.session) table;
      level_is = level_is;
      time = time;
      rows = may.idle.same ∙ ap (λ (t : Table). t.rows) table;
      ended = flag ∙ ap (λ (t : Table). t.is_ended) table;
    })

-- ---- in the run's line

-- A session that has just started stands so in a run.
pub just_started : {S : Type 0} (tells : Type 0) (run : ScriptRun) (s next : SessionState) (lanes : List (Lane S)) (level : Level) (at : ℕ) (began new : PlantState) → IsBetween tells next lanes new → IsStartedAt level at s next → IsRunOfSession next run → StandsStartedAt run next lanes new
    → ((d : ℕ) → began.faults (Volume d) ≤ new.faults (Volume d)) → (site : SiteState) × IsJustStarted run s next lanes site at level began new
just_started {S} tells run s next lanes level at began new between started its stands faults = by_site next.site refl
  where
    by_group : (site : SiteState) → next.site ≡ Some site → (g : Option Group) → next.group ≡ g → IsSomeAnd g (StandsStarted run site new) → IsJustStarted run s next lanes site at level began new
    by_group site is None group_is none = absurd none
    by_group site is (Some group) group_is has =
        let at_site = subst (λ (o : Option SiteState). MatchOption o (IsUnstarted next lanes) (IsAtSite tells next lanes new)) is between.place in
        let facts = subst (λ (o : Option SiteState). IsSomeAnd o (λ x. (x.level ≡ level) × (x.time ≡ at))) is started.started in
        record {
          its = its;
          site_is = is;
          table = started.table;
          site_table = at_site.table;
          time = facts.1;
          level_is = facts.0;
          flag = at_site.flag;
          told = at_site.may.idle.same;
          group = group;
          group_is = group_is;
          stands = has;
          named = subst (λ (o : Option SiteState). IfSome o (λ x. next.names ≡ names_at x.time (breaks_of run) (names_of run))) is stands.named;
          broke = subst (λ (o : Option SiteState). LanesBrokeAs (site_time o) run.traces lanes) is stands.broke;
          faults = faults;
        }

    by_site : (o : Option SiteState) → next.site ≡ o → (site : SiteState) × IsJustStarted run s next lanes site at level began new
    by_site None is = absurd (subst (λ (o : Option SiteState). IsSomeAnd o (λ x. (x.level ≡ level) × (x.time ≡ at))) is started.started)
    by_site (Some site) is =
        (site, by_group site is next.group refl (subst (λ (o : Option SiteState). IsSomeAnd o (λ x. IsSomeAnd next.group (StandsStarted run x new))) is stands.stands))
