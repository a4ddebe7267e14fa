-- A line that is answered from the start on, in memory and on the devices.
use Rattle.std.proofs.Common.{◌≡◌, ◌⊎◌, inl, inr, ℕ, ◌≤◌, Bool, true, false, true≢false, List, length, Option, Some, None, refl, sym, ap, subst, ◌∙◌, arith}
use Rattle.std.specs.Prelude.{◌||◌, IsSomeAnd, IsTrue, MatchOption, Result, Ok, Err, is_none, if◌then◌else◌}
use Rattle.std.specs.Option.{option_map}
use Rattle.std.proofs.lemmas.List.{length-map}
use Rattle.tod_stamp.specs.declared.stamp.Stamp.{Stamp}
use Rattle.crash_plant.specs.Calls.{NoneLent, SameSite}
use Rattle.crash_plant.specs.Moments.{PlantState}
use Rattle.pair_table.specs.declared.command.Change.{Change}
use Rattle.pair_table.specs.declared.command.Command.{Command}
use Rattle.pair_table.specs.declared.command.Command.TheVariants.{Start, AddPair, DelPair, Suspend, Query, End}
use Rattle.pair_table.specs.declared.command.Refusal.{Refusal}
use Rattle.pair_table.specs.declared.names.NamedDevice.{NamedDevice}
use Rattle.pair_table.specs.declared.names.NamedVolume.{NamedVolume}
use Rattle.pair_table.specs.declared.row.PairRow.{PairRow}
use Rattle.pair_table.specs.Commands.{PrimariesAreNamed, accepted, added, answer, answer_by, change_of, is_end, table_after}
use Rattle.pair_table.specs.Naming.{Naming, labelled_device, none_alike}
use Rattle.pair_table.specs.Refusals.{refusal, row_of_primary}
use Rattle.pair_table.specs.Tables.{Table}
use Rattle.group_state.specs.Groups.{Group}
use Rattle.turn_group.specs.Notes.{known_of, volumes_known}
use Rattle.site_store.specs.Sites.{SiteState}
use Rattle.site_store.specs.Standing.{HasLengths}
use Rattle.site_store.proofs.MarkFits.{lengths_still}
use Rattle.mover.specs.declared.lane.Lane.{Lane}
use Rattle.mover.specs.Epochs.{AreSameLanes}
use Rattle.mover.specs.Rounds.{AreLanesOf}
use Rattle.mover.specs.TurningOut.{AllMayGoOn}
use Rattle.xrc_command.specs.declared.line.Line.{Line}
use Rattle.xrc_session.specs.Answering.{ControlsCount, IsSiteAnswered, group_taken, is_end_accepted}
use Rattle.xrc_session.specs.LinePauses.{HasCut, IsAtSite, IsBetween, IsReadyForEpoch, IsUnstarted, MayCommandSite}
use Rattle.xrc_session.specs.Bringing.{IsSiteBrought}
use Rattle.xrc_session.specs.Joins.{StaysForReaders}
use Rattle.xrc_session.specs.Lanes.{HaveVolumes, primaries_in, with_lanes_broken}
use Rattle.xrc_session.specs.States.{SessionState}
use Rattle.xrc_session.specs.Taking.{IsSoundForRows}
use Rattle.xrc_session.proofs.JoinsCommands.{added_of_lane}
use Rattle.xrc_session.proofs.JoinsLanes.{changes_stay, lanes_after}
use Rattle.xrc_session.proofs.JoinsRows.{kept_known}
use Rattle.xrc_session.proofs.LinesBegun.{lanes_may_go_on}
use Rattle.xrc_session.proofs.Readying.{broken_alone, commands_again, controls_count, named_of_lanes, primaries_stay, volumes_stay}

-- ---- some

-- What is so of the value that there is.
pub some_value : {X : Type 0} {P : X → Type 0} (o : Option X) → IsSomeAnd o P → (x : X) × (o ≡ Some x) × P x
some_value {X} {P} None is = absurd is
some_value {X} {P} (Some x) is = (x, refl, is)

-- ---- the end

not_end_added : (r : Option PairRow) (l : Option NamedDevice) → is_end_accepted (Ok (added r l)) ≡ false
not_end_added (Some r) l = refl
not_end_added None (Some l) = refl
not_end_added None None = refl

end_by_change : (names : Naming) (c : Command) (rows : List PairRow) → is_end_accepted (Ok (change_of names c rows)) ≡ is_end c
end_by_change names (AddPair primary secondary group) rows = not_end_added (row_of_primary primary rows) (labelled_device secondary names)
end_by_change names (DelPair choice) rows = refl
end_by_change names (Suspend choice) rows = refl
end_by_change names (Start level) rows = refl
end_by_change names Query rows = refl
end_by_change names End rows = refl

-- A session has ended after a command if it had before, or if the command is an end that is accepted.
pub ended_after : (names : Naming) (table : Table) (session : List ℕ) (c : Command) (time : ℕ) → (table_after names table session c time).is_ended ≡ (table.is_ended || is_end_accepted (answer names table session c))
ended_after names table session c time = by_end table.is_ended refl
  where
    by_refusal : table.is_ended ≡ false → (o : Option Refusal) → (if is_none o then accepted names time c table else table).is_ended ≡ is_end_accepted (answer_by o (change_of names c table.rows))
    by_refusal goes None = sym (end_by_change names c table.rows)
    by_refusal goes (Some why) = goes

    by_end : (e : Bool) → table.is_ended ≡ e → (table_after names table session c time).is_ended ≡ (table.is_ended || is_end_accepted (answer names table session c))
    by_end true ended =
        subst (λ (e : Bool). (table_after names (record table { is_ended = e }) session c time).is_ended ≡ (e || is_end_accepted (answer names (record table { is_ended = e }) session c))) (sym ended) refl
    by_end false goes = by_refusal goes (refusal names table session c) ∙ sym (ap (λ (e : Bool). e || is_end_accepted (answer names table session c)) goes)

-- The session and its name stay, and a started one stays started.
pub started_after : (names : Naming) (table : Table) (session : List ℕ) (c : Command) (time : ℕ) → table.is_started ≡ true → ((table_after names table session c time).session ≡ table.session) × ((table_after names table session c time).is_started ≡ true)
started_after names table session c time started = by_refusal (is_none (refusal names table session c))
  where
    by_refusal : (b : Bool) → ((if b then accepted names time c table else table).session ≡ table.session) × ((if b then accepted names time c table else table).is_started ≡ true)
    by_refusal true = (refl, refl)
    by_refusal false = (refl, started)

-- ---- the shared state

-- The shared state after a line's change.
module _ {S : Type 0} (tells : Type 0) (lanes : List (Lane S)) (names : Naming) (answered : Result Change Refusal) (before : List PairRow) (group : Group) (site : SiteState) (time : ℕ) (new : PlantState) (named : names.primaries ≡ primaries_in 0 lanes)
    (may : MayCommandSite tells names new site) (at : site.time ≡ time) (lanes_of : AreLanesOf group time lanes) (cut : HasCut time group) (few : length (volumes_known group) ≤ site.controls) (kept : IsSoundForRows (group_taken answered before site.told group) site.told) (marked : site.since ≡ 0) where
  taken_stays : (r : Result Change Refusal) → StaysForReaders group (group_taken r before site.told group)
  taken_stays (Ok change) = changes_stay change before site.told group
  taken_stays (Err why) = record { many = refl; last = refl; floor = λ k low. refl; phase = λ k low. refl }

  taken_lanes : (r : Result Change Refusal) → AreLanesOf (group_taken r before site.told group) time lanes
  taken_lanes (Ok change) =
      lanes_after lanes time change before site.told group lanes_of
      (added_of_lane lanes names (named_of_lanes lanes names named) change site.told (subst (λ (rows : List PairRow). PrimariesAreNamed names rows) (sym may.idle.same) may.commands.command.named))
  taken_lanes (Err why) = lanes_of

  abbrev next : Group
  next = group_taken answered before site.told group

  last_is : next.last.0 ≡ time
  last_is = ap (λ (t : Stamp). t.0) (taken_stays answered).last ∙ cut

  few_still : length (volumes_known next) ≤ site.controls
  few_still =
      let count : length (volumes_known next) ≡ length (volumes_known group) = length-map next.controls known_of ∙ (taken_stays answered).many ∙ sym (length-map group.controls known_of) in
      omega (arith, count, few)

  pub ready_after : IsReadyForEpoch tells lanes site new next
  ready_after = record {
    begins = record {
      rests = may.idle.may;
      marked = marked;
      knows = record {
        rows = kept_known next site.told kept;
        controls = few_still;
        in_step = record { up = omega (arith, last_is, at); same = inr (last_is ∙ sym at) };
        below = omega arith;
        told = may.told;
      };
    };
    lanes_of = subst (λ (n : ℕ). AreLanesOf next n lanes) (sym at) (taken_lanes answered);
    kept = kept;
  }

  pub cut_after : HasCut site.time next
  cut_after = last_is ∙ sym at

-- ---- a line

-- How a started session stands before its line's command: it was brought to the line's time, or it had ended.
pub record IsAtLine {S : Type 0} (tells : Type 0) (s : SessionState) (lanes : List (Lane S)) (names : Naming) (group : Option Group) (site : SiteState) (time : ℕ) (now : PlantState) : Type 0 where
  pub session : site.table.session ≡ s.session
  pub controls : site.controls ≡ s.controls
  pub ended : s.is_ended ≡ site.table.is_ended
  pub flag : site.mark.ended ≡ site.table.is_ended
  pub may : MayCommandSite tells names now site
  pub empty : site.table.is_ended ≡ true → site.at ≡ site.mark.at
  pub may_go_on : AllMayGoOn lanes
  pub few : (1 ≤ s.controls) × (s.controls ≤ 16)
  pub many : length lanes ≡ s.controls
  pub lengths : HasLengths s.controls now
  pub volumes : 1 ≤ now.volumes
  pub headed : HaveVolumes lanes
  pub named : names.primaries ≡ primaries_in 0 lanes
  pub apart : IsTrue (none_alike names.primaries)
  pub time_is : site.table.is_ended ≡ false → site.time ≡ time
  pub up : site.time ≤ time
  pub ready : site.table.is_ended ≡ false → IsSomeAnd group (IsReadyForEpoch tells lanes site now)
  pub cut : site.table.is_ended ≡ false → IsSomeAnd group (HasCut time)

-- ---- before the command

module _ {S : Type 0} (tells : Type 0) (s : SessionState) (lanes : List (Lane S)) (old : PlantState) (between : IsBetween tells s lanes old) (site : SiteState) (is : s.site ≡ Some site) where
  pub at_site : IsAtSite tells s lanes old site
  at_site = subst (λ (o : Option SiteState). MatchOption o (IsUnstarted s lanes) (IsAtSite tells s lanes old)) is between.place

  -- A session that has ended is at each line.
  pub ended_at_line : (time : ℕ) → site.time ≤ time → s.is_ended ≡ true → IsAtLine tells s lanes s.names s.group site time old
  ended_at_line time up ended =
      let now : site.table.is_ended ≡ true = sym at_site.ended ∙ ended in
      record {
        session = at_site.session;
        controls = at_site.controls;
        ended = at_site.ended;
        flag = at_site.flag;
        may = at_site.may;
        empty = at_site.empty;
        may_go_on = at_site.may_go_on;
        few = between.few;
        many = between.many;
        lengths = between.lengths;
        volumes = between.volumes;
        headed = between.headed;
        named = between.named;
        apart = between.apart;
        time_is = λ goes. absurd (true≢false (sym now ∙ goes));
        up = up;
        ready = λ goes. absurd (true≢false (sym now ∙ goes));
        cut = λ goes. absurd (true≢false (sym now ∙ goes));
      }

  -- One that goes on is brought to its time.
  module _ (goes : s.is_ended ≡ false) (time : ℕ) (lanes_now : List (Lane S)) (lanes_same : AreSameLanes lanes lanes_now) (names : Naming) (names_are : names ≡ with_lanes_broken 0 lanes_now s.names) (group : Option Group) (next : SiteState) (mid : PlantState) (same : SameSite old mid)
      (brought : IsSiteBrought time site next) (ready : IsSomeAnd group (IsReadyForEpoch tells lanes_now next mid)) (cut : IsSomeAnd group (HasCut time)) where
    site_goes : site.table.is_ended ≡ false
    site_goes = sym at_site.ended ∙ goes

    next_goes : next.table.is_ended ≡ false
    next_goes = ap (λ (t : Table). t.is_ended) brought.table ∙ site_goes

    primaries : names.primaries ≡ s.names.primaries
    primaries = ap (λ (n : Naming). n.primaries) names_are ∙ (broken_alone lanes_now s.names).0

    some : (g : Group) × (group ≡ Some g) × IsReadyForEpoch tells lanes_now next mid g
    some = some_value {P = IsReadyForEpoch tells lanes_now next mid} group ready

    pub brought_at_line : IsAtLine tells s lanes_now names group next time mid
    brought_at_line = record {
      session = ap (λ (t : Table). t.session) brought.table ∙ at_site.session;
      controls = brought.controls ∙ at_site.controls;
      ended = goes ∙ sym next_goes;
      flag = brought.goes_on ∙ at_site.flag ∙ site_goes ∙ sym next_goes;
      may =
          subst (λ (n : Naming). MayCommandSite tells n mid next) (sym names_are)
          (commands_again tells time lanes_now s.names site next some.0 old mid at_site.may brought some.2 same);
      empty = λ ended. absurd (true≢false (sym ended ∙ next_goes));
      may_go_on = lanes_may_go_on some.0 next.time lanes_now some.2.lanes_of;
      few = between.few;
      many = lanes_same.many ∙ between.many;
      lengths = lengths_still s.controls old mid same between.lengths;
      volumes = omega (arith, between.volumes, same.volumes);
      headed = volumes_stay lanes lanes_now lanes_same between.headed;
      named = primaries ∙ between.named ∙ sym (primaries_stay lanes lanes_now lanes_same);
      apart = subst (λ (l : List NamedVolume). IsTrue (none_alike l)) (sym primaries) between.apart;
      time_is = λ on. brought.at;
      up = omega (arith, brought.at);
      ready = λ on. ready;
      cut = λ on. cut;
    }

    -- What the command asks of the shared state.
    pub brought_counts : next.table.is_ended ≡ false → IsSomeAnd group (λ g. IsSoundForRows g next.told × ControlsCount names g)
    brought_counts on =
        subst (λ (o : Option Group). IsSomeAnd o (λ g. IsSoundForRows g next.told × ControlsCount names g)) (sym some.1) (
          some.2.kept,
          controls_count some.0 next.time lanes_now s.names names some.2.lanes_of (volumes_stay lanes lanes_now lanes_same between.headed) (between.named ∙ sym (primaries_stay lanes lanes_now lanes_same)) between.apart names_are,
        )

-- ---- after the command

module _ {S : Type 0} (tells : Type 0) (s : SessionState) (lanes : List (Lane S)) (names : Naming) (group : Option Group) (site : SiteState) (line : Line) (mid new : PlantState) (at : IsAtLine tells s lanes names group site line.time.0 mid) (names_now : Naming) (names_are : names_now ≡ names)
    (group_now : Option Group) (next : SiteState) (answered : Result Change Refusal) (after : IsSiteAnswered tells names line answered site next new) (kept : next.table.is_ended ≡ false → IsSomeAnd group_now (λ g. IsSoundForRows g next.told))
    (taken : next.table.is_ended ≡ false → group_now ≡ option_map (group_taken answered site.told next.told) group) (flag : Bool) (flag_as : flag ≡ (s.is_ended || is_end_accepted answered)) where
  abbrev now : SessionState
  now = record { session = s.session; controls = s.controls; names = names_now; group = group_now; table = next.table; site = Some next; is_ended = flag }

  -- The session's own flag.
  flag_is : now.is_ended ≡ next.table.is_ended
  flag_is =
      flag_as ∙ ap (λ (b : Bool). b || is_end_accepted answered) at.ended ∙ ap (λ (r : Result Change Refusal). site.table.is_ended || is_end_accepted r) after.answer_is
      ∙ sym (ended_after names site.table line.session line.command line.time.0) ∙ sym (ap (λ (t : Table). t.is_ended) after.table)

  -- It had not ended before, if it goes on.
  pub goes_before : next.table.is_ended ≡ false → site.table.is_ended ≡ false
  goes_before on = by_flag site.table.is_ended refl
    where
      by_flag : (e : Bool) → site.table.is_ended ≡ e → e ≡ false
      by_flag false is = refl
      by_flag true is = absurd (true≢false (sym (ap (λ (e : Bool). e || is_end_accepted answered) is) ∙ sym (ap (λ (b : Bool). b || is_end_accepted answered) at.ended) ∙ sym flag_as ∙ flag_is ∙ on))

  some_group : (on : next.table.is_ended ≡ false) → (g : Group) × (group ≡ Some g) × IsReadyForEpoch tells lanes site mid g
  some_group on = some_value {P = IsReadyForEpoch tells lanes site mid} group (at.ready (goes_before on))

  ready_now : (on : next.table.is_ended ≡ false) → IsSomeAnd group_now (IsReadyForEpoch tells lanes next new) × IsSomeAnd group_now (HasCut next.time)
  ready_now on =
      let g = some_group on in
      let goes = goes_before on in
      let time : next.time ≡ line.time.0 = after.time ∙ at.time_is goes in
      let group_is : group_now ≡ Some (group_taken answered site.told next.told g.0) = taken on ∙ ap (option_map (group_taken answered site.told next.told)) g.1 in
      let cut = subst (λ (o : Option Group). IsSomeAnd o (HasCut line.time.0)) g.1 (at.cut goes) in
      let kept_now = subst (λ (o : Option Group). IsSomeAnd o (λ x. IsSoundForRows x next.told)) group_is (kept on) in
      let lanes_of = subst (λ (n : ℕ). AreLanesOf g.0 n lanes) (at.time_is goes) g.2.lanes_of in
      let marked : next.since ≡ 0 = after.marked g.2.begins.marked in
      let few : length (volumes_known g.0) ≤ next.controls = omega (arith, g.2.begins.knows.controls, after.controls) in
      let ready = ready_after tells lanes names answered site.told g.0 next line.time.0 new at.named after.may time lanes_of cut few kept_now marked in
      let cuts = cut_after tells lanes names answered site.told g.0 next line.time.0 new at.named after.may time lanes_of cut few kept_now marked in
      (subst (λ (o : Option Group). IsSomeAnd o (IsReadyForEpoch tells lanes next new)) (sym group_is) ready, subst (λ (o : Option Group). IsSomeAnd o (HasCut next.time)) (sym group_is) cuts)

  pub answered_at_site : IsAtSite tells now lanes new next
  answered_at_site = record {
    table = refl;
    session = ap (λ (t : Table). t.session) after.table ∙ (started_after names site.table line.session line.command line.time.0 at.may.commands.started).0 ∙ at.session;
    controls = after.controls ∙ at.controls;
    ended = flag_is;
    flag = after.flag;
    may = subst (λ (n : Naming). MayCommandSite tells n new next) (sym names_are) after.may;
    empty = λ ended. by_empty ended (after.empty ended);
    may_go_on = at.may_go_on;
    ready = λ on. (ready_now on).0;
    cut = λ on. (ready_now on).1;
  }
    where
      by_empty : next.table.is_ended ≡ true → (next.at ≡ next.mark.at) ⊎ (next ≡ site) → next.at ≡ next.mark.at
      by_empty ended (inl here) = here
      by_empty ended (inr alike) =
          ap (λ (x : SiteState). x.at) alike ∙ at.empty (ap (λ (x : SiteState). x.table.is_ended) (sym alike) ∙ ended) ∙ sym (ap (λ (x : SiteState). x.mark.at) alike)

  pub answered_between : SameSite mid new → NoneLent new → IsBetween tells now lanes new
  answered_between same home = record {
    home = home;
    few = at.few;
    many = at.many;
    lengths = lengths_still s.controls mid new same at.lengths;
    volumes = omega (arith, at.volumes, same.volumes);
    headed = at.headed;
    named = ap (λ (n : Naming). n.primaries) names_are ∙ at.named;
    apart = subst (λ (n : Naming). IsTrue (none_alike n.primaries)) (sym names_are) at.apart;
    place = answered_at_site;
  }
