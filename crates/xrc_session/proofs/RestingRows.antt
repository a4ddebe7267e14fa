-- What a change's record excepts is owed, and its rows are duplex only where they were.
use Rattle.std.proofs.Common.{◌≡◌, ◌≢◌, ◌⊎◌, inl, inr, ℕ, ◌==◌, Bool, true, false, not, cond, ◌&&◌, ◌||◌, List, [], ◌∷◌, ◌++◌, map, filter, Option, Some, None, Result, refl, sym, ap, subst, ◌∙◌, true≢false, append-nil}
use Rattle.std.specs.List.{All, list_any}
use Rattle.std.proofs.lemmas.Bool.{and_parts, cases_Bool, eqb-true, not_from_false, or_cases, or_left, or_right}
use Rattle.std.proofs.lemmas.List.Elements.{All-cons, All-head, All-nil, All-tail}
use Rattle.crash_plant.specs.Moments.{PlantState}
use Rattle.pair_table.specs.declared.command.Change.{Change}
use Rattle.pair_table.specs.declared.command.Change.TheVariants.{Nothing, Started, Added, Resumed, Gone, Suspended as SuspendedRows, Ended}
use Rattle.pair_table.specs.declared.level.Level.{Level}
use Rattle.pair_table.specs.declared.row.PairRow.{PairRow}
use Rattle.pair_table.specs.declared.row.PairState.{PairState}
use Rattle.pair_table.specs.declared.row.PairState.TheVariants.{Pending, Duplex}
use Rattle.pair_table.specs.declared.row.SuspendCause.TheVariants.{Device}
use Rattle.pair_table.specs.Devices.{is_among}
use Rattle.pair_table.specs.Rows.{is_suspended}
use Rattle.pair_table.specs.Tables.{in_state, is_of, none_clash, resumed_in, row_changed, row_of, with_resumed}
use Rattle.pending_queue.specs.Entries.{WaitingEntry}
use Rattle.row_changes.specs.Changes.{FaultReach, hit_row, reach_of, reached_row, since}
use Rattle.record_rows.specs.Deeds.{Deed, entries_by_deed, rows_by_deed}
use Rattle.record_rows.specs.Deeds.Deed.{Changed, Marked}
use Rattle.record_rows.specs.Hits.{hit_now, is_down, is_hit_now, rows_hit, rows_marked}
use Rattle.pair_table.specs.States.{is_device_suspended, owes}
use Rattle.record_rows.specs.ToldRows.{InPlaces}
use Rattle.record_rows.proofs.Telling.{only_failed}
use Rattle.site_store.specs.Exceptions.{Exceptions, excepted_after, excepted_by_deed, is_kept, is_whole_on}
use Rattle.site_store.proofs.Widening.{more_excepted}
use Rattle.fed_logs.specs.Moves.{HasRowIn}
use Rattle.consistency.specs.Owing.{is_same_state}
use Rattle.mover.specs.OwedTracks.{ExceptedAreOwed, IsUnfailed}
use Rattle.mover.proofs.Excepting.{excepted_before, unfailed_is_kept}
use Rattle.mover.proofs.Pairs.{Among, among_cases, among_of, apart_still, contains_of, found_of_device, pair_of, pairs_of}
use Rattle.mover.proofs.Pairs.Among.{Here, Later}
use Rattle.xrc_session.specs.EpochPauses.{Between, StandsBetween}
use Rattle.xrc_session.specs.CarriedLaws.{IsWithoutEntries, between_taken}
use Rattle.xrc_session.specs.Taking.{IsSuspendedSince, as_pending, pair_group_after, regrouped_row, rows_by_command, stands_again, regrouped_rows}
use Rattle.xrc_session.proofs.Changed.{taken_rows_stand}
use Rattle.xrc_session.proofs.Commanded.{same_states}
use Rattle.xrc_session.proofs.KeptRows.{standing_rows_are_kept}
use Rattle.xrc_session.proofs.Recording.{rows_stand_after_deeds}
use Rattle.xrc_session.proofs.CarriedRows.{among_either, among_kept}
use Rattle.xrc_journal.specs.Items.{Item}
use Rattle.xrc_journal.specs.Contents.{is_of_track}
use Rattle.xrc_journal.specs.Records.{next_set}
use Rattle.site_store.specs.declared.store_error.StoreError.{StoreError}
use Rattle.site_store.specs.Changing.{DoesChange, change_deeds, change_deeds_of, changed_items, table_with_hits, told_by_mark}
use Rattle.site_store.specs.Commands.{excepted_by_change, is_added}
use Rattle.site_store.specs.Marking.{excepted_with_waiting, rows_at_mark}
use Rattle.site_store.specs.Sites.{SiteState, has_failed}
use Rattle.site_store.specs.Placements.{record_has_room, placement_of}
use Rattle.site_store.proofs.LogStage.{stands_more}
use Rattle.xrc_session.specs.Resting.{ChangesKeepTracks, ExceptedAfterChangesAreOwed, IdleMarksExceptNoMore, IsOfChange, KeepTracks, LogsFrom, MarksKeepTracks, RowsStandAfterChanges, RowsStandAfterCommands, SitesStandAfterDeeds}
use Rattle.xrc_session.proofs.RestingSites.{hits_told}

-- ---- who is hit

-- Where no device is hit, no row is.
pub none_hit : (failed : List Bool) (r : PairRow) (rows : List PairRow) → hit_now failed rows ≡ [] → Among r rows → is_hit_now failed r ≡ false
none_hit failed r [] none there = absurd (among_cases r [] there)
none_hit failed r (s ∷ rows) none there = by_flag (is_hit_now failed s) refl none (among_cases r (s ∷ rows) there) (λ rest later. none_hit failed r rows rest later)
  where
    by_flag : (b : Bool) → is_hit_now failed s ≡ b → map (λ (x : PairRow). x.device) (cond b (s ∷ filter (is_hit_now failed) rows) (filter (is_hit_now failed) rows)) ≡ [] → (s ≡ r) ⊎ Among r rows
        → (hit_now failed rows ≡ [] → Among r rows → is_hit_now failed r ≡ false) → is_hit_now failed r ≡ false
    by_flag true is none either others = absurd (cc none)
    by_flag false is none (inl same) others = ap (is_hit_now failed) (sym same) ∙ is
    by_flag false is none (inr later) others = others none later

-- A row that its device doesn't suspend, and that isn't hit, is on a device whose job hasn't failed.
up : (down suspended : Bool) → (down && not suspended) ≡ false → suspended ≡ false → down ≡ true → ⊥
up true true none free is = true≢false free
up true false none free is = true≢false none
up false suspended none free is = true≢false (sym is)

-- ---- who is kept

-- A device that rows keep is kept by the rows of a mark, if it isn't hit.
kept_by_mark : (d time : ℕ) (hits : List ℕ) (rows : List PairRow) → is_among d hits ≡ false → is_kept d rows ≡ true → is_kept d (rows_marked time hits rows) ≡ true
kept_by_mark d time hits [] other kept = kept
kept_by_mark d time hits (r ∷ rows) other kept = elim (or_cases (is_of d r && not (is_device_suspended r.state)) (is_kept d rows) kept) [
  | inl here ↦ or_left (is_of d (hit_row hits time r) && not (is_device_suspended (hit_row hits time r).state)) (is_kept d (rows_marked time hits rows)) (stays here)
  | inr later ↦ or_right (is_of d (hit_row hits time r) && not (is_device_suspended (hit_row hits time r).state)) (is_kept d (rows_marked time hits rows)) (kept_by_mark d time hits rows other later)
]
  where
    stays : (is_of d r && not (is_device_suspended r.state)) ≡ true → (is_of d (hit_row hits time r) && not (is_device_suspended (hit_row hits time r).state)) ≡ true
    stays here =
        let own : is_among r.device hits ≡ false = ap (λ (e : ℕ). is_among e hits) (sym (eqb-true d r.device (and_parts (is_of d r) (not (is_device_suspended r.state)) here).0)) ∙ other in
        rw own here

-- ---- the deeds of a change

cond_has : {A : Type 0} (P : A → Type 0) (b : Bool) (x y : A) → P x → P y → P (cond b x y)
cond_has P true x y left right = left
cond_has P false x y left right = right

-- There is none, or its record alone, or a mark before it.
module _ (tells : Type 0) (cut : ℕ) (change : Change) (site next : SiteState) (old new : PlantState) (result : Result (Unit {0}) StoreError) (does : DoesChange tells cut change site next old new result) (P : List Deed → Type 0) where
  by_placement : (items : List Item) → P (Changed cut (table_with_hits cut next.failed site) ∷ []) → P (Marked site.at site.mark.ended (told_by_mark next.failed site) ∷ Changed cut (table_with_hits cut next.failed site) ∷ [])
      → P (change_deeds (placement_of old site items) site cut next.failed)
  by_placement items alone marked =
      cond_has (λ placement. P (change_deeds placement site cut next.failed)) (record_has_room old site.at items) _ _ alone
      (cond_has (λ placement. P (change_deeds placement site cut next.failed)) (next_set old.journals site.at.set == site.mark.at.set) _ _ marked alone)

  pub deeds_cases : (changed_items change site.table.rows ≡ [] → P []) → (changed_items change site.table.rows ≢ [] → P (Changed cut (table_with_hits cut next.failed site) ∷ []))
      → (changed_items change site.table.rows ≢ [] → P (Marked site.at site.mark.ended (told_by_mark next.failed site) ∷ Changed cut (table_with_hits cut next.failed site) ∷ [])) → P (change_deeds_of change does.placement site cut next.failed)
  deeds_cases none alone marked = by_items (changed_items change site.table.rows) refl
    where
      by_items : (items : List Item) → changed_items change site.table.rows ≡ items → P (change_deeds_of change does.placement site cut next.failed)
      by_items [] is = rw (is, change_deeds_of) (none is)
      by_items (i ∷ items) is =
          let some : changed_items change site.table.rows ≢ [] = λ empty. let clash : i ∷ items ≡ [] = sym is ∙ empty in cc clash in
          let placement = does.is_placement some in
          rw (is, change_deeds_of) (subst (λ w. P (change_deeds w site cut next.failed)) (sym placement.placement_is) (by_placement placement.first (alone some) (marked some)))

-- ---- what is owed

pub rows_stand_after_commands : (start : PlantState) → RowsStandAfterCommands start
rows_stand_after_commands start b change site st same told = record {
  rows = record {
    apart = st.rows.apart;
    below = st.rows.below;
    sized = st.rows.sized;
    holds = st.rows.holds;
    rowed = st.rows.rowed;
    owed = owed;
    failed = st.rows.failed;
    carried = st.rows.carried;
  };
  keeps = st.keeps;
  some = st.some;
}
  where
    owed : ExceptedAreOwed b.size (excepted_by_change change site b.excepted) b.group b.point.rows
    owed k v has kept x low is = elim (or_cases (b.excepted has.row.device x) (has_failed site has.row.device && is_added change has.row.device) is) [
      | inl before ↦ st.rows.owed k v has kept x low before
      | inr added ↦
          let none = none_hit site.failed has.row b.point.rows (subst (λ (rows : List PairRow). hit_now site.failed rows ≡ []) same told) (among_of b.point.rows has.row has.among) in
          absurd (up (is_down site.failed has.row.device) (is_device_suspended has.row.state) none has.state (and_parts (has_failed site has.row.device) (is_added change has.row.device) added).0)
    ]

module _ (tells : Type 0) (b : Between) (cut : ℕ) (change : Change) (site next : SiteState) (after : List PairRow) (old new : PlantState) (logs : LogsFrom tells b cut change site next after old new) where
  abbrev h : IsOfChange old b cut change next.failed site after
  h = logs.is_of

  -- the exceptions before, and all tracks of devices that the rows before don't keep
  abbrev more : Exceptions
  more d x = b.excepted d x || not (is_kept d b.point.rows)

  abbrev with_more : Between
  with_more = record b { excepted = more }

  stands_with_more : StandsBetween old with_more
  stands_with_more = record {
    rows = record {
      apart = h.stands.rows.apart;
      below = h.stands.rows.below;
      sized = h.stands.rows.sized;
      holds = h.stands.rows.holds;
      rowed = h.stands.rows.rowed;
      owed = λ k v has kept x low is. elim (or_cases (b.excepted has.row.device x) (not (is_kept has.row.device b.point.rows)) is) [
        | inl before ↦ h.stands.rows.owed k v has kept x low before
        | inr gone ↦ absurd (true≢false (sym gone ∙ ap not (unfailed_is_kept k v b.point.rows has)))
      ];
      failed = h.stands.rows.failed;
      carried = h.stands.rows.carried;
    };
    keeps = h.stands.keeps;
    some = h.stands.some;
  }

  taken : StandsBetween old (between_taken change after with_more)
  taken = taken_rows_stand old with_more change after stands_with_more (standing_rows_are_kept old with_more stands_with_more) h.may h.adds

  -- What the deeds except of an unfailed row after them is among these.
  module _ (k v : ℕ) (has : HasRowIn IsUnfailed k v after) (x : ℕ) where
    abbrev d : ℕ
    d = has.row.device

    abbrev Covers : List Deed → Type 0
    Covers deeds = excepted_after site.told deeds b.excepted d x ≡ true → more d x ≡ true

    before : b.excepted d x ≡ true → more d x ≡ true
    before is = or_left (b.excepted d x) (not (is_kept d b.point.rows)) is

    module _ (some : changed_items change site.table.rows ≢ []) where
      kept_after : is_kept d (table_with_hits cut next.failed site) ≡ true
      kept_after = ap (is_kept d) (sym (h.logged some)) ∙ unfailed_is_kept k v after has

      alone : Covers (Changed cut (table_with_hits cut next.failed site) ∷ [])
      alone is = before (excepted_before (is_kept d (table_with_hits cut next.failed site)) (b.excepted d x) false kept_after is).0

      -- A device with an unfailed row after the record hasn't failed.
      not_hit : is_among d (hit_now next.failed site.told) ≡ true → ⊥
      not_hit hit =
          let there : Among has.row (table_with_hits cut next.failed site) = subst (Among has.row) (h.logged some) (among_of after has.row has.among) in
          up (is_down next.failed d) (is_device_suspended has.row.state) (none_hit next.failed has.row (table_with_hits cut next.failed site) (hits_told site.level cut next.failed site.table.rows) there) has.state
          (only_failed d next.failed site.told hit)

      by_mark : (kept : Bool) → is_kept d site.told ≡ kept → is_kept d (told_by_mark next.failed site) ≡ false → more d x ≡ true
      by_mark false is gone = or_right (b.excepted d x) (not (is_kept d b.point.rows)) (not_from_false (is_kept d b.point.rows) (ap (is_kept d) (sym h.told) ∙ is))
      by_mark true is gone = elim (cases_Bool (is_among d (hit_now next.failed site.told))) [
        | inl hit ↦ absurd (not_hit hit)
        | inr other ↦ absurd (true≢false (sym (kept_by_mark d site.time (hit_now next.failed site.told) site.told other is) ∙ gone))
      ]

      marked : Covers (Marked site.at site.mark.ended (told_by_mark next.failed site) ∷ Changed cut (table_with_hits cut next.failed site) ∷ [])
      marked is =
          let first : (not (is_kept d (told_by_mark next.failed site)) || (b.excepted d x && true)) ≡ true =
          (excepted_before (is_kept d (table_with_hits cut next.failed site)) (not (is_kept d (told_by_mark next.failed site)) || (b.excepted d x && true)) false kept_after is).0 in
          elim (cases_Bool (is_kept d (told_by_mark next.failed site))) [
            | inl kept ↦ before (excepted_before (is_kept d (told_by_mark next.failed site)) (b.excepted d x) false kept first).0
            | inr gone ↦ by_mark (is_kept d site.told) refl gone
          ]

    covers : Covers logs.deeds
    covers = subst Covers (sym logs.deeds_are) (deeds_cases tells cut change site next old new logs.result logs.does Covers (λ none. before) alone marked)

  owed : ExceptedAreOwed b.size (excepted_after site.told logs.deeds b.excepted) (between_taken change after b).group after
  owed k v has kept x low is = taken.rows.owed k v has kept x low (covers k v has x is)

pub excepted_are_owed : (tells : Type 0) (old new : PlantState) → ExceptedAfterChangesAreOwed tells old new
excepted_are_owed tells old new b cut change site next after logs = owed tells b cut change site next after old new logs

-- ---- the state and the site stand

pub rows_stand_after_changes : (tells : Type 0) (old new : PlantState) → RowsStandAfterChanges tells old new
rows_stand_after_changes tells old new b cut change site next after logs does some =
    let h = logs.is_of in
    rows_stand_after_deeds old new (between_taken change after b) site.told logs.deeds (taken_rows_stand old b change after h.stands (standing_rows_are_kept old b h.stands) h.may h.adds) does
    (subst (All IsWithoutEntries) (sym logs.deeds_are) (deeds_cases tells cut change site next old new logs.result logs.does (All IsWithoutEntries) (λ none. All-nil IsWithoutEntries) (λ some. alone) (λ some. marked)))
    (excepted_are_owed tells old new b cut change site next after logs) some
  where
    alone : All IsWithoutEntries (Changed cut (table_with_hits cut next.failed site) ∷ [])
    alone = All-cons IsWithoutEntries (Changed cut (table_with_hits cut next.failed site)) [] refl (All-nil IsWithoutEntries)

    marked : All IsWithoutEntries (Marked site.at site.mark.ended (told_by_mark next.failed site) ∷ Changed cut (table_with_hits cut next.failed site) ∷ [])
    marked = All-cons IsWithoutEntries (Marked site.at site.mark.ended (told_by_mark next.failed site)) (Changed cut (table_with_hits cut next.failed site) ∷ []) refl alone

-- What was excepted before deeds without an entry is so after them.
fewer : (rows : List PairRow) (deeds : List Deed) (excepted : Exceptions) (d x : ℕ) → All IsWithoutEntries deeds → excepted_after rows deeds excepted d x ≡ false → excepted d x ≡ false
fewer rows [] excepted d x none free = free
fewer rows (deed ∷ deeds) excepted d x none free =
    by_flags (not (is_kept d (rows_by_deed deed))) (excepted d x) (list_any (is_whole_on rows d x) (entries_by_deed deed)) (ap (λ (es : List WaitingEntry). list_any (is_whole_on rows d x) es) (All-head IsWithoutEntries deed deeds none))
    (fewer (rows_by_deed deed) deeds (excepted_by_deed rows deed excepted) d x (All-tail IsWithoutEntries deed deeds none) free)
  where
    by_flags : (gone was whole : Bool) → whole ≡ false → (gone || (was && not whole)) ≡ false → was ≡ false
    by_flags gone false whole none free = refl
    by_flags true true whole none free = absurd (true≢false free)
    by_flags false true true none free = absurd (true≢false none)
    by_flags false true false none free = absurd (true≢false free)

pub sites_stand_after_deeds : (plant : PlantState) → SitesStandAfterDeeds plant
sites_stand_after_deeds plant excepted rows deeds site none stands = stands_more (excepted_after rows deeds excepted) excepted site plant (λ d x free. fewer rows deeds excepted d x none free) stands

-- ---- duplex rows

pending_not : (state : PairState) → state ≡ Pending → state ≡ Duplex → ⊥
pending_not state pending duplex = let clash : Pending ≡ Duplex = sym pending ∙ duplex in cc clash

suspended_not : (state : PairState) → is_suspended state ≡ true → state ≡ Duplex → ⊥
suspended_not state suspended duplex = true≢false (sym suspended ∙ ap is_suspended duplex)

-- a row that was changed to another, and one that is changed
pub map_back : (f : PairRow → PairRow) (y : PairRow) (rows : List PairRow) → Among y (map f rows) → (x : PairRow) × Among x rows × (f x ≡ y)
map_back f y [] there = absurd (among_cases y [] there)
map_back f y (r ∷ rows) there = elim (among_cases y (f r ∷ map f rows) there) [
  | inl same ↦ (r, Here rows, same)
  | inr later ↦ let found = map_back f y rows later in (found.0, Later r rows found.1, found.2)
]

map_on : (f : PairRow → PairRow) (x : PairRow) (rows : List PairRow) → Among x rows → Among (f x) (map f rows)
map_on f x _ (Here rows) = Here (map f rows)
map_on f x _ (Later s rows there) = Later (f s) (map f rows) (map_on f x rows there)

places_back : (is : PairRow → PairRow → Type 0) (y : PairRow) (rows next : List PairRow) → InPlaces is rows next → Among y next → (x : PairRow) × Among x rows × is x y
places_back is y [] [] in_places there = absurd (among_cases y [] there)
places_back is y [] (s ∷ next) in_places there = absurd in_places
places_back is y (r ∷ rows) [] in_places there = absurd in_places
places_back is y (r ∷ rows) (s ∷ next) in_places there = elim (among_cases y (s ∷ next) there) [
  | inl same ↦ (r, Here rows, subst (is r) same in_places.0)
  | inr later ↦ let found = places_back is y rows next in_places.1 later in (found.0, Later r rows found.1, found.2)
]

grouped_pairs : (device : ℕ) (group : Option (List ℕ)) (rows : List PairRow) → pairs_of (regrouped_rows device group rows) ≡ pairs_of rows
grouped_pairs device group [] = refl
grouped_pairs device group (r ∷ rows) = λ i. one (is_of device r) i ∷ grouped_pairs device group rows i
  where
    one : (b : Bool) → pair_of (cond b (regrouped_row group r) r) ≡ pair_of r
    one true = refl
    one false = refl

-- A row that stands again as it was is suspended.
again_suspended : (w : PairRow) (p : Option PairRow) → stands_again (Some w) p ≡ true → is_suspended w.state ≡ true
again_suspended w None again = absurd (true≢false (sym again))
again_suspended w (Some z) again = ap is_suspended (same_states w.state z.state again) ∙ (and_parts (is_suspended z.state) (is_same_state w.state z.state) again).0

-- A command makes no row duplex.
command_back : (change : Change) (before after : List PairRow) (x : PairRow) → x.state ≡ Duplex → none_clash (rows_by_command change before after) ≡ true → Among x (rows_by_command change before after) → Among x before
command_back Nothing before after x duplex apart there = there
command_back Started before after x duplex apart there = there
command_back (Added device) before after x duplex apart there = by_row (row_of device after) there
  where
    by_row : (o : Option PairRow) → Among x (before ++ as_pending o) → Among x before
    by_row None there = subst (Among x) (append-nil before) there
    by_row (Some r) there = elim (among_either x (in_state Pending r) before there) [ inl there ↦ there | inr same ↦ absurd (pending_not x.state (ap (λ (s : PairRow). s.state) (sym same)) duplex) ]
command_back (Resumed device) before after x duplex apart there = by_again (stands_again (row_of device before) (row_of device after)) refl apart there
  where
    group : Option (List ℕ)
    group = pair_group_after device after

    by_device : (b : Bool) (y : PairRow) → Among y before → cond b (resumed_in group y) y ≡ x → Among x before
    by_device true y there same = absurd (pending_not x.state (ap (λ (s : PairRow). s.state) (sym same)) duplex)
    by_device false y there same = subst (λ (s : PairRow). Among s before) same there

    by_group : none_clash before ≡ true → stands_again (row_of device before) (row_of device after) ≡ true → (b : Bool) (y : PairRow) → is_of device y ≡ b → Among y before → cond b (regrouped_row group y) y ≡ x → Among x before
    by_group clear again true y own there same =
        let found : row_of device before ≡ Some y = ap (λ (d : ℕ). row_of d before) (eqb-true device y.device own) ∙ found_of_device y before clear there in
        let suspended : is_suspended y.state ≡ true = again_suspended y (row_of device after) (ap (λ (o : Option PairRow). stands_again o (row_of device after)) (sym found) ∙ again) in
        absurd (suspended_not x.state (ap (λ (s : PairRow). is_suspended s.state) (sym same) ∙ suspended) duplex)
    by_group clear again false y own there same = subst (λ (s : PairRow). Among s before) same there

    by_again : (b : Bool) → stands_again (row_of device before) (row_of device after) ≡ b → none_clash (cond b (regrouped_rows device group before) (with_resumed device group before)) ≡ true
        → Among x (cond b (regrouped_rows device group before) (with_resumed device group before)) → Among x before
    by_again true again apart there =
        let found = map_back (row_changed device (regrouped_row group)) x before there in
        let clear = apart_still (regrouped_rows device group before) before (sym (grouped_pairs device group before)) apart in
        by_group clear again (is_of device found.0) found.0 refl found.1 found.2
    by_again false again apart there =
        let found = map_back (row_changed device (resumed_in group)) x before there in
        by_device (is_of device found.0) found.0 found.1 found.2
command_back (Gone devices) before after x duplex apart there = (among_kept (λ r. not (is_among r.device devices)) x before there).0
command_back (SuspendedRows devices) before after x duplex apart there = there
command_back Ended before after x duplex apart there = there

-- Nor do suspensions after it.
duplex_before : (change : Change) (before after : List PairRow) → none_clash (rows_by_command change before after) ≡ true → InPlaces IsSuspendedSince (rows_by_command change before after) after → (r : PairRow) → Among r after → r.state ≡ Duplex → Among r before
duplex_before change before after apart follow r there duplex =
    let found = places_back IsSuspendedSince r (rows_by_command change before after) after follow there in
    let x = found.0 in
    let stays : r.state ≡ x.state = found.2.stays (ap (owes x.state) duplex) in
    let same : r ≡ x = found.2.same ∙ ap (λ (s : PairState). in_state s x) stays in
    command_back change before after r duplex apart (subst (λ (s : PairRow). Among s (rows_by_command change before after)) (sym same) found.1)

hit_back : (hits : List ℕ) (time : ℕ) (x y : PairRow) → hit_row hits time x ≡ y → y.state ≡ Duplex → x ≡ y
hit_back hits time x y is duplex = by_hit (is_among x.device hits) is
  where
    by_hit : (b : Bool) → cond b (in_state (since Device time) x) x ≡ y → x ≡ y
    by_hit true is = absurd (suspended_not y.state (ap (λ (s : PairRow). is_suspended s.state) (sym is)) duplex)
    by_hit false is = is

reach_back : (reach : FaultReach) (hits : List ℕ) (time : ℕ) (x y : PairRow) → reached_row reach hits time x ≡ y → y.state ≡ Duplex → x ≡ y
reach_back reach hits time x y is duplex = by_row (reach.reaches hits x) (is_suspended x.state) is
  where
    by_row : (a b : Bool) → cond a (cond b x (in_state (since reach.cause time) x)) x ≡ y → x ≡ y
    by_row true true is = is
    by_row true false is = absurd (suspended_not y.state (ap (λ (s : PairRow). is_suspended s.state) (sym is)) duplex)
    by_row false b is = is

-- Hits make no row duplex.
hits_back : (level : Level) (time : ℕ) (hits : List ℕ) (rows : List PairRow) (r : PairRow) → Among r (rows_hit level time hits rows) → r.state ≡ Duplex → Among r rows
hits_back level time [] rows r there duplex = there
hits_back level time (d ∷ hits) rows r there duplex =
    let reach = reach_of level rows in
    let found = map_back (λ s. reached_row reach (d ∷ hits) time (hit_row (d ∷ hits) time s)) r rows there in
    let reached = reach_back reach (d ∷ hits) time (hit_row (d ∷ hits) time found.0) r found.2 duplex in
    subst (λ (s : PairRow). Among s rows) (hit_back (d ∷ hits) time found.0 r reached duplex) found.1

marked_back : (time : ℕ) (hits : List ℕ) (rows : List PairRow) (r : PairRow) → Among r (rows_marked time hits rows) → r.state ≡ Duplex → Among r rows
marked_back time hits rows r there duplex =
    let found = map_back (hit_row hits time) r rows there in
    subst (λ (s : PairRow). Among s rows) (hit_back hits time found.0 r found.2 duplex) found.1

-- A row that isn't hit stands in a mark's rows as it was.
marked_on : (time : ℕ) (hits : List ℕ) (rows : List PairRow) (r : PairRow) → is_among r.device hits ≡ false → Among r rows → Among r (rows_marked time hits rows)
marked_on time hits rows r other there = subst (λ (s : PairRow). Among s (rows_marked time hits rows)) same (map_on (hit_row hits time) r rows there)
  where
    same : hit_row hits time r ≡ r
    same = rw other refl

duplex_unfailed : (state : PairState) → state ≡ Duplex → is_device_suspended state ≡ false
duplex_unfailed state duplex = ap is_device_suspended duplex

module _ (tells : Type 0) (b : Between) (cut : ℕ) (change : Change) (site next : SiteState) (after : List PairRow) (old new : PlantState) (logs : LogsFrom tells b cut change site next after old new) where
  abbrev of : IsOfChange old b cut change next.failed site after
  of = logs.is_of

  abbrev told_rows : List PairRow
  told_rows = table_with_hits cut next.failed site

  module _ (some : changed_items change site.table.rows ≢ []) where
    back : (r : PairRow) → Among r told_rows → r.state ≡ Duplex → Among r site.told
    back r there duplex = subst (Among r) (sym of.told) (duplex_before change b.point.rows after of.may.apart of.may.follow r (subst (Among r) (sym (of.logged some)) there) duplex)

    unhit : (r : PairRow) → Among r told_rows → r.state ≡ Duplex → is_among r.device (hit_now next.failed site.told) ≡ false
    unhit r there duplex = elim (cases_Bool (is_among r.device (hit_now next.failed site.told))) [
      | inl hit ↦ absurd (up (is_down next.failed r.device) (is_device_suspended r.state) (none_hit next.failed r told_rows (hits_told site.level cut next.failed site.table.rows) there) (duplex_unfailed r.state duplex) (only_failed r.device next.failed site.told hit))
      | inr other ↦ other
    ]

    keep_alone : KeepTracks b.point.time site.told (Changed cut told_rows ∷ [])
    keep_alone = (record { entries = refl; at = of.at; duplex = λ r has duplex. contains_of r site.told (back r (among_of told_rows r has) duplex) }, tt)

    keep_marked : KeepTracks b.point.time site.told (Marked site.at site.mark.ended (told_by_mark next.failed site) ∷ Changed cut told_rows ∷ [])
    keep_marked =
        let marked = told_by_mark next.failed site in
        let hits = hit_now next.failed site.told in (
          record { entries = refl; at = refl; duplex = λ r has duplex. contains_of r site.told (marked_back site.time hits site.told r (among_of marked r has) duplex) },
          (record { entries = refl; at = of.at; duplex = λ r has duplex. let there = among_of told_rows r has in contains_of r marked (marked_on site.time hits site.told r (unhit r there duplex) (back r there duplex)) }, tt),
        )

  keep_all : KeepTracks b.point.time site.told logs.deeds
  keep_all = subst (KeepTracks b.point.time site.told) (sym logs.deeds_are) (deeds_cases tells cut change site next old new logs.result logs.does (KeepTracks b.point.time site.told) (λ none. tt) keep_alone keep_marked)

pub changes_keep_tracks : (tells : Type 0) (old new : PlantState) → ChangesKeepTracks tells old new
changes_keep_tracks tells old new b cut change site next after logs = keep_all tells b cut change site next after old new logs

pub marks_keep_tracks : MarksKeepTracks
marks_keep_tracks site time ended failed =
    let rows = rows_at_mark site.level site failed in
    (record { entries = refl; at = refl; duplex = λ r has duplex. contains_of r site.told (hits_back site.level site.time (hit_now failed site.told) site.told r (among_of rows r has) duplex) }, tt)

-- ---- a mark where no item waits

pub idle_marks_except_no_more : (old new : PlantState) → IdleMarksExceptNoMore old new
idle_marks_except_no_more old new excepted site rows deeds idle = more_excepted old new (excepted_with_waiting site excepted) excepted rows deeds free
  where
    free : (d x : ℕ) → excepted d x ≡ false → excepted_with_waiting site excepted d x ≡ false
    free d x none = ap (λ (b : Bool). b || list_any (is_of_track d x) site.waiting) none ∙ ap (λ (items : List Item). list_any (is_of_track d x) items) idle
