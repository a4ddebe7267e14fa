-- Deeds without an entry leave content, so that the state stands for the rows that they bring.
use Rattle.std.proofs.Common.{◌≡◌, ℕ, ◌<◌, ◌≤◌, Bool, true, false, List, [], ◌∷◌, length, Option, Some, refl, sym, ap, ◌∙◌, arith}
use Rattle.std.specs.List.{All, list_any}
use Rattle.std.proofs.lemmas.List.Elements.{All-cons, All-head, All-tail}
use Rattle.ckd_track.specs.declared.rec.Rec.{Rec}
use Rattle.crash_plant.specs.Choices.{Choice, IsChoice}
use Rattle.crash_plant.specs.Moments.{PlantState}
use Rattle.pair_table.specs.declared.row.PairRow.{PairRow}
use Rattle.pair_table.specs.Tables.{are_below}
use Rattle.pending_queue.specs.Entries.{WaitingEntry}
use Rattle.image_former.specs.Changes.{changed_through}
use Rattle.group_state.specs.Volumes.{volume_of}
use Rattle.group_state.specs.Groups.{control_at}
use Rattle.pair_table.specs.States.{is_device_suspended}
use Rattle.record_rows.specs.Deeds.{Deed, entries_by_deed, rows_by_deed}
use Rattle.record_rows.specs.Deeds.Deed.{Logged, Changed, Marked}
use Rattle.site_means.specs.Sight.{content_of}
use Rattle.site_store.specs.Deeds.{content_after, content_by_deed, kinds_of}
use Rattle.site_store.specs.DoneDeeds.{DoesDeeds}
use Rattle.site_store.specs.Exceptions.{Exceptions, excepted_after, excepted_by_deed, is_kept, is_whole_on}
use Rattle.site_store.specs.Seeing.{SeesAfter}
use Rattle.site_store.proofs.Seeing.{same_content}
use Rattle.fed_logs.specs.ToldTracks.{AllHold, after_entries, has_no_later_copy, is_queued_up_to, is_settled_in}
use Rattle.fed_logs.specs.Feeds.{truth_of}
use Rattle.fed_logs.specs.Logs.{BeginsLog}
use Rattle.fed_logs.specs.Moves.{HasRowIn}
use Rattle.mover.specs.OwedTracks.{ExceptedAreOwed, IsAny, held_by_choice, is_owed, is_volume_kept}
use Rattle.mover.proofs.Bearing.{below_among}
use Rattle.mover.proofs.Ending.{copy_decides, settled_copy, settled_kept, settled_low}
use Rattle.mover.proofs.Excepting.{excepted_before, none_excepted, unfailed_is_kept}
use Rattle.mover.proofs.Held.{held_is}
use Rattle.mover.proofs.Pairs.{among_of}
use Rattle.xrc_session.specs.EpochPauses.{Between, StandsBetween}
use Rattle.xrc_session.specs.CarriedLaws.{IsWithoutEntries, RecordedRowsStand, RowsStandAfterDeeds}

content_still : (d x : ℕ) (rows : List PairRow) (deed : Deed) → entries_by_deed deed ≡ [] → (t : Option (List Rec)) → content_by_deed d x rows deed t ≡ t
content_still d x rows (Logged cut entries next) none t = ap (λ (es : List WaitingEntry). changed_through rows d x es (kinds_of es) t) none
content_still d x rows (Changed time next) none t = refl
content_still d x rows (Marked spot ended next) none t = refl

contents_still : (d x : ℕ) (rows : List PairRow) (deeds : List Deed) → All IsWithoutEntries deeds → (t : Option (List Rec)) → content_after d x rows deeds t ≡ t
contents_still d x rows [] none t = refl
contents_still d x rows (deed ∷ deeds) none t =
    contents_still d x (rows_by_deed deed) deeds (All-tail IsWithoutEntries deed deeds none) (content_by_deed d x rows deed t) ∙ content_still d x rows deed (All-head IsWithoutEntries deed deeds none) t

-- What one deed excepts of the rows that it brings is owed.
owed_by_one : (old : PlantState) (b : Between) (before : List PairRow) (deed : Deed) → StandsBetween old b → rows_by_deed deed ≡ b.point.rows → ExceptedAreOwed b.size (excepted_by_deed before deed b.excepted) b.group b.point.rows
owed_by_one old b before deed st brings j v has kept x low e =
    let d = has.row.device in
    let stays : is_kept d (rows_by_deed deed) ≡ true = ap (is_kept d) brings ∙ unfailed_is_kept j v b.point.rows has in
    st.rows.owed j v has kept x low (excepted_before (is_kept d (rows_by_deed deed)) (b.excepted d x) (list_any (is_whole_on before d x) (entries_by_deed deed)) stays e).0

module _ (old new : PlantState) (b : Between) (before : List PairRow) (deeds : List Deed) (st : StandsBetween old b) (does : DoesDeeds b.excepted before deeds old new) (none : All IsWithoutEntries deeds)
    (owed : ExceptedAreOwed b.size (excepted_after before deeds b.excepted) b.group b.point.rows) where
  abbrev rows : List PairRow
  rows = b.point.rows

  abbrev excepted : Exceptions
  excepted = excepted_after before deeds b.excepted

  -- Each track that is excepted is owed, of whatever row.
  each_owed : (j v : ℕ) (has : HasRowIn IsAny j v rows) → is_volume_kept v (control_at b.group j) ≡ true → (x : ℕ) → x < b.size j v → excepted has.row.device x ≡ true → is_owed v x (control_at b.group j) ≡ true
  each_owed j v has kept x low e = choose (is_device_suspended has.row.state) refl
    where
      choose : (t : Bool) → is_device_suspended has.row.state ≡ t → is_owed v x (control_at b.group j) ≡ true
      choose false is = owed j v (record { row = has.row; among = has.among; control = has.control; volume = has.volume; state = is }) kept x low e
      choose true is = st.rows.failed j v (record { row = has.row; among = has.among; control = has.control; volume = has.volume; state = is }) kept x low

  module _ (c : Choice) (sees : SeesAfter old b.excepted before deeds c) where
    -- What the choice holds of a track that isn't excepted is what some choice held before.
    held_so : (j v : ℕ) (has : HasRowIn IsAny j v rows) (x : ℕ) → excepted has.row.device x ≡ false → (a : Choice) × IsChoice old old.clock a × (held_by_choice new c rows j v x ≡ held_by_choice old a rows j v x)
    held_so j v has x free =
        let d = has.row.device in
        let among = among_of rows has.row has.among in
        let seen = sees.content d x (below_among old.volumes has.row rows st.rows.below among) free in (
          seen.0,
          seen.1,
          by_row new c ∙ same_content old new does.site c d x ∙ seen.2 ∙ contents_still d x before deeds none (content_of old seen.0 d x) ∙ sym (by_row old seen.0),
        )
      where
        by_row : (plant : PlantState) (a : Choice) → held_by_choice plant a rows j v x ≡ content_of plant a has.row.device x
        by_row plant a =
            ap (λ (i : ℕ). held_by_choice plant a rows i v x) (sym has.control) ∙ ap (λ (i : ℕ). held_by_choice plant a rows has.row.control i x) (sym has.volume)
            ∙ held_is has.row rows st.rows.apart (among_of rows has.row has.among) x plant a

    -- the settled tracks of what is held
    all_hold : AllHold (truth_of b.run.traces) (held_by_choice new c rows) b.group
    all_hold j low =
        let from_there = st.rows.holds sees.from sees.was in
        let base = from_there.holds j low in
        record {
          holds = λ v x t settled alone from to.
              let there = control_at b.group j in
              let kept = settled_kept x (volume_of v there.volumes) settled in
              let has = st.rows.rowed j v kept in
              let within = settled_low (b.size j v) x (volume_of v there.volumes) settled (from_there.sized j v low) in
              by j low v x t settled alone from to kept has within (excepted has.row.device x) refl;
        }
      where
        by : (j : ℕ) → j < length b.group.controls → (v x t : ℕ) → is_settled_in v x (control_at b.group j) ≡ true → has_no_later_copy v x t (control_at b.group j).queue.waiting ≡ true → b.group.last.0 ≤ t → t ≤ (control_at b.group j).floor.0
            → is_volume_kept v (control_at b.group j) ≡ true → (has : HasRowIn IsAny j v rows) → x < b.size j v → (e : Bool) → excepted has.row.device x ≡ e
            → after_entries (is_queued_up_to v x t) (control_at b.group j).queue.waiting (held_by_choice new c rows j v x) ≡ Some (truth_of b.run.traces j v x t)
        by j low v x t settled alone from to kept has within false is =
            let h = held_so j v has x is in
            ap (after_entries (is_queued_up_to v x t) (control_at b.group j).queue.waiting) h.2 ∙ ((st.rows.holds h.0 h.1).holds j low).holds v x t settled alone from to
        by j low v x t settled alone from to kept has within true is =
            copy_decides v x t (control_at b.group j).queue.waiting (held_by_choice new c rows j v x) (held_by_choice old sees.from rows j v x) alone
            (settled_copy v x (control_at b.group j) settled (each_owed j v has kept x within is))
            ∙ ((st.rows.holds sees.from sees.was).holds j low).holds v x t settled alone from to

    begins : BeginsLog b.size b.run.traces (held_by_choice new c rows) b.group b.point.time rows b.done
    begins =
        let base = st.rows.holds sees.from sees.was in
        record {
          sized = base.sized;
          holds = all_hold;
          last = base.last;
          stand = base.stand;
          truth = λ j v has x low.
              let free = none_excepted b.size b.run.traces (held_by_choice old sees.from rows) excepted b.group b.point.time rows b.done base owed j v has x low in
              let any : HasRowIn IsAny j v rows = record { row = has.row; among = has.among; control = has.control; volume = has.volume; state = tt } in
              let h = held_so j v any x free in
              h.2 ∙ (st.rows.holds h.0 h.1).truth j v has x low;
        }

  pub stands_recorded : (some : (c : Choice) × IsChoice new new.clock c) → StandsBetween new (record b { excepted = excepted })
  stands_recorded some = record {
    rows = record {
      apart = st.rows.apart;
      below = ap (λ (n : ℕ). are_below n rows) does.site.volumes ∙ st.rows.below;
      sized = st.rows.sized;
      holds = λ c has. begins c (does.now c has);
      rowed = st.rows.rowed;
      owed = owed;
      failed = st.rows.failed;
      carried = st.rows.carried;
    };
    keeps = st.keeps;
    some = some;
  }

pub recorded_rows_stand : (old new : PlantState) → RecordedRowsStand old new
recorded_rows_stand old new b before deed st does none brings some =
    stands_recorded old new b before (deed ∷ []) st does (All-cons IsWithoutEntries deed [] none (λ i d low. absurd (omega (arith, low)))) (owed_by_one old b before deed st brings) some

pub rows_stand_after_deeds : (old new : PlantState) → RowsStandAfterDeeds old new
rows_stand_after_deeds old new b before deeds st does none owed some = stands_recorded old new b before deeds st does none owed some
