-- Each call of a reader, and each form, leaves what controllers have reported.
use Rattle.std.proofs.Common.{◌≡◌, ℕ, ◌+◌, ◌-◌, ◌*◌, ◌≤◌, ◌<◌, Bool, true, false, cond, nat_lt, nat_le, ◌&&◌, List, [], ◌∷◌, length, map, Option, Some, None, refl, sym, ap, subst, ◌∙◌, arith, length-set}
use Rattle.std.specs.Prelude.{IsSomeAnd, slice_index_or, slice_set, replicate}
use Rattle.std.specs.List.{list_all}
use Rattle.std.proofs.lemmas.Bool.{and_parts, eqb-false, eqb-true, leb-true, ltb-true, lt-ltb}
use Rattle.std.proofs.lemmas.List.{get_or-replicate, get_or-set_same, get_or-set_other, get_or-map, length-map, length-replicate}
use Rattle.std.proofs.lemmas.List.Sums.{AllPass-from_list_all}
use Rattle.std.proofs.lemmas.Option.{same_Some}
use Rattle.xrc_edge.specs.declared.limits.TheConstants.{MOST_CONTROLS, MOST_CYLINDERS, MOST_CONTROL_VOLUMES, TRACKS_OF_CYLINDER}
use Rattle.tod_stamp.specs.Fields.{within}
use Rattle.tod_stamp.specs.declared.stamp.Stamp.{Stamp}
use Rattle.ckd_track.specs.declared.rec.Rec.{Rec}
use Rattle.ckd_track.specs.declared.write.Batch.{Batch}
use Rattle.ckd_track.specs.declared.write.Write.{Write}
use Rattle.crash_plant.specs.Moments.{PlantState}
use Rattle.pair_table.specs.declared.row.PairRow.{PairRow}
use Rattle.pair_table.specs.Naming.{Naming}
use Rattle.pair_table.specs.Rows.{is_row}
use Rattle.pair_table.proofs.RowRules.{row_keeps}
use Rattle.group_state.specs.declared.phase.Phase.{Phase}
use Rattle.group_state.specs.declared.phase.Phase.TheVariants.{Unbroken, Broken, Reported}
use Rattle.group_state.specs.declared.volume.Volume.{Volume}
use Rattle.group_state.specs.Calls.{is_by_seat}
use Rattle.group_state.specs.Controls.{ControlState, copied, fits, fits_track, formed, is_reporting, joined, new_control, phase_after, room_of}
use Rattle.group_state.specs.Groups.{Group, Shown, control_at, cut_of, gives_nothing, shown_at, shown_in, with_control}
use Rattle.group_state.specs.Machine.{Call, Reply, group_after, reply_to, steps}
use Rattle.group_state.specs.Machine.Call.{Copied, Form, Join}
use Rattle.group_state.specs.Machine.Reply.{Formed, Held, Joined, Nothing}
use Rattle.group_state.specs.Runs.{May, shown_by}
use Rattle.group_state.specs.Answers.{form_reply}
use Rattle.group_state.specs.declared.joining.Forming.{Forming}
use Rattle.group_state.specs.declared.joining.Forming.TheVariants as formings
use Rattle.group_state.specs.SoundStates.{MayJoin, is_track_within, passes_or_none}
use Rattle.group_state.specs.Volumes.{is_wanted, passes, volume_of}
use Rattle.group_state.proofs.SoundLaws.{all_up}
use Rattle.pending_queue.specs.declared.room.Room.{Room}
use Rattle.pending_queue.specs.Groups.{FormedGroup}
use Rattle.xrc_journal.specs.Items.{Item}
use Rattle.site_store.specs.Logging.{after_group}
use Rattle.site_store.specs.Sites.{SiteState}
use Rattle.site_store.proofs.ByPlacements.{RecordPlacement, by_placements}
use Rattle.consistency.specs.Stages.{tracks_of_row}
use Rattle.fed_logs.specs.Logs.{is_of_size}
use Rattle.fed_logs.specs.Moves.{HasRowIn}
use Rattle.fed_logs.proofs.Standing.{at_with, same_count}
use Rattle.mover.specs.declared.lane.Lane.{Lane}
use Rattle.mover.specs.Epochs.{IsAtLimit}
use Rattle.mover.specs.Lanes.{IsReaderOf, broken_by}
use Rattle.mover.specs.Readers.{LaneReaderState}
use Rattle.mover.specs.OwedTracks.{IsAny}
use Rattle.turn_group.proofs.Known.{sizes_last, track_within}
use Rattle.xrc_session.specs.Taking.{IsSoundForRows}
use Rattle.mover_tests.specs.Courses.{AreAtLimit, AreUnbroken, MayGoTo}
use Rattle.mover_tests.specs.Steps.{AreToJoin, HaveControlsReported, HasReportedUpTo}
use Rattle.mover_tests.proofs.Commanding.{reads_on}
use Rattle.mover_tests.proofs.Opening.{some_lane}

-- ---- tracks

abbrev HaveTracks : Group → Type 0
HaveTracks s = (k v x : ℕ) → x < TRACKS_OF_CYLINDER → is_track_within (control_at s k).volumes v x ≡ true

tracks_next : (s next : Group) (call : Call) (reply : Reply) → is_by_seat call ≡ true → May s call → steps s call reply next → HaveTracks s → HaveTracks next
tracks_next s next call reply by may step tracks k v x low = track_within s next k v x (sizes_last s s call reply next refl (by, may, step)) (tracks k v x low)

-- The volumes that are kept for rows have their tracks.
long_row : (r : PairRow) (u : Volume) (x : ℕ) → is_row r ≡ true → is_of_size (tracks_of_row r) u ≡ true → x < TRACKS_OF_CYLINDER → nat_lt x (length u.map) ≡ true
long_row r u x is sized low =
    let ranges = and_parts (nat_le r.control (MOST_CONTROLS - 1) && nat_le r.volume (MOST_CONTROL_VOLUMES - 1)) (within 1 MOST_CYLINDERS r.cylinders) (row_keeps r is) in
    let some = leb-true 1 r.cylinders (and_parts (nat_le 1 r.cylinders) (nat_le r.cylinders MOST_CYLINDERS) ranges.1).0 in
    lt-ltb x (length u.map) (omega (arith, low, eqb-true (length u.map) (tracks_of_row r) sized, some))

row_tracks : (s : Group) (rows : List PairRow) → IsSoundForRows s rows → list_all is_row rows ≡ true → HaveTracks s
row_tracks s rows kept are k v x low = by_volume (volume_of v (control_at s k).volumes) refl
  where
    by_volume : (o : Option Volume) → volume_of v (control_at s k).volumes ≡ o → passes_or_none (λ u. nat_lt x (length u.map)) o ≡ true
    by_volume None is = refl
    by_volume (Some u) is =
        let has : HasRowIn IsAny k v rows = kept.rowed k v (ap (passes (λ u. true)) is) in
        let r = has.row in
        let own = kept.each r has.among in
        let sized : is_of_size (tracks_of_row r) u ≡ true =
        ap (passes (is_of_size (tracks_of_row r))) (sym is) ∙ sym (λ i. passes (is_of_size (tracks_of_row r)) (volume_of (has.volume i) (control_at s (has.control i)).volumes)) ∙ own.own.sized in
        long_row r u x (ap is_row (sym has.among.2) ∙ AllPass-from_list_all is_row rows are has.among.0 r has.among.1) sized low

-- ---- where a session rests

reader_told : (s : Group) (k at : ℕ) (o : Option LaneReaderState) → IsSomeAnd o (IsReaderOf s k at) → IsSomeAnd o (IsAtLimit at) → broken_by o ≡ None → HasReportedUpTo (control_at s k) at
reader_told s k at None reader limit none = absurd reader
reader_told s k at (Some r) reader limit none =
    let goes = reads_on s k at r reader none in
    record { reporting = reader.reporting goes; floor = reader.floor goes ∙ (limit goes).1 }

pub told_at : {S : Type 0} (tells : Type 0) (at : ℕ) (names : Naming) (lanes : List (Lane S)) (group : Group) (site : SiteState) (plant : PlantState) → AreAtLimit at lanes group site → MayGoTo tells at names lanes group site plant → AreUnbroken lanes
    → list_all is_row site.table.rows ≡ true → HaveControlsReported (replicate (length group.controls) at) at group
told_at tells at names lanes group site plant there go whole are = record {
  many = length-replicate (length group.controls) at;
  each = λ k low.
      let is : k < length lanes = omega (arith, low, go.are.many) in
      let d = some_lane lanes (omega (arith, is)) in
      subst (HasReportedUpTo (control_at group k)) (sym (get_or-replicate (length group.controls) k at 0 low)) (reader_told group k at (slice_index_or lanes k d).reader (go.are.each k d is) (there.each k d is) (whole k d is));
  tracks = row_tracks group site.table.rows (subst (IsSoundForRows group) go.commands.same go.kept) are;
  last_is = there.cut;
}

-- ---- one controller's change

-- A change of one controller sets its time.
times_set : (told : List ℕ) (s : Group) (k time : ℕ) (change : ControlState → ControlState) → length told ≡ length s.controls → ((j : ℕ) → j < length s.controls → HasReportedUpTo (control_at s j) (slice_index_or told j 0))
    → HasReportedUpTo (change (control_at s k)) time → (j : ℕ) → j < length (with_control k change s).controls → HasReportedUpTo (control_at (with_control k change s) j) (slice_index_or (slice_set told k time) j 0)
times_set told s k time change many each has j low =
    let was : j < length s.controls = omega (arith, low, same_count s k change) in
    at_with s k j change (λ c. HasReportedUpTo c (slice_index_or (slice_set told k time) j 0)) was
    (λ same. subst (λ n. HasReportedUpTo (change (control_at s n)) (slice_index_or (slice_set told k time) n 0)) same
    (subst (HasReportedUpTo (change (control_at s k))) (sym (get_or-set_same told k time 0 (omega (arith, many, was, same)))) has))
    (λ apart. subst (HasReportedUpTo (control_at s j)) (sym (get_or-set_other told k j time 0 (λ e. eqb-false k j apart (sym e)))) (each j was))

-- A change of one controller leaves its time.
times_stay : (told : List ℕ) (s : Group) (k : ℕ) (change : ControlState → ControlState) → ((j : ℕ) → j < length s.controls → HasReportedUpTo (control_at s j) (slice_index_or told j 0))
    → ((time : ℕ) (c : ControlState) → HasReportedUpTo c time → HasReportedUpTo (change c) time) → (j : ℕ) → j < length (with_control k change s).controls → HasReportedUpTo (control_at (with_control k change s) j) (slice_index_or told j 0)
times_stay told s k change each stays j low =
    let was : j < length s.controls = omega (arith, low, same_count s k change) in
    at_with s k j change (λ c. HasReportedUpTo c (slice_index_or told j 0)) was (λ same. stays (slice_index_or told j 0) (control_at s j) (each j was)) (λ apart. each j was)

-- ---- a batch

pub may_join : (told : List ℕ) (last : ℕ) (s : Group) (k upto : ℕ) (writes : List Write) → HaveControlsReported told last s → k < length s.controls → slice_index_or told k 0 ≤ upto → AreToJoin (slice_index_or told k 0) upto writes
    → MayJoin (control_at s k) (record { control = k; writes = writes; upto = record { 0 = upto } })
may_join told last s k upto writes are low up to = record {
  tells = record { reporting = has.reporting; up = omega (arith, has.floor, up) };
  within = subst (λ n. list_all (λ (w : Write). nat_lt n w.stamp.0 && nat_le w.stamp.0 upto) writes ≡ true) (sym has.floor) to.within;
  order = to.order;
  tracks = all_up (λ (w : Write). nat_lt w.track TRACKS_OF_CYLINDER) (λ (w : Write). is_track_within (control_at s k).volumes w.volume w.track) writes (λ w is. are.tracks k w.volume w.track (ltb-true w.track TRACKS_OF_CYLINDER is)) to.tracks;
}
  where
    has : HasReportedUpTo (control_at s k) (slice_index_or told k 0)
    has = are.each k low

-- A batch that is joined fits.
fits_joined : (t : Bool) (room : Room) (reply : Reply) → reply ≡ cond t Joined (Held room) → reply ≡ Joined → t ≡ true
fits_joined true room reply is joined = refl
fits_joined false room reply is joined = absurd (let e : Held room ≡ Joined = sym is ∙ joined in cc e)

pub told_joined : (told : List ℕ) (last : ℕ) (s next : Group) (k upto : ℕ) (writes : List Write) (reply : Reply) → HaveControlsReported told last s → k < length s.controls → slice_index_or told k 0 ≤ upto → AreToJoin (slice_index_or told k 0) upto writes
    → steps s (Join (record { control = k; writes = writes; upto = record { 0 = upto } })) reply next → reply ≡ Joined → HaveControlsReported (slice_set told k upto) last next
told_joined told last s next k upto writes reply are low up to step joined_is = subst (HaveControlsReported (slice_set told k upto) last) (sym is) (record {
  many = length-set told k upto ∙ are.many ∙ sym (same_count s k (joined b));
  each = times_set told s k upto (joined b) are.many are.each (record { reporting = (are.each k low).reporting; floor = refl });
  tracks = subst HaveTracks is (tracks_next s next (Join b) reply refl may step are.tracks);
  last_is = are.last_is;
})
  where
    b : Batch
    b = record { control = k; writes = writes; upto = record { 0 = upto } }

    may : May s (Join b)
    may = record { control = low; rules = to.rules; legal = may_join told last s k upto writes are low up to }

    is : next ≡ with_control k (joined b) s
    is = step.1 ∙ ap (λ (t : Bool). cond t (with_control k (joined b) s) s) (fits_joined (fits (control_at s k) b) (room_of (control_at s k)) reply step.0 joined_is)

-- ---- a copied track

pub told_copied : (told : List ℕ) (last : ℕ) (s next : Group) (k v x before : ℕ) (recs : List Rec) (reply : Reply) → HaveControlsReported told last s → k < length s.controls → before ≡ slice_index_or told k 0 → x < TRACKS_OF_CYLINDER
    → steps s (Copied k v x (record { 0 = before }) recs) reply next → HaveControlsReported told last next
told_copied told last s next k v x before recs reply are low same short step = subst (HaveControlsReported told last) (sym step.1) (by (is_wanted v x (control_at s k).volumes && fits_track (control_at s k) recs) refl)
  where
    call : Call
    call = Copied k v x (record { 0 = before }) recs

    change : ControlState → ControlState
    change = copied v x (record { 0 = before }) recs

    has : HasReportedUpTo (control_at s k) (slice_index_or told k 0)
    has = are.each k low

    at : record { 0 = before } ≡ (control_at s k).floor
    at = ap (λ (n : ℕ). let t : Stamp = record { 0 = n } in t) (same ∙ sym has.floor)

    tracks : HaveTracks (group_after s call)
    tracks = subst HaveTracks step.1 (tracks_next s next call reply refl (low, record { reporting = has.reporting; floor = at; track = are.tracks k v x short }) step are.tracks)

    by : (t : Bool) → (is_wanted v x (control_at s k).volumes && fits_track (control_at s k) recs) ≡ t → HaveControlsReported told last (group_after s call)
    by true is = subst (HaveControlsReported told last) (ap (λ (t : Bool). cond t (with_control k change s) s) (sym is)) (record {
      many = are.many ∙ sym (same_count s k change);
      each = times_stay told s k change are.each (λ time c has. record { reporting = has.reporting; floor = has.floor });
      tracks = subst HaveTracks (ap (λ (t : Bool). cond t (with_control k change s) s) is) tracks;
      last_is = are.last_is;
    })
    by false is = subst (HaveControlsReported told last) (ap (λ (t : Bool). cond t (with_control k change s) s) (sym is)) are

-- ---- a form

still_reporting : (cut floor : Stamp) (phase : Phase) → is_reporting phase ≡ true → is_reporting (phase_after cut floor phase) ≡ true
still_reporting cut floor Unbroken e = refl
still_reporting cut floor (Broken cause) e = absurd cc
still_reporting cut floor Reported e = absurd cc

shown_gave : (t : Bool) (shown : Shown) → shown_by (cond t (Nothing shown) (Formed shown)) ≡ Some shown
shown_gave true shown = refl
shown_gave false shown = refl

shown_given : (result : Forming) (shown : Shown) → shown_by (form_reply result shown) ≡ Some shown
shown_given formings.Formed shown = refl
shown_given formings.Nothing shown = refl

-- The cut that is shown is the last one then.
cut_shown : (s : Group) (limit : Stamp) (result : Forming) (out : FormedGroup) → form_reply result (shown_in out) ≡ reply_to s (Form limit) → out.cut ≡ cut_of s limit
cut_shown s limit result out is =
    let cut = cut_of s limit in
    ap (λ (t : Shown). t.cut) (same_Some (shown_in out) (shown_at cut s) (sym (shown_given result (shown_in out)) ∙ ap shown_by is ∙ shown_gave (gives_nothing s limit) (shown_at cut s)))

pub told_formed : (told : List ℕ) (last : ℕ) (s next : Group) (limit : Stamp) (result : Forming) (out : FormedGroup) → HaveControlsReported told last s → s.last.0 ≤ limit.0 → steps s (Form limit) (form_reply result (shown_in out)) next → HaveControlsReported told out.cut.0 next
told_formed told last s next limit result out are up step = record {
  many = are.many ∙ sym (ap (λ (g : Group). length g.controls) step.1 ∙ length-map s.controls (formed cut));
  each = λ k low.
      let was : k < length s.controls = omega (arith, low, ap (λ (g : Group). length g.controls) step.1, length-map s.controls (formed cut)) in
      let has = are.each k was in
      let is : control_at next k ≡ formed cut (control_at s k) = ap (λ (g : Group). control_at g k) step.1 ∙ get_or-map (formed cut) s.controls k (new_control 0 0 0) (new_control 0 0 0) was in
      subst (λ (c : ControlState). HasReportedUpTo c (slice_index_or told k 0)) (sym is) (record { reporting = still_reporting cut (control_at s k).floor (control_at s k).phase has.reporting; floor = has.floor });
  tracks = tracks_next s next (Form limit) (form_reply result (shown_in out)) refl up step are.tracks;
  last_is = ap (λ (g : Group). g.last.0) step.1 ∙ ap (λ (t : Stamp). t.0) (sym (cut_shown s limit result out step.0));
}
  where
    cut : Stamp
    cut = cut_of s limit

-- ---- the site after a group's record

pub group_controls : (journals : ℕ) (placement : RecordPlacement) (group : FormedGroup) (items : List Item) (early failed : List Bool) (site : SiteState) → (after_group journals placement group items early failed site).controls ≡ site.controls
group_controls journals placement group items early failed site = by_placements (λ (w : RecordPlacement). (after_group journals w group items early failed site).controls ≡ site.controls) refl refl refl placement
