-- Lanes up to a later limit, and after the calls of a change.
use Rattle.std.proofs.Common.{◌≡◌, ◌≤◌, ◌<◌, ◌*◌, ℕ, nat_lt, nat_eq, Bool, true, false, ◌&&◌, cond, List, [], ◌∷◌, ◌++◌, length, Option, Some, None, refl, sym, ap, subst, ◌∙◌, arith, inl, inr}
use Rattle.std.specs.Prelude.{IfSome, IsSomeAnd, slice_index_or}
use Rattle.std.specs.List.{flat_map, list_all}
use Rattle.std.proofs.lemmas.Bool.{and_from, cases_lt, eq-eqb, lt-ltb}
use Rattle.std.proofs.lemmas.List.{get_or_past, length-replicate}
use Rattle.std.proofs.lemmas.List.Folds.{list_all-append}
use Rattle.xrc_edge.specs.declared.limits.TheConstants.{TRACKS_OF_CYLINDER}
use Rattle.tod_stamp.specs.declared.stamp.Stamp.{Stamp}
use Rattle.crash_plant.specs.Moments.{PlantState}
use Rattle.change_map.specs.Sets.{every_track}
use Rattle.copy_plan.specs.Plans.{PlanState, fresh_plan}
use Rattle.write_trace.specs.declared.header.VolumeHead.{VolumeHead}
use Rattle.write_trace.specs.Headers.{cylinders_of}
use Rattle.pair_table.specs.declared.command.Change.{Change}
use Rattle.pair_table.specs.declared.command.Change.TheVariants.{Nothing, Started, Added, Resumed, Gone, Suspended, Ended}
use Rattle.pair_table.specs.declared.row.PairRow.{PairRow}
use Rattle.pair_table.specs.Devices.{is_among}
use Rattle.pair_table.specs.Tables.{row_of}
use Rattle.group_state.specs.Controls.{ControlState, begun_volume, dropped, forgotten, is_reporting, resumed}
use Rattle.group_state.specs.Groups.{Group, control_at, with_control}
use Rattle.group_state.specs.Machine.{Call, group_after}
use Rattle.group_state.specs.Machine.Call.{Join, NextWanted, Copied, Raise, Break, Form, Carry, Drop, Resume, Forget}
use Rattle.group_state.specs.Volumes.{begun, dropped_volume, resumed_volume}
use Rattle.group_state.proofs.SoundLaws.{length_dropped}
use Rattle.group_state.proofs.VolumeLaws.{all_with, all_without}
use Rattle.pending_queue.specs.Entries.{entry_tracks}
use Rattle.consistency.specs.Stages.{tracks_of_row}
use Rattle.fed_logs.proofs.Standing.{at_with, same_count}
use Rattle.pair_table.specs.States.{owes}
use Rattle.xrc_session.specs.Taking.{IfAdds, after_calls, calls_of_change, carry_calls, command_calls, drop_call, drop_calls, forget_calls, owes_again, resume_calls, stands_again, state_by_command, tracks_owed_to}
use Rattle.mover.specs.declared.lane.Lane.{Lane}
use Rattle.mover.specs.Readers.{IsOfHeader, LaneReaderState, is_of_header}
use Rattle.mover.specs.Lanes.{IsReaderOf, IsSameLane, heads_of}
use Rattle.mover.specs.Rounds.{AreLanesOf}
use Rattle.xrc_session.specs.Joins.{ChangesStayForReaders, EpochsMayBeginLater, HasInHeader, IsRowOfLane, LanesStandAfterChanges, LanesStandLater, NamedVolumesStay, StaysForReaders}

-- ---- a later limit

-- what holds of a reader, by what held of it
reader_by : (o : Option LaneReaderState) (P Q : LaneReaderState → Type 0) → ((r : LaneReaderState) → P r → Q r) → IsSomeAnd o P → IsSomeAnd o Q
reader_by None P Q up is = absurd is
reader_by (Some r) P Q up is = up r is

reader_later : (group : Group) (k limit later : ℕ) (r : LaneReaderState) → limit ≤ later → IsReaderOf group k limit r → IsReaderOf group k later r
reader_later group k limit later r up h =
    record { control = h.control; sized = h.sized; floor = h.floor; reporting = h.reporting; broken = h.broken; within = (let within = h.within in omega (arith, within, up)); goes = h.goes }

pub lanes_later : {S : Type 0} (lanes : List (Lane S)) → LanesStandLater lanes
lanes_later lanes group limit later up h =
    record { many = h.many; each = λ k d low. reader_by (slice_index_or lanes k d).reader (IsReaderOf group k limit) (IsReaderOf group k later) (λ r. reader_later group k limit later r up) (h.each k d low) }

pub epochs_later : (tells : Type 0) (plant : PlantState) → EpochsMayBeginLater tells plant
epochs_later tells plant group site limit later up may = record {
  rests = may.rests;
  marked = may.marked;
  knows = record { rows = may.knows.rows; controls = may.knows.controls; in_step = may.knows.in_step; below = (let below = may.knows.below in omega (arith, below, up)); told = may.knows.told };
}

-- ---- the calls of a change

-- Each of several calls has a property.
abbrev pub Each : (Call → Type 0) → List Call → Type 0
Each P [] = Unit {0}
Each P (call ∷ calls) = P call × Each P calls

-- A call is one of those that changes make, and if it carries a volume, that is one of which this holds.
abbrev IsOfChange : (Carried : (k v : ℕ) → PlanState → Type 0) → Call → Type 0
IsOfChange Carried (Join b) = ⊥
IsOfChange Carried (NextWanted k) = ⊥
IsOfChange Carried (Copied k v x at slot) = ⊥
IsOfChange Carried (Raise k upto) = ⊥
IsOfChange Carried (Break k upto cause) = ⊥
IsOfChange Carried (Form limit) = ⊥
IsOfChange Carried (Carry k v plan) = Carried k v plan
IsOfChange Carried (Drop k v all) = Unit {0}
IsOfChange Carried (Resume k v) = Unit {0}
IsOfChange Carried (Forget k v) = Unit {0}

pub each_of_both : (P : Call → Type 0) (first second : List Call) → Each P first → Each P second → Each P (first ++ second)
each_of_both P [] second are more = more
each_of_both P (call ∷ first) second are more = (are.0, each_of_both P first second are.1 more)

module _ (Carried : (k v : ℕ) → PlanState → Type 0) where
  forgets : (devices : List ℕ) (rows : List PairRow) → Each (IsOfChange Carried) (flat_map (forget_calls devices) rows)
  forgets devices [] = tt
  forgets devices (r ∷ rows) = each_of_both (IsOfChange Carried) (forget_calls devices r) (flat_map (forget_calls devices) rows) (choose (is_among r.device devices)) (forgets devices rows)
    where
      choose : (b : Bool) → Each (IsOfChange Carried) (cond b (Drop r.control r.volume true ∷ Forget r.control r.volume ∷ []) [])
      choose true = (tt, (tt, tt))
      choose false = tt

  drops : (change : Change) (before rows : List PairRow) → Each (IsOfChange Carried) (flat_map (drop_calls change before) rows)
  drops change before [] = tt
  drops change before (r ∷ rows) =
      each_of_both (IsOfChange Carried) (drop_calls change before r) (flat_map (drop_calls change before) rows) (one (owes (state_by_command change before r) r.state)) (drops change before rows)
    where
      one : (o : Option Bool) → Each (IsOfChange Carried) (drop_call r o)
      one None = tt
      one (Some all) = (tt, tt)

  commands : (change : Change) (s : Group) (before after : List PairRow) → IfAdds change after (λ r. Carried r.control r.volume (fresh_plan (every_track (tracks_of_row r)))) → Each (IsOfChange Carried) (command_calls change s before after)
  commands Nothing s before after carried = tt
  commands Started s before after carried = tt
  commands (Added device) s before after carried = of (row_of device after) carried
    where
      of : (o : Option PairRow) → IfSome o (λ r. Carried r.control r.volume (fresh_plan (every_track (tracks_of_row r)))) → Each (IsOfChange Carried) (carry_calls o)
      of None carried = tt
      of (Some r) carried = (carried, tt)
  commands (Resumed device) s before after carried = of (row_of device before) (row_of device after)
    where
      of : (o p : Option PairRow) → Each (IsOfChange Carried) (resume_calls s o p)
      of None p = tt
      of (Some r) p = (tt, again (stands_again (Some r) p))
        where
          again : (b : Bool) → Each (IsOfChange Carried) (cond b (Drop r.control r.volume (owes_again (tracks_owed_to s (Some r)) r.state) ∷ []) [])
          again true = (tt, tt)
          again false = tt
  commands (Gone devices) s before after carried = forgets devices before
  commands (Suspended devices) s before after carried = tt
  commands Ended s before after carried = tt

  calls_are : (change : Change) (s : Group) (before after : List PairRow) → IfAdds change after (λ r. Carried r.control r.volume (fresh_plan (every_track (tracks_of_row r)))) → Each (IsOfChange Carried) (calls_of_change change s before after)
  calls_are change s before after carried = each_of_both (IsOfChange Carried) (command_calls change s before after) (flat_map (drop_calls change before) after) (commands change s before after carried) (drops change before after)

-- ---- what they leave for readers

with_stays : (s : Group) (j : ℕ) (change : ControlState → ControlState) → ((c : ControlState) → (change c).floor ≡ c.floor) → ((c : ControlState) → (change c).phase ≡ c.phase) → StaysForReaders s (with_control j change s)
with_stays s j change floor phase = record {
  many = same_count s j change;
  last = refl;
  floor = λ k low. at_with s j k change (λ c. c.floor ≡ (control_at s k).floor) low (λ is. floor (control_at s k)) (λ apart. refl);
  phase = λ k low. at_with s j k change (λ c. c.phase ≡ (control_at s k).phase) low (λ is. phase (control_at s k)) (λ apart. refl);
}

call_stays : (Carried : (k v : ℕ) → PlanState → Type 0) (s : Group) (call : Call) → IsOfChange Carried call → StaysForReaders s (group_after s call)
call_stays Carried s (Join b) is = absurd is
call_stays Carried s (NextWanted k) is = absurd is
call_stays Carried s (Copied k v x at slot) is = absurd is
call_stays Carried s (Raise k upto) is = absurd is
call_stays Carried s (Break k upto cause) is = absurd is
call_stays Carried s (Form limit) is = absurd is
call_stays Carried s (Carry k v plan) is = with_stays s k (begun_volume v plan) (λ c. refl) (λ c. refl)
call_stays Carried s (Drop k v all) is = with_stays s k (dropped v all) (λ c. refl) (λ c. refl)
call_stays Carried s (Resume k v) is = with_stays s k (resumed v) (λ c. refl) (λ c. refl)
call_stays Carried s (Forget k v) is = with_stays s k (forgotten v) (λ c. refl) (λ c. refl)

stays_on : (s mid t : Group) → StaysForReaders s mid → StaysForReaders mid t → StaysForReaders s t
stays_on s mid t first then = record {
  many = then.many ∙ first.many;
  last = then.last ∙ first.last;
  floor = λ k low. then.floor k (subst (λ n. k < n) (sym first.many) low) ∙ first.floor k low;
  phase = λ k low. then.phase k (subst (λ n. k < n) (sym first.many) low) ∙ first.phase k low;
}

calls_stay : (Carried : (k v : ℕ) → PlanState → Type 0) (calls : List Call) (s : Group) → Each (IsOfChange Carried) calls → StaysForReaders s (after_calls calls s)
calls_stay Carried [] s are = record { many = refl; last = refl; floor = λ k low. refl; phase = λ k low. refl }
calls_stay Carried (call ∷ calls) s are = stays_on s (group_after s call) (after_calls calls (group_after s call)) (call_stays Carried s call are.0) (calls_stay Carried calls (group_after s call) are.1)

abbrev IsAnyVolume : (k v : ℕ) → PlanState → Type 0
IsAnyVolume k v plan = Unit {0}

any_added : (change : Change) (after : List PairRow) → IfAdds change after (λ r. Unit {0})
any_added Nothing after = tt
any_added Started after = tt
any_added (Added device) after = of (row_of device after)
  where
    of : (o : Option PairRow) → IfSome o (λ r. Unit {0})
    of None = tt
    of (Some r) = tt
any_added (Resumed device) after = tt
any_added (Gone devices) after = tt
any_added (Suspended devices) after = tt
any_added Ended after = tt

pub changes_stay : ChangesStayForReaders
changes_stay change before after s = calls_stay IsAnyVolume (calls_of_change change s before after) s (calls_are IsAnyVolume change s before after (any_added change after))

-- ---- lanes

-- A reader is still its controller's, if that stays for readers and has volumes of the reader's header.
reader_stays : (s t : Group) (k limit : ℕ) (r : LaneReaderState) → k < length s.controls → StaysForReaders s t → IsOfHeader (heads_of r.feed) (control_at t k) → IsReaderOf s k limit r → IsReaderOf t k limit r
reader_stays s t k limit r low stays sized h = record {
  control = h.control;
  sized = sized;
  floor = λ goes. ap (λ (x : Stamp). x.0) (stays.floor k low) ∙ h.floor goes;
  reporting = λ goes. ap is_reporting (stays.phase k low) ∙ h.reporting goes;
  broken = λ cause upto is. ap is_reporting (stays.phase k low) ∙ h.broken cause upto is;
  within = h.within;
  goes = h.goes;
}

-- A volume with the tracks of a plan is one of a reader's header.
abbrev HasVolume : (v : ℕ) → PlanState → LaneReaderState → Type 0
HasVolume v plan r = is_of_header (heads_of r.feed) (begun v plan) ≡ true

abbrev IsVolumeOfLane : {S : Type 0} → List (Lane S) → (k v : ℕ) → PlanState → Type 0
IsVolumeOfLane lanes k v plan = (d : Lane _) → IsSomeAnd (slice_index_or lanes k d).reader (HasVolume v plan)

drop_sized : (heads : List VolumeHead) (v : ℕ) (all : Bool) (c : ControlState) → IsOfHeader heads c → IsOfHeader heads (dropped v all c)
drop_sized heads v all c h = all_with (is_of_header heads) v (dropped_volume all (entry_tracks v c.queue.waiting))
    (λ u e. ap (λ n. nat_lt u.number (length heads) && nat_eq n (TRACKS_OF_CYLINDER * cylinders_of heads u.number)) (length_dropped all (entry_tracks v c.queue.waiting) u.map) ∙ e) c.volumes h

resume_sized : (heads : List VolumeHead) (v : ℕ) (c : ControlState) → IsOfHeader heads c → IsOfHeader heads (resumed v c)
resume_sized heads v c h = all_with (is_of_header heads) v resumed_volume (λ u e. ap (λ n. nat_lt u.number (length heads) && nat_eq n (TRACKS_OF_CYLINDER * cylinders_of heads u.number)) (length-replicate (length u.map) false) ∙ e) c.volumes h

carry_sized : (heads : List VolumeHead) (v : ℕ) (plan : PlanState) (c : ControlState) → is_of_header heads (begun v plan) ≡ true → IsOfHeader heads c → IsOfHeader heads (begun_volume v plan c)
carry_sized heads v plan c is h = list_all-append (is_of_header heads) c.volumes (begun v plan ∷ []) ∙ and_from (list_all (is_of_header heads) c.volumes) (is_of_header heads (begun v plan) && true) h (and_from (is_of_header heads (begun v plan)) true is refl)

module _ {S : Type 0} (lanes : List (Lane S)) (limit : ℕ) where
  -- what a change of one controller leaves of the lanes
  lanes_with : (s : Group) (j : ℕ) (change : ControlState → ControlState) → StaysForReaders s (with_control j change s)
      → ((d : Lane S) (r : LaneReaderState) → (slice_index_or lanes j d).reader ≡ Some r → IsOfHeader (heads_of r.feed) (control_at s j) → IsOfHeader (heads_of r.feed) (change (control_at s j)))
      → AreLanesOf s limit lanes → AreLanesOf (with_control j change s) limit lanes
  lanes_with s j change stays sized h = record {
    many = h.many ∙ sym stays.many;
    each = λ k d low. at k d (subst (λ n. k < n) h.many low) (slice_index_or lanes k d).reader refl (h.each k d low);
  }
    where
      at : (k : ℕ) (d : Lane S) → k < length s.controls → (o : Option LaneReaderState) → (slice_index_or lanes k d).reader ≡ o → IsSomeAnd o (IsReaderOf s k limit) → IsSomeAnd o (IsReaderOf (with_control j change s) k limit)
      at k d low None is h = absurd h
      at k d low (Some r) is h =
          reader_stays s (with_control j change s) k limit r low stays
          (at_with s j k change (IsOfHeader (heads_of r.feed)) low
          (λ same. subst (λ i. (slice_index_or lanes i d).reader ≡ Some r → IsOfHeader (heads_of r.feed) (control_at s i) → IsOfHeader (heads_of r.feed) (change (control_at s i))) same (sized d r) is h.sized)
          (λ apart. h.sized)) h

  lanes_call : (s : Group) (call : Call) → IsOfChange (IsVolumeOfLane lanes) call → AreLanesOf s limit lanes → AreLanesOf (group_after s call) limit lanes
  lanes_call s (Join b) is h = absurd is
  lanes_call s (NextWanted k) is h = absurd is
  lanes_call s (Copied k v x at slot) is h = absurd is
  lanes_call s (Raise k upto) is h = absurd is
  lanes_call s (Break k upto cause) is h = absurd is
  lanes_call s (Form limit) is h = absurd is
  lanes_call s (Carry k v plan) is h =
      lanes_with s k (begun_volume v plan) (call_stays (IsVolumeOfLane lanes) s (Carry k v plan) is)
      (λ d r at sized. carry_sized (heads_of r.feed) v plan (control_at s k) (subst (λ (o : Option LaneReaderState). IsSomeAnd o (HasVolume v plan)) at (is d)) sized) h
  lanes_call s (Drop k v all) is h = lanes_with s k (dropped v all) (call_stays (IsVolumeOfLane lanes) s (Drop k v all) tt) (λ d r at. drop_sized (heads_of r.feed) v all (control_at s k)) h
  lanes_call s (Resume k v) is h = lanes_with s k (resumed v) (call_stays (IsVolumeOfLane lanes) s (Resume k v) tt) (λ d r at. resume_sized (heads_of r.feed) v (control_at s k)) h
  lanes_call s (Forget k v) is h = lanes_with s k (forgotten v) (call_stays (IsVolumeOfLane lanes) s (Forget k v) tt) (λ d r at. all_without (is_of_header (heads_of r.feed)) v (control_at s k).volumes) h

  lanes_calls : (calls : List Call) (s : Group) → Each (IsOfChange (IsVolumeOfLane lanes)) calls → AreLanesOf s limit lanes → AreLanesOf (after_calls calls s) limit lanes
  lanes_calls [] s are h = h
  lanes_calls (call ∷ calls) s are h = lanes_calls calls (group_after s call) are.1 (lanes_call s call are.0 h)

  -- a row's volume with all tracks wanted
  volume_of_row : (r : PairRow) → IsRowOfLane lanes r → IsVolumeOfLane lanes r.control r.volume (fresh_plan (every_track (tracks_of_row r)))
  volume_of_row r is d = reader_by (slice_index_or lanes r.control d).reader (HasInHeader r.volume r.cylinders) (HasVolume r.volume (fresh_plan (every_track (tracks_of_row r)))) one (is d)
    where
      tracks : length (begun r.volume (fresh_plan (every_track (tracks_of_row r)))).map ≡ tracks_of_row r
      tracks = length-replicate (length (every_track (tracks_of_row r))) false ∙ length-replicate (tracks_of_row r) true

      one : (reader : LaneReaderState) → HasInHeader r.volume r.cylinders reader → HasVolume r.volume (fresh_plan (every_track (tracks_of_row r))) reader
      one reader has = and_from (nat_lt r.volume (length (heads_of reader.feed))) (nat_eq (length (begun r.volume (fresh_plan (every_track (tracks_of_row r)))).map) (TRACKS_OF_CYLINDER * cylinders_of (heads_of reader.feed) r.volume))
          (lt-ltb r.volume (length (heads_of reader.feed)) has.within)
          (eq-eqb (length (begun r.volume (fresh_plan (every_track (tracks_of_row r)))).map) (TRACKS_OF_CYLINDER * cylinders_of (heads_of reader.feed) r.volume) (tracks ∙ ap (λ n. TRACKS_OF_CYLINDER * n) (sym has.sized)))

  volume_added : (change : Change) (after : List PairRow) → IfAdds change after (IsRowOfLane lanes) → IfAdds change after (λ r. IsVolumeOfLane lanes r.control r.volume (fresh_plan (every_track (tracks_of_row r))))
  volume_added Nothing after is = tt
  volume_added Started after is = tt
  volume_added (Added device) after is = of (row_of device after) is
    where
      of : (o : Option PairRow) → IfSome o (IsRowOfLane lanes) → IfSome o (λ r. IsVolumeOfLane lanes r.control r.volume (fresh_plan (every_track (tracks_of_row r))))
      of None is = tt
      of (Some r) is = volume_of_row r is
  volume_added (Resumed device) after is = tt
  volume_added (Gone devices) after is = tt
  volume_added (Suspended devices) after is = tt
  volume_added Ended after is = tt

pub lanes_after : {S : Type 0} (lanes : List (Lane S)) → LanesStandAfterChanges lanes
lanes_after lanes limit change before after s h adds =
    lanes_calls lanes limit (calls_of_change change s before after) s (calls_are (IsVolumeOfLane lanes) change s before after (volume_added lanes limit change after adds)) h

-- ---- names

named_still : (volume cylinders : ℕ) (p q : Option LaneReaderState) → IsSomeAnd p (HasInHeader volume cylinders) → IsSomeAnd p (λ was. IsSomeAnd q (λ is. IsSameLane was.feed is.feed)) → IsSomeAnd q (HasInHeader volume cylinders)
named_still volume cylinders None q has same = absurd has
named_still volume cylinders (Some was) None has same = absurd same
named_still volume cylinders (Some was) (Some now) has same = record {
  within = subst (λ (heads : List VolumeHead). volume < length heads) (sym same.heads) has.within;
  sized = ap (λ (heads : List VolumeHead). cylinders_of heads volume) same.heads ∙ has.sized;
}

pub named_volumes_stay : {S : Type 0} (old new : List (Lane S)) → NamedVolumesStay old new
named_volumes_stay old new names same are v among d = elim (cases_lt v.control (length old)) [
  | inl low ↦ named_still v.volume v.cylinders (slice_index_or old v.control d).reader (slice_index_or new v.control d).reader (are v among d) (same.each v.control d low)
  | inr high ↦
      let past : slice_index_or old v.control d ≡ slice_index_or new v.control d = get_or_past old v.control d high ∙ sym (get_or_past new v.control d (omega (arith, high, same.many))) in
      subst (λ (lane : Lane _). IsSomeAnd lane.reader (HasInHeader v.volume v.cylinders)) past (are v among d)
]
