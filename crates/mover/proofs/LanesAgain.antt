-- After an epoch that reached its limit each lane is again its controller's.
use Rattle.std.proofs.Common.{◌≡◌, ◌<◌, ◌≤◌, ◌*◌, ◌==◌, ◌&&◌, ◌||◌, ℕ, nat_lt, Bool, true, false, List, [], ◌∷◌, length, map, Option, Some, None, refl, sym, ap, ◌∙◌, subst, ◌⊎◌, inl, inr}
use Rattle.std.specs.List.{list_all}
use Rattle.std.proofs.lemmas.Bool.{and_parts}
use Rattle.std.proofs.lemmas.List.{length-map}
use Rattle.xrc_edge.specs.declared.limits.TheConstants.{TRACKS_OF_CYLINDER}
use Rattle.tod_stamp.specs.declared.stamp.Stamp.{Stamp}
use Rattle.ckd_track.specs.declared.write.Cause.{Cause}
use Rattle.write_trace.specs.declared.header.VolumeHead.{VolumeHead}
use Rattle.write_trace.specs.Headers.{cylinders_of}
use Rattle.sidefile.specs.declared.hand.Halt.{Halt}
use Rattle.sidefile.specs.declared.hand.Halt.TheVariants as halts
use Rattle.group_state.specs.declared.volume.Volume.{Volume}
use Rattle.group_state.specs.Calls.{is_by_mover, reporting_after}
use Rattle.group_state.specs.Controls.{is_reporting}
use Rattle.group_state.specs.Groups.{Group, control_at}
use Rattle.group_state.specs.Machine.{Call}
use Rattle.group_state.specs.Machine.Call.{Join, NextWanted, Copied, Raise, Break, Form, Carry, Drop, Resume, Forget}
use Rattle.group_state.specs.Runs.{Answer, Runs}
use Rattle.fed_logs.specs.Feeds.{is_call_of_reader, part_of_reader}
use Rattle.fed_logs.specs.Logs.{is_call_of_seat}
use Rattle.fed_logs.specs.declared.reading.Reading.{Reading}
use Rattle.fed_logs.specs.declared.reading.Reading.TheVariants as readings
use Rattle.fed_logs.specs.LaneFeeds.{FeedState, floor_after_calls, reporting_after_calls}
use Rattle.fed_logs.specs.Reads.{ReadsOn}
use Rattle.fed_logs.specs.Reporters.{StandsAs}
use Rattle.fed_logs.proofs.ToldControls.{floors_are_by_calls, reporting_is_by_calls}
use Rattle.fed_logs.proofs.InTurn.{no_halt}
use Rattle.turn_group.specs.Notes.{known_of, known_volume, volumes_known}
use Rattle.turn_group.proofs.Known.{HasSizesOf, sizes_at, sizes_in, sizes_known, sizes_last}
use Rattle.mover.specs.Readers.{LaneReaderState, IsOfHeader, is_of_header}
use Rattle.mover.specs.Lanes.{IsReaderOf, IsSameLane, MayGoOn, StandsLast, heads_of}
use Rattle.mover.specs.Rounds.{IsDone}
use Rattle.mover.specs.Epochs.{IsAtLimit}
use Rattle.mover.proofs.LogParts.{by_seat}

-- ---- what a run leaves

-- Calls of seats leave the numbers of volumes, and how many tracks each has.
pub sizes_stay : (first s : Group) (run : List Answer) (end : Group) → Runs s run end → list_all is_call_of_seat run ≡ true → HasSizesOf first s → HasSizesOf first end
sizes_stay first s [] end runs seats h = subst (HasSizesOf first) (sym runs) h
sizes_stay first s (a ∷ run) end (next, may, is, rest) seats h =
    let parts = and_parts (is_call_of_reader a.call || is_by_mover a.call) (list_all is_call_of_seat run) seats in
    sizes_stay first next run end rest parts.1 (sizes_last first s a.call a.reply next h (by_seat a.call parts.0, may, is))

count_known : (s : Group) → length (sizes_known (volumes_known s)) ≡ length s.controls
count_known s = length-map (volumes_known s) sizes_in ∙ length-map s.controls known_of

-- They leave how many controllers there are.
pub count_stays : (first end : Group) → HasSizesOf first end → length end.controls ≡ length first.controls
count_stays first end h = sym (count_known end) ∙ ap length h ∙ count_known first

-- ---- sizes by a header

abbrev is_size_of_header : List VolumeHead → ℕ × ℕ → Bool
is_size_of_header heads u = nat_lt u.0 (length heads) && u.1 == TRACKS_OF_CYLINDER * cylinders_of heads u.0

by_sizes : (heads : List VolumeHead) (volumes : List Volume) → list_all (is_of_header heads) volumes ≡ list_all (is_size_of_header heads) (sizes_in (map known_volume volumes))
by_sizes heads [] = refl
by_sizes heads (u ∷ volumes) = ap (λ (b : Bool). is_of_header heads u && b) (by_sizes heads volumes)

pub sized_still : (first end : Group) (k : ℕ) (heads : List VolumeHead) → HasSizesOf first end → IsOfHeader heads (control_at first k) → IsOfHeader heads (control_at end k)
sized_still first end k heads h is =
    by_sizes heads (control_at end k).volumes ∙ ap (list_all (is_size_of_header heads)) (sizes_at first end k h) ∙ sym (by_sizes heads (control_at first k).volumes) ∙ is

-- ---- a reader at the limit

-- A feed that reads on after calls did so before.
pub went_on : (before now : Option (List ℕ)) (old new : FeedState) (gained : List Answer) → ReadsOn before now old new gained → new.halted ≡ None → old.halted ≡ None
went_on before now old new gained reads goes = of old.halted refl
  where
    of : (halted : Option Halt) → old.halted ≡ halted → old.halted ≡ None
    of None is = is
    of (Some halt) is = absurd (no_halt new.halted halt goes (ap (λ (f : FeedState). f.halted) (reads.stays halt is).0 ∙ is))

stands_done : (limit : ℕ) (r : LaneReaderState) → IsDone r → StandsLast r.last limit r.feed → StandsAs readings.AtLimit limit r.feed ⊎ StandsAs readings.Broken limit r.feed
stands_done limit r (inl at) stands = inl (subst (λ (l : Option Reading). StandsLast l limit r.feed) at stands)
stands_done limit r (inr broken) stands = inr (subst (λ (l : Option Reading). StandsLast l limit r.feed) broken stands)

some_halt : (a b : Halt) → Some a ≡ Some b → a ≡ b
some_halt a b e = cc

no_memory : (halted : Option Halt) → halted ≡ None → halted ≡ Some halts.NoMemory → ⊥
no_memory halted goes lacks = no_halt halted halts.NoMemory goes lacks

pub done_goes : (limit : ℕ) (r : LaneReaderState) → IsDone r → StandsLast r.last limit r.feed → MayGoOn r.feed
done_goes limit r done stands lacks = of (stands_done limit r done stands)
  where
    of : StandsAs readings.AtLimit limit r.feed ⊎ StandsAs readings.Broken limit r.feed → ⊥
    of (inl at) = no_memory r.feed.halted at.0 lacks
    of (inr (cause, upto, is)) = let e : halts.Broken cause upto ≡ halts.NoMemory = some_halt (halts.Broken cause upto) halts.NoMemory (sym is ∙ lacks) in cc e

pub done_at_limit : (limit : ℕ) (r : LaneReaderState) → IsDone r → StandsLast r.last limit r.feed → IsAtLimit limit r
done_at_limit limit r done stands goes = of (stands_done limit r done stands)
  where
    of : StandsAs readings.AtLimit limit r.feed ⊎ StandsAs readings.Broken limit r.feed → (r.feed.held ≡ None) × (r.feed.primary.time ≡ limit)
    of (inl at) = (at.1, at.2)
    of (inr (cause, upto, is)) = absurd (no_halt r.feed.halted (halts.Broken cause upto) goes is)

-- ---- a controller that doesn't tell

-- It reports no more after further calls.
pub tells_no_more : (run : List Answer) → reporting_after_calls false run ≡ false
tells_no_more [] = refl
tells_no_more (a ∷ run) = ap (λ (t : Bool). reporting_after_calls t run) (still a.call) ∙ tells_no_more run
  where
    still : (call : Call) → reporting_after call false ≡ false
    still (Join b) = refl
    still (NextWanted k) = refl
    still (Copied k v x at slot) = refl
    still (Raise k upto) = refl
    still (Break k upto cause) = refl
    still (Form limit) = refl
    still (Carry k v plan) = refl
    still (Drop k v all) = refl
    still (Resume k v) = refl
    still (Forget k v) = refl

-- ---- a lane's reader after the epoch

module _ (first end : Group) (log : List Answer) (runs : Runs first log end) (seats : list_all is_call_of_seat log ≡ true) (k limit : ℕ) (low : k < length first.controls) (before now : Option (List ℕ)) (was is : LaneReaderState) (reader : IsReaderOf first k limit was) (same : IsSameLane was.feed is.feed)
    (reads : ReadsOn before now was.feed is.feed (part_of_reader k log)) (within : is.feed.side.upto ≤ limit) (goes : MayGoOn is.feed) where
  floor_again : is.feed.halted ≡ None → (control_at end k).floor.0 ≡ is.feed.primary.time
  floor_again on =
      let was_on = went_on before now was.feed is.feed (part_of_reader k log) reads on in
      floors_are_by_calls first log end runs k low ∙ ap (λ n. floor_after_calls n (part_of_reader k log)) (reader.floor was_on) ∙ reads.floor goes

  reporting_again : is.feed.halted ≡ None → is_reporting (control_at end k).phase ≡ true
  reporting_again on =
      let was_on = went_on before now was.feed is.feed (part_of_reader k log) reads on in
      reporting_is_by_calls first log end runs k low ∙ ap (λ b. reporting_after_calls b (part_of_reader k log)) (reader.reporting was_on) ∙ reads.reporting on

  -- A reader that has broken told its break, now or before.
  silent_again : (cause : Cause) (upto : Stamp) → is.feed.halted ≡ Some (halts.Broken cause upto) → is_reporting (control_at end k).phase ≡ false
  silent_again cause upto broken = reporting_is_by_calls first log end runs k low ∙ of was.feed.halted refl
    where
      of : (halted : Option Halt) → was.feed.halted ≡ halted → reporting_after_calls (is_reporting (control_at first k).phase) (part_of_reader k log) ≡ false
      of None on = ap (λ b. reporting_after_calls b (part_of_reader k log)) (reader.reporting on) ∙ reads.told on cause upto broken
      of (Some halt) stopped =
          let still = reader.broken cause upto (ap (λ (f : FeedState). f.halted) (sym (reads.stays halt stopped).0) ∙ broken) in
          ap (λ b. reporting_after_calls b (part_of_reader k log)) still ∙ tells_no_more (part_of_reader k log)

  pub reader_again : IsReaderOf end k limit is
  reader_again = record {
    control = same.control ∙ reader.control;
    sized = subst (λ (h : List VolumeHead). IsOfHeader h (control_at end k)) (sym same.heads) (sized_still first end k (heads_of was.feed) (sizes_stay first first log end runs seats refl) reader.sized);
    floor = floor_again;
    reporting = reporting_again;
    broken = silent_again;
    within = within;
    goes = goes;
  }
