-- What was written on a carried volume's tracks since its row was suspended, and what of it is mapped by the drop.
use Rattle.std.proofs.Common.{◌≡◌, ℕ, zero, suc, ◌<◌, ◌≤◌, Bool, true, false, not, cond, nat_eq, nat_lt, nat_le, ◌&&◌, ◌||◌, List, [], ◌∷◌, filter, length, map, Option, Some, None, ◌⊎◌, inl, inr, refl, sym, ap, ◌∙◌, arith, length-set, true≢false}
use Rattle.std.specs.List.{All, list_all, list_any}
use Rattle.std.specs.Option.{option_map}
use Rattle.std.proofs.lemmas.Bool.{and_from, and_parts, cases_lt, eq-eqb, le-leb, lt-ltb, ltb-true}
use Rattle.tod_stamp.specs.declared.stamp.Stamp.{Stamp}
use Rattle.change_map.specs.Sets.{has_track, with_track}
use Rattle.change_map.proofs.InSets.{has_with}
use Rattle.pair_table.proofs.PutLaws.{number_sym}
use Rattle.write_trace.specs.declared.trace.Trace.{Trace}
use Rattle.pending_queue.specs.Entries.{WaitingEntry, due, entry_stamp, entry_tracks, is_copy_of, is_due, is_of_volume, is_queued_on}
use Rattle.pending_queue.specs.Maps.{with_tracks}
use Rattle.group_state.specs.declared.volume.Volume.{Volume}
use Rattle.group_state.specs.Volumes.{carries, dropped_volume, passes, volume_of, wants}
use Rattle.group_state.specs.Controls.{ControlState, dropped, formed}
use Rattle.group_state.specs.Groups.{Group, control_at, shown_at}
use Rattle.group_state.specs.SoundStates.{IsGroupSound, Sound, is_entry_of_control}
use Rattle.group_state.proofs.OwnParts.{own_part}
use Rattle.group_state.proofs.SoundLaws.{all_filter, all_kept, tracks_within}
use Rattle.group_state.proofs.VolumeLaws.{found_with}
use Rattle.fed_logs.specs.ToldTracks.{has_no_later_copy, is_no_later_copy}
use Rattle.fed_logs.specs.Logs.{IsPlanDone}
use Rattle.xrc_session.specs.Maps.{maps_track, has_write_between, waits_above}
use Rattle.xrc_session.proofs.MapsVolumes.{is_live}
use Rattle.xrc_session.proofs.MapsWaits.{WaitsAsWritten, waits_after}
use Rattle.xrc_session.proofs.MapsWrites.{written_both}

-- ---- a plan that is done

-- Each track of a volume whose plan is done is carried, and no copied track of it waits.
done_carries : (v x : ℕ) (c : ControlState) → IsPlanDone v c → passes (carries x) (volume_of v c.volumes) ≡ true
done_carries v x c done = choose (volume_of v c.volumes) done.carried (done.unwanted x)
  where
    flags : (a b : Bool) → a ≡ true → (a && b) ≡ false → (a && not b) ≡ true
    flags true true live none = absurd (true≢false none)
    flags true false live none = refl
    flags false b live none = absurd (true≢false (sym live))

    choose : (o : Option Volume) → passes is_live o ≡ true → passes (wants x) o ≡ false → passes (carries x) o ≡ true
    choose None live none = live
    choose (Some u) live none = flags u.carried (has_track u.plan.wanted x) live none

done_copies : (v x time : ℕ) (entries : List WaitingEntry) → list_all (λ e. not (is_copy_of v e)) entries ≡ true → has_no_later_copy v x time entries ≡ true
done_copies v x time [] none = refl
done_copies v x time (e ∷ entries) none =
    let parts = and_parts (not (is_copy_of v e)) (list_all (λ e. not (is_copy_of v e)) entries) none in
    and_from (is_no_later_copy v x time e) (has_no_later_copy v x time entries) (free e.is_copy (nat_eq e.head.volume v) (nat_eq e.head.track x) (nat_le (entry_stamp e) time) parts.0) (done_copies v x time entries parts.1)
  where
    free : (a b c d : Bool) → not (b && a) ≡ true → (not (a && (b && c)) || d) ≡ true
    free true true c d e = absurd (true≢false (sym e))
    free true false c d e = refl
    free false b c d e = refl

-- ---- since a time

-- A track is written since a time exactly if it is since the last cut, which isn't below it.
pub record IsSince (t : Trace) (v time last : ℕ) (c : ControlState) : Type 0 where
  pub low : time ≤ last
  pub same : (x : ℕ) → has_write_between t v x time c.floor.0 ≡ has_write_between t v x last c.floor.0

pub since_now : (t : Trace) (v last : ℕ) (c : ControlState) → IsSince t v last last c
since_now t v last c = record { low = omega arith; same = λ x. refl }

pub since_up : (t : Trace) (v time last : ℕ) (c d : ControlState) → last ≤ c.floor.0 → c.floor.0 ≤ d.floor.0 → IsSince t v time last c → IsSince t v time last d
since_up t v time last c d low up h = record {
  low = h.low;
  same = λ x.
      sym (written_both t v x time c.floor.0 d.floor.0 (let under = h.low in omega (arith, under, low)) up)
      ∙ ap (λ (b : Bool). b || has_write_between t v x c.floor.0 d.floor.0) (h.same x) ∙ written_both t v x last c.floor.0 d.floor.0 low up;
}

-- No entry of the volume is due at a cut. So those that wait above the last cut wait above this one.
same_above : (v x last : ℕ) (cut : Stamp) (entries : List WaitingEntry) → last ≤ cut.0 → list_all (λ e. not (is_of_volume v e)) (filter (is_due cut) entries) ≡ true → list_any (waits_after v x last) entries ≡ list_any (waits_after v x cut.0) entries
same_above v x last cut [] low none = refl
same_above v x last cut (e ∷ entries) low none = choose (is_due cut e) refl none (same_above v x last cut entries low)
  where
    off : not (is_of_volume v e) ≡ true → is_queued_on v x e ≡ false
    off other = flag (is_of_volume v e) other
      where
        flag : (b : Bool) → not b ≡ true → (b && nat_eq e.head.track x) ≡ false
        flag true other = absurd (true≢false (sym other))
        flag false other = refl

    later : is_due cut e ≡ false → cut.0 < entry_stamp e
    later is = by (cases_lt cut.0 (entry_stamp e))
      where
        by : (cut.0 < entry_stamp e) ⊎ (entry_stamp e ≤ cut.0) → cut.0 < entry_stamp e
        by (inl above) = above
        by (inr under) = absurd (true≢false (sym (le-leb (entry_stamp e) cut.0 under) ∙ is))

    choose : (b : Bool) → is_due cut e ≡ b → list_all (λ e. not (is_of_volume v e)) (cond b (e ∷ filter (is_due cut) entries) (filter (is_due cut) entries)) ≡ true
        → (list_all (λ e. not (is_of_volume v e)) (filter (is_due cut) entries) ≡ true → list_any (waits_after v x last) entries ≡ list_any (waits_after v x cut.0) entries)
        → ((is_queued_on v x e && nat_lt last (entry_stamp e)) || list_any (waits_after v x last) entries) ≡ ((is_queued_on v x e && nat_lt cut.0 (entry_stamp e)) || list_any (waits_after v x cut.0) entries)
    choose true is none rest =
        let parts = and_parts (not (is_of_volume v e)) (list_all (λ e. not (is_of_volume v e)) (filter (is_due cut) entries)) none in
        λ i. (ap (λ (b : Bool). b && nat_lt last (entry_stamp e)) (off parts.0) ∙ sym (ap (λ (b : Bool). b && nat_lt cut.0 (entry_stamp e)) (off parts.0))) i || rest parts.1 i
    choose false is none rest =
        let above = later is in
        λ i. (is_queued_on v x e && (lt-ltb last (entry_stamp e) (omega (arith, above, low)) ∙ sym (lt-ltb cut.0 (entry_stamp e) above)) i) || rest none i

pub since_formed : (t : Trace) (v time last : ℕ) (cut : Stamp) (c : ControlState) → IsPlanDone v c → WaitsAsWritten t last c → last ≤ cut.0 → list_all (λ e. not (is_of_volume v e)) (due cut c.queue.waiting) ≡ true → IsSince t v time last c → IsSince t v time cut.0 (formed cut c)
since_formed t v time last cut c done waits up none h = record {
  low = (let low = h.low in omega (arith, low, up));
  same = λ x.
      let live = done_carries v x c done in
      h.same x
      ∙ sym (waits.waits v x last live (done_copies v x last c.queue.waiting done.copies) (omega arith))
      ∙ same_above v x last cut c.queue.waiting up none
      ∙ waits.waits v x cut.0 live (done_copies v x cut.0 c.queue.waiting done.copies) up;
}

-- ---- what a form shows

pub all_flags : {X : Type 0} (Is : X → Type 0) (test : X → Bool) (xs : List X) → ((x : X) → Is x → test x ≡ true) → All Is xs → list_all test xs ≡ true
all_flags Is test [] up each = refl
all_flags Is test (x ∷ xs) up each = and_from (test x) (list_all test xs) (up x (each zero x (omega arith))) (all_flags Is test xs up (λ i d low. each (suc i) d (omega (arith, low))))

all_own : (k v : ℕ) (entries : List WaitingEntry) → list_all (λ e. not (is_entry_of_control k e && is_of_volume v e)) entries ≡ true → list_all (is_entry_of_control k) entries ≡ true → list_all (λ e. not (is_of_volume v e)) entries ≡ true
all_own k v [] none own = refl
all_own k v (e ∷ entries) none own =
    let first = and_parts (not (is_entry_of_control k e && is_of_volume v e)) (list_all (λ e. not (is_entry_of_control k e && is_of_volume v e)) entries) none in
    let mine = and_parts (is_entry_of_control k e) (list_all (is_entry_of_control k) entries) own in
    and_from (not (is_of_volume v e)) (list_all (λ e. not (is_of_volume v e)) entries) (ap (λ (b : Bool). not (b && is_of_volume v e)) (sym mine.0) ∙ first.0) (all_own k v entries first.1 mine.1)

-- If no entry that a form shows is of a volume, none of it is due.
pub none_due : (s : Group) (cut : Stamp) (k v : ℕ) → IsGroupSound s → k < length s.controls → list_all (λ e. not (is_entry_of_control k e && is_of_volume v e)) (shown_at cut s).entries ≡ true → list_all (λ e. not (is_of_volume v e)) (due cut (control_at s k).queue.waiting) ≡ true
none_due s cut k v keeps low none =
    let own = own_part s cut k keeps low in
    ap (list_all (λ e. not (is_of_volume v e))) (sym own)
    ∙ all_own k v (filter (is_entry_of_control k) (shown_at cut s).entries) (all_filter (λ e. not (is_entry_of_control k e && is_of_volume v e)) (is_entry_of_control k) (shown_at cut s).entries none) (all_kept (is_entry_of_control k) (shown_at cut s).entries)

-- ---- the drop

either_way : (a b : Bool) → (a || b) ≡ (b || a)
either_way true true = refl
either_way true false = refl
either_way false true = refl
either_way false false = refl

with_more : (set : List Bool) (tracks : List ℕ) (x : ℕ) → list_all (λ y. nat_lt y (length set)) tracks ≡ true → has_track (with_tracks set tracks) x ≡ (has_track set x || list_any (λ y. nat_eq y x) tracks)
with_more set [] x within = sym (or_no (has_track set x))
  where
    or_no : (b : Bool) → (b || false) ≡ b
    or_no true = refl
    or_no false = refl
with_more set (y ∷ tracks) x within =
    let parts = and_parts (nat_lt y (length set)) (list_all (λ y. nat_lt y (length set)) tracks) within in
    with_more (with_track set y) tracks x (ap (λ (n : ℕ). list_all (λ y. nat_lt y n) tracks) (length-set set y true) ∙ parts.1)
    ∙ ap (λ (b : Bool). b || list_any (λ y. nat_eq y x) tracks) (has_with set y x (ltb-true y (length set) parts.0) ∙ either_way (nat_eq x y) (has_track set x) ∙ ap (λ (b : Bool). has_track set x || b) (number_sym x y))
    ∙ regroup (has_track set x) (nat_eq y x) (list_any (λ y. nat_eq y x) tracks)
  where
    regroup : (a b c : Bool) → ((a || b) || c) ≡ (a || (b || c))
    regroup true b c = refl
    regroup false b c = refl

tracks_of : (v x : ℕ) (entries : List WaitingEntry) → list_any (λ y. nat_eq y x) (entry_tracks v entries) ≡ list_any (is_queued_on v x) entries
tracks_of v x [] = refl
tracks_of v x (e ∷ entries) = choose (is_of_volume v e) (tracks_of v x entries)
  where
    choose : (b : Bool) → list_any (λ y. nat_eq y x) (entry_tracks v entries) ≡ list_any (is_queued_on v x) entries
        → list_any (λ y. nat_eq y x) (map (λ e. e.head.track) (cond b (e ∷ filter (is_of_volume v) entries) (filter (is_of_volume v) entries))) ≡ ((b && nat_eq e.head.track x) || list_any (is_queued_on v x) entries)
    choose true rest = ap (λ (b : Bool). nat_eq e.head.track x || b) rest
    choose false rest = rest

-- Entries that wait of a volume of which no copied track does are writes above the last cut.
queued_above : (v x last : ℕ) (entries : List WaitingEntry) → list_all (λ e. not (is_copy_of v e)) entries ≡ true → list_all (waits_above last) entries ≡ true → list_any (is_queued_on v x) entries ≡ list_any (waits_after v x last) entries
queued_above v x last [] copies above = refl
queued_above v x last (e ∷ entries) copies above =
    let first = and_parts (not (is_copy_of v e)) (list_all (λ e. not (is_copy_of v e)) entries) copies in
    let up = and_parts (waits_above last e) (list_all (waits_above last) entries) above in
    λ i. flags (nat_eq e.head.volume v) (nat_eq e.head.track x) e.is_copy (nat_lt last (entry_stamp e)) first.0 up.0 i || queued_above v x last entries first.1 up.1 i
  where
    flags : (a b c d : Bool) → not (a && c) ≡ true → (c || d) ≡ true → (a && b) ≡ ((a && b) && d)
    flags true b true d e f = absurd (true≢false (sym e))
    flags true true false d e f = sym f
    flags true false false d e f = refl
    flags false b c d e f = refl

-- The drop of a volume whose plan is done maps the tracks that are written since the last cut.
pub drop_maps : (t : Trace) (v last : ℕ) (c : ControlState) → Sound c → IsPlanDone v c → list_all (waits_above last) c.queue.waiting ≡ true → ((x : ℕ) → maps_track v x c ≡ false) → WaitsAsWritten t last c
    → (x : ℕ) → maps_track v x (dropped v false c) ≡ has_write_between t v x last c.floor.0
drop_maps t v last c sound done above empty waits x =
    ap (passes (λ u. has_track u.map x)) (found_with v v (dropped_volume false (entry_tracks v c.queue.waiting)) (λ u. refl) c.volumes ∙ ap (λ (b : Bool). cond b (option_map (dropped_volume false (entry_tracks v c.queue.waiting)) (volume_of v c.volumes)) (volume_of v c.volumes)) (eq-eqb v v refl))
    ∙ found (volume_of v c.volumes) refl (empty x) done.carried
    ∙ tracks_of v x c.queue.waiting
    ∙ queued_above v x last c.queue.waiting done.copies above
    ∙ waits.waits v x last (done_carries v x c done) (done_copies v x last c.queue.waiting done.copies) (omega arith)
  where
    found : (o : Option Volume) → volume_of v c.volumes ≡ o → passes (λ u. has_track u.map x) o ≡ false → passes is_live o ≡ true → passes (λ u. has_track u.map x) (option_map (dropped_volume false (entry_tracks v c.queue.waiting)) o) ≡ list_any (λ y. nat_eq y x) (entry_tracks v c.queue.waiting)
    found None is none live = absurd (true≢false (sym live))
    found (Some u) is none live =
        with_more u.map (entry_tracks v c.queue.waiting) x (tracks_within v u c.volumes c.queue.waiting is sound.entries) ∙ ap (λ (b : Bool). b || list_any (λ y. nat_eq y x) (entry_tracks v c.queue.waiting)) none
