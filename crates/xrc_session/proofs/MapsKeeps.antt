-- Each call leaves the maps of a state sound.
use Rattle.std.proofs.Common.{◌≡◌, ℕ, ◌<◌, ◌≤◌, Bool, true, false, not, cond, nat_eq, nat_lt, nat_le, ◌&&◌, List, [], ◌∷◌, filter, length, Option, Some, None, refl, sym, ap, subst, ◌∙◌, arith, true≢false}
use Rattle.std.specs.List.{list_all}
use Rattle.std.specs.Option.{option_map}
use Rattle.std.proofs.lemmas.Bool.{and_from, and_parts, lt-ltb, ltb-true, or_right}
use Rattle.std.proofs.lemmas.List.Elements.{All-get_or}
use Rattle.tod_stamp.specs.declared.stamp.Stamp.{Stamp}
use Rattle.ckd_track.specs.declared.write.Batch.{Batch}
use Rattle.ckd_track.specs.declared.write.Write.{Write}
use Rattle.change_map.specs.Sets.{has_track}
use Rattle.change_map.proofs.InSets.{has_none}
use Rattle.cut_core.specs.LegalHistories.{are_in}
use Rattle.pending_queue.specs.Entries.{copies, copy_head, copy_of, due, entries_of, entry_stamp, entry_tracks, is_later, is_of_volume, left}
use Rattle.group_state.specs.declared.phase.Phase.{Phase}
use Rattle.group_state.specs.declared.phase.Phase.TheVariants.{Unbroken, Broken, Reported}
use Rattle.group_state.specs.declared.volume.Volume.{Volume}
use Rattle.group_state.specs.Volumes.{begun, has_volume, dropped_volume, is_carried, is_wanted, passes, resumed_volume, volume_of, with_volume}
use Rattle.group_state.specs.Controls.{ControlState, begun_volume, broke, carried_writes, copied, counts, dropped, fits, fits_track, forgotten, formed, is_reporting, joined, new_control, raised, resumed}
use Rattle.group_state.specs.Groups.{Group, control_at, cut_of, formed_at, new_group, with_control}
use Rattle.group_state.specs.Machine.{Call, group_after}
use Rattle.group_state.specs.Machine.Call.{Join, NextWanted, Copied, Raise, Break, Form, Carry, Drop, Resume, Forget}
use Rattle.group_state.specs.Runs.{May}
use Rattle.group_state.specs.SoundStates.{IsGroupSound, Sound, has_reported}
use Rattle.group_state.proofs.FormLaws.{all_at}
use Rattle.group_state.proofs.GroupLaws.{length_new}
use Rattle.group_state.proofs.SoundLaws.{all_filter, all_joined, all_kept, all_up}
use Rattle.group_state.proofs.Stands.{new_at}
use Rattle.group_state.proofs.VolumeLaws.{found_after, found_with, found_without}
use Rattle.fed_logs.specs.ToldTracks.{floor_of}
use Rattle.fed_logs.proofs.Keeping.{at_map, reported_to_last}
use Rattle.fed_logs.proofs.Standing.{at_with, formed_count, same_count}
use Rattle.xrc_session.specs.Maps.{CallsKeepMaps, AreMapsSound, NewGroupsKeepMaps, waits_above}
use Rattle.xrc_session.proofs.MapsVolumes.{carried_writes_unmapped, has_in, is_live, live_steady, mapped_copied, mapped_formed, other_dropped, steady_copied, steady_formed, steady_writes}

-- ---- one controller

-- The maps of one controller are sound.
record AreControlMapsSound (last : ℕ) (c : ControlState) : Type 0 where
  above : list_all (waits_above last) c.queue.waiting ≡ true
  empty : (v x : ℕ) → passes is_live (volume_of v c.volumes) ≡ true → has_in v x c.volumes ≡ false

one_of : (s : Group) (k : ℕ) → AreMapsSound s → k < length s.controls → AreControlMapsSound s.last.0 (control_at s k)
one_of s k h low = record { above = h.above k low; empty = λ v x. h.empty k v x low }

all_of : (s : Group) → ((k : ℕ) → k < length s.controls → AreControlMapsSound s.last.0 (control_at s k)) → AreMapsSound s
all_of s each = record { above = λ k low. (each k low).above; empty = λ k v x low. (each k low).empty v x }

keeps_with : (s : Group) (j : ℕ) (change : ControlState → ControlState) → AreMapsSound s → (j < length s.controls → AreControlMapsSound s.last.0 (control_at s j) → AreControlMapsSound s.last.0 (change (control_at s j))) → AreMapsSound (with_control j change s)
keeps_with s j change h changed = all_of (with_control j change s) (λ k low.
    let was : k < length s.controls = omega (arith, low, same_count s j change) in
    at_with s j k change (AreControlMapsSound s.last.0) was
    (λ is. subst (λ (i : ℕ). AreControlMapsSound s.last.0 (change (control_at s i))) is (changed (subst (λ (i : ℕ). i < length s.controls) (sym is) was) (one_of s j h (subst (λ (i : ℕ). i < length s.controls) (sym is) was))))
    (λ apart. one_of s k h was))

-- ---- what waits

pub reporting_counts : (phase : Phase) → is_reporting phase ≡ true → counts phase ≡ true
reporting_counts Unbroken e = refl
reporting_counts (Broken cause) e = absurd cc
reporting_counts Reported e = absurd cc

-- A controller that reports has reported up to the last cut.
pub told_last : (s : Group) (k : ℕ) → IsGroupSound s → k < length s.controls → is_reporting (control_at s k).phase ≡ true → s.last.0 ≤ floor_of s k
told_last s k keeps low reporting = reported_to_last s.last (control_at s k) (all_at (has_reported s.last) s.controls k (new_control 0 0 0) keeps.told low) (reporting_counts (control_at s k).phase reporting)

written_above : (last floor upto control : ℕ) (keep : Write → Bool) (writes : List Write) → last ≤ floor → are_in floor upto writes ≡ true → list_all (waits_above last) (entries_of control (filter keep writes)) ≡ true
written_above last floor upto control keep [] low within = refl
written_above last floor upto control keep (w ∷ writes) low within =
    let parts = and_parts (nat_lt floor w.stamp.0 && nat_le w.stamp.0 upto) (are_in floor upto writes) within in
    let after = ltb-true floor w.stamp.0 (and_parts (nat_lt floor w.stamp.0) (nat_le w.stamp.0 upto) parts.0).0 in
    choose (keep w) (lt-ltb last w.stamp.0 (omega (arith, low, after))) (written_above last floor upto control keep writes low parts.1)
  where
    choose : (b : Bool) → nat_lt last w.stamp.0 ≡ true → list_all (waits_above last) (entries_of control (filter keep writes)) ≡ true → list_all (waits_above last) (entries_of control (cond b (w ∷ filter keep writes) (filter keep writes))) ≡ true
    choose true above rest = and_from (nat_lt last w.stamp.0) (list_all (waits_above last) (entries_of control (filter keep writes))) above rest
    choose false above rest = rest

-- ---- each call

joins_maps : (last : ℕ) (b : Batch) (c : ControlState) → last ≤ c.floor.0 → are_in c.floor.0 b.upto.0 b.writes ≡ true → AreControlMapsSound last c → AreControlMapsSound last (joined b c)
joins_maps last b c low within h = record {
  above = all_joined (waits_above last) c.queue.waiting (entries_of c.queue.control (carried_writes c b)) h.above (written_above last c.floor.0 b.upto.0 c.queue.control (is_carried c.volumes) b.writes low within);
  empty = λ v x live.
      let was = sym (steady_writes is_live live_steady v c.volumes b.writes) ∙ live in
      carried_writes_unmapped v x c.volumes b.writes was ∙ h.empty v x was;
}

copies_maps : (last w y : ℕ) (at : Stamp) (slot : _) (c : ControlState) → AreControlMapsSound last c → AreControlMapsSound last (copied w y at slot c)
copies_maps last w y at slot c h = record {
  above = all_joined (waits_above last) c.queue.waiting (copy_of (copy_head c.queue.control w y at) slot ∷ []) h.above refl;
  empty = λ v x live. mapped_copied w y v x c.volumes ∙ h.empty v x (sym (steady_copied is_live live_steady v w y c.volumes) ∙ live);
}

same_maps : (last : ℕ) (c d : ControlState) → d.queue.waiting ≡ c.queue.waiting → d.volumes ≡ c.volumes → AreControlMapsSound last c → AreControlMapsSound last d
same_maps last c d waiting volumes h = record {
  above = ap (list_all (waits_above last)) waiting ∙ h.above;
  empty = λ v x live. ap (has_in v x) volumes ∙ h.empty v x (ap (λ (us : List Volume). passes is_live (volume_of v us)) (sym volumes) ∙ live);
}

begins_maps : (last w : ℕ) (plan : _) (c : ControlState) → (has_volume w c.volumes ≡ false) → AreControlMapsSound last c → AreControlMapsSound last (begun_volume w plan c)
begins_maps last w plan c unknown h = record {
  above = h.above;
  empty = λ v x live.
      let found = found_after v c.volumes (begun w plan) unknown in
      ap (passes (λ u. has_track u.map x)) found ∙ choose v x (nat_eq w v) (sym (ap (passes is_live) found) ∙ live);
}
  where
    choose : (v x : ℕ) (t : Bool) → passes is_live (cond t (Some (begun w plan)) (volume_of v c.volumes)) ≡ true → passes (λ u. has_track u.map x) (cond t (Some (begun w plan)) (volume_of v c.volumes)) ≡ false
    choose v x true live = has_none (length plan.wanted) x
    choose v x false live = h.empty v x live

drops_maps : (last w : ℕ) (all : Bool) (c : ControlState) → AreControlMapsSound last c → AreControlMapsSound last (dropped w all c)
drops_maps last w all c h = record {
  above = all_filter (waits_above last) (λ e. not (is_of_volume w e)) c.queue.waiting h.above;
  empty = λ v x live. choose v x (nat_eq w v) refl live;
}
  where
    never : (v : ℕ) → nat_eq w v ≡ true → passes is_live (volume_of v (with_volume w (dropped_volume all (entry_tracks w c.queue.waiting)) c.volumes)) ≡ true → ⊥
    never v same live = gone (volume_of v c.volumes)
        (sym (ap (passes is_live) (found_with w v (dropped_volume all (entry_tracks w c.queue.waiting)) (λ u. refl) c.volumes ∙ ap (λ (b : Bool). cond b (option_map (dropped_volume all (entry_tracks w c.queue.waiting)) (volume_of v c.volumes)) (volume_of v c.volumes)) same)) ∙ live)
      where
        gone : (o : Option Volume) → passes is_live (option_map (dropped_volume all (entry_tracks w c.queue.waiting)) o) ≡ true → ⊥
        gone None live = true≢false (sym live)
        gone (Some u) live = true≢false (sym live)

    choose : (v x : ℕ) (t : Bool) → nat_eq w v ≡ t → passes is_live (volume_of v (with_volume w (dropped_volume all (entry_tracks w c.queue.waiting)) c.volumes)) ≡ true
        → has_in v x (with_volume w (dropped_volume all (entry_tracks w c.queue.waiting)) c.volumes) ≡ false
    choose v x true same live = absurd (never v same live)
    choose v x false apart live = other_dropped (λ u. has_track u.map x) w v all (entry_tracks w c.queue.waiting) apart c.volumes ∙ h.empty v x (sym (other_dropped is_live w v all (entry_tracks w c.queue.waiting) apart c.volumes) ∙ live)

resumes_maps : (last w : ℕ) (c : ControlState) → AreControlMapsSound last c → AreControlMapsSound last (resumed w c)
resumes_maps last w c h = record {
  above = h.above;
  empty = λ v x live.
      let found = found_with w v resumed_volume (λ u. refl) c.volumes in
      ap (passes (λ u. has_track u.map x)) found ∙ choose v x (nat_eq w v) (volume_of v c.volumes) refl (sym (ap (passes is_live) found) ∙ live);
}
  where
    choose : (v x : ℕ) (t : Bool) (o : Option Volume) → volume_of v c.volumes ≡ o → passes is_live (cond t (option_map resumed_volume o) o) ≡ true → passes (λ u. has_track u.map x) (cond t (option_map resumed_volume o) o) ≡ false
    choose v x true None is live = refl
    choose v x true (Some u) is live = has_none (length u.map) x
    choose v x false o is live = ap (passes (λ u. has_track u.map x)) (sym is) ∙ h.empty v x (ap (passes is_live) is ∙ live)

forgets_maps : (last w : ℕ) (c : ControlState) → Sound c → AreControlMapsSound last c → AreControlMapsSound last (forgotten w c)
forgets_maps last w c sound h = record {
  above = h.above;
  empty = λ v x live.
      let found = found_without w v c.volumes sound.distinct in
      ap (passes (λ u. has_track u.map x)) found ∙ choose v x (nat_eq w v) (sym (ap (passes is_live) found) ∙ live);
}
  where
    choose : (v x : ℕ) (t : Bool) → passes is_live (cond t None (volume_of v c.volumes)) ≡ true → passes (λ u. has_track u.map x) (cond t None (volume_of v c.volumes)) ≡ false
    choose v x true live = refl
    choose v x false live = h.empty v x live

forms_maps : (last : ℕ) (cut : Stamp) (c : ControlState) → AreControlMapsSound last c → AreControlMapsSound cut.0 (formed cut c)
forms_maps last cut c h = record {
  above = all_up (is_later cut) (waits_above cut.0) (left cut c.queue.waiting) (λ e later. or_right e.is_copy (nat_lt cut.0 (entry_stamp e)) later) (all_kept (is_later cut) c.queue.waiting);
  empty = λ v x live.
      mapped_formed v x c.volumes (copies (due cut c.queue.waiting)) ∙ h.empty v x (sym (steady_formed is_live live_steady v c.volumes (copies (due cut c.queue.waiting))) ∙ live);
}

pub form_maps : (s : Group) (cut : Stamp) → AreMapsSound s → AreMapsSound (formed_at cut s)
form_maps s cut h = all_of (formed_at cut s) (λ k low.
    let was : k < length s.controls = omega (arith, low, formed_count s cut) in
    subst (AreControlMapsSound cut.0) (sym (at_map cut s.controls k was)) (forms_maps s.last.0 cut (control_at s k) (one_of s k h was)))

pub sound_at : (s : Group) (k : ℕ) → IsGroupSound s → k < length s.controls → Sound (control_at s k)
sound_at s k keeps low = All-get_or Sound s.controls k (new_control 0 0 0) low keeps.sound

call_keeps : (s : Group) (call : Call) → IsGroupSound s → May s call → AreMapsSound s → AreMapsSound (group_after s call)
call_keeps s (Join b) keeps may h = choose (fits (control_at s b.control) b)
  where
    choose : (t : Bool) → AreMapsSound (cond t (with_control b.control (joined b) s) s)
    choose true = keeps_with s b.control (joined b) h (λ low one. joins_maps s.last.0 b (control_at s b.control) (told_last s b.control keeps low may.legal.tells.reporting) may.legal.within one)
    choose false = h
call_keeps s (NextWanted k) keeps may h = h
call_keeps s (Copied k v x at slot) keeps may h = choose (is_wanted v x (control_at s k).volumes && fits_track (control_at s k) slot)
  where
    choose : (t : Bool) → AreMapsSound (cond t (with_control k (copied v x at slot) s) s)
    choose true = keeps_with s k (copied v x at slot) h (λ low one. copies_maps s.last.0 v x at slot (control_at s k) one)
    choose false = h
call_keeps s (Raise k upto) keeps may h = keeps_with s k (raised upto) h (λ low one. same_maps s.last.0 (control_at s k) (raised upto (control_at s k)) refl refl one)
call_keeps s (Break k upto cause) keeps may h = keeps_with s k (broke upto cause) h (λ low one. same_maps s.last.0 (control_at s k) (broke upto cause (control_at s k)) refl refl one)
call_keeps s (Form limit) keeps may h = form_maps s (cut_of s limit) h
call_keeps s (Carry k v plan) keeps may h = keeps_with s k (begun_volume v plan) h (λ low one. begins_maps s.last.0 v plan (control_at s k) may.1.unknown one)
call_keeps s (Drop k v all) keeps may h = keeps_with s k (dropped v all) h (λ low one. drops_maps s.last.0 v all (control_at s k) one)
call_keeps s (Resume k v) keeps may h = keeps_with s k (resumed v) h (λ low one. resumes_maps s.last.0 v (control_at s k) one)
call_keeps s (Forget k v) keeps may h = keeps_with s k (forgotten v) h (λ low one. forgets_maps s.last.0 v (control_at s k) (sound_at s k keeps low) one)

pub calls_keep_maps : CallsKeepMaps
calls_keep_maps s next call reply keeps may is h = subst AreMapsSound (sym is.1) (call_keeps s call keeps may h)

pub new_groups_keep_maps : NewGroupsKeepMaps
new_groups_keep_maps controls records blocks = all_of (new_group controls records blocks) (λ k low.
    let within : k < controls = omega (arith, low, length_new controls 0 records blocks) in
    subst (AreControlMapsSound 0) (sym (new_at controls 0 records blocks k (new_control 0 0 0) within)) (record { above = refl; empty = λ v x live. refl }))
