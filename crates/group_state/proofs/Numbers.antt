-- The volumes of a controller have numbers of 16 bits, which no change alters. So a controller has few volumes.
use Rattle.std.proofs.Common.{◌≡◌, ℕ, ◌<◌, ◌≤◌, Bool, true, false, not, ◌||◌, nat_eq, List, [], ◌∷◌, length, map, ap, refl, ◌∙◌, arith}
use Rattle.std.specs.Prelude.{nat_lt}
use Rattle.std.specs.List.{list_all, list_any, IsDistinct, AllByRecursion}
use Rattle.std.proofs.lemmas.Bool.{and_parts, and_from, or_parts, eqb-true, lt-ltb, ltb-true, not-true}
use Rattle.std.proofs.lemmas.List.{length-map}
use Rattle.std.proofs.lemmas.Map.Steps.{length-le_from_distinct_below}
use Rattle.tod_stamp.specs.declared.stamp.Stamp.{Stamp}
use Rattle.ckd_track.specs.declared.rec.Rec.{Rec}
use Rattle.ckd_track.specs.declared.write.Batch.{Batch}
use Rattle.ckd_track.specs.declared.write.Cause.{Cause}
use Rattle.ckd_track.specs.declared.write.Write.{Write}
use Rattle.copy_plan.specs.Plans.{PlanState}
use Rattle.pending_queue.specs.Entries.{WaitingEntry, entry_tracks, copies}
use Rattle.pending_queue.specs.Groups.{most_done_of_control}
use Rattle.group_state.specs.declared.volume.Volume.{Volume}
use Rattle.group_state.specs.Volumes.{has_volume, begun, noted_write, with_write, with_writes, copied_track, dropped_volume, resumed_volume, formed_track, with_formed_copy, with_formed_copies, is_wanted}
use Rattle.group_state.specs.Controls.{ControlState, due_of, joined, copied, raised, broke, begun_volume, dropped, resumed, forgotten, formed}
use Rattle.group_state.specs.SoundStates.{are_distinct, has_number, AreVolumesSound, is_track_within, MayReport, MayJoin, MayCarry, is_dropped}
use Rattle.group_state.proofs.VolumeLaws.{all_with, all_without}
use Rattle.group_state.proofs.SoundLaws.{swapped, all_joined, written_keeps, sound_joined, sound_copied, sound_raised, sound_broke, sound_begun, sound_dropped, sound_resumed, sound_forgotten}
use Rattle.group_state.proofs.FormLaws.{sound_formed}

-- ---- each change

written_has : (x : ℕ) (u : Volume) → has_number u ≡ true → has_number (noted_write x u) ≡ true
written_has x u e = ap (λ n. nat_lt n most_done_of_control) (written_keeps x u) ∙ e

numbers_written : (volumes : List Volume) (writes : List Write) → list_all has_number volumes ≡ true → list_all has_number (with_writes volumes writes) ≡ true
numbers_written volumes [] e = e
numbers_written volumes (w ∷ writes) e = numbers_written (with_write volumes w) writes (all_with has_number w.volume (noted_write w.track) (written_has w.track) volumes e)

numbers_formed : (volumes : List Volume) (formed : List WaitingEntry) → list_all has_number volumes ≡ true → list_all has_number (with_formed_copies volumes formed) ≡ true
numbers_formed volumes [] e = e
numbers_formed volumes (x ∷ formed) e = numbers_formed (with_formed_copy volumes x) formed (all_with has_number x.head.volume formed_track (λ u ok. ok) volumes e)

pub volumes_joined : (b : Batch) (c : ControlState) → AreVolumesSound c → MayJoin c b → AreVolumesSound (joined b c)
volumes_joined b c k may = record { sound = sound_joined b c k.sound may; numbers = numbers_written c.volumes b.writes k.numbers }

pub volumes_copied : (v x : ℕ) (at : Stamp) (recs : List Rec) (c : ControlState) → AreVolumesSound c → at ≡ c.floor → is_wanted v x c.volumes ≡ true → is_track_within c.volumes v x ≡ true → AreVolumesSound (copied v x at recs c)
volumes_copied v x at recs c k floor wanted within =
    record { sound = sound_copied v x at recs c k.sound floor wanted within; numbers = all_with has_number v (copied_track x) (λ u ok. ok) c.volumes k.numbers }

pub volumes_raised : (upto : Stamp) (c : ControlState) → AreVolumesSound c → MayReport c upto → AreVolumesSound (raised upto c)
volumes_raised upto c k may = record { sound = sound_raised upto c k.sound may; numbers = k.numbers }

pub volumes_broke : (upto : Stamp) (cause : Cause) (c : ControlState) → AreVolumesSound c → MayReport c upto → AreVolumesSound (broke upto cause c)
volumes_broke upto cause c k may = record { sound = sound_broke upto cause c k.sound may; numbers = k.numbers }

pub volumes_begun : (v : ℕ) (plan : PlanState) (c : ControlState) → AreVolumesSound c → MayCarry c v plan → v < most_done_of_control → AreVolumesSound (begun_volume v plan c)
volumes_begun v plan c k may short =
    record { sound = sound_begun v plan c k.sound may; numbers = all_joined has_number c.volumes (begun v plan ∷ []) k.numbers (and_from (has_number (begun v plan)) true (lt-ltb v most_done_of_control short) refl) }

pub volumes_dropped : (v : ℕ) (all : Bool) (c : ControlState) → AreVolumesSound c → AreVolumesSound (dropped v all c)
volumes_dropped v all c k =
    record { sound = sound_dropped v all c k.sound; numbers = all_with has_number v (dropped_volume all (entry_tracks v c.queue.waiting)) (λ u ok. ok) c.volumes k.numbers }

pub volumes_resumed : (v : ℕ) (c : ControlState) → AreVolumesSound c → is_dropped v c.volumes ≡ true → AreVolumesSound (resumed v c)
volumes_resumed v c k gone = record { sound = sound_resumed v c k.sound gone; numbers = all_with has_number v resumed_volume (λ u ok. ok) c.volumes k.numbers }

pub volumes_forgotten : (v : ℕ) (c : ControlState) → AreVolumesSound c → is_dropped v c.volumes ≡ true → AreVolumesSound (forgotten v c)
volumes_forgotten v c k gone = record { sound = sound_forgotten v c k.sound gone; numbers = all_without has_number v c.volumes k.numbers }

pub volumes_formed : (cut : Stamp) (c : ControlState) → AreVolumesSound c → AreVolumesSound (formed cut c)
volumes_formed cut c k = record { sound = sound_formed cut c k.sound; numbers = numbers_formed c.volumes (copies (due_of cut c)) k.numbers }

-- ---- few volumes

abbrev numbers : List Volume → List ℕ
numbers volumes = map (λ (u : Volume). u.number) volumes

none_same : (n : ℕ) (volumes : List Volume) → has_volume n volumes ≡ false → AllByRecursion (λ m. nat_eq n m ≡ false) (numbers volumes)
none_same n [] e = tt
none_same n (u ∷ volumes) e =
    let parts = or_parts (nat_eq u.number n) (has_volume n volumes) e in
    (swapped u.number n parts.0, none_same n volumes parts.1)

distinct_numbers : (volumes : List Volume) → are_distinct volumes ≡ true → IsDistinct nat_eq (numbers volumes)
unfolding IsDistinct
distinct_numbers [] e = tt
distinct_numbers (u ∷ volumes) e =
    let both = and_parts (not (has_volume u.number volumes)) (are_distinct volumes) e in
    (none_same u.number volumes (not-true (has_volume u.number volumes) both.0), distinct_numbers volumes both.1)

below_most : (most : ℕ) (volumes : List Volume) → list_all (λ (u : Volume). nat_lt u.number most) volumes ≡ true → (q : ℕ) → list_any (nat_eq q) (numbers volumes) ≡ true → q < most
below_most most [] e q found = absurd cc
below_most most (u ∷ volumes) e q found =
    let both = and_parts (nat_lt u.number most) (list_all (λ (u : Volume). nat_lt u.number most) volumes) e in
    choose (nat_eq q u.number) refl found (ltb-true u.number most both.0) (below_most most volumes both.1 q)
  where
    choose : (t : Bool) → nat_eq q u.number ≡ t → (t || list_any (nat_eq q) (numbers volumes)) ≡ true → u.number < most → (list_any (nat_eq q) (numbers volumes) ≡ true → q < most) → q < most
    choose true is found lt rest = omega (arith, eqb-true q u.number is, lt)
    choose false is found lt rest = rest found

few_of : (most : ℕ) (volumes : List Volume) → are_distinct volumes ≡ true → list_all (λ (u : Volume). nat_lt u.number most) volumes ≡ true → length volumes ≤ most
few_of most volumes distinct short = omega (arith, length-map volumes (λ (u : Volume). u.number), length-le_from_distinct_below (numbers volumes) most (distinct_numbers volumes distinct) (below_most most volumes short))

pub few_volumes : (c : ControlState) → AreVolumesSound c → length c.volumes ≤ most_done_of_control
few_volumes c k = few_of most_done_of_control c.volumes k.sound.distinct k.numbers
