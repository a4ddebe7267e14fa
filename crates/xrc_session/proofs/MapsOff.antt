-- What a change's calls leave of a volume: those of other volumes nothing, and a drop with all of its tracks a map of them.
use Rattle.std.proofs.Common.{◌≡◌, ℕ, ◌<◌, Bool, true, false, cond, not, nat_eq, nat_le, nat_lt, ◌&&◌, ◌||◌, List, [], ◌∷◌, length, refl, sym, ap, ◌∙◌, arith, true≢false}
use Rattle.std.specs.List.{list_all}
use Rattle.std.proofs.lemmas.Bool.{and_from, and_parts, le-ltb, leb-true}
use Rattle.change_map.specs.Sets.{has_track}
use Rattle.pending_queue.specs.Entries.{WaitingEntry, entry_stamp, entry_tracks, is_copy_of, is_of_volume}
use Rattle.group_state.specs.Controls.{ControlState, begun_volume, broke, copied, counts, dropped, fits, fits_track, forgotten, joined, raised, resumed}
use Rattle.group_state.specs.Groups.{Group, control_at, cut_of, with_control}
use Rattle.group_state.specs.Machine.{Call, group_after, reply_to}
use Rattle.group_state.specs.Machine.Call.{Join, NextWanted, Copied, Raise, Break, Form, Carry, Drop, Resume, Forget}
use Rattle.group_state.specs.Runs.{May}
use Rattle.group_state.specs.SoundStates.{IsGroupSound, is_dropped}
use Rattle.group_state.specs.Volumes.{is_wanted, passes, volume_of}
use Rattle.group_state.proofs.Kept.{kept_next}
use Rattle.group_state.proofs.SoundLaws.{all_filter, dropped_none, none_waits}
use Rattle.fed_logs.specs.Logs.{IsPlanDone, is_of_size}
use Rattle.fed_logs.proofs.Standing.{at_with, formed_count, same_count}
use Rattle.xrc_session.specs.Maps.{AreMapsSound, RestsAtCut, maps_track, waits_above}
use Rattle.xrc_session.specs.Taking.{AllMay, after_calls}
use Rattle.xrc_session.proofs.Calls.{KeepsOther, begin_other, drop_other, forget_other, other_at, own_is, resume_other}
use Rattle.xrc_session.proofs.CarriedRows.{IsOther}
use Rattle.xrc_session.proofs.JoinsLanes.{Each}
use Rattle.xrc_session.proofs.MapsKeeps.{calls_keep_maps, sound_at}
use Rattle.xrc_session.proofs.MapsVolumes.{all_mapped, none_tracked, sized_dropped}

-- ---- what states keep through calls

pub calls_keep : (calls : List Call) (s : Group) → AllMay calls s → IsGroupSound s → IsGroupSound (after_calls calls s)
calls_keep [] s may keeps = keeps
calls_keep (call ∷ calls) s may keeps = calls_keep calls (group_after s call) may.1 (kept_next s call keeps may.0)

pub maps_keep : (calls : List Call) (s : Group) → AllMay calls s → IsGroupSound s → AreMapsSound s → AreMapsSound (after_calls calls s)
maps_keep [] s may keeps h = h
maps_keep (call ∷ calls) s may keeps h =
    maps_keep calls (group_after s call) may.1 (kept_next s call keeps may.0) (calls_keep_maps s (group_after s call) call (reply_to s call) keeps may.0 (refl, refl) h)

-- ---- calls of other volumes

-- A call of a change is one of another volume.
abbrev pub IsOff : (k v : ℕ) → Call → Type 0
IsOff k v (Join b) = ⊥
IsOff k v (NextWanted j) = ⊥
IsOff k v (Copied j w x at slot) = ⊥
IsOff k v (Raise j upto) = ⊥
IsOff k v (Break j upto cause) = ⊥
IsOff k v (Form limit) = ⊥
IsOff k v (Carry j w plan) = IsOther j w k v
IsOff k v (Drop j w all) = IsOther j w k v
IsOff k v (Resume j w) = IsOther j w k v
IsOff k v (Forget j w) = IsOther j w k v

abbrev pub is_off_volume : ℕ → WaitingEntry → Bool
is_off_volume v e = not (is_of_volume v e)

-- What is left of a volume: it is found as before, and no entry of it waits where none did.
pub record IsLeft (k v : ℕ) (s t : Group) : Type 0 where
  pub many : length t.controls ≡ length s.controls
  pub found : volume_of v (control_at t k).volumes ≡ volume_of v (control_at s k).volumes
  pub quiet : list_all (is_off_volume v) (control_at s k).queue.waiting ≡ true → list_all (is_off_volume v) (control_at t k).queue.waiting ≡ true

module _ (k v : ℕ) where
  changed_left : (s : Group) (j w : ℕ) (change : ControlState → ControlState) → ((u : ℕ) → nat_eq w u ≡ false → KeepsOther u (control_at s j) (change (control_at s j)))
      → ((c : ControlState) → list_all (is_off_volume v) c.queue.waiting ≡ true → list_all (is_off_volume v) (let d : ControlState = change c in d.queue.waiting) ≡ true)
      → IsOther j w k v → k < length s.controls → IsLeft k v s (with_control j change s)
  changed_left s j w change keeps quiet off low = record {
    many = same_count s j change;
    found = (other_at s j w k v change keeps off low).found;
    quiet = λ none. at_with s j k change (λ (c : ControlState). list_all (is_off_volume v) c.queue.waiting ≡ true) low (λ same. quiet (control_at s k) none) (λ apart. none);
  }

  call_left : (s : Group) (call : Call) → IsOff k v call → May s call → IsGroupSound s → k < length s.controls → IsLeft k v s (group_after s call)
  call_left s (Join b) off may keeps low = absurd off
  call_left s (NextWanted j) off may keeps low = absurd off
  call_left s (Copied j w x at slot) off may keeps low = absurd off
  call_left s (Raise j upto) off may keeps low = absurd off
  call_left s (Break j upto cause) off may keeps low = absurd off
  call_left s (Form limit) off may keeps low = absurd off
  call_left s (Carry j w plan) off may keeps low = changed_left s j w (begun_volume w plan) (λ u apart. begin_other w u plan (control_at s j) may.1.unknown apart) (λ c none. none) off low
  call_left s (Drop j w all) off may keeps low =
      changed_left s j w (dropped w all) (λ u apart. drop_other w u all (control_at s j) apart) (λ c none. all_filter (is_off_volume v) (λ e. not (is_of_volume w e)) c.queue.waiting none) off low
  call_left s (Resume j w) off may keeps low = changed_left s j w (resumed w) (λ u apart. resume_other w u (control_at s j) apart) (λ c none. none) off low
  call_left s (Forget j w) off may keeps low = changed_left s j w (forgotten w) (λ u apart. forget_other w u (control_at s j) (sound_at s j keeps may.0).distinct apart) (λ c none. none) off low

  pub calls_left : (calls : List Call) (s : Group) → Each (IsOff k v) calls → AllMay calls s → IsGroupSound s → k < length s.controls → IsLeft k v s (after_calls calls s)
  calls_left [] s off may keeps low = record { many = refl; found = refl; quiet = λ none. none }
  calls_left (call ∷ calls) s off may keeps low =
      let one = call_left s call off.0 may.0 keeps low in
      let many = one.many in
      let more = calls_left calls (group_after s call) off.1 may.1 (kept_next s call keeps may.0) (omega (arith, low, many)) in
      record { many = more.many ∙ one.many; found = more.found ∙ one.found; quiet = λ none. more.quiet (one.quiet none) }

-- ---- a drop, and calls of other volumes after it

pub one_count : (s : Group) (call : Call) → length (group_after s call).controls ≡ length s.controls
one_count s (Join b) = choose (fits (control_at s b.control) b)
  where
    choose : (t : Bool) → length (let n : Group = cond t (with_control b.control (joined b) s) s in n.controls) ≡ length s.controls
    choose true = same_count s b.control (joined b)
    choose false = refl
one_count s (NextWanted k) = refl
one_count s (Copied k v x at slot) = choose (is_wanted v x (control_at s k).volumes && fits_track (control_at s k) slot)
  where
    choose : (t : Bool) → length (let n : Group = cond t (with_control k (copied v x at slot) s) s in n.controls) ≡ length s.controls
    choose true = same_count s k (copied v x at slot)
    choose false = refl
one_count s (Raise k upto) = same_count s k (raised upto)
one_count s (Break k upto cause) = same_count s k (broke upto cause)
one_count s (Form limit) = formed_count s (cut_of s limit)
one_count s (Carry k v plan) = same_count s k (begun_volume v plan)
one_count s (Drop k v all) = same_count s k (dropped v all)
one_count s (Resume k v) = same_count s k (resumed v)
one_count s (Forget k v) = same_count s k (forgotten v)

pub after_count : (calls : List Call) (s : Group) → length (after_calls calls s).controls ≡ length s.controls
after_count [] s = refl
after_count (call ∷ calls) s = after_count calls (group_after s call) ∙ one_count s call

module _ (t : Group) (k v : ℕ) (within : k < length t.controls) (keeps : IsGroupSound t) (calls : List Call) where
  -- the map after a drop and such calls
  after_drop : (all : Bool) → Each (IsOff k v) calls → AllMay calls (group_after t (Drop k v all))
      → volume_of v (control_at (after_calls calls (group_after t (Drop k v all))) k).volumes ≡ volume_of v (dropped v all (control_at t k)).volumes
  after_drop all off may =
      (calls_left k v calls (group_after t (Drop k v all)) off may (kept_next t (Drop k v all) keeps within) (let same = same_count t k (dropped v all) in omega (arith, within, same))).found
      ∙ ap (λ (c : ControlState). volume_of v c.volumes) (own_is t k (dropped v all) within)

  pub dropped_whole : (n x : ℕ) → Each (IsOff k v) calls → AllMay calls (group_after t (Drop k v true)) → x < n
      → passes (is_of_size n) (volume_of v (control_at (after_calls calls (group_after t (Drop k v true))) k).volumes) ≡ true → maps_track v x (control_at (after_calls calls (group_after t (Drop k v true))) k) ≡ true
  dropped_whole n x off may low sized =
      let c = control_at t k in
      let after = after_drop true off may in
      ap (passes (λ u. has_track u.map x)) after
      ∙ all_mapped n v x (entry_tracks v c.queue.waiting) c.volumes low
      (sym (sized_dropped n v v true (entry_tracks v c.queue.waiting) c.volumes) ∙ ap (passes (is_of_size n)) (sym after) ∙ sized)

  pub dropped_part : (x : ℕ) → Each (IsOff k v) calls → AllMay calls (group_after t (Drop k v false)) → list_all (is_off_volume v) (control_at t k).queue.waiting ≡ true
      → maps_track v x (control_at (after_calls calls (group_after t (Drop k v false))) k) ≡ maps_track v x (control_at t k)
  dropped_part x off may none = ap (passes (λ u. has_track u.map x)) (after_drop false off may) ∙ none_tracked v x (control_at t k).volumes (control_at t k).queue.waiting none

-- ---- what waits at rest

-- No entry of a dropped volume waits.
pub dropped_quiet : (s : Group) (k v : ℕ) → IsGroupSound s → k < length s.controls → is_dropped v (control_at s k).volumes ≡ true → list_all (is_off_volume v) (control_at s k).queue.waiting ≡ true
dropped_quiet s k v keeps low gone = let c = control_at s k in none_waits v c.volumes c.queue.waiting (dropped_none v c.volumes gone) (sound_at s k keeps low).entries

-- At rest no entry of a volume waits whose plan is done.
pub done_quiet : (s : Group) (k v time : ℕ) → IsGroupSound s → AreMapsSound s → RestsAtCut s time → k < length s.controls → counts (control_at s k).phase ≡ true → IsPlanDone v (control_at s k)
    → list_all (is_off_volume v) (control_at s k).queue.waiting ≡ true
done_quiet s k v time keeps maps rests low counted done =
    all_three (control_at s k).queue.waiting (maps.above k low) (sound_at s k keeps low).stamps done.copies
  where
    floor : (control_at s k).floor.0 ≡ s.last.0
    floor = rests.told k low counted ∙ sym rests.cut

    flag : (a b c : Bool) → (b || c) ≡ true → c ≡ false → not (a && b) ≡ true → not a ≡ true
    flag false b c e f g = refl
    flag true true c e f g = absurd (true≢false (sym g))
    flag true false true e f g = absurd (true≢false f)
    flag true false false e f g = absurd (true≢false (sym e))

    not_above : (e : WaitingEntry) → nat_le (entry_stamp e) (control_at s k).floor.0 ≡ true → nat_lt s.last.0 (entry_stamp e) ≡ false
    not_above e up = let le = leb-true (entry_stamp e) (control_at s k).floor.0 up in le-ltb s.last.0 (entry_stamp e) (omega (arith, le, floor))

    all_three : (entries : List WaitingEntry) → list_all (waits_above s.last.0) entries ≡ true → list_all (λ e. nat_le (entry_stamp e) (control_at s k).floor.0) entries ≡ true → list_all (λ e. not (is_copy_of v e)) entries ≡ true
        → list_all (is_off_volume v) entries ≡ true
    all_three [] a b c = refl
    all_three (e ∷ entries) a b c =
        let p = and_parts (waits_above s.last.0 e) (list_all (waits_above s.last.0) entries) a in
        let q = and_parts (nat_le (entry_stamp e) (control_at s k).floor.0) (list_all (λ e. nat_le (entry_stamp e) (control_at s k).floor.0) entries) b in
        let r = and_parts (not (is_copy_of v e)) (list_all (λ e. not (is_copy_of v e)) entries) c in
        and_from (not (is_of_volume v e)) (list_all (is_off_volume v) entries)
        (flag (is_of_volume v e) e.is_copy (nat_lt s.last.0 (entry_stamp e)) p.0 (not_above e q.0) r.0) (all_three entries p.1 q.1 r.1)
