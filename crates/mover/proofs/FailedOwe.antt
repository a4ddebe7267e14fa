-- After a log a row that its device suspends owes all its tracks: it did so before, or its volume was dropped with all of them.
use Rattle.std.proofs.Common.{◌≡◌, ◌⊎◌, inl, inr, ◌<◌, ℕ, nat_eq, nat_lt, Bool, true, false, cond, not, ◌&&◌, ◌||◌, List, [], ◌∷◌, length, get_or, map, Option, Some, None, refl, sym, ap, ◌∙◌, subst, arith, true≢false, get_or-set_same, get_or-set_other, slice_get}
use Rattle.std.specs.Prelude.{filter, find, slice_set}
use Rattle.std.specs.List.{list_all, list_any}
use Rattle.std.proofs.lemmas.Bool.{and_from, and_parts, cases_Bool, eqb-false, eqb-true, lt-ltb, or_cases, or_left, or_right}
use Rattle.tod_stamp.specs.declared.stamp.Stamp.{Stamp}
use Rattle.ckd_track.specs.declared.write.Write.{Write}
use Rattle.pair_table.specs.declared.row.PairRow.{PairRow}
use Rattle.change_map.specs.Sets.{has_track, with_track}
use Rattle.change_map.proofs.InSets.{had_within, has_every}
use Rattle.pending_queue.specs.Entries.{WaitingEntry, copies, due, entry_tracks, is_queued_on, is_whole}
use Rattle.pending_queue.specs.Maps.{with_tracks}
use Rattle.group_state.specs.declared.volume.Volume.{Volume}
use Rattle.group_state.specs.Calls.{is_by_mover}
use Rattle.group_state.specs.Controls.{ControlState, new_control, broke, copied, dropped, joined, raised}
use Rattle.group_state.specs.Groups.{Group, control_at, cut_of, formed_at, with_control}
use Rattle.group_state.specs.Machine.{Call, Reply, steps}
use Rattle.group_state.specs.Machine.Call.{Join, NextWanted, Copied, Raise, Break, Form, Carry, Drop, Resume, Forget}
use Rattle.group_state.specs.Runs.{Answer, Runs}
use Rattle.group_state.specs.SoundStates.{IsGroupSound, Sound, is_dropped, is_entry_of, may_wait, passes_or_none}
use Rattle.group_state.specs.Volumes.{copied_track, dropped_map, dropped_volume, formed_track, is_wanted, noted_write, passes, volume_of, wants, with_formed_copies, with_formed_copy, with_write, with_writes}
use Rattle.group_state.proofs.VolumeLaws.{Keeps, passes_with}
use Rattle.record_rows.specs.Deeds.{Deed}
use Rattle.pair_table.specs.States.{is_device_suspended}
use Rattle.record_rows.specs.ToldRows.{InPlaces}
use Rattle.fed_logs.proofs.Keeping.{at_map}
use Rattle.fed_logs.proofs.Tracks.{tested_with}
use Rattle.fed_logs.specs.Feeds.{is_answer_of_mover, is_call_of_reader, part_of_mover}
use Rattle.fed_logs.specs.Logs.{AreSized, Sizes, is_call_of_seat, is_of_size}
use Rattle.fed_logs.specs.Moves.{HasRowIn}
use Rattle.fed_logs.proofs.Standing.{at_with}
use Rattle.fed_logs.proofs.Went.{WentRead, went_read}
use Rattle.fed_logs.proofs.Went.WentRead.{Same, Joins, Copies, Raises, Breaks}
use Rattle.turn_group.specs.Notes.{known_volume}
use Rattle.turn_group.proofs.Known.{HasSizesOf, sizes_at, sizes_in, sizes_last}
use Rattle.mover.specs.OwedTracks.{CarriedAsLive, FailedAreOwed, is_copied_to, is_mapped, is_owed, is_to_be_copied, is_volume_kept}
use Rattle.mover.proofs.Copying.{dropped_mapped, kept_within}
use Rattle.mover.specs.Dropping.{IsDeviceSuspended, OwesExactly, owed_by_call, owed_by_calls, stood_duplex}
use Rattle.mover.specs.Epochs.{IsSamePair}
use Rattle.mover.proofs.LanesAgain.{count_stays, sizes_stay}
use Rattle.mover.proofs.LogParts.{by_seat}
use Rattle.mover.proofs.OwedExactly.{device_owes, whole_among}
use Rattle.mover.proofs.SamePairs.{Before, at_of, before, contains_at, suspended_by_device}

-- ---- a track that is mapped stays so

abbrev Mapped : (v x : ℕ) → ControlState → Type 0
Mapped v x c = passes (is_mapped x) (volume_of v c.volumes) ≡ true

with_kept : (set : List Bool) (x y : ℕ) → has_track set x ≡ true → has_track (with_track set y) x ≡ true
with_kept set x y is = elim (cases_Bool (nat_eq y x)) [
  | inl same ↦ let here = eqb-true y x same in ap (λ (n : ℕ). get_or (slice_set set n true) x false) here ∙ get_or-set_same set x true false (had_within set x is)
  | inr apart ↦ get_or-set_other set y x true false (λ e. eqb-false y x apart (sym e)) ∙ is
]

all_kept : (set : List Bool) (tracks : List ℕ) (x : ℕ) → has_track set x ≡ true → has_track (with_tracks set tracks) x ≡ true
all_kept set [] x is = is
all_kept set (y ∷ tracks) x is = all_kept (with_track set y) tracks x (with_kept set x y is)

noted_number : (y : ℕ) → Keeps (noted_write y)
noted_number y u = choose u.carried
  where
    choose : (t : Bool) → (let n : Volume = cond t u (record u { map = slice_set u.map y true }) in n.number) ≡ u.number
    choose true = refl
    choose false = refl

noted_mapped : (x y : ℕ) (u : Volume) → is_mapped x u ≡ true → is_mapped x (noted_write y u) ≡ true
noted_mapped x y u is = choose u.carried
  where
    parts : (not u.carried ≡ true) × (has_track u.map x ≡ true)
    parts = and_parts (not u.carried) (has_track u.map x) is

    choose : (t : Bool) → is_mapped x (cond t u (record u { map = slice_set u.map y true })) ≡ true
    choose true = is
    choose false = and_from (not u.carried) (has_track (slice_set u.map y true) x) parts.0 (with_kept u.map x y parts.1)

mapped_writes : (v x : ℕ) (volumes : List Volume) (writes : List Write) → passes (is_mapped x) (volume_of v volumes) ≡ true → passes (is_mapped x) (volume_of v (with_writes volumes writes)) ≡ true
mapped_writes v x volumes [] is = is
mapped_writes v x volumes (w ∷ writes) is =
    mapped_writes v x (with_write volumes w) writes (passes_with (is_mapped x) (is_mapped x) w.volume v (noted_write w.track) (noted_number w.track) (λ u e. e) (noted_mapped x w.track) volumes is)

mapped_formed : (v x : ℕ) (volumes : List Volume) (entries : List WaitingEntry) → passes (is_mapped x) (volume_of v volumes) ≡ true → passes (is_mapped x) (volume_of v (with_formed_copies volumes entries)) ≡ true
mapped_formed v x volumes [] is = is
mapped_formed v x volumes (e ∷ entries) is = mapped_formed v x (with_formed_copy volumes e) entries (passes_with (is_mapped x) (is_mapped x) e.head.volume v formed_track (λ u. refl) (λ u e. e) (λ u e. e) volumes is)

drop_mapped : (x : ℕ) (all : Bool) (tracks : List ℕ) (u : Volume) → is_mapped x u ≡ true → is_mapped x (dropped_volume all tracks u) ≡ true
drop_mapped x all tracks u is = choose all
  where
    had : has_track u.map x ≡ true
    had = (and_parts (not u.carried) (has_track u.map x) is).1

    choose : (t : Bool) → has_track (dropped_map t tracks u.map) x ≡ true
    choose true = has_every (length u.map) x ∙ lt-ltb x (length u.map) (had_within u.map x had)
    choose false = all_kept u.map tracks x had

mapped_dropped : (w : ℕ) (all : Bool) (v x : ℕ) (c : ControlState) → Mapped v x c → Mapped v x (dropped w all c)
mapped_dropped w all v x c is =
    passes_with (is_mapped x) (is_mapped x) w v (dropped_volume all (entry_tracks w c.queue.waiting)) (λ u. refl) (λ u e. e) (drop_mapped x all (entry_tracks w c.queue.waiting)) c.volumes is

mapped_read : (s next : Group) (call : Call) (reply : Reply) (k v x : ℕ) → WentRead s call reply next → k < length s.controls → Mapped v x (control_at s k) → Mapped v x (control_at next k)
mapped_read s _ _ _ k v x (Same call reply none) low is = is
mapped_read s _ _ _ k v x (Joins b) low is = at_with s b.control k (joined b) (Mapped v x) low (λ here. mapped_writes v x (control_at s k).volumes b.writes is) (λ apart. is)
mapped_read s _ _ _ k v x (Copies j w y at slot wanted) low is =
    at_with s j k (copied w y at slot) (Mapped v x) low (λ here. passes_with (is_mapped x) (is_mapped x) w v (copied_track y) (λ u. refl) (λ u e. e) (λ u e. e) (control_at s k).volumes is) (λ apart. is)
mapped_read s _ _ _ k v x (Raises j upto) low is = at_with s j k (raised upto) (Mapped v x) low (λ here. is) (λ apart. is)
mapped_read s _ _ _ k v x (Breaks j upto cause) low is = at_with s j k (broke upto cause) (Mapped v x) low (λ here. is) (λ apart. is)

mapped_drop : (s : Group) (j w : ℕ) (all : Bool) (k v x : ℕ) → k < length s.controls → Mapped v x (control_at s k) → Mapped v x (control_at (with_control j (dropped w all) s) k)
mapped_drop s j w all k v x low is = at_with s j k (dropped w all) (Mapped v x) low (λ here. mapped_dropped w all v x (control_at s k) is) (λ apart. is)

mapped_form : (s : Group) (cut : Stamp) (k v x : ℕ) → k < length s.controls → Mapped v x (control_at s k) → Mapped v x (control_at (formed_at cut s) k)
mapped_form s cut k v x low is =
    subst (Mapped v x) (sym (at_map cut s.controls k low)) (mapped_formed v x (control_at s k).volumes (copies (due cut (control_at s k).queue.waiting)) is)

-- ---- sizes by what is known

abbrev size_found : (v : ℕ) → List (ℕ × ℕ) → Option (ℕ × ℕ)
size_found v sizes = find (λ (u : ℕ × ℕ). nat_eq u.0 v) sizes

abbrev is_of : (n : ℕ) → Option (ℕ × ℕ) → Bool
is_of n None = true
is_of n (Some u) = nat_eq u.1 n

abbrev is_found : Option (ℕ × ℕ) → Bool
is_found None = false
is_found (Some u) = true

sized_by : (n v : ℕ) (volumes : List Volume) → passes_or_none (is_of_size n) (volume_of v volumes) ≡ is_of n (size_found v (sizes_in (map known_volume volumes)))
sized_by n v [] = refl
sized_by n v (u ∷ volumes) = choose (nat_eq u.number v) (sized_by n v volumes)
  where
    choose : (t : Bool) → passes_or_none (is_of_size n) (volume_of v volumes) ≡ is_of n (size_found v (sizes_in (map known_volume volumes)))
        → passes_or_none (is_of_size n) (cond t (Some u) (volume_of v volumes)) ≡ is_of n (cond t (Some (u.number, length u.map)) (size_found v (sizes_in (map known_volume volumes))))
    choose true rest = refl
    choose false rest = rest

kept_by : (v : ℕ) (volumes : List Volume) → passes (λ u. true) (volume_of v volumes) ≡ is_found (size_found v (sizes_in (map known_volume volumes)))
kept_by v [] = refl
kept_by v (u ∷ volumes) = choose (nat_eq u.number v) (kept_by v volumes)
  where
    choose : (t : Bool) → passes (λ (u : Volume). true) (volume_of v volumes) ≡ is_found (size_found v (sizes_in (map known_volume volumes)))
        → passes (λ (u : Volume). true) (cond t (Some u) (volume_of v volumes)) ≡ is_found (cond t (Some (u.number, length u.map)) (size_found v (sizes_in (map known_volume volumes))))
    choose true rest = refl
    choose false rest = rest

module _ (first s : Group) (k v : ℕ) (h : HasSizesOf first s) where
  sized_still : (n : ℕ) → passes_or_none (is_of_size n) (volume_of v (control_at s k).volumes) ≡ passes_or_none (is_of_size n) (volume_of v (control_at first k).volumes)
  sized_still n = sized_by n v (control_at s k).volumes ∙ ap (λ l. is_of n (size_found v l)) (sizes_at first s k h) ∙ sym (sized_by n v (control_at first k).volumes)

  kept_still : is_volume_kept v (control_at s k) ≡ is_volume_kept v (control_at first k)
  kept_still = kept_by v (control_at s k).volumes ∙ ap (λ l. is_found (size_found v l)) (sizes_at first s k h) ∙ sym (kept_by v (control_at first k).volumes)

-- ---- calls that drop a volume with all of its tracks

abbrev is_whole_drop : (k v : ℕ) → Answer → Bool
is_whole_drop k v a = elim a.call [
  | Join b ↦ false
  | NextWanted j ↦ false
  | Copied j w x at slot ↦ false
  | Raise j upto ↦ false
  | Break j upto cause ↦ false
  | Form limit ↦ false
  | Carry j w plan ↦ false
  | Drop j w all ↦ nat_eq j k && (nat_eq w v && all)
  | Resume j w ↦ false
  | Forget j w ↦ false
]

any_filtered : {A : Type 0} (test keep : A → Bool) (items : List A) → list_any test (filter keep items) ≡ true → list_any test items ≡ true
any_filtered test keep [] some = some
any_filtered {A} test keep (y ∷ items) some = choose (any_filtered test keep items) (keep y) some
  where
    choose : (list_any test (filter keep items) ≡ true → list_any test items ≡ true) → (t : Bool) → list_any test (cond t (y ∷ filter keep items) (filter keep items)) ≡ true → list_any test (y ∷ items) ≡ true
    choose others true some = elim (or_cases (test y) (list_any test (filter keep items)) some) [
      | inl here ↦ or_left (test y) (list_any test items) here
      | inr later ↦ or_right (test y) (list_any test items) (others later)
    ]
    choose others false some = or_right (test y) (list_any test items) (others some)

call_whole : (k v : ℕ) (a : Answer) → owed_by_call k v a.call ≡ Some true → is_whole_drop k v a ≡ true
call_whole k v a is = of a.call is
  where
    named : (j w all : Bool) → cond (j && w) (Some all) None ≡ Some true → (j && (w && all)) ≡ true
    named true true true e = refl
    named true true false e = absurd cc
    named true false all e = absurd cc
    named false w all e = absurd cc

    of : (call : Call) → owed_by_call k v call ≡ Some true → is_whole_drop k v (record { call = call; reply = a.reply }) ≡ true
    of (Join b) e = absurd cc
    of (NextWanted j) e = absurd cc
    of (Copied j w x at slot) e = absurd cc
    of (Raise j upto) e = absurd cc
    of (Break j upto cause) e = absurd cc
    of (Form limit) e = absurd cc
    of (Carry j w plan) e = absurd cc
    of (Drop j w all) e = named (nat_eq j k) (nat_eq w v) all e
    of (Resume j w) e = absurd cc
    of (Forget j w) e = absurd cc

-- ---- after a log

-- what is kept of a track of a volume: it is mapped, or a drop with all tracks is still to come
abbrev IsToMap : (k v x : ℕ) → Group → List Answer → Type 0
IsToMap k v x s run = Mapped v x (control_at s k) ⊎ (list_any (is_whole_drop k v) run ≡ true)

module _ (first : Group) (k v x n : ℕ) (below : x < n) (sized : passes_or_none (is_of_size n) (volume_of v (control_at first k).volumes) ≡ true) (kept : is_volume_kept v (control_at first k) ≡ true) where
  not_drop : (call : Call) (reply : Reply) → is_call_of_reader call ≡ true → is_whole_drop k v (record { call = call; reply = reply }) ≡ false
  not_drop (Join b) reply reads = refl
  not_drop (NextWanted j) reply reads = refl
  not_drop (Copied j w y at slot) reply reads = refl
  not_drop (Raise j upto) reply reads = refl
  not_drop (Break j upto cause) reply reads = refl
  not_drop (Form limit) reply reads = absurd cc
  not_drop (Carry j w plan) reply reads = absurd cc
  not_drop (Drop j w all) reply reads = absurd cc
  not_drop (Resume j w) reply reads = absurd cc
  not_drop (Forget j w) reply reads = absurd cc

  read_map : (s : Group) (call : Call) (reply : Reply) (run : List Answer) (next : Group) → k < length s.controls → is_call_of_reader call ≡ true → steps s call reply next → IsToMap k v x s (record { call = call; reply = reply } ∷ run) → IsToMap k v x next run
  read_map s call reply run next low reads is (inl there) = inl (mapped_read s next call reply k v x (went_read s next call reply reads is) low there)
  read_map s call reply run next low reads is (inr some) = elim (or_cases (is_whole_drop k v (record { call = call; reply = reply })) (list_any (is_whole_drop k v) run) some) [
    | inl here ↦ absurd (true≢false (sym here ∙ not_drop call reply reads))
    | inr later ↦ inr later
  ]

  -- A drop with all tracks maps them.
  whole : (s : Group) (j w : ℕ) (all : Bool) → HasSizesOf first s → k < length s.controls → (nat_eq j k && (nat_eq w v && all)) ≡ true → Mapped v x (control_at (with_control j (dropped w all) s) k)
  whole s j w all h low is =
      let one = and_parts (nat_eq j k) (nat_eq w v && all) is in
      let two = and_parts (nat_eq w v) all one.1 in
      at_with s j k (dropped w all) (Mapped v x) low (λ same. here two.0 two.1) (λ apart. absurd (true≢false (sym one.0 ∙ apart)))
    where
      c : ControlState
      c = control_at s k

      here : nat_eq w v ≡ true → all ≡ true → Mapped v x (dropped w all c)
      here same every =
          ap (λ (t : Bool). passes (is_mapped x) (volume_of v (dropped w t c).volumes)) every
          ∙ tested_with (is_mapped x) (λ u. is_mapped x (dropped_volume true (entry_tracks w c.queue.waiting) u)) w v (dropped_volume true (entry_tracks w c.queue.waiting)) (λ u. refl) c.volumes (λ one u found. refl) (λ apart u. absurd (true≢false (sym same ∙ apart)))
          ∙ dropped_mapped n x (entry_tracks w c.queue.waiting) below (volume_of v c.volumes) (sized_still first s k v h n ∙ sized) (kept_still first s k v h ∙ kept)

  mapped_by : (s : Group) (call : Call) (reply : Reply) (run : List Answer) (next : Group) → HasSizesOf first s → k < length s.controls → is_call_of_seat (record { call = call; reply = reply }) ≡ true → steps s call reply next
      → IsToMap k v x s (record { call = call; reply = reply } ∷ run) → IsToMap k v x next run
  mapped_by s (Join b) reply run next h low seat is to_map = read_map s (Join b) reply run next low refl is to_map
  mapped_by s (NextWanted j) reply run next h low seat is to_map = read_map s (NextWanted j) reply run next low refl is to_map
  mapped_by s (Copied j w y at slot) reply run next h low seat is to_map = read_map s (Copied j w y at slot) reply run next low refl is to_map
  mapped_by s (Raise j upto) reply run next h low seat is to_map = read_map s (Raise j upto) reply run next low refl is to_map
  mapped_by s (Break j upto cause) reply run next h low seat is to_map = read_map s (Break j upto cause) reply run next low refl is to_map
  mapped_by s (Form limit) reply run next h low seat is (inl there) = inl (subst (λ (g : Group). Mapped v x (control_at g k)) (sym is.1) (mapped_form s (cut_of s limit) k v x low there))
  mapped_by s (Form limit) reply run next h low seat is (inr later) = inr later
  mapped_by s (Carry j w plan) reply run next h low seat is to_map = absurd cc
  mapped_by s (Drop j w all) reply run next h low seat is (inl there) = inl (subst (λ (g : Group). Mapped v x (control_at g k)) (sym is.1) (mapped_drop s j w all k v x low there))
  mapped_by s (Drop j w all) reply run next h low seat is (inr some) = elim (or_cases (nat_eq j k && (nat_eq w v && all)) (list_any (is_whole_drop k v) run) some) [
    | inl here ↦ inl (subst (λ (g : Group). Mapped v x (control_at g k)) (sym is.1) (whole s j w all h low here))
    | inr later ↦ inr later
  ]
  mapped_by s (Resume j w) reply run next h low seat is to_map = absurd cc
  mapped_by s (Forget j w) reply run next h low seat is to_map = absurd cc

  map_after : (s : Group) (run : List Answer) (end : Group) → Runs s run end → list_all is_call_of_seat run ≡ true → HasSizesOf first s → k < length s.controls → IsToMap k v x s run → Mapped v x (control_at end k)
  map_after s [] end runs seats h low (inl there) = subst (λ (g : Group). Mapped v x (control_at g k)) (sym runs) there
  map_after s [] end runs seats h low (inr some) = absurd (true≢false (sym some))
  map_after s (a ∷ run) end (next, may, is, rest) seats h low to_map =
      let parts = and_parts (is_call_of_reader a.call || is_by_mover a.call) (list_all is_call_of_seat run) seats in
      let by = by_seat a.call parts.0 in
      let count = count_stays s next (sizes_last s s a.call a.reply next refl (by, may, is)) in
      map_after next run end rest parts.1 (sizes_last first s a.call a.reply next h (by, may, is)) (omega (arith, low, count)) (mapped_by s a.call a.reply run next h low parts.0 is to_map)

-- ---- at the start

none_wanted : (x : ℕ) (o : Option Volume) → passes (wants x) o ≡ true → passes (λ u. not u.carried) o ≡ true → ⊥
none_wanted x None wanted dropped = true≢false (sym wanted)
none_wanted x (Some u) wanted dropped = true≢false (sym dropped ∙ ap not (and_parts u.carried (has_track u.plan.wanted x) wanted).0)

-- No copied track waits of a volume that is dropped.
none_copied : (v x : ℕ) (volumes : List Volume) (entries : List WaitingEntry) → list_all (is_entry_of volumes) entries ≡ true → passes (λ u. not u.carried) (volume_of v volumes) ≡ true → list_any (is_copied_to v x) entries ≡ true → ⊥
none_copied v x volumes [] all dropped some = true≢false (sym some)
none_copied v x volumes (e ∷ entries) all dropped some =
    let parts = and_parts (is_entry_of volumes e) (list_all (is_entry_of volumes) entries) all in
    elim (or_cases (is_copied_to v x e) (list_any (is_copied_to v x) entries) some) [
      | inl here ↦
          let one = and_parts e.is_copy (is_whole e.kind && is_queued_on v x e) here in
          let two = and_parts (is_whole e.kind) (is_queued_on v x e) one.1 in
          let on = eqb-true e.head.volume v (and_parts (nat_eq e.head.volume v) (nat_eq e.head.track x) two.1).0 in
          carried_or_not (volume_of v volumes) (subst (λ (i : ℕ). passes (may_wait e) (volume_of i volumes) ≡ true) on parts.0) dropped
      | inr later ↦ none_copied v x volumes entries parts.1 dropped later
    ]
  where
    carried_or_not : (o : Option Volume) → passes (may_wait e) o ≡ true → passes (λ u. not u.carried) o ≡ true → ⊥
    carried_or_not None waits dropped = true≢false (sym waits)
    carried_or_not (Some u) waits dropped = true≢false (sym dropped ∙ ap not (and_parts u.carried (nat_lt e.head.track (length u.map) && not (e.is_copy && has_track u.plan.wanted e.head.track)) waits).0)

-- What a dropped volume owes is mapped.
owed_is_mapped : (v x : ℕ) (c : ControlState) → Sound c → is_dropped v c.volumes ≡ true → is_owed v x c ≡ true → Mapped v x c
owed_is_mapped v x c sound dropped owed = elim (or_cases (is_to_be_copied v x c) (passes (is_mapped x) (volume_of v c.volumes)) owed) [
  | inr there ↦ there
  | inl copied ↦ elim (or_cases (is_wanted v x c.volumes) (list_any (is_copied_to v x) c.queue.waiting) copied) [
    | inl wanted ↦ absurd (none_wanted x (volume_of v c.volumes) wanted dropped)
    | inr waits ↦ absurd (none_copied v x c.volumes c.queue.waiting sound.entries dropped waits)
  ]
]

module _ (size : Sizes) (first end : Group) (log : List Answer) (rows next : List PairRow) (deeds : List Deed) (keeps : IsGroupSound first) (are_sized : AreSized size first) (runs : Runs first log end) (seats : list_all is_call_of_seat log ≡ true) (failed : FailedAreOwed size first rows) (carried : CarriedAsLive first rows)
    (pairs : InPlaces IsSamePair rows next) (owed : OwesExactly rows next (part_of_mover log) deeds) where
  sizes : HasSizesOf first end
  sizes = sizes_stay first first log end runs seats refl

  at_start : (k v x : ℕ) → k < length first.controls → x < size k v → is_volume_kept v (control_at first k) ≡ true → HasRowIn IsDeviceSuspended k v rows → Mapped v x (control_at first k)
  at_start k v x low below kept has =
      let gone = (carried has.row has.among).dropped (suspended_by_device has.row.state has.state) in
      let here = subst (λ (i : ℕ). is_dropped v (control_at first i).volumes ≡ true) has.control (subst (λ (i : ℕ). is_dropped i (control_at first has.row.control).volumes ≡ true) has.volume gone) in
      owed_is_mapped v x (control_at first k) (keeps.sound k (new_control 0 0 0) low) here (failed k v has kept x below)

  -- A row that its device suspends was so before, or a drop has all its tracks.
  hit_or_dropped : (k v : ℕ) → HasRowIn IsDeviceSuspended k v next → HasRowIn IsDeviceSuspended k v rows ⊎ (list_any (is_whole_drop k v) log ≡ true)
  hit_or_dropped k v has = by (is_device_suspended b.row.state) refl
    where
      at : (i : ℕ) × (slice_get next i ≡ Some has.row)
      at = at_of next has.row has.among

      b : Before IsSamePair rows at.0 has.row
      b = before IsSamePair rows next at.0 has.row pairs at.1

      by : (t : Bool) → is_device_suspended b.row.state ≡ t → HasRowIn IsDeviceSuspended k v rows ⊎ (list_any (is_whole_drop k v) log ≡ true)
      by true e = inl (record { row = b.row; among = contains_at rows at.0 b.row b.at; control = ap (λ (x : PairRow). x.control) (sym b.is) ∙ has.control; volume = ap (λ (x : PairRow). x.volume) (sym b.is) ∙ has.volume; state = e })
      by false e =
          let all : owed_by_calls has.row.control has.row.volume (part_of_mover log) ≡ Some true = owed at.0 b.row has.row b.at at.1 ∙ device_owes b.row.state has.row.state (stood_duplex at.0 rows deeds) has.state ∙ (λ i. cond (e i) None (Some true)) in
          let named = subst (λ (j : ℕ). owed_by_calls j v (part_of_mover log) ≡ Some true) has.control (subst (λ (w : ℕ). owed_by_calls has.row.control w (part_of_mover log) ≡ Some true) has.volume all) in
          inr (any_filtered (is_whole_drop k v) is_answer_of_mover log (whole_among (is_whole_drop k v) k v (call_whole k v) (part_of_mover log) named))

  pub failed_owe : FailedAreOwed size end next
  failed_owe k v has kept x below =
      let was = sym (kept_still first end k v sizes) ∙ kept in
      let low = kept_within first k v was in
      let to_map : IsToMap k v x first log = elim (hit_or_dropped k v has) [
        | inl had ↦ inl (at_start k v x low below was had)
        | inr dropped ↦ inr dropped
      ] in
      or_right (is_to_be_copied v x (control_at end k)) (passes (is_mapped x) (volume_of v (control_at end k).volumes)) (map_after first k v x (size k v) below (are_sized k v low) was first log end runs seats refl low to_map)
