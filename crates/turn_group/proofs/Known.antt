-- What each call of a seat makes of the volumes that are known, and that sizes stay.
use Rattle.std.proofs.Common.{◌≡◌, ℕ, zero, suc, Bool, true, false, cond, nat_eq, nat_lt, ◌&&◌, List, [], ◌∷◌, length, get_or, set, map, Some, refl, sym, ap, ◌∙◌, length-set}
use Rattle.std.proofs.lemmas.Bool.{and_parts}
use Rattle.ckd_track.specs.declared.write.Write.{Write}
use Rattle.tod_stamp.specs.declared.stamp.Stamp.{Stamp}
use Rattle.pending_queue.specs.Entries.{WaitingEntry, copies, entry_tracks}
use Rattle.group_state.specs.declared.volume.Volume.{Volume}
use Rattle.group_state.specs.Volumes.{volume_of, with_volume, noted_write, with_write, with_writes, copied_track, formed_track, with_formed_copies, dropped_volume, is_wanted}
use Rattle.group_state.specs.Controls.{ControlState, new_control, fits, fits_track, joined, copied, raised, broke, dropped, formed, due_of}
use Rattle.group_state.specs.Groups.{Group, control_at, with_control, cut_of}
use Rattle.group_state.specs.SoundStates.{passes_or_none, is_track_within, are_within}
use Rattle.group_state.specs.Machine.{Call, Reply, group_after}
use Rattle.group_state.specs.Machine.Call.{Join, NextWanted, Copied, Raise, Break, Form, Carry, Drop, Resume, Forget}
use Rattle.group_state.proofs.SoundLaws.{length_dropped}
use Rattle.turn_group.specs.Notes.{KnownVolume, known_volume, known_of, volumes_known, without_carrying, known_after}
use Rattle.turn_group.specs.Calls.{seat_steps}
use Rattle.group_state.specs.Calls.{is_by_seat}

-- ---- lists

map_set : {A B : Type 0} (f : A → B) (l : List A) (j : ℕ) (d y : A) → f y ≡ f (get_or l j d) → map f (set l j y) ≡ map f l
map_set f [] j d y e = refl
map_set f (x ∷ l) zero d y e = ap (λ z. z ∷ map f l) e
map_set f (x ∷ l) (suc j) d y e = ap (λ t. f x ∷ t) (map_set f l j d y e)

set_map : {A B : Type 0} (f : A → B) (l : List A) (j : ℕ) (y : A) → map f (set l j y) ≡ set (map f l) j (f y)
set_map f [] j y = refl
set_map f (x ∷ l) zero y = refl
set_map f (x ∷ l) (suc j) y = ap (λ t. f x ∷ t) (set_map f l j y)

-- the value of a function at a place of a list, where the function has the other default
pub map_at : {A B : Type 0} (f : A → B) (l : List A) (k : ℕ) (d : A) (e : B) → f d ≡ e → get_or (map f l) k e ≡ f (get_or l k d)
map_at f [] k d e is = sym is
map_at f (x ∷ l) zero d e is = refl
map_at f (x ∷ l) (suc k) d e is = map_at f l k d e is

-- ---- one controller's volumes

known_with : (v : ℕ) (change : Volume → Volume) → ((u : Volume) → known_volume (change u) ≡ known_volume u) → (volumes : List Volume) → map known_volume (with_volume v change volumes) ≡ map known_volume volumes
known_with v change same [] = refl
known_with v change same (u ∷ volumes) = choose (nat_eq u.number v) (known_with v change same volumes)
  where
    choose : (b : Bool) → map known_volume (with_volume v change volumes) ≡ map known_volume volumes → map known_volume (cond b (change u ∷ volumes) (u ∷ with_volume v change volumes)) ≡ known_volume u ∷ map known_volume volumes
    choose true rest = ap (λ z. z ∷ map known_volume volumes) (same u)
    choose false rest = ap (λ t. known_volume u ∷ t) rest

known_written : (x : ℕ) (u : Volume) → known_volume (noted_write x u) ≡ known_volume u
known_written x u = choose u.carried
  where
    choose : (b : Bool) → known_volume (cond b u (record u { map = set u.map x true })) ≡ known_volume u
    choose true = refl
    choose false = λ i. record { number = u.number; carried = u.carried; tracks = length-set u.map x true i }

known_writes : (writes : List Write) (volumes : List Volume) → map known_volume (with_writes volumes writes) ≡ map known_volume volumes
known_writes [] volumes = refl
known_writes (w ∷ writes) volumes = known_writes writes (with_write volumes w) ∙ known_with w.volume (noted_write w.track) (known_written w.track) volumes

known_copies : (entries : List WaitingEntry) (volumes : List Volume) → map known_volume (with_formed_copies volumes entries) ≡ map known_volume volumes
known_copies [] volumes = refl
known_copies (e ∷ entries) volumes = known_copies entries (with_volume e.head.volume formed_track volumes) ∙ known_with e.head.volume formed_track (λ u. refl) volumes

known_dropped : (v : ℕ) (all : Bool) (tracks : List ℕ) (volumes : List Volume) → map known_volume (with_volume v (dropped_volume all tracks) volumes) ≡ without_carrying v (map known_volume volumes)
known_dropped v all tracks [] = refl
known_dropped v all tracks (u ∷ volumes) = choose (nat_eq u.number v) (known_dropped v all tracks volumes)
  where
    choose : (b : Bool) → map known_volume (with_volume v (dropped_volume all tracks) volumes) ≡ without_carrying v (map known_volume volumes)
        → map known_volume (cond b (dropped_volume all tracks u ∷ volumes) (u ∷ with_volume v (dropped_volume all tracks) volumes))
        ≡ cond b (record { number = u.number; carried = false; tracks = length u.map } ∷ map known_volume volumes) (known_volume u ∷ without_carrying v (map known_volume volumes))
    choose true rest = λ i. record { number = u.number; carried = false; tracks = length_dropped all tracks u.map i } ∷ map known_volume volumes
    choose false rest = ap (λ t. known_volume u ∷ t) rest

-- ---- the group's

-- A change of a controller that keeps what is known of its volumes.
pub known_stays : (s : Group) (k : ℕ) (change : ControlState → ControlState) → known_of (change (control_at s k)) ≡ known_of (control_at s k) → volumes_known (with_control k change s) ≡ volumes_known s
known_stays s k change same = map_set known_of s.controls k (new_control 0 0 0) (change (control_at s k)) same

pub known_joined : (s : Group) (k : ℕ) (writes : List Write) → map known_volume (with_writes (control_at s k).volumes writes) ≡ known_of (control_at s k)
known_joined s k writes = known_writes writes (control_at s k).volumes

pub known_copied : (s : Group) (k v x : ℕ) → map known_volume (with_volume v (copied_track x) (control_at s k).volumes) ≡ known_of (control_at s k)
known_copied s k v x = known_with v (copied_track x) (λ u. refl) (control_at s k).volumes

pub known_formed : (cut : Stamp) (controls : List ControlState) → map known_of (map (formed cut) controls) ≡ map known_of controls
known_formed cut [] = refl
known_formed cut (c ∷ controls) = λ i. known_copies (copies (due_of cut c)) c.volumes i ∷ known_formed cut controls i

pub known_drop : (s : Group) (k v : ℕ) (all : Bool) → volumes_known (with_control k (dropped v all) s) ≡ set (volumes_known s) k (without_carrying v (get_or (volumes_known s) k []))
known_drop s k v all =
    let c = control_at s k in
    set_map known_of s.controls k (dropped v all c)
    ∙ ap (λ (l : List KnownVolume). set (volumes_known s) k l) (known_dropped v all (entry_tracks v c.queue.waiting) c.volumes ∙ ap (without_carrying v) (sym (map_at known_of s.controls k (new_control 0 0 0) [] refl)))

-- what is known after a call of a seat
pub known_next : (s : Group) (call : Call) → is_by_seat call ≡ true → volumes_known (group_after s call) ≡ known_after call (volumes_known s)
known_next s (Join b) by = choose (fits (control_at s b.control) b)
  where
    choose : (t : Bool) → volumes_known (cond t (with_control b.control (joined b) s) s) ≡ volumes_known s
    choose true = known_stays s b.control (joined b) (known_joined s b.control b.writes)
    choose false = refl
known_next s (NextWanted k) by = refl
known_next s (Copied k v x at slot) by = choose (is_wanted v x (control_at s k).volumes) (fits_track (control_at s k) slot)
  where
    choose : (t u : Bool) → volumes_known (cond (t && u) (with_control k (copied v x at slot) s) s) ≡ volumes_known s
    choose true true = known_stays s k (copied v x at slot) (known_copied s k v x)
    choose true false = refl
    choose false u = refl
known_next s (Raise k upto) by = known_stays s k (raised upto) refl
known_next s (Break k upto cause) by = known_stays s k (broke upto cause) refl
known_next s (Form limit) by = known_formed (cut_of s limit) s.controls
known_next s (Carry k v plan) by = absurd cc
known_next s (Drop k v all) by = known_drop s k v all
known_next s (Resume k v) by = absurd cc
known_next s (Forget k v) by = absurd cc

-- ---- sizes

abbrev size_of : KnownVolume → ℕ × ℕ
size_of u = (u.number, u.tracks)

abbrev pub sizes_in : List KnownVolume → List (ℕ × ℕ)
sizes_in known = map size_of known

abbrev pub sizes_known : List (List KnownVolume) → List (List (ℕ × ℕ))
sizes_known known = map sizes_in known

-- the volumes of each controller have the numbers and the tracks that they have in the other state
abbrev pub HasSizesOf : Group → Group → Type 0
HasSizesOf first s = sizes_known (volumes_known s) ≡ sizes_known (volumes_known first)

sizes_dropped : (v : ℕ) (known : List KnownVolume) → sizes_in (without_carrying v known) ≡ sizes_in known
sizes_dropped v [] = refl
sizes_dropped v (u ∷ known) = choose (nat_eq u.number v) (sizes_dropped v known)
  where
    choose : (b : Bool) → sizes_in (without_carrying v known) ≡ sizes_in known → sizes_in (cond b (record u { carried = false } ∷ known) (u ∷ without_carrying v known)) ≡ sizes_in (u ∷ known)
    choose true rest = refl
    choose false rest = ap (λ t. size_of u ∷ t) rest

sizes_next : (call : Call) (known : List (List KnownVolume)) → sizes_known (known_after call known) ≡ sizes_known known
sizes_next (Join b) known = refl
sizes_next (NextWanted k) known = refl
sizes_next (Copied k v x at slot) known = refl
sizes_next (Raise k upto) known = refl
sizes_next (Break k upto cause) known = refl
sizes_next (Form limit) known = refl
sizes_next (Carry k v plan) known = refl
sizes_next (Drop k v all) known = map_set sizes_in known k [] (without_carrying v (get_or known k [])) (sizes_dropped v (get_or known k []))
sizes_next (Resume k v) known = refl
sizes_next (Forget k v) known = refl

pub sizes_last : (first s : Group) (call : Call) (reply : Reply) (new : Group) → HasSizesOf first s → seat_steps s call reply new → HasSizesOf first new
sizes_last first s call reply new h step = ap (λ t. sizes_known (volumes_known t)) step.2.1 ∙ (ap sizes_known (known_next s call step.0) ∙ (sizes_next call (volumes_known s) ∙ h))

-- whether a track is below the volume's tracks, by sizes
abbrev is_within : List (ℕ × ℕ) → (v x : ℕ) → Bool
is_within [] v x = true
is_within (u ∷ sizes) v x = cond (nat_eq u.0 v) (nat_lt x u.1) (is_within sizes v x)

within_by : (v x : ℕ) (volumes : List Volume) → is_track_within volumes v x ≡ is_within (sizes_in (map known_volume volumes)) v x
within_by v x [] = refl
within_by v x (u ∷ volumes) = choose (nat_eq u.number v) (within_by v x volumes)
  where
    choose : (b : Bool) → is_track_within volumes v x ≡ is_within (sizes_in (map known_volume volumes)) v x
        → passes_or_none (λ (u : Volume). nat_lt x (length u.map)) (cond b (Some u) (volume_of v volumes)) ≡ cond b (nat_lt x (length u.map)) (is_within (sizes_in (map known_volume volumes)) v x)
    choose true rest = refl
    choose false rest = rest

pub sizes_at : (first s : Group) (k : ℕ) → HasSizesOf first s → sizes_in (known_of (control_at s k)) ≡ sizes_in (known_of (control_at first k))
sizes_at first s k h = sym (at s) ∙ (ap (λ l. get_or l k []) h ∙ at first)
  where
    at : (t : Group) → get_or (sizes_known (volumes_known t)) k [] ≡ sizes_in (known_of (control_at t k))
    at t = map_at sizes_in (volumes_known t) k [] [] refl ∙ ap sizes_in (map_at known_of t.controls k (new_control 0 0 0) [] refl)

pub track_within : (first s : Group) (k v x : ℕ) → HasSizesOf first s → is_track_within (control_at first k).volumes v x ≡ true → is_track_within (control_at s k).volumes v x ≡ true
track_within first s k v x h is = within_by v x (control_at s k).volumes ∙ (ap (λ l. is_within l v x) (sizes_at first s k h) ∙ (sym (within_by v x (control_at first k).volumes) ∙ is))

pub writes_within : (first s : Group) (k : ℕ) (writes : List Write) → HasSizesOf first s → are_within (control_at first k).volumes writes ≡ true → are_within (control_at s k).volumes writes ≡ true
writes_within first s k [] h is = refl
writes_within first s k (w ∷ writes) h is =
    let parts = and_parts (is_track_within (control_at first k).volumes w.volume w.track) (are_within (control_at first k).volumes writes) is in
    rw (track_within first s k w.volume w.track h parts.0) (writes_within first s k writes h parts.1)
