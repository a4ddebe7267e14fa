-- A track that is owed stays so through each call, until a whole image of it is formed.
use Rattle.std.proofs.Common.{◌≡◌, ◌⊎◌, inl, inr, ℕ, Bool, true, false, cond, not, nat_eq, nat_lt, nat_le, ◌&&◌, ◌||◌, ◌<◌, ◌≤◌, List, [], ◌∷◌, ◌++◌, length, filter, get_or, Option, Some, None, refl, sym, ap, subst, ◌∙◌, arith, true≢false, get_or-set_same, get_or-set_other}
use Rattle.std.specs.Prelude.{slice_set}
use Rattle.std.specs.List.{list_any, list_all}
use Rattle.std.proofs.lemmas.Bool.{cases_Bool, and_parts, and_from, or_cases, or_left, or_right, eqb-true, eqb-false, cases_lt, le-leb, lt-ltb}
use Rattle.std.proofs.lemmas.List.{get_or_past}
use Rattle.std.proofs.lemmas.List.Folds.{list_any-append}
use Rattle.std.proofs.lemmas.Map.Views.{any-filter_same}
use Rattle.pair_table.proofs.PutLaws.{number_sym}
use Rattle.tod_stamp.specs.declared.stamp.Stamp.{Stamp}
use Rattle.ckd_track.specs.declared.rec.Rec.{Rec}
use Rattle.ckd_track.specs.declared.write.Batch.{Batch}
use Rattle.ckd_track.specs.declared.write.Write.{Write}
use Rattle.change_map.specs.Sets.{has_track}
use Rattle.change_map.proofs.InSets.{had_within, has_every}
use Rattle.pending_queue.specs.Entries.{WaitingEntry, copies, copy_head, copy_of, due, entries_of, entry_stamp, entry_tracks, is_copy_of, is_of_volume, is_queued_on, is_whole, left}
use Rattle.group_state.specs.declared.volume.Volume.{Volume}
use Rattle.group_state.specs.Volumes.{copied_track, dropped_volume, formed_track, is_wanted, noted_write, passes, volume_of, wants, with_formed_copies, with_formed_copy, with_volume, with_write, with_writes}
use Rattle.group_state.specs.SoundStates.{passes_or_none}
use Rattle.group_state.specs.Controls.{ControlState, new_control, broke, carried_writes, copied, dropped, formed, joined, raised}
use Rattle.group_state.specs.Groups.{Group, control_at, with_control}
use Rattle.group_state.specs.Machine.{Call, Reply}
use Rattle.group_state.proofs.VolumeLaws.{Keeps}
use Rattle.fed_logs.proofs.Tracks.{tested_with}
use Rattle.fed_logs.specs.Logs.{IsPlanDone, is_of_size}
use Rattle.fed_logs.proofs.Went.{WentRead}
use Rattle.fed_logs.proofs.Went.WentRead.{Same, Joins, Copies, Raises, Breaks}
use Rattle.fed_logs.proofs.Standing.{at_with, same_count}
use Rattle.mover.specs.OwedTracks.{is_copied_to, is_mapped, is_owed, is_to_be_copied, is_volume_kept}

-- where the volume is kept the track is owed
abbrev pub OwedLater : (v x : ℕ) → ControlState → Type 0
OwedLater v x c = is_volume_kept v c ≡ true → is_owed v x c ≡ true

-- Only a controller of the state keeps a volume.
pub kept_within : (s : Group) (k v : ℕ) → is_volume_kept v (control_at s k) ≡ true → k < length s.controls
kept_within s k v kept = elim (cases_lt k (length s.controls)) [
  | inl low ↦ low
  | inr high ↦ absurd (let e = sym (ap (is_volume_kept v) (get_or_past s.controls k (new_control 0 0 0) high)) ∙ kept in true≢false (sym e))
]

-- ---- a plan that is done

none_copied : (v x : ℕ) (entries : List WaitingEntry) → list_all (λ e. not (is_copy_of v e)) entries ≡ true → list_any (is_copied_to v x) entries ≡ false
none_copied v x [] none = refl
none_copied v x (e ∷ entries) none =
    let parts = and_parts (not (is_copy_of v e)) (list_all (λ e. not (is_copy_of v e)) entries) none in
    off e.is_copy (is_whole e.kind) (nat_eq e.head.volume v) (nat_eq e.head.track x) (list_any (is_copied_to v x) entries) parts.0 (none_copied v x entries parts.1)
  where
    off : (a b c d rest : Bool) → not (c && a) ≡ true → rest ≡ false → ((a && (b && (c && d))) || rest) ≡ false
    off true true true d rest e is = absurd (true≢false (sym e))
    off true true false d rest e is = is
    off true false c d rest e is = is
    off false b c d rest e is = is

-- Nothing of its volume is owed.
pub done_owes_none : (v x : ℕ) (c : ControlState) → IsPlanDone v c → is_owed v x c ≡ false
done_owes_none v x c done =
    neither (is_to_be_copied v x c) (passes (is_mapped x) (volume_of v c.volumes)) (neither (is_wanted v x c.volumes) (list_any (is_copied_to v x) c.queue.waiting) (done.unwanted x) (none_copied v x c.queue.waiting done.copies)) (unmapped (volume_of v c.volumes) done.carried)
  where
    unmapped : (o : Option Volume) → passes (λ u. u.carried) o ≡ true → passes (is_mapped x) o ≡ false
    unmapped None carried = refl
    unmapped (Some u) carried = ap (λ (b : Bool). not b && has_track u.map x) carried

    neither : (a b : Bool) → a ≡ false → b ≡ false → (a || b) ≡ false
    neither true b e f = absurd (true≢false e)
    neither false b e f = f

-- ---- tests on volumes that calls keep

noted_number : (y : ℕ) → Keeps (noted_write y)
noted_number y u = choose u.carried
  where
    choose : (t : Bool) → (let n : Volume = cond t u (record u { map = slice_set u.map y true }) in n.number) ≡ u.number
    choose true = refl
    choose false = refl

abbrev is_there : Volume → Bool
is_there u = true

noted_wants : (x y : ℕ) (u : Volume) → wants x (noted_write y u) ≡ wants x u
noted_wants x y u = choose u.carried
  where
    choose : (t : Bool) → wants x (cond t u (record u { map = slice_set u.map y true })) ≡ wants x u
    choose true = refl
    choose false = refl

tested_writes : (P : Volume → Bool) → ((y : ℕ) (u : Volume) → P (noted_write y u) ≡ P u) → (v : ℕ) (volumes : List Volume) (writes : List Write) → passes P (volume_of v (with_writes volumes writes)) ≡ passes P (volume_of v volumes)
tested_writes P same v volumes [] = refl
tested_writes P same v volumes (w ∷ writes) = tested_writes P same v (with_write volumes w) writes ∙ tested_with P P w.volume v (noted_write w.track) (noted_number w.track) volumes (λ one u found. same w.track u) (λ apart u. refl)

tested_formed : (P : Volume → Bool) → ((u : Volume) → P (formed_track u) ≡ P u) → (v : ℕ) (volumes : List Volume) (entries : List WaitingEntry) → passes P (volume_of v (with_formed_copies volumes entries)) ≡ passes P (volume_of v volumes)
tested_formed P same v volumes [] = refl
tested_formed P same v volumes (e ∷ entries) = tested_formed P same v (with_formed_copy volumes e) entries ∙ tested_with P P e.head.volume v formed_track (λ u. refl) volumes (λ one u found. same u) (λ apart u. refl)

tested_other : (P : Volume → Bool) (w v : ℕ) (change : Volume → Volume) → Keeps change → nat_eq w v ≡ false → (volumes : List Volume) → passes P (volume_of v (with_volume w change volumes)) ≡ passes P (volume_of v volumes)
tested_other P w v change keeps apart volumes = tested_with P P w v change keeps volumes (λ same u found. absurd (true≢false (sym same ∙ apart))) (λ apart u. refl)

-- what a test that a change may turn to true finds
passes_more : (P : Volume → Bool) (change : Volume → Volume) → ((u : Volume) → P u ≡ true → P (change u) ≡ true) → (o : Option Volume) → passes P o ≡ true → passes (λ u. P (change u)) o ≡ true
passes_more P change more None e = e
passes_more P change more (Some u) e = more u e

tested_more : (P : Volume → Bool) (w v : ℕ) (change : Volume → Volume) → Keeps change → ((u : Volume) → P u ≡ true → P (change u) ≡ true) → (volumes : List Volume) → passes P (volume_of v volumes) ≡ true → passes P (volume_of v (with_volume w change volumes)) ≡ true
tested_more P w v change keeps more volumes e = elim (cases_Bool (nat_eq w v)) [
  | inl same ↦ tested_with P (λ u. P (change u)) w v change keeps volumes (λ one u found. refl) (λ apart u. absurd (true≢false (sym same ∙ apart))) ∙ passes_more P change more (volume_of v volumes) e
  | inr apart ↦ tested_other P w v change keeps apart volumes ∙ e
]

-- a write on a dropped volume takes no track out of its map
noted_mapped : (x y : ℕ) (u : Volume) → is_mapped x u ≡ true → is_mapped x (noted_write y u) ≡ true
noted_mapped x y u is = choose u.carried refl
  where
    parts : (not u.carried ≡ true) × (has_track u.map x ≡ true)
    parts = and_parts (not u.carried) (has_track u.map x) is

    still : has_track (slice_set u.map y true) x ≡ true
    still = elim (cases_Bool (nat_eq y x)) [
      | inl same ↦
          let here = eqb-true y x same in
          ap (λ (n : ℕ). get_or (slice_set u.map n true) x false) here ∙ get_or-set_same u.map x true false (had_within u.map x parts.1)
      | inr apart ↦ get_or-set_other u.map y x true false (λ e. eqb-false y x apart (sym e)) ∙ parts.1
    ]

    choose : (t : Bool) → u.carried ≡ t → is_mapped x (cond t u (record u { map = slice_set u.map y true })) ≡ true
    choose true at = is
    choose false at = and_from (not u.carried) (has_track (slice_set u.map y true) x) parts.0 still

mapped_writes : (v x : ℕ) (volumes : List Volume) (writes : List Write) → passes (is_mapped x) (volume_of v volumes) ≡ true → passes (is_mapped x) (volume_of v (with_writes volumes writes)) ≡ true
mapped_writes v x volumes [] e = e
mapped_writes v x volumes (w ∷ writes) e = mapped_writes v x (with_write volumes w) writes (tested_more (is_mapped x) w.volume v (noted_write w.track) (noted_number w.track) (noted_mapped x w.track) volumes e)

-- ---- each call

abbrev Mapped : (v x : ℕ) → ControlState → Type 0
Mapped v x c = passes (is_mapped x) (volume_of v c.volumes) ≡ true

-- where neither what is kept nor what is wanted or mapped becomes less, and entries come after
more_waits : (v x : ℕ) (c d : ControlState) (more : List WaitingEntry) → is_volume_kept v d ≡ is_volume_kept v c → is_wanted v x d.volumes ≡ is_wanted v x c.volumes → (Mapped v x c → Mapped v x d) → d.queue.waiting ≡ c.queue.waiting ++ more
    → OwedLater v x c → OwedLater v x d
more_waits v x c d more kept wanted mapped waits h there = elim (or_cases (is_to_be_copied v x c) (passes (is_mapped x) (volume_of v c.volumes)) (h (sym kept ∙ there))) [
  | inr map ↦ or_right (is_to_be_copied v x d) (passes (is_mapped x) (volume_of v d.volumes)) (mapped map)
  | inl copied ↦ or_left (is_to_be_copied v x d) (passes (is_mapped x) (volume_of v d.volumes)) (elim (or_cases (is_wanted v x c.volumes) (list_any (is_copied_to v x) c.queue.waiting) copied) [
    | inl still ↦ or_left (is_wanted v x d.volumes) (list_any (is_copied_to v x) d.queue.waiting) (wanted ∙ still)
    | inr copy ↦ or_right (is_wanted v x d.volumes) (list_any (is_copied_to v x) d.queue.waiting)
        (ap (list_any (is_copied_to v x)) waits ∙ list_any-append (is_copied_to v x) c.queue.waiting more ∙ or_left (list_any (is_copied_to v x) c.queue.waiting) (list_any (is_copied_to v x) more) copy)
  ])
]

joins_later : (b : Batch) (v x : ℕ) (c : ControlState) → OwedLater v x c → OwedLater v x (joined b c)
joins_later b v x c = more_waits v x c (joined b c) (entries_of c.queue.control (carried_writes c b)) (tested_writes is_there (λ y u. refl) v c.volumes b.writes) (tested_writes (wants x) (noted_wants x) v c.volumes b.writes) (mapped_writes v x c.volumes b.writes) refl

-- a copied track of the volume waits where it is the track, and makes no difference to another
copied_wants : (x y : ℕ) (u : Volume) → nat_eq y x ≡ false → wants x (copied_track y u) ≡ wants x u
copied_wants x y u apart = ap (λ (b : Bool). u.carried && b) (get_or-set_other u.plan.wanted y x false false (λ e. eqb-false y x apart (sym e)))

abbrev copied_entry : (w y : ℕ) → (at : Stamp) → List Rec → ControlState → List WaitingEntry
copied_entry w y at slot c = copy_of (copy_head c.queue.control w y at) slot ∷ []

copies_later : (w y : ℕ) (at : Stamp) (slot : List Rec) (v x : ℕ) (c : ControlState) → OwedLater v x c → OwedLater v x (copied w y at slot c)
copies_later w y at slot v x c h = elim (cases_Bool (nat_eq w v)) [
  | inr other ↦ more_waits v x c (copied w y at slot c) (copied_entry w y at slot c) (tested_other is_there w v (copied_track y) (λ u. refl) other c.volumes) (tested_other (wants x) w v (copied_track y) (λ u. refl) other c.volumes) mapped refl h
  | inl same ↦ elim (cases_Bool (nat_eq y x)) [
    | inr apart ↦ more_waits v x c (copied w y at slot c) (copied_entry w y at slot c) (tested_with is_there is_there w v (copied_track y) (λ u. refl) c.volumes (λ one u found. refl) (λ apart u. refl))
        (tested_with (wants x) (wants x) w v (copied_track y) (λ u. refl) c.volumes (λ one u found. copied_wants x y u apart) (λ apart u. refl)) mapped refl h
    | inl there ↦ λ kept. or_left (is_to_be_copied v x (copied w y at slot c)) (passes (is_mapped x) (volume_of v (copied w y at slot c).volumes))
        (or_right (is_wanted v x (copied w y at slot c).volumes) (list_any (is_copied_to v x) (c.queue.waiting ++ copied_entry w y at slot c))
        (list_any-append (is_copied_to v x) c.queue.waiting (copied_entry w y at slot c) ∙ or_right (list_any (is_copied_to v x) c.queue.waiting) (list_any (is_copied_to v x) (copied_entry w y at slot c)) (now same there)))
  ]
]
  where
    mapped : Mapped v x c → Mapped v x (copied w y at slot c)
    mapped e = tested_with (is_mapped x) (is_mapped x) w v (copied_track y) (λ u. refl) c.volumes (λ one u found. refl) (λ apart u. refl) ∙ e

    now : nat_eq w v ≡ true → nat_eq y x ≡ true → list_any (is_copied_to v x) (copied_entry w y at slot c) ≡ true
    now same there = rw (same, there) refl

-- ---- a group is formed

-- what waits is taken, or waits still
taken_or_left : (test : WaitingEntry → Bool) (cut : Stamp) (entries : List WaitingEntry) → list_any test entries ≡ true → (list_any test (left cut entries) ≡ true) ⊎ (list_any test (due cut entries) ≡ true)
taken_or_left test cut [] some = absurd (true≢false (sym some))
taken_or_left test cut (e ∷ entries) some =
    choose (nat_lt cut.0 (entry_stamp e)) (nat_le (entry_stamp e) cut.0) (either (cases_lt cut.0 (entry_stamp e))) (or_cases (test e) (list_any test entries) some) (taken_or_left test cut entries)
  where
    either : (cut.0 < entry_stamp e) ⊎ (entry_stamp e ≤ cut.0) → (nat_lt cut.0 (entry_stamp e) ≡ true) ⊎ (nat_le (entry_stamp e) cut.0 ≡ true)
    either (inl later) = inl (lt-ltb cut.0 (entry_stamp e) later)
    either (inr within) = inr (le-leb (entry_stamp e) cut.0 within)

    more : (b : Bool) (xs : List WaitingEntry) → list_any test xs ≡ true → list_any test (cond b (e ∷ xs) xs) ≡ true
    more true xs h = or_right (test e) (list_any test xs) h
    more false xs h = h

    first : (b : Bool) (xs : List WaitingEntry) → b ≡ true → test e ≡ true → list_any test (cond b (e ∷ xs) xs) ≡ true
    first true xs is h = or_left (test e) (list_any test xs) h
    first false xs is h = absurd (true≢false (sym is))

    choose : (l d : Bool) → (l ≡ true) ⊎ (d ≡ true) → (test e ≡ true) ⊎ (list_any test entries ≡ true) → (list_any test entries ≡ true → (list_any test (left cut entries) ≡ true) ⊎ (list_any test (due cut entries) ≡ true))
        → (list_any test (cond l (e ∷ left cut entries) (left cut entries)) ≡ true) ⊎ (list_any test (cond d (e ∷ due cut entries) (due cut entries)) ≡ true)
    choose l d (inl later) (inl here) others = inl (first l (left cut entries) later here)
    choose l d (inr within) (inl here) others = inr (first d (due cut entries) within here)
    choose l d there (inr after) others = elim (others after) [ inl still ↦ inl (more l (left cut entries) still) | inr now ↦ inr (more d (due cut entries) now) ]

pub forms_later : (cut : Stamp) (v x : ℕ) (c : ControlState) → list_any (is_copied_to v x) (due cut c.queue.waiting) ≡ false → OwedLater v x c → OwedLater v x (formed cut c)
forms_later cut v x c none h there = elim (or_cases (is_to_be_copied v x c) (passes (is_mapped x) (volume_of v c.volumes)) (h (sym kept ∙ there))) [
  | inr map ↦ or_right (is_to_be_copied v x (formed cut c)) (passes (is_mapped x) (volume_of v (formed cut c).volumes)) (tested_formed (is_mapped x) (λ u. refl) v c.volumes (copies (due cut c.queue.waiting)) ∙ map)
  | inl copied ↦ or_left (is_to_be_copied v x (formed cut c)) (passes (is_mapped x) (volume_of v (formed cut c).volumes)) (elim (or_cases (is_wanted v x c.volumes) (list_any (is_copied_to v x) c.queue.waiting) copied) [
    | inl still ↦ or_left (is_wanted v x (formed cut c).volumes) (list_any (is_copied_to v x) (left cut c.queue.waiting)) (wanted ∙ still)
    | inr copy ↦ or_right (is_wanted v x (formed cut c).volumes) (list_any (is_copied_to v x) (left cut c.queue.waiting)) (elim (taken_or_left (is_copied_to v x) cut c.queue.waiting copy) [
      | inl waits ↦ waits
      | inr taken ↦ absurd (true≢false (sym taken ∙ none))
    ])
  ])
]
  where
    kept : is_volume_kept v (formed cut c) ≡ is_volume_kept v c
    kept = tested_formed is_there (λ u. refl) v c.volumes (copies (due cut c.queue.waiting))

    wanted : is_wanted v x (formed cut c).volumes ≡ is_wanted v x c.volumes
    wanted = tested_formed (wants x) (λ u. refl) v c.volumes (copies (due cut c.queue.waiting))

-- ---- a volume is dropped

pub kept_after_drop : (w v x : ℕ) → nat_eq w v ≡ false → (entries : List WaitingEntry) → list_any (is_copied_to v x) entries ≡ true → list_any (is_copied_to v x) (filter (λ e. not (is_of_volume w e)) entries) ≡ true
kept_after_drop w v x apart entries some = any-filter_same (is_copied_to v x) (λ e. not (is_of_volume w e)) true other entries ∙ some
  where
    other : (e : WaitingEntry) → is_copied_to v x e ≡ true → not (is_of_volume w e) ≡ true
    other e is =
        let one = and_parts e.is_copy (is_whole e.kind && is_queued_on v x e) is in
        let two = and_parts (is_whole e.kind) (is_queued_on v x e) one.1 in
        let on = eqb-true e.head.volume v (and_parts (nat_eq e.head.volume v) (nat_eq e.head.track x) two.1).0 in
        ap not (ap (λ (n : ℕ). nat_eq n w) on ∙ number_sym v w ∙ apart)

-- the track is in the map of a volume that is dropped with all of its tracks
pub dropped_mapped : (n x : ℕ) (tracks : List ℕ) → x < n → (o : Option Volume) → passes_or_none (is_of_size n) o ≡ true → passes (λ u. true) o ≡ true → passes (λ u. is_mapped x (dropped_volume true tracks u)) o ≡ true
dropped_mapped n x tracks low None sized there = absurd (true≢false (sym there))
dropped_mapped n x tracks low (Some u) sized there =
    let long = eqb-true (length u.map) n sized in
    has_every (length u.map) x ∙ lt-ltb x (length u.map) (omega (arith, low, long))

pub drops_later : (n w : ℕ) (all : Bool) (v x : ℕ) (c : ControlState) → x < n → passes_or_none (is_of_size n) (volume_of v c.volumes) ≡ true → (all ≡ false → IsPlanDone w c) → OwedLater v x c → OwedLater v x (dropped w all c)
drops_later n w all v x c low sized plan h there = elim (cases_Bool (nat_eq w v)) [
  | inl same ↦ or_right (is_to_be_copied v x (dropped w all c)) (passes (is_mapped x) (volume_of v (dropped w all c).volumes)) (of_itself same all refl)
  | inr apart ↦ elim (or_cases (is_to_be_copied v x c) (passes (is_mapped x) (volume_of v c.volumes)) (h (sym (tested_other is_there w v (dropped_volume all (entry_tracks w c.queue.waiting)) (λ u. refl) apart c.volumes) ∙ there))) [
    | inr map ↦ or_right (is_to_be_copied v x (dropped w all c)) (passes (is_mapped x) (volume_of v (dropped w all c).volumes)) (tested_other (is_mapped x) w v (dropped_volume all (entry_tracks w c.queue.waiting)) (λ u. refl) apart c.volumes ∙ map)
    | inl copied ↦ or_left (is_to_be_copied v x (dropped w all c)) (passes (is_mapped x) (volume_of v (dropped w all c).volumes)) (elim (or_cases (is_wanted v x c.volumes) (list_any (is_copied_to v x) c.queue.waiting) copied) [
      | inl still ↦ or_left (is_wanted v x (dropped w all c).volumes) (list_any (is_copied_to v x) (dropped w all c).queue.waiting) (tested_other (wants x) w v (dropped_volume all (entry_tracks w c.queue.waiting)) (λ u. refl) apart c.volumes ∙ still)
      | inr copy ↦ or_right (is_wanted v x (dropped w all c).volumes) (list_any (is_copied_to v x) (dropped w all c).queue.waiting) (kept_after_drop w v x apart c.queue.waiting copy)
    ])
  ]
]
  where
    kept_before : nat_eq w v ≡ true → is_volume_kept v c ≡ true
    kept_before same = sym (tested_with is_there is_there w v (dropped_volume all (entry_tracks w c.queue.waiting)) (λ u. refl) c.volumes (λ one u found. refl) (λ apart u. refl)) ∙ there

    of_itself : nat_eq w v ≡ true → (t : Bool) → all ≡ t → passes (is_mapped x) (volume_of v (dropped w all c).volumes) ≡ true
    of_itself same true is =
        ap (λ (t : Bool). passes (is_mapped x) (volume_of v (dropped w t c).volumes)) is
        ∙ tested_with (is_mapped x) (λ u. is_mapped x (dropped_volume true (entry_tracks w c.queue.waiting) u)) w v (dropped_volume true (entry_tracks w c.queue.waiting)) (λ u. refl) c.volumes (λ one u found. refl) (λ apart u. absurd (true≢false (sym same ∙ apart)))
        ∙ dropped_mapped n x (entry_tracks w c.queue.waiting) low (volume_of v c.volumes) sized (kept_before same)
    of_itself same false is =
        let done : IsPlanDone v c = subst (λ (i : ℕ). IsPlanDone i c) (eqb-true w v same) (plan is) in
        absurd (true≢false (sym (h (kept_before same)) ∙ done_owes_none v x c done))

-- ---- readers' calls

pub read_later : (s next : Group) (call : Call) (reply : Reply) (k v x : ℕ) → WentRead s call reply next → k < length s.controls → OwedLater v x (control_at s k) → OwedLater v x (control_at next k)
read_later s _ _ _ k v x (Same call reply none) low h = h
read_later s _ _ _ k v x (Joins b) low h = at_with s b.control k (joined b) (OwedLater v x) low (λ is. joins_later b v x (control_at s k) h) (λ apart. h)
read_later s _ _ _ k v x (Copies j w y at slot wanted) low h = at_with s j k (copied w y at slot) (OwedLater v x) low (λ is. copies_later w y at slot v x (control_at s k) h) (λ apart. h)
read_later s _ _ _ k v x (Raises j upto) low h = at_with s j k (raised upto) (OwedLater v x) low (λ is. h) (λ apart. h)
read_later s _ _ _ k v x (Breaks j upto cause) low h = at_with s j k (broke upto cause) (OwedLater v x) low (λ is. h) (λ apart. h)

-- A volume that is kept after a call is one of a controller that was there before.
pub read_within : (s next : Group) (call : Call) (reply : Reply) (k v : ℕ) → WentRead s call reply next → is_volume_kept v (control_at next k) ≡ true → k < length s.controls
read_within s _ _ _ k v (Same call reply none) kept = kept_within s k v kept
read_within s _ _ _ k v (Joins b) kept = let low = kept_within (with_control b.control (joined b) s) k v kept in omega (arith, low, same_count s b.control (joined b))
read_within s _ _ _ k v (Copies j w y at slot wanted) kept = let low = kept_within (with_control j (copied w y at slot) s) k v kept in omega (arith, low, same_count s j (copied w y at slot))
read_within s _ _ _ k v (Raises j upto) kept = let low = kept_within (with_control j (raised upto) s) k v kept in omega (arith, low, same_count s j (raised upto))
read_within s _ _ _ k v (Breaks j upto cause) kept = let low = kept_within (with_control j (broke upto cause) s) k v kept in omega (arith, low, same_count s j (broke upto cause))

-- ---- what is kept

pub kept_formed : (cut : Stamp) (v : ℕ) (c : ControlState) → is_volume_kept v (formed cut c) ≡ is_volume_kept v c
kept_formed cut v c = tested_formed is_there (λ u. refl) v c.volumes (copies (due cut c.queue.waiting))

pub kept_dropped : (w : ℕ) (all : Bool) (v : ℕ) (c : ControlState) → is_volume_kept v (dropped w all c) ≡ is_volume_kept v c
kept_dropped w all v c = tested_with is_there is_there w v (dropped_volume all (entry_tracks w c.queue.waiting)) (λ u. refl) c.volumes (λ one u found. refl) (λ apart u. refl)

abbrev SameKept : Group → (k v : ℕ) → ControlState → Type 0
SameKept s k v c = is_volume_kept v c ≡ is_volume_kept v (control_at s k)

pub kept_read : (s next : Group) (call : Call) (reply : Reply) (k v : ℕ) → WentRead s call reply next → k < length s.controls → is_volume_kept v (control_at next k) ≡ is_volume_kept v (control_at s k)
kept_read s _ _ _ k v (Same call reply none) low = refl
kept_read s _ _ _ k v (Joins b) low = at_with s b.control k (joined b) (SameKept s k v) low (λ is. tested_writes is_there (λ y u. refl) v (control_at s k).volumes b.writes) (λ apart. refl)
kept_read s _ _ _ k v (Copies j w y at slot wanted) low = at_with s j k (copied w y at slot) (SameKept s k v) low (λ is. tested_with is_there is_there w v (copied_track y) (λ u. refl) (control_at s k).volumes (λ one u found. refl) (λ apart u. refl)) (λ apart. refl)
kept_read s _ _ _ k v (Raises j upto) low = at_with s j k (raised upto) (SameKept s k v) low (λ is. refl) (λ apart. refl)
kept_read s _ _ _ k v (Breaks j upto cause) low = at_with s j k (broke upto cause) (SameKept s k v) low (λ is. refl) (λ apart. refl)
