-- The writes that wait on a track which is carried are those of the trace after the last cut.
use Rattle.std.proofs.Common.{◌≡◌, ℕ, ◌<◌, ◌≤◌, Bool, true, false, not, cond, nat_eq, nat_lt, nat_le, ◌&&◌, ◌||◌, List, [], ◌∷◌, ◌++◌, filter, length, ◌⊎◌, Option, Some, None, inl, inr, refl, sym, ap, subst, ◌∙◌, arith, get_or-set_other, true≢false}
use Rattle.std.specs.Prelude.{fold, min, slice_set}
use Rattle.std.specs.List.{list_all, list_any}
use Rattle.std.proofs.lemmas.Bool.{and_from, and_left, and_parts, and_right, cases_lt, eq-eqb, eqb-false, eqb-true, le-leb, le-ltb, leb-true, lt-ltb, or_right}
use Rattle.std.proofs.lemmas.List.Folds.{list_all-append, list_any-append}
use Rattle.tod_stamp.specs.declared.stamp.Stamp.{Stamp}
use Rattle.ckd_track.specs.declared.rec.Rec.{Rec}
use Rattle.ckd_track.specs.declared.write.Batch.{Batch}
use Rattle.ckd_track.specs.declared.write.Write.{Write}
use Rattle.write_trace.specs.declared.entry.Entry.{Entry}
use Rattle.write_trace.specs.declared.trace.Trace.{Trace}
use Rattle.write_trace.specs.Writes.{writes_of}
use Rattle.primary_ctl.specs.States.{is_on}
use Rattle.pending_queue.specs.Entries.{WaitingEntry, copies, copy_head, copy_of, due, entries_of, entry_stamp, entry_tracks, is_later, is_of_volume, is_queued_on, without_volume}
use Rattle.group_state.specs.declared.volume.Volume.{Volume}
use Rattle.group_state.specs.Volumes.{carries, copied_track, dropped_volume, is_carried, noted_write, passes, volume_of, with_volume, with_write, with_writes}
use Rattle.group_state.specs.Controls.{ControlState, broke, carried_writes, copied, counts, dropped, formed, joined, lesser, raised}
use Rattle.group_state.specs.Groups.{Group, control_at, formed_at, with_control}
use Rattle.group_state.specs.Machine.{Call, Reply}
use Rattle.group_state.specs.Runs.{May}
use Rattle.group_state.specs.SoundStates.{Sound, are_up_to, has_reported}
use Rattle.group_state.specs.Calls.{is_by_reader}
use Rattle.group_state.proofs.SoundLaws.{written_keeps}
use Rattle.fed_logs.specs.ToldTracks.{floor_of, has_changed, has_no_later_copy, is_no_later_copy}
use Rattle.fed_logs.specs.Feeds.{IsFedBy, entries_between}
use Rattle.fed_logs.proofs.Keeping.{at_map, reported_to_last}
use Rattle.fed_logs.proofs.Standing.{at_with}
use Rattle.fed_logs.proofs.Tracks.{tested_with}
use Rattle.fed_logs.proofs.Went.{WentRead}
use Rattle.fed_logs.proofs.Went.WentRead.{Same, Joins, Copies, Raises, Breaks}
use Rattle.xrc_session.specs.Maps.{has_write_between}
use Rattle.xrc_session.proofs.MapsWrites.{or_none, written_none, written_on}
use Rattle.xrc_session.proofs.MapsVolumes.{formed_same, other_dropped}

-- an entry on a track, stamped above a time
abbrev pub waits_after : (volume track time : ℕ) → WaitingEntry → Bool
waits_after v x time e = is_queued_on v x e && nat_lt time (entry_stamp e)

abbrev Carries : (v x : ℕ) → ControlState → Type 0
Carries v x c = passes (carries x) (volume_of v c.volumes) ≡ true

-- Some entry waits above a time on a track that is carried exactly if the trace writes there from that time to the controller's floor. The time isn't
-- below the last cut, nor below a copied track that waits there.
pub record WaitsAsWritten (t : Trace) (last : ℕ) (c : ControlState) : Type 0 where
  pub waits : (v x time : ℕ) → passes (carries x) (volume_of v c.volumes) ≡ true → has_no_later_copy v x time c.queue.waiting ≡ true → last ≤ time
      → list_any (waits_after v x time) c.queue.waiting ≡ has_write_between t v x time c.floor.0

-- ---- lists

any_kept : {X : Type 0} (test keep : X → Bool) (xs : List X) → ((x : X) → keep x ≡ false → test x ≡ false) → list_any test (filter keep xs) ≡ list_any test xs
any_kept test keep [] none = refl
any_kept {X} test keep (x ∷ xs) none = choose (keep x) refl (any_kept test keep xs none)
  where
    choose : (b : Bool) → keep x ≡ b → list_any test (filter keep xs) ≡ list_any test xs → list_any test (cond b (x ∷ filter keep xs) (filter keep xs)) ≡ (test x || list_any test xs)
    choose true is rest = ap (λ (b : Bool). test x || b) rest
    choose false is rest = rest ∙ ap (λ (b : Bool). b || list_any test xs) (sym (none x is))

all_left : {X : Type 0} (test keep : X → Bool) (xs : List X) → ((x : X) → keep x ≡ false → test x ≡ true) → list_all test (filter keep xs) ≡ true → list_all test xs ≡ true
all_left test keep [] passed e = refl
all_left {X} test keep (x ∷ xs) passed e = choose (keep x) refl (all_left test keep xs passed) e
  where
    choose : (b : Bool) → keep x ≡ b → (list_all test (filter keep xs) ≡ true → list_all test xs ≡ true) → list_all test (cond b (x ∷ filter keep xs) (filter keep xs)) ≡ true → (test x && list_all test xs) ≡ true
    choose true is rest e = let parts = and_parts (test x) (list_all test (filter keep xs)) e in and_from (test x) (list_all test xs) parts.0 (rest parts.1)
    choose false is rest e = and_from (test x) (list_all test xs) (passed x is) (rest e)

-- Nothing waits above a time to which all entries are stamped.
pub none_after : (v x time : ℕ) (floor : Stamp) (entries : List WaitingEntry) → floor.0 ≤ time → are_up_to floor entries ≡ true → list_any (waits_after v x time) entries ≡ false
none_after v x time floor [] low up = refl
none_after v x time floor (e ∷ entries) low up =
    let parts = and_parts (nat_le (entry_stamp e) floor.0) (are_up_to floor entries) up in
    let stamp = leb-true (entry_stamp e) floor.0 parts.0 in
    ap (λ (b : Bool). b || list_any (waits_after v x time) entries) (and_right (is_queued_on v x e) (nat_lt time (entry_stamp e)) (le-ltb time (entry_stamp e) (omega (arith, stamp, low))))
    ∙ none_after v x time floor entries low parts.1

-- ---- at rest

-- Where the floor isn't above the last cut, nothing waits that was written after it.
pub waits_first : (t : Trace) (last : ℕ) (c : ControlState) → Sound c → c.floor.0 ≤ last → WaitsAsWritten t last c
waits_first t last c sound low = record {
  waits = λ v x time live copies from.
      none_after v x time c.floor c.queue.waiting (omega (arith, low, from)) sound.stamps ∙ sym (written_none t v x time c.floor.0 (omega (arith, low, from)));
}

-- ---- a batch

noted_carries : (x y : ℕ) (u : Volume) → carries x (noted_write y u) ≡ carries x u
noted_carries x y u = choose u.carried refl
  where
    choose : (b : Bool) → u.carried ≡ b → carries x (cond b u (record u { map = slice_set u.map y true })) ≡ carries x u
    choose true is = refl
    choose false is = refl

carries_writes : (v x : ℕ) (volumes : List Volume) (writes : List Write) → passes (carries x) (volume_of v (with_writes volumes writes)) ≡ passes (carries x) (volume_of v volumes)
carries_writes v x volumes [] = refl
carries_writes v x volumes (w ∷ writes) =
    carries_writes v x (with_write volumes w) writes
    ∙ tested_with (carries x) (carries x) w.volume v (noted_write w.track) (written_keeps w.track) volumes (λ same u found. noted_carries x w.track u) (λ apart u. refl)

-- The writes on a track that is carried are carried.
any_carried : (k v x time : ℕ) (volumes : List Volume) (writes : List Write) → passes (carries x) (volume_of v volumes) ≡ true
    → list_any (waits_after v x time) (entries_of k (filter (is_carried volumes) writes)) ≡ list_any (λ w. is_on v x w && nat_lt time w.stamp.0) writes
any_carried k v x time volumes [] live = refl
any_carried k v x time volumes (w ∷ writes) live = choose (is_on v x w) refl (is_carried volumes w) refl (any_carried k v x time volumes writes live)
  where
    on : is_on v x w ≡ true → is_carried volumes w ≡ true
    on is =
        let parts = and_parts (nat_eq w.volume v) (nat_eq w.track x) is in
        ap (λ (i : ℕ). passes (carries i) (volume_of w.volume volumes)) (eqb-true w.track x parts.1) ∙ ap (λ (i : ℕ). passes (carries x) (volume_of i volumes)) (eqb-true w.volume v parts.0) ∙ live

    choose : (a : Bool) → is_on v x w ≡ a → (b : Bool) → is_carried volumes w ≡ b → list_any (waits_after v x time) (entries_of k (filter (is_carried volumes) writes)) ≡ list_any (λ w. is_on v x w && nat_lt time w.stamp.0) writes
        → list_any (waits_after v x time) (entries_of k (cond b (w ∷ filter (is_carried volumes) writes) (filter (is_carried volumes) writes))) ≡ ((a && nat_lt time w.stamp.0) || list_any (λ w. is_on v x w && nat_lt time w.stamp.0) writes)
    choose a at true is rest = λ i. (at i && nat_lt time w.stamp.0) || rest i
    choose true at false is rest = absurd (true≢false (sym (on at) ∙ is))
    choose false at false is rest = rest

pub waits_joined : (t : Trace) (last : ℕ) (b : Batch) (c : ControlState) → c.floor.0 ≤ b.upto.0 → b.writes ≡ writes_of (entries_between t c.floor.0 b.upto.0) → WaitsAsWritten t last c → WaitsAsWritten t last (joined b c)
waits_joined t last b c up writes h = record {
  waits = λ v x time live copies from.
      let more = entries_of c.queue.control (carried_writes c b) in
      let was = sym (carries_writes v x c.volumes b.writes) ∙ live in
      let before = (and_parts (has_no_later_copy v x time c.queue.waiting) (has_no_later_copy v x time more) (sym (list_all-append (is_no_later_copy v x time) c.queue.waiting more) ∙ copies)).0 in
      list_any-append (waits_after v x time) c.queue.waiting more
      ∙ ap (λ (a : Bool). a || list_any (waits_after v x time) more) (h.waits v x time was before from)
      ∙ ap (λ (a : Bool). has_write_between t v x time c.floor.0 || a) (any_carried c.queue.control v x time c.volumes b.writes was ∙ ap (list_any (λ w. is_on v x w && nat_lt time w.stamp.0)) writes)
      ∙ written_on t v x time c.floor.0 b.upto.0 up;
}

-- ---- a copied track

pub waits_copied : (t : Trace) (last w y : ℕ) (at : Stamp) (slot : List Rec) (c : ControlState) → Sound c → at ≡ c.floor → WaitsAsWritten t last c → WaitsAsWritten t last (copied w y at slot c)
waits_copied t last w y at slot c sound floor h = record { waits = λ v x time live copies from. choose v x time (nat_eq w v && nat_eq y x) refl live copies from }
  where
    new : WaitingEntry
    new = copy_of (copy_head c.queue.control w y at) slot

    up : at.0 ≤ c.floor.0
    up = let is = ap (λ (s : Stamp). s.0) floor in omega (arith, is)

    -- the copied track itself
    here : (v x time : ℕ) → (nat_eq w v && nat_eq y x) ≡ true → has_no_later_copy v x time (c.queue.waiting ++ new ∷ []) ≡ true → list_any (waits_after v x time) (c.queue.waiting ++ new ∷ []) ≡ has_write_between t v x time c.floor.0
    here v x time same copies =
        let last_one = (and_parts (has_no_later_copy v x time c.queue.waiting) (is_no_later_copy v x time new && true) (sym (list_all-append (is_no_later_copy v x time) c.queue.waiting (new ∷ [])) ∙ copies)).1 in
        let within : nat_le at.0 time ≡ true = flag (nat_eq w v && nat_eq y x) (nat_le at.0 time) same last_one in
        let stamp = leb-true at.0 time within in
        let low : c.floor.0 ≤ time = (let is = ap (λ (s : Stamp). s.0) floor in omega (arith, is, stamp)) in
        list_any-append (waits_after v x time) c.queue.waiting (new ∷ [])
        ∙ ap (λ (a : Bool). a || list_any (waits_after v x time) (new ∷ [])) (none_after v x time c.floor c.queue.waiting low sound.stamps)
        ∙ ap (λ (a : Bool). a || false) (and_right (nat_eq w v && nat_eq y x) (nat_lt time at.0) (le-ltb time at.0 stamp))
        ∙ sym (written_none t v x time c.floor.0 low)
      where
        flag : (a b : Bool) → a ≡ true → ((not a || b) && true) ≡ true → b ≡ true
        flag true true is e = refl
        flag true false is e = absurd (true≢false (sym e))
        flag false b is e = absurd (true≢false (sym is))

    carries_same : (v x : ℕ) → (nat_eq w v && nat_eq y x) ≡ false → passes (carries x) (volume_of v (with_volume w (copied_track y) c.volumes)) ≡ passes (carries x) (volume_of v c.volumes)
    carries_same v x other = tested_with (carries x) (carries x) w v (copied_track y) (λ u. refl) c.volumes
        (λ one u found. ap (λ (b : Bool). u.carried && not b) (get_or-set_other u.plan.wanted y x false false (λ e. eqb-false y x (sym (ap (λ (b : Bool). b && nat_eq y x) one) ∙ other) (sym e)))) (λ apart u. refl)

    choose : (v x time : ℕ) (b : Bool) → (nat_eq w v && nat_eq y x) ≡ b → passes (carries x) (volume_of v (with_volume w (copied_track y) c.volumes)) ≡ true → has_no_later_copy v x time (c.queue.waiting ++ new ∷ []) ≡ true → last ≤ time
        → list_any (waits_after v x time) (c.queue.waiting ++ new ∷ []) ≡ has_write_between t v x time c.floor.0
    choose v x time true same live copies from = here v x time same copies
    choose v x time false other live copies from =
        let before = (and_parts (has_no_later_copy v x time c.queue.waiting) (is_no_later_copy v x time new && true) (sym (list_all-append (is_no_later_copy v x time) c.queue.waiting (new ∷ [])) ∙ copies)).0 in
        list_any-append (waits_after v x time) c.queue.waiting (new ∷ [])
        ∙ ap (λ (a : Bool). list_any (waits_after v x time) c.queue.waiting || ((a && nat_lt time at.0) || false)) other
        ∙ or_none (list_any (waits_after v x time) c.queue.waiting)
        ∙ h.waits v x time (sym (carries_same v x other) ∙ live) before from

-- ---- the floor goes up

pub waits_up : (t : Trace) (last : ℕ) (c d : ControlState) → d.queue.waiting ≡ c.queue.waiting → d.volumes ≡ c.volumes → c.floor.0 ≤ d.floor.0 → entries_between t c.floor.0 d.floor.0 ≡ [] → WaitsAsWritten t last c → WaitsAsWritten t last d
waits_up t last c d waiting volumes up none h = record {
  waits = λ v x time live copies from.
      ap (list_any (waits_after v x time)) waiting
      ∙ h.waits v x time (ap (λ (us : List Volume). passes (carries x) (volume_of v us)) (sym volumes) ∙ live) (ap (has_no_later_copy v x time) (sym waiting) ∙ copies) from
      ∙ sym (or_none (has_write_between t v x time c.floor.0))
      ∙ ap (λ (entries : List Entry). has_write_between t v x time c.floor.0 || list_any (λ w. is_on v x w && nat_lt time w.stamp.0) (writes_of entries)) (sym none)
      ∙ written_on t v x time c.floor.0 d.floor.0 up;
}

-- ---- a form

pub waits_formed : (t : Trace) (last : ℕ) (cut : Stamp) (c : ControlState) → last ≤ cut.0 → WaitsAsWritten t last c → WaitsAsWritten t cut.0 (formed cut c)
waits_formed t last cut c up h = record {
  waits = λ v x time live copies from.
      any_kept (waits_after v x time) (is_later cut) c.queue.waiting (λ e early. and_right (is_queued_on v x e) (nat_lt time (entry_stamp e)) (le-ltb time (entry_stamp e) (let low = early_stamp e early in omega (arith, low, from))))
      ∙ h.waits v x time (sym (carries_formed v x) ∙ live)
      (all_left (is_no_later_copy v x time) (is_later cut) c.queue.waiting (λ e early. or_right (not (e.is_copy && is_queued_on v x e)) (nat_le (entry_stamp e) time) (le-leb (entry_stamp e) time (let low = early_stamp e early in omega (arith, low, from)))) copies)
      (omega (arith, up, from));
}
  where
    early_stamp : (e : WaitingEntry) → is_later cut e ≡ false → entry_stamp e ≤ cut.0
    early_stamp e early = choose (cases_lt cut.0 (entry_stamp e))
      where
        choose : (cut.0 < entry_stamp e) ⊎ (entry_stamp e ≤ cut.0) → entry_stamp e ≤ cut.0
        choose (inl above) = absurd (true≢false (sym (lt-ltb cut.0 (entry_stamp e) above) ∙ early))
        choose (inr low) = low

    carries_formed : (v x : ℕ) → passes (carries x) (volume_of v (formed cut c).volumes) ≡ passes (carries x) (volume_of v c.volumes)
    carries_formed v x = formed_same (carries x) (λ u. refl) v c.volumes (copies (due cut c.queue.waiting))

-- ---- a drop

pub waits_dropped : (t : Trace) (last w : ℕ) (all : Bool) (c : ControlState) → WaitsAsWritten t last c → WaitsAsWritten t last (dropped w all c)
waits_dropped t last w all c h = record { waits = λ v x time live copies from. choose v x time (nat_eq w v) refl live copies from }
  where
    gone : (v x : ℕ) → nat_eq w v ≡ true → passes (carries x) (volume_of v (dropped w all c).volumes) ≡ true → ⊥
    gone v x same live = true≢false (sym live ∙ tested_with (carries x) (λ u. false) w v (dropped_volume all (entry_tracks w c.queue.waiting)) (λ u. refl) c.volumes (λ one u found. refl) (λ apart u. absurd (true≢false (sym same ∙ apart))) ∙ never (volume_of v c.volumes))
      where
        never : (o : Option Volume) → passes (λ u. false) o ≡ false
        never None = refl
        never (Some u) = refl

    off : (v x time : ℕ) → nat_eq w v ≡ false → (e : WaitingEntry) → not (is_of_volume w e) ≡ false → is_queued_on v x e ≡ false
    off v x time apart e out = and_left (nat_eq e.head.volume v) (nat_eq e.head.track x) (other (nat_eq e.head.volume w) refl out)
      where
        other : (b : Bool) → nat_eq e.head.volume w ≡ b → not b ≡ false → nat_eq e.head.volume v ≡ false
        other true is none = ap (λ (n : ℕ). nat_eq n v) (eqb-true e.head.volume w is) ∙ apart
        other false is none = absurd (true≢false none)

    choose : (v x time : ℕ) (b : Bool) → nat_eq w v ≡ b → passes (carries x) (volume_of v (dropped w all c).volumes) ≡ true → has_no_later_copy v x time (without_volume w c.queue.waiting) ≡ true → last ≤ time
        → list_any (waits_after v x time) (without_volume w c.queue.waiting) ≡ has_write_between t v x time c.floor.0
    choose v x time true same live copies from = absurd (gone v x same live)
    choose v x time false apart live copies from =
        any_kept (waits_after v x time) (λ e. not (is_of_volume w e)) c.queue.waiting (λ e out. and_left (is_queued_on v x e) (nat_lt time (entry_stamp e)) (off v x time apart e out))
        ∙ h.waits v x time (sym (other_dropped (carries x) w v all (entry_tracks w c.queue.waiting) apart c.volumes) ∙ live)
        (all_left (is_no_later_copy v x time) (λ e. not (is_of_volume w e)) c.queue.waiting (λ e out. free e.is_copy (is_queued_on v x e) (nat_le (entry_stamp e) time) (off v x time apart e out)) copies) from
      where
        free : (a b d : Bool) → b ≡ false → (not (a && b) || d) ≡ true
        free true b d is = ap (λ (e : Bool). not e || d) is
        free false b d is = refl

-- ---- in a log

module _ (t : Trace) (k : ℕ) (s : Group) (low : k < length s.controls) (sound : Sound (control_at s k)) (h : WaitsAsWritten t s.last.0 (control_at s k)) where
  abbrev Waits : ControlState → Type 0
  Waits c = WaitsAsWritten t s.last.0 c

  pub read_waits : (call : Call) (reply : Reply) (next : Group) → WentRead s call reply next → May s call → (is_by_reader k call ≡ true → has_changed reply ≡ true → IsFedBy t (floor_of s k) call) → Waits (control_at next k)
  read_waits _ _ _ (Same call reply none) may fed = h
  read_waits _ _ _ (Joins b) may fed = at_with s b.control k (joined b) Waits low
      (λ is. waits_joined t s.last.0 b (control_at s k) (subst (λ (i : ℕ). floor_of s i ≤ b.upto.0) is may.legal.tells.up) (fed (eq-eqb b.control k is) refl).0.writes h) (λ apart. h)
  read_waits _ _ _ (Copies j w y at slot wanted) may fed = at_with s j k (copied w y at slot) Waits low
      (λ is. waits_copied t s.last.0 w y at slot (control_at s k) sound (subst (λ (i : ℕ). at ≡ (control_at s i).floor) is may.1.floor) h) (λ apart. h)
  read_waits _ _ _ (Raises j upto) may fed = at_with s j k (raised upto) Waits low
      (λ is. waits_up t s.last.0 (control_at s k) (raised upto (control_at s k)) refl refl (subst (λ (i : ℕ). floor_of s i ≤ upto.0) is may.1.up) (fed (eq-eqb j k is) refl).0 h) (λ apart. h)
  read_waits _ _ _ (Breaks j upto cause) may fed = at_with s j k (broke upto cause) Waits low
      (λ is. waits_up t s.last.0 (control_at s k) (broke upto cause (control_at s k)) refl refl (subst (λ (i : ℕ). floor_of s i ≤ upto.0) is may.1.up) (fed (eq-eqb j k is) refl).0 h) (λ apart. h)

  pub form_waits : (cut : Stamp) → s.last.0 ≤ cut.0 → WaitsAsWritten t cut.0 (control_at (formed_at cut s) k)
  form_waits cut up = subst (WaitsAsWritten t cut.0) (sym (at_map cut s.controls k low)) (waits_formed t s.last.0 cut (control_at s k) up h)

  pub drop_waits : (j w : ℕ) (all : Bool) → Waits (control_at (with_control j (dropped w all) s) k)
  drop_waits j w all = at_with s j k (dropped w all) Waits low (λ is. waits_dropped t s.last.0 w all (control_at s k) h) (λ apart. h)

-- A cut isn't below the last one, where the limit isn't.
pub cut_above : (last : Stamp) (limit : ℕ) (controls : List ControlState) → last.0 ≤ limit → list_all (has_reported last) controls ≡ true → last.0 ≤ fold lesser limit controls
cut_above last limit [] le told = le
cut_above last limit (c ∷ controls) le told =
    let parts = and_parts (has_reported last c) (list_all (has_reported last) controls) told in
    cut_above last (lesser limit c) controls (first (counts c.phase) (reported_to_last last c parts.0)) parts.1
  where
    first : (t : Bool) → (t ≡ true → last.0 ≤ c.floor.0) → last.0 ≤ cond t (min limit c.floor.0) limit
    first true floor = let f = floor refl in omega (arith, le, f)
    first false floor = le
