-- Each change leaves a controller sound.
use Rattle.std.proofs.Common.{◌≡◌, ℕ, ◌≤◌, ◌+◌, Bool, true, false, not, cond, nat_eq, ◌&&◌, ◌||◌, List, [], ◌∷◌, ◌++◌, length, take, Option, Some, None, refl, sym, ap, subst, ◌∙◌, arith, true≢false, length-set}
use Rattle.std.specs.Prelude.{◌==◌, nat_lt, nat_le, map, filter}
use Rattle.std.specs.Option.{option_map}
use Rattle.std.specs.List.{list_all, count_by}
use Rattle.std.proofs.lemmas.Bool.{and_parts, and_from, eqb-true, eq-eqb, ltb-true, ltb-false, leb-true, le-leb, not-true}
use Rattle.std.proofs.Math.Seq.{take-append_seam}
use Rattle.std.proofs.lemmas.List.{length-replicate}
use Rattle.std.proofs.lemmas.List.Sums.{sum_by-cons, sum_by-append}
use Rattle.std.proofs.lemmas.List.Folds.{list_all-append}
use Rattle.tod_stamp.specs.declared.stamp.Stamp.{Stamp}
use Rattle.ckd_track.specs.declared.rec.Rec.{Rec}
use Rattle.ckd_track.specs.declared.write.Batch.{Batch}
use Rattle.ckd_track.specs.declared.write.Cause.{Cause}
use Rattle.ckd_track.specs.declared.write.Write.{Write}
use Rattle.xrc_edge.specs.Order.{is_in_order}
use Rattle.cut_core.specs.LegalHistories.{are_in}
use Rattle.change_map.specs.Sets.{no_track, has_track, with_track, without_track}
use Rattle.change_map.proofs.InSets.{has_without}
use Rattle.copy_plan.specs.Plans.{PlanState}
use Rattle.pending_queue.specs.Entries.{WaitingEntry, entry_of, entries_of, copy_of, copy_head, entry_stamp, last_stamp, last_stamp_from, is_of_volume, is_copy_of, without_volume, entry_tracks}
use Rattle.pending_queue.specs.Maps.{with_tracks}
use Rattle.pending_queue.proofs.EntryLaws.{pushed_never_fall}
use Rattle.pending_queue.proofs.VolumeLaws.{carried_never_fall, pushed_rises, without_never_falls}
use Rattle.group_state.specs.declared.volume.Volume.{Volume}
use Rattle.group_state.specs.Volumes.{is_numbered, volume_of, has_volume, with_volume, without_number, passes, carries, is_carried, is_wanted, wants, begun, noted_write, with_write, with_writes, copied_track, dropped_map, dropped_volume, resumed_volume}
use Rattle.group_state.specs.Controls.{ControlState, carried_writes, joined, copied, raised, broke, begun_volume, dropped, resumed, forgotten}
use Rattle.group_state.specs.SoundStates.{passes_or_none, has_sizes, are_distinct, may_wait, is_entry_of, is_entry_of_control, has_joined, are_up_to, Sound, is_track_within, are_within, MayReport, MayJoin, MayCarry, is_dropped}
use Rattle.group_state.proofs.VolumeLaws.{Keeps, found_with, distinct_with, all_with, passes_with, same_or_none, or_none_with, none_found, has_found, found_after, distinct_after, distinct_without, all_without, found_without}
use Rattle.ckd_track.specs.Writes.{is_earlier, writes_never_fall}

-- ---- tests over lists

pub all_up : {A : Type 0} (test after : A → Bool) (items : List A) → ((a : A) → test a ≡ true → after a ≡ true) → list_all test items ≡ true → list_all after items ≡ true
all_up test after [] up e = refl
all_up test after (a ∷ items) up e =
    let parts = and_parts (test a) (list_all test items) e in
    and_from (after a) (list_all after items) (up a parts.0) (all_up test after items up parts.1)

pub all_filter : {A : Type 0} (test keep : A → Bool) (items : List A) → list_all test items ≡ true → list_all test (filter keep items) ≡ true
all_filter test keep [] e = refl
all_filter test keep (a ∷ items) e =
    let parts = and_parts (test a) (list_all test items) e in
    choose (keep a) parts.0 (all_filter test keep items parts.1)
  where
    choose : (t : Bool) → test a ≡ true → list_all test (filter keep items) ≡ true → list_all test (cond t (a ∷ filter keep items) (filter keep items)) ≡ true
    choose true here rest = and_from (test a) (list_all test (filter keep items)) here rest
    choose false here rest = rest

pub all_both : {A : Type 0} (one two : A → Bool) (items : List A) → list_all one items ≡ true → list_all two items ≡ true → list_all (λ a. one a && two a) items ≡ true
all_both one two [] e f = refl
all_both one two (a ∷ items) e f =
    let x = and_parts (one a) (list_all one items) e in
    let y = and_parts (two a) (list_all two items) f in
    and_from (one a && two a) (list_all (λ a. one a && two a) items) (and_from (one a) (two a) x.0 y.0) (all_both one two items x.1 y.1)

pub all_kept : {A : Type 0} (keep : A → Bool) (items : List A) → list_all keep (filter keep items) ≡ true
all_kept keep [] = refl
all_kept keep (a ∷ items) = choose (keep a) refl (all_kept keep items)
  where
    choose : (t : Bool) → keep a ≡ t → list_all keep (filter keep items) ≡ true → list_all keep (cond t (a ∷ filter keep items) (filter keep items)) ≡ true
    choose true is rest = and_from (keep a) (list_all keep (filter keep items)) is rest
    choose false is rest = rest

pub all_joined : {A : Type 0} (test : A → Bool) (xs ys : List A) → list_all test xs ≡ true → list_all test ys ≡ true → list_all test (xs ++ ys) ≡ true
all_joined test xs ys e f = list_all-append test xs ys ∙ rw (e, f) refl

-- counts

pub count_cons : {A : Type 0} (test : A → Bool) (a : A) (items : List A) → count_by test (a ∷ items) ≡ cond (test a) 1 0 + count_by test items
count_cons test a items = sum_by-cons (λ a. cond (test a) 1 0) a items

pub count_append : {A : Type 0} (test : A → Bool) (xs ys : List A) → count_by test (xs ++ ys) ≡ count_by test xs + count_by test ys
count_append test xs ys = sum_by-append (λ a. cond (test a) 1 0) xs ys

pub count_none : {A : Type 0} (test : A → Bool) (items : List A) → list_all (λ a. not (test a)) items ≡ true → count_by test items ≡ 0
count_none test [] e = refl
count_none test (a ∷ items) e =
    let parts = and_parts (not (test a)) (list_all (λ a. not (test a)) items) e in
    count_cons test a items ∙ rw (not-true (test a) parts.0, count_none test items parts.1) refl

-- what is counted is kept
pub count_filter : {A : Type 0} (test keep : A → Bool) (items : List A) → list_all (λ a. not (test a) || keep a) items ≡ true → count_by test (filter keep items) ≡ count_by test items
count_filter test keep [] e = refl
count_filter test keep (a ∷ items) e =
    let parts = and_parts (not (test a) || keep a) (list_all (λ a. not (test a) || keep a) items) e in
    choose (test a) refl (keep a) parts.0 (count_filter test keep items parts.1)
  where
    choose : (t : Bool) → test a ≡ t → (k : Bool) → (not t || k) ≡ true → count_by test (filter keep items) ≡ count_by test items → count_by test (cond k (a ∷ filter keep items) (filter keep items)) ≡ count_by test (a ∷ items)
    choose t is true ok rest = count_cons test a (filter keep items) ∙ ap (λ n. cond (test a) 1 0 + n) rest ∙ sym (count_cons test a items)
    choose true is false ok rest = absurd cc
    choose false is false ok rest = omega (arith, rest, count_cons test a items, ap {B = ℕ} (λ b. cond b 1 0) is)

pub all_true : {A : Type 0} (test : A → Bool) (items : List A) → ((a : A) → test a ≡ true) → list_all test items ≡ true
all_true test [] all = refl
all_true test (a ∷ items) all = and_from (test a) (list_all test items) (all a) (all_true test items all)

-- ---- stamps

pub last_up_to : (time : Stamp) (low : ℕ) (entries : List WaitingEntry) → low ≤ time.0 → are_up_to time entries ≡ true → last_stamp_from low entries ≤ time.0
last_up_to time low [] le e = le
last_up_to time low (x ∷ entries) le e =
    let parts = and_parts (nat_le (entry_stamp x) time.0) (are_up_to time entries) e in
    last_up_to time (entry_stamp x) entries (leb-true (entry_stamp x) time.0 parts.0) parts.1

later : (one two : Stamp) (entries : List WaitingEntry) → one.0 ≤ two.0 → are_up_to one entries ≡ true → are_up_to two entries ≡ true
later one two entries le e = all_up (λ x. nat_le (entry_stamp x) one.0) (λ x. nat_le (entry_stamp x) two.0) entries (λ x is. le-leb (entry_stamp x) two.0 (omega (arith, le, leb-true (entry_stamp x) one.0 is))) e

-- the entries of a batch's writes
pub written_up_to : (k low : ℕ) (upto : Stamp) (test : Write → Bool) (writes : List Write) → are_in low upto.0 writes ≡ true → are_up_to upto (entries_of k (filter test writes)) ≡ true
written_up_to k low upto test [] e = refl
written_up_to k low upto test (w ∷ writes) e =
    let parts = and_parts (nat_lt low w.stamp.0 && nat_le w.stamp.0 upto.0) (are_in low upto.0 writes) e in
    choose (test w) (and_parts (nat_lt low w.stamp.0) (nat_le w.stamp.0 upto.0) parts.0).1 (written_up_to k low upto test writes parts.1)
  where
    choose : (t : Bool) → nat_le w.stamp.0 upto.0 ≡ true → are_up_to upto (entries_of k (filter test writes)) ≡ true → are_up_to upto (entries_of k (cond t (w ∷ filter test writes) (filter test writes))) ≡ true
    choose true le rest = and_from (nat_le w.stamp.0 upto.0) (are_up_to upto (entries_of k (filter test writes))) le rest
    choose false le rest = rest

-- ---- volumes and entries

pub swapped : (a b : ℕ) → nat_eq a b ≡ false → nat_eq b a ≡ false
swapped a b e = choose (nat_eq b a) refl
  where
    choose : (t : Bool) → nat_eq b a ≡ t → t ≡ false
    choose true is = absurd (true≢false (sym (eq-eqb a b (sym (eqb-true b a is))) ∙ e))
    choose false is = refl

-- entries that may wait may still wait after a change of a volume
pub entries_with : (v : ℕ) (change : Volume → Volume) (keeps : Keeps change) → ((e : WaitingEntry) (u : Volume) → may_wait e u ≡ true → may_wait e (change u) ≡ true) → (volumes : List Volume) (entries : List WaitingEntry)
    → list_all (is_entry_of volumes) entries ≡ true → list_all (is_entry_of (with_volume v change volumes)) entries ≡ true
entries_with v change keeps up volumes entries e =
    all_up (is_entry_of volumes) (is_entry_of (with_volume v change volumes)) entries
    (λ x is. passes_with (may_wait x) (may_wait x) v x.head.volume change keeps (λ u ok. ok) (up x) volumes is) e

-- an entry of another volume
entry_aside : (v : ℕ) (change : Volume → Volume) (keeps : Keeps change) (volumes : List Volume) (x : WaitingEntry) → nat_eq v x.head.volume ≡ false → is_entry_of volumes x ≡ true → is_entry_of (with_volume v change volumes) x ≡ true
entry_aside v change keeps volumes x other is = rw (found_with v x.head.volume change keeps volumes, other) is

-- ---- a joined batch

pub written_keeps : (x : ℕ) → Keeps (noted_write x)
written_keeps x u = choose u.carried
  where
    choose : (t : Bool) → (let v : Volume = cond t u (record u { map = with_track u.map x }) in v.number) ≡ u.number
    choose true = refl
    choose false = refl

written_sizes : (x : ℕ) (u : Volume) → has_sizes u ≡ true → has_sizes (noted_write x u) ≡ true
written_sizes x u e = choose u.carried
  where
    choose : (t : Bool) → has_sizes (cond t u (record u { map = with_track u.map x })) ≡ true
    choose true = e
    choose false = ap (λ n. nat_eq n (length u.plan.wanted)) (length-set u.map x true) ∙ e

written_waits : (x : ℕ) (e : WaitingEntry) (u : Volume) → may_wait e u ≡ true → may_wait e (noted_write x u) ≡ true
written_waits x e u ok = choose u.carried
  where
    choose : (t : Bool) → may_wait e (cond t u (record u { map = with_track u.map x })) ≡ true
    choose true = ok
    choose false = ap (λ n. u.carried && (nat_lt e.head.track n && not (e.is_copy && has_track u.plan.wanted e.head.track))) (length-set u.map x true) ∙ ok

written_joined : (x n : ℕ) (u : Volume) → has_joined n (noted_write x u) ≡ has_joined n u
written_joined x n u = choose u.carried
  where
    choose : (t : Bool) → has_joined n (cond t u (record u { map = with_track u.map x })) ≡ has_joined n u
    choose true = refl
    choose false = refl

written_within : (x y : ℕ) (u : Volume) → nat_lt y (length (noted_write x u).map) ≡ nat_lt y (length u.map)
written_within x y u = choose u.carried
  where
    choose : (t : Bool) → (let v : Volume = cond t u (record u { map = with_track u.map x }) in nat_lt y (length v.map)) ≡ nat_lt y (length u.map)
    choose true = refl
    choose false = ap (λ n. nat_lt y n) (length-set u.map x true)

pub within_write : (w : Write) (volumes : List Volume) (v x : ℕ) → is_track_within (with_write volumes w) v x ≡ is_track_within volumes v x
within_write w volumes v x = same_or_none (λ u. nat_lt x (length u.map)) w.volume v (noted_write w.track) (written_keeps w.track) (written_within w.track x) volumes

pub all_within_write : (w : Write) (volumes : List Volume) (writes : List Write) → are_within volumes writes ≡ true → are_within (with_write volumes w) writes ≡ true
all_within_write w volumes writes e = all_up (λ x. is_track_within volumes x.volume x.track) (λ x. is_track_within (with_write volumes w) x.volume x.track) writes (λ x is. within_write w volumes x.volume x.track ∙ is) e

sizes_written : (volumes : List Volume) (writes : List Write) → list_all has_sizes volumes ≡ true → list_all has_sizes (with_writes volumes writes) ≡ true
sizes_written volumes [] e = e
sizes_written volumes (w ∷ writes) e = sizes_written (with_write volumes w) writes (all_with has_sizes w.volume (noted_write w.track) (written_sizes w.track) volumes e)

distinct_written : (volumes : List Volume) (writes : List Write) → are_distinct (with_writes volumes writes) ≡ are_distinct volumes
distinct_written volumes [] = refl
distinct_written volumes (w ∷ writes) = distinct_written (with_write volumes w) writes ∙ distinct_with w.volume (noted_write w.track) (written_keeps w.track) volumes

entries_written : (volumes : List Volume) (writes : List Write) (entries : List WaitingEntry) → list_all (is_entry_of volumes) entries ≡ true → list_all (is_entry_of (with_writes volumes writes)) entries ≡ true
entries_written volumes [] entries e = e
entries_written volumes (w ∷ writes) entries e = entries_written (with_write volumes w) writes entries (entries_with w.volume (noted_write w.track) (written_keeps w.track) (written_waits w.track) volumes entries e)

joined_written : (volumes : List Volume) (writes : List Write) (v n : ℕ) → passes_or_none (has_joined n) (volume_of v (with_writes volumes writes)) ≡ passes_or_none (has_joined n) (volume_of v volumes)
joined_written volumes [] v n = refl
joined_written volumes (w ∷ writes) v n = joined_written (with_write volumes w) writes v n ∙ same_or_none (has_joined n) w.volume v (noted_write w.track) (written_keeps w.track) (written_joined w.track n) volumes

-- a carried write may wait as an entry
write_waits : (k : ℕ) (volumes : List Volume) (w : Write) → is_carried volumes w ≡ true → is_track_within volumes w.volume w.track ≡ true → is_entry_of volumes (entry_of k w) ≡ true
write_waits k volumes w carried within = choose (volume_of w.volume volumes) carried within
  where
    choose : (o : Option Volume) → passes (carries w.track) o ≡ true → passes_or_none (λ u. nat_lt w.track (length u.map)) o ≡ true → passes (may_wait (entry_of k w)) o ≡ true
    choose None carried within = absurd cc
    choose (Some u) carried within =
        let parts = and_parts u.carried (not (has_track u.plan.wanted w.track)) carried in
        rw (parts.0, within) refl

writes_wait : (k : ℕ) (volumes : List Volume) (writes : List Write) → are_within volumes writes ≡ true → list_all (is_entry_of volumes) (entries_of k (filter (is_carried volumes) writes)) ≡ true
writes_wait k volumes [] within = refl
writes_wait k volumes (w ∷ writes) within =
    let parts = and_parts (is_track_within volumes w.volume w.track) (are_within volumes writes) within in
    choose (is_carried volumes w) refl parts.0 (writes_wait k volumes writes parts.1)
  where
    choose : (t : Bool) → is_carried volumes w ≡ t → is_track_within volumes w.volume w.track ≡ true → list_all (is_entry_of volumes) (entries_of k (filter (is_carried volumes) writes)) ≡ true
        → list_all (is_entry_of volumes) (entries_of k (cond t (w ∷ filter (is_carried volumes) writes) (filter (is_carried volumes) writes))) ≡ true
    choose true is within rest = and_from (is_entry_of volumes (entry_of k w)) (list_all (is_entry_of volumes) (entries_of k (filter (is_carried volumes) writes))) (write_waits k volumes w is within) rest
    choose false is within rest = rest

no_copies : (v k : ℕ) (writes : List Write) → list_all (λ e. not (is_copy_of v e)) (entries_of k writes) ≡ true
no_copies v k [] = refl
no_copies v k (w ∷ writes) = and_from (not (is_copy_of v (entry_of k w))) (list_all (λ e. not (is_copy_of v e)) (entries_of k writes)) (never (nat_eq w.volume v)) (no_copies v k writes)
  where
    never : (b : Bool) → not (b && false) ≡ true
    never true = refl
    never false = refl

-- a joined batch's stamps don't fall, from those that wait on
writes_from : (last : ℕ) (writes : List Write) → list_all (λ w. nat_le last w.stamp.0) writes ≡ true → is_in_order is_earlier writes ≡ true → writes_never_fall last writes ≡ true
writes_from last [] le order = refl
writes_from last (w ∷ writes) le order =
    let low = and_parts (nat_le last w.stamp.0) (list_all (λ w. nat_le last w.stamp.0) writes) le in
    let rest = and_parts (list_all (λ x. not (is_earlier x w)) writes) (is_in_order is_earlier writes) order in
    and_from (nat_le last w.stamp.0) (writes_never_fall w.stamp.0 writes) low.0
    (writes_from w.stamp.0 writes (all_up (λ x. not (is_earlier x w)) (λ x. nat_le w.stamp.0 x.stamp.0) writes (λ x is. le-leb w.stamp.0 x.stamp.0 (ltb-false x.stamp.0 w.stamp.0 (not-true (nat_lt x.stamp.0 w.stamp.0) is))) rest.0) rest.1)

pub batch_rises : (b : Batch) (c : ControlState) → Sound c → MayJoin c b → writes_never_fall (last_stamp_from 0 c.queue.waiting) b.writes ≡ true
batch_rises b c s may =
    let last = last_up_to c.floor 0 c.queue.waiting (omega arith) s.stamps in
    writes_from (last_stamp_from 0 c.queue.waiting) b.writes
    (all_up (λ w. nat_lt c.floor.0 w.stamp.0 && nat_le w.stamp.0 b.upto.0) (λ w. nat_le (last_stamp_from 0 c.queue.waiting) w.stamp.0) b.writes
    (λ w is. le-leb (last_stamp_from 0 c.queue.waiting) w.stamp.0 (omega (arith, last, ltb-true c.floor.0 w.stamp.0 (and_parts (nat_lt c.floor.0 w.stamp.0) (nat_le w.stamp.0 b.upto.0) is).0))) may.within) may.order

written_own : (k : ℕ) (writes : List Write) → list_all (is_entry_of_control k) (entries_of k writes) ≡ true
written_own k [] = refl
written_own k (w ∷ writes) = and_from (nat_eq k k) (list_all (is_entry_of_control k) (entries_of k writes)) (eq-eqb k k refl) (written_own k writes)

pub sound_joined : (b : Batch) (c : ControlState) → Sound c → MayJoin c b → Sound (joined b c)
sound_joined b c s may =
    let waiting = c.queue.waiting in
    let new = entries_of c.queue.control (carried_writes c b) in
    record {
      own = all_joined (is_entry_of_control c.queue.control) waiting new s.own (written_own c.queue.control (carried_writes c b));
      rises = pushed_never_fall c.queue.control 0 waiting (carried_writes c b) s.rises (carried_never_fall (λ w. is_carried c.volumes w) (last_stamp waiting) b.writes (batch_rises b c s may));
      stamps = all_joined (λ e. nat_le (entry_stamp e) b.upto.0) waiting new (later c.floor b.upto waiting may.tells.up s.stamps) (written_up_to c.queue.control c.floor.0 b.upto (is_carried c.volumes) b.writes may.within);
      sizes = sizes_written c.volumes b.writes s.sizes;
      distinct = distinct_written c.volumes b.writes ∙ s.distinct;
      entries = all_joined (is_entry_of (with_writes c.volumes b.writes)) waiting new (entries_written c.volumes b.writes waiting s.entries) (entries_written c.volumes b.writes new (writes_wait c.queue.control c.volumes b.writes may.tracks));
      counts = λ v.
          let same : count_by (is_copy_of v) (waiting ++ new) ≡ count_by (is_copy_of v) waiting = omega (arith, count_append (is_copy_of v) waiting new, count_none (is_copy_of v) new (no_copies v c.queue.control (carried_writes c b))) in
          ap (λ n. passes_or_none (has_joined n) (volume_of v (with_writes c.volumes b.writes))) same ∙ joined_written c.volumes b.writes v (count_by (is_copy_of v) waiting) ∙ s.counts v;
    }

-- ---- a raise and a break

pub sound_raised : (upto : Stamp) (c : ControlState) → Sound c → MayReport c upto → Sound (raised upto c)
sound_raised upto c s may = record { own = s.own; rises = s.rises; stamps = later c.floor upto c.queue.waiting may.up s.stamps; sizes = s.sizes; distinct = s.distinct; entries = s.entries; counts = s.counts }

pub sound_broke : (upto : Stamp) (cause : Cause) (c : ControlState) → Sound c → MayReport c upto → Sound (broke upto cause c)
sound_broke upto cause c s may = record { own = s.own; rises = s.rises; stamps = later c.floor upto c.queue.waiting may.up s.stamps; sizes = s.sizes; distinct = s.distinct; entries = s.entries; counts = s.counts }

-- ---- a copied track

copied_sizes : (x : ℕ) (u : Volume) → has_sizes u ≡ true → has_sizes (copied_track x u) ≡ true
copied_sizes x u e = ap (λ n. nat_eq (length u.map) n) (length-set u.plan.wanted x false) ∙ e

copied_waits : (x : ℕ) (e : WaitingEntry) (u : Volume) → may_wait e u ≡ true → may_wait e (copied_track x u) ≡ true
copied_waits x e u ok =
    let parts = and_parts u.carried (nat_lt e.head.track (length u.map) && not (e.is_copy && has_track u.plan.wanted e.head.track)) ok in
    let rest = and_parts (nat_lt e.head.track (length u.map)) (not (e.is_copy && has_track u.plan.wanted e.head.track)) parts.1 in
    and_from u.carried (nat_lt e.head.track (length u.map) && not (e.is_copy && has_track (without_track u.plan.wanted x) e.head.track)) parts.0
    (and_from (nat_lt e.head.track (length u.map)) (not (e.is_copy && has_track (without_track u.plan.wanted x) e.head.track)) rest.0
    (ap (λ b. not (e.is_copy && b)) (has_without u.plan.wanted x e.head.track) ∙ fewer e.is_copy (not (nat_eq e.head.track x)) (has_track u.plan.wanted e.head.track) rest.1))
  where
    fewer : (a k b : Bool) → not (a && b) ≡ true → not (a && (k && b)) ≡ true
    fewer false k b e = refl
    fewer true true b e = e
    fewer true false b e = refl

-- the copied track itself
copy_waits : (x : ℕ) (e : WaitingEntry) (u : Volume) → wants x u ≡ true → nat_lt x (length u.map) ≡ true → e.head.track ≡ x → may_wait e (copied_track x u) ≡ true
copy_waits x e u wanted within is =
    let parts = and_parts u.carried (has_track u.plan.wanted x) wanted in
    and_from u.carried (nat_lt e.head.track (length u.map) && not (e.is_copy && has_track (without_track u.plan.wanted x) e.head.track)) parts.0
    (and_from (nat_lt e.head.track (length u.map)) (not (e.is_copy && has_track (without_track u.plan.wanted x) e.head.track)) (ap (λ n. nat_lt n (length u.map)) is ∙ within)
    (ap (λ b. not (e.is_copy && b)) (has_without u.plan.wanted x e.head.track) ∙ gone e.is_copy (has_track u.plan.wanted e.head.track) (eq-eqb e.head.track x is)))
  where
    gone : (a b : Bool) → nat_eq e.head.track x ≡ true → not (a && (not (nat_eq e.head.track x) && b)) ≡ true
    gone a b same = rw same (never a)
      where
        never : (a : Bool) → not (a && false) ≡ true
        never true = refl
        never false = refl

copy_found : (v x : ℕ) (volumes : List Volume) (e : WaitingEntry) → is_wanted v x volumes ≡ true → is_track_within volumes v x ≡ true → e.head.volume ≡ v → e.head.track ≡ x → is_entry_of (with_volume v (copied_track x) volumes) e ≡ true
copy_found v x volumes e wanted within volume track =
    rw (volume, found_with v v (copied_track x) (λ u. refl) volumes, eq-eqb v v refl) (choose (volume_of v volumes) wanted within)
  where
    choose : (o : Option Volume) → passes (wants x) o ≡ true → passes_or_none (λ u. nat_lt x (length u.map)) o ≡ true → passes (may_wait e) (option_map (copied_track x) o) ≡ true
    choose None wanted within = absurd cc
    choose (Some u) wanted within = copy_waits x e u wanted within track

pub sound_copied : (v x : ℕ) (at : Stamp) (recs : List Rec) (c : ControlState) → Sound c → at ≡ c.floor → is_wanted v x c.volumes ≡ true → is_track_within c.volumes v x ≡ true → Sound (copied v x at recs c)
sound_copied v x at recs c s floor wanted within =
    let waiting = c.queue.waiting in
    let e = copy_of (copy_head c.queue.control v x at) recs in
    let volumes = with_volume v (copied_track x) c.volumes in
    let last : last_stamp waiting ≤ c.floor.0 = last_up_to c.floor 0 waiting (omega arith) s.stamps in
    record {
      own = all_joined (is_entry_of_control c.queue.control) waiting (e ∷ []) s.own (and_from (nat_eq c.queue.control c.queue.control) true (eq-eqb c.queue.control c.queue.control refl) refl);
      rises = pushed_rises 0 waiting e s.rises (subst (λ (f : Stamp). last_stamp waiting ≤ f.0) (sym floor) last);
      stamps = all_joined (λ e. nat_le (entry_stamp e) c.floor.0) waiting (e ∷ []) s.stamps (and_from (nat_le at.0 c.floor.0) true (le-leb at.0 c.floor.0 (omega (arith, ap (λ (t : Stamp). t.0) floor))) refl);
      sizes = all_with has_sizes v (copied_track x) (copied_sizes x) c.volumes s.sizes;
      distinct = distinct_with v (copied_track x) (λ u. refl) c.volumes ∙ s.distinct;
      entries = all_joined (is_entry_of volumes) waiting (e ∷ []) (entries_with v (copied_track x) (λ u. refl) (copied_waits x) c.volumes waiting s.entries)
          (and_from (is_entry_of volumes e) true (copy_found v x c.volumes e wanted within refl refl) refl);
      counts = λ w.
          let before = count_by (is_copy_of w) waiting in
          let more : count_by (is_copy_of w) (waiting ++ e ∷ []) ≡ before + cond (nat_eq v w && true) 1 0 = omega (arith, count_append (is_copy_of w) waiting (e ∷ []), count_cons (is_copy_of w) e []) in
          or_none_with (has_joined before) (has_joined (count_by (is_copy_of w) (waiting ++ e ∷ []))) v w (copied_track x) (λ u. refl)
          (λ same u ok. one_more u.carried u.plan.joined before (count_by (is_copy_of w) (waiting ++ e ∷ [])) (more ∙ rw same refl) ok)
          (λ other u ok. ap (λ n. has_joined n u) (more ∙ rw other (omega arith)) ∙ ok) c.volumes (s.counts w);
    }
  where
    one_more : (c : Bool) (n before after : ℕ) → after ≡ before + 1 → (not c || n == before) ≡ true → (not c || (n + 1) == after) ≡ true
    one_more false n before after e ok = refl
    one_more true n before after e ok = eq-eqb (n + 1) after (omega (arith, eqb-true n before ok))

-- ---- a volume that begins

-- an entry stays where a volume is added
entry_after : (volumes : List Volume) (u : Volume) → has_volume u.number volumes ≡ false → (e : WaitingEntry) → is_entry_of volumes e ≡ true → is_entry_of (volumes ++ u ∷ []) e ≡ true
entry_after volumes u none e is = rw (found_after e.head.volume volumes u none) (choose (is_numbered e.head.volume u) refl)
  where
    choose : (t : Bool) → is_numbered e.head.volume u ≡ t → passes (may_wait e) (cond t (Some u) (volume_of e.head.volume volumes)) ≡ true
    choose false other = is
    choose true same = absurd (nothing (volume_of e.head.volume volumes) is (none_found e.head.volume volumes (ap (λ n. has_volume n volumes) (sym (eqb-true u.number e.head.volume same)) ∙ none)))
      where
        nothing : (o : Option Volume) → passes (may_wait e) o ≡ true → o ≡ None → ⊥
        nothing None is none = cc
        nothing (Some u) is none = cc

-- no entry is of a volume that isn't there, or isn't carried
aside : (v : ℕ) (volumes : List Volume) (e : WaitingEntry) → ((u : Volume) → volume_of v volumes ≡ Some u → u.carried ≡ false) → is_entry_of volumes e ≡ true → not (is_of_volume v e) ≡ true
aside v volumes e dropped is = choose (nat_eq e.head.volume v) refl
  where
    by_option : (o : Option Volume) → volume_of v volumes ≡ o → passes (may_wait e) o ≡ true → ⊥
    by_option None found ok = cc
    by_option (Some u) found ok = true≢false (sym (and_parts u.carried (nat_lt e.head.track (length u.map) && not (e.is_copy && has_track u.plan.wanted e.head.track)) ok).0 ∙ dropped u found)

    choose : (t : Bool) → nat_eq e.head.volume v ≡ t → not t ≡ true
    choose false other = refl
    choose true same = absurd (by_option (volume_of v volumes) refl (subst (λ n. passes (may_wait e) (volume_of n volumes) ≡ true) (eqb-true e.head.volume v same) is))

pub none_waits : (v : ℕ) (volumes : List Volume) (waiting : List WaitingEntry) → ((u : Volume) → volume_of v volumes ≡ Some u → u.carried ≡ false) → list_all (is_entry_of volumes) waiting ≡ true → list_all (λ e. not (is_of_volume v e)) waiting ≡ true
none_waits v volumes waiting dropped e = all_up (is_entry_of volumes) (λ e. not (is_of_volume v e)) waiting (λ x is. aside v volumes x dropped is) e

no_copy : (v : ℕ) (waiting : List WaitingEntry) → list_all (λ e. not (is_of_volume v e)) waiting ≡ true → count_by (is_copy_of v) waiting ≡ 0
no_copy v waiting none = count_none (is_copy_of v) waiting (all_up (λ e. not (is_of_volume v e)) (λ e. not (is_copy_of v e)) waiting (λ x is. neither (is_of_volume v x) x.is_copy is) none)
  where
    neither : (a b : Bool) → not a ≡ true → not (a && b) ≡ true
    neither true b e = absurd cc
    neither false b e = refl

pub unknown_none : (v : ℕ) (volumes : List Volume) → has_volume v volumes ≡ false → (u : Volume) → volume_of v volumes ≡ Some u → u.carried ≡ false
unknown_none v volumes none u found = absurd (true≢false (sym (has_found v volumes u found) ∙ none))

pub sound_begun : (v : ℕ) (plan : PlanState) (c : ControlState) → Sound c → MayCarry c v plan → Sound (begun_volume v plan c)
sound_begun v plan c s may =
    let u = begun v plan in
    let none = may.unknown in
    record {
      own = s.own;
      rises = s.rises;
      stamps = s.stamps;
      sizes = all_joined has_sizes c.volumes (u ∷ []) s.sizes (and_from (has_sizes u) true (eq-eqb (length (no_track (length plan.wanted))) (length plan.wanted) (length-replicate (length plan.wanted) false)) refl);
      distinct = distinct_after c.volumes u none s.distinct;
      entries = all_up (is_entry_of c.volumes) (is_entry_of (c.volumes ++ u ∷ [])) c.queue.waiting (entry_after c.volumes u none) s.entries;
      counts = λ w. rw (found_after w c.volumes u none) (choose w (is_numbered w u) refl);
    }
  where
    choose : (w : ℕ) (t : Bool) → is_numbered w (begun v plan) ≡ t → passes_or_none (has_joined (count_by (is_copy_of w) c.queue.waiting)) (cond t (Some (begun v plan)) (volume_of w c.volumes)) ≡ true
    choose w false other = s.counts w
    choose w true same =
        let is : w ≡ v = sym (eqb-true v w same) in
        let zero_waits : count_by (is_copy_of w) c.queue.waiting ≡ 0 = ap (λ n. count_by (is_copy_of n) c.queue.waiting) is ∙ no_copy v c.queue.waiting (none_waits v c.volumes c.queue.waiting (unknown_none v c.volumes may.unknown) s.entries) in
        eq-eqb plan.joined (count_by (is_copy_of w) c.queue.waiting) (may.fresh ∙ sym zero_waits)

-- ---- a drop

pub length_tracks : (set : List Bool) (tracks : List ℕ) → length (with_tracks set tracks) ≡ length set
length_tracks set [] = refl
length_tracks set (x ∷ tracks) = length_tracks (with_track set x) tracks ∙ length-set set x true

pub length_dropped : (all : Bool) (tracks : List ℕ) (set : List Bool) → length (dropped_map all tracks set) ≡ length set
length_dropped true tracks set = length-replicate (length set) true
length_dropped false tracks set = length_tracks set tracks

-- the tracks of a volume's entries are those of its map
pub tracks_within : (v : ℕ) (u : Volume) (volumes : List Volume) (waiting : List WaitingEntry) → volume_of v volumes ≡ Some u → list_all (is_entry_of volumes) waiting ≡ true → list_all (λ x. nat_lt x (length u.map)) (entry_tracks v waiting) ≡ true
tracks_within v u volumes [] found e = refl
tracks_within v u volumes (x ∷ waiting) found e =
    let parts = and_parts (is_entry_of volumes x) (list_all (is_entry_of volumes) waiting) e in
    choose (is_of_volume v x) refl parts.0 (tracks_within v u volumes waiting found parts.1)
  where
    here : is_of_volume v x ≡ true → is_entry_of volumes x ≡ true → nat_lt x.head.track (length u.map) ≡ true
    here of is =
        let at : passes (may_wait x) (volume_of v volumes) ≡ true = subst (λ n. passes (may_wait x) (volume_of n volumes) ≡ true) (eqb-true x.head.volume v of) is in
        let ok : may_wait x u ≡ true = subst (λ o. passes (may_wait x) o ≡ true) found at in
        (and_parts (nat_lt x.head.track (length u.map)) (not (x.is_copy && has_track u.plan.wanted x.head.track)) (and_parts u.carried (nat_lt x.head.track (length u.map) && not (x.is_copy && has_track u.plan.wanted x.head.track)) ok).1).0

    choose : (t : Bool) → is_of_volume v x ≡ t → is_entry_of volumes x ≡ true → list_all (λ y. nat_lt y (length u.map)) (entry_tracks v waiting) ≡ true
        → list_all (λ y. nat_lt y (length u.map)) (map (λ (e : WaitingEntry). e.head.track) (cond t (x ∷ filter (is_of_volume v) waiting) (filter (is_of_volume v) waiting))) ≡ true
    choose true of is rest = and_from (nat_lt x.head.track (length u.map)) (list_all (λ y. nat_lt y (length u.map)) (entry_tracks v waiting)) (here of is) rest
    choose false of is rest = rest

-- the entries of other volumes are counted as before
count_without : (v w : ℕ) (waiting : List WaitingEntry) → nat_eq v w ≡ false → count_by (is_copy_of w) (without_volume v waiting) ≡ count_by (is_copy_of w) waiting
count_without v w waiting other = count_filter (is_copy_of w) (λ e. not (is_of_volume v e)) waiting (all_true (λ e. not (is_copy_of w e) || not (is_of_volume v e)) waiting (λ e. choose e.head.volume (nat_eq e.head.volume w) refl (nat_eq e.head.volume v) refl e.is_copy))
  where
    choose : (n : ℕ) (s : Bool) → nat_eq n w ≡ s → (t : Bool) → nat_eq n v ≡ t → (k : Bool) → (not (s && k) || not t) ≡ true
    choose n true at true is k = absurd (true≢false (sym (eq-eqb v w (sym (eqb-true n v is) ∙ eqb-true n w at)) ∙ other))
    choose n true at false is true = refl
    choose n true at false is false = refl
    choose n false at t is k = refl

pub sound_dropped : (v : ℕ) (all : Bool) (c : ControlState) → Sound c → Sound (dropped v all c)
sound_dropped v all c s =
    let tracks = entry_tracks v c.queue.waiting in
    let others = without_volume v c.queue.waiting in
    let volumes = with_volume v (dropped_volume all tracks) c.volumes in
    record {
      own = all_filter (is_entry_of_control c.queue.control) (λ e. not (is_of_volume v e)) c.queue.waiting s.own;
      rises = without_never_falls v c.queue.waiting s.rises;
      stamps = all_filter (λ e. nat_le (entry_stamp e) c.floor.0) (λ e. not (is_of_volume v e)) c.queue.waiting s.stamps;
      sizes = all_with has_sizes v (dropped_volume all tracks) (λ u e. ap (λ n. nat_eq n (length u.plan.wanted)) (length_dropped all tracks u.map) ∙ e) c.volumes s.sizes;
      distinct = distinct_with v (dropped_volume all tracks) (λ u. refl) c.volumes ∙ s.distinct;
      entries = all_up (λ e. not (is_of_volume v e) && is_entry_of c.volumes e) (is_entry_of volumes) others
          (λ e both. let parts = and_parts (not (is_of_volume v e)) (is_entry_of c.volumes e) both in
          entry_aside v (dropped_volume all tracks) (λ u. refl) c.volumes e (swapped e.head.volume v (not-true (nat_eq e.head.volume v) parts.0)) parts.1)
          (all_both (λ e. not (is_of_volume v e)) (is_entry_of c.volumes) others (all_kept (λ e. not (is_of_volume v e)) c.queue.waiting) (all_filter (is_entry_of c.volumes) (λ e. not (is_of_volume v e)) c.queue.waiting s.entries));
      counts = λ w. or_none_with (has_joined (count_by (is_copy_of w) c.queue.waiting)) (has_joined (count_by (is_copy_of w) others)) v w (dropped_volume all tracks) (λ u. refl)
          (λ same u ok. refl) (λ other u ok. ap (λ n. has_joined n u) (count_without v w c.queue.waiting other) ∙ ok) c.volumes (s.counts w);
    }

-- a queue without entries of the volume
pub none_out : (v : ℕ) (waiting : List WaitingEntry) → list_all (λ e. not (is_of_volume v e)) waiting ≡ true → without_volume v waiting ≡ waiting
none_out v [] e = refl
none_out v (x ∷ waiting) e =
    let parts = and_parts (not (is_of_volume v x)) (list_all (λ e. not (is_of_volume v e)) waiting) e in
    ap (λ (b : Bool). cond b (x ∷ without_volume v waiting) (without_volume v waiting)) parts.0 ∙ ap (λ (es : List WaitingEntry). x ∷ es) (none_out v waiting parts.1)

-- what was written over a vector's items
pub written_back : {A : Type 0} (len : ℕ) (new old : List A) → length new ≡ len → take len (new ++ old) ≡ new
written_back len new old e = ap (λ k. take k (new ++ old)) (sym e) ∙ take-append_seam new old

-- ---- a resume and a forget

pub dropped_none : (v : ℕ) (volumes : List Volume) → is_dropped v volumes ≡ true → (u : Volume) → volume_of v volumes ≡ Some u → u.carried ≡ false
dropped_none v volumes dropped u found = not-true u.carried (subst (λ o. passes (λ u. not u.carried) o ≡ true) found dropped)

pub sound_resumed : (v : ℕ) (c : ControlState) → Sound c → is_dropped v c.volumes ≡ true → Sound (resumed v c)
sound_resumed v c s dropped =
    let waiting = c.queue.waiting in
    let none = none_waits v c.volumes waiting (dropped_none v c.volumes dropped) s.entries in
    record {
      own = s.own;
      rises = s.rises;
      stamps = s.stamps;
      sizes = all_with has_sizes v resumed_volume (λ u e. eq-eqb (length (no_track (length u.map))) (length u.map) (length-replicate (length u.map) false)) c.volumes s.sizes;
      distinct = distinct_with v resumed_volume (λ u. refl) c.volumes ∙ s.distinct;
      entries = all_up (λ e. not (is_of_volume v e) && is_entry_of c.volumes e) (is_entry_of (with_volume v resumed_volume c.volumes)) waiting
          (λ e both. let parts = and_parts (not (is_of_volume v e)) (is_entry_of c.volumes e) both in
          entry_aside v resumed_volume (λ u. refl) c.volumes e (swapped e.head.volume v (not-true (nat_eq e.head.volume v) parts.0)) parts.1)
          (all_both (λ e. not (is_of_volume v e)) (is_entry_of c.volumes) waiting none s.entries);
      counts = λ w. or_none_with (has_joined (count_by (is_copy_of w) waiting)) (has_joined (count_by (is_copy_of w) waiting)) v w resumed_volume (λ u. refl)
          (λ same u ok. eq-eqb 0 (count_by (is_copy_of w) waiting) (sym (ap (λ n. count_by (is_copy_of n) waiting) (sym (eqb-true v w same)) ∙ no_copy v waiting none))) (λ other u ok. ok) c.volumes (s.counts w);
    }

pub sound_forgotten : (v : ℕ) (c : ControlState) → Sound c → is_dropped v c.volumes ≡ true → Sound (forgotten v c)
sound_forgotten v c s dropped =
    let waiting = c.queue.waiting in
    let none = none_waits v c.volumes waiting (dropped_none v c.volumes dropped) s.entries in
    record {
      own = s.own;
      rises = s.rises;
      stamps = s.stamps;
      sizes = all_without has_sizes v c.volumes s.sizes;
      distinct = distinct_without v c.volumes s.distinct;
      entries = all_up (λ e. not (is_of_volume v e) && is_entry_of c.volumes e) (is_entry_of (without_number v c.volumes)) waiting
          (λ e both. let parts = and_parts (not (is_of_volume v e)) (is_entry_of c.volumes e) both in
          rw (found_without v e.head.volume c.volumes s.distinct, swapped e.head.volume v (not-true (nat_eq e.head.volume v) parts.0)) parts.1)
          (all_both (λ e. not (is_of_volume v e)) (is_entry_of c.volumes) waiting none s.entries);
      counts = λ w. rw (found_without v w c.volumes s.distinct) (choose w (nat_eq v w));
    }
  where
    choose : (w : ℕ) (t : Bool) → passes_or_none (has_joined (count_by (is_copy_of w) c.queue.waiting)) (cond t None (volume_of w c.volumes)) ≡ true
    choose w true = refl
    choose w false = s.counts w
