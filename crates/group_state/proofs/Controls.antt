-- After each call on a controller, and each form, what is kept of it is what the longer history says.
use Rattle.std.proofs.Common.{◌≡◌, ℕ, Bool, true, false, not, cond, nat_eq, nat_lt, nat_le, ◌&&◌, ◌||◌, List, [], ◌∷◌, ◌++◌, length, map, Option, Some, None, refl, sym, ap, subst, ◌∙◌}
use Rattle.std.specs.Prelude.{◌==◌, filter}
use Rattle.std.specs.List.{list_any}
use Rattle.std.proofs.Math.Bool.{and-true}
use Rattle.std.proofs.lemmas.Bool.{and_parts, eqb-true, eq-eqb}
use Rattle.tod_stamp.specs.declared.stamp.Stamp.{Stamp}
use Rattle.ckd_track.specs.declared.rec.Rec.{Rec}
use Rattle.ckd_track.specs.declared.write.Batch.{Batch}
use Rattle.ckd_track.specs.declared.write.Cause.{Cause}
use Rattle.ckd_track.specs.declared.write.Write.{Write}
use Rattle.change_map.specs.Sets.{has_track}
use Rattle.copy_plan.specs.Plans.{PlanState}
use Rattle.pending_queue.specs.Entries.{WaitingEntry, entries_of, copy_of as waiting_copy, copy_head, is_of_volume, entry_tracks, without_volume, is_later, left, copies}
use Rattle.cut_core.specs.Events.{Event, floor}
use Rattle.cut_core.specs.Events.Event.{Join, Copied, Break, Raise, Form, Drop, Carry, Resume, Forget}
use Rattle.cut_core.specs.Shares.{Share, share_by, share}
use Rattle.cut_core.specs.Groups.{carried_entry, copied_entry, is_write_carried, waiting_in}
use Rattle.cut_core.specs.Waiting.{waits_on}
use Rattle.cut_core.specs.Fates.{is_of_control}
use Rattle.cut_core.proofs.Ends.{stays, breaks_at}
use Rattle.cut_core.proofs.Shares.{shares_wait}
use Rattle.cut_core.proofs.Plain.{any_waits}
use Rattle.group_state.specs.declared.phase.Phase.{Phase}
use Rattle.group_state.specs.declared.phase.Phase.TheVariants.{Unbroken, Broken, Reported}
use Rattle.group_state.specs.declared.volume.Volume.{Volume}
use Rattle.group_state.specs.Volumes.{volume_of, passes, carries, is_carried}
use Rattle.group_state.specs.Controls.{ControlState, carried_writes, joined, copied, raised, broke, begun_volume, dropped, resumed, forgotten, formed, due_of, is_reporting, counts}
use Rattle.group_state.specs.SoundStates.{passes_or_none, are_distinct, is_track_within, are_within, MayReport, MayJoin, MayCarry, is_dropped}
use Rattle.group_state.proofs.SoundLaws.{all_kept}
use Rattle.group_state.proofs.FormLaws.{later_not}
use Rattle.group_state.specs.Runs.{tracks_in}
use Rattle.group_state.specs.Histories.{AreSeen, is_track_of_volume, IsShareOf, IsControlOf}
use Rattle.group_state.proofs.Seen.{seen_filter, seen_any}
use Rattle.group_state.proofs.Shares.{turned, same_share, all_written, all_copied, all_begun, all_dropped, all_resumed, all_forgotten, all_formed}
use Rattle.group_state.proofs.Told.{IsQuiet, told_quiet, told_next, told_formed, waiting_next, waiting_less, all_stay}
use Rattle.group_state.proofs.Elsewhere.{share_snoc, told_of}

itself : (k : ℕ) → nat_eq k k ≡ true
itself k = eq-eqb k k refl

-- the shares after one more event
shares_after : (k : ℕ) (past : List Event) (x : Event) (volumes : List Volume) → ((v y : ℕ) → IsShareOf (volume_of v volumes) y (share_by k v y (share k v y past) x))
    → (v y : ℕ) → IsShareOf (volume_of v volumes) y (share k v y (past ++ x ∷ []))
shares_after k past x volumes by v y = subst (IsShareOf (volume_of v volumes) y) (sym (share_snoc k v y past x)) (by v y)

reporting_counts : (phase : Phase) → is_reporting phase ≡ true → counts phase ≡ true
reporting_counts Unbroken e = refl
reporting_counts (Broken cause) e = absurd cc
reporting_counts Reported e = absurd cc

-- an event by which the controller reports nothing, and none of its entries goes or comes
module _ (k : ℕ) (past : List Event) (x : Event) (c : ControlState) (q : IsQuiet k x) (h : IsControlOf k past c) where
  pub quietly : (new : ControlState) → new.floor ≡ c.floor → new.phase ≡ c.phase → ((v y : ℕ) → IsShareOf (volume_of v new.volumes) y (share_by k v y (share k v y past) x))
      → AreSeen new.queue.waiting (filter (is_of_control k) (waiting_in [] (past ++ x ∷ []))) → IsControlOf k (past ++ x ∷ []) new
  quietly new floor phase volumes waiting =
      let t = told_quiet k past x c.floor c.phase q (told_of k past c h) in
      record {
        told = ap (λ (s : Stamp). s.0) floor ∙ t.told;
        reporting = ap is_reporting phase ∙ t.reporting;
        live = ap counts phase ∙ t.live;
        volumes = shares_after k past x new.volumes volumes;
        waiting = waiting;
      }

-- ---- a joined batch

-- whether a write is carried
carries_is : (x : ℕ) (kept : Option Volume) (s : Share) → passes_or_none (is_track_of_volume x) kept ≡ true → IsShareOf kept x s → passes (carries x) kept ≡ (s.is_carried && not s.is_wanted)
carries_is x None s within h = rw (sym h.carried) refl
carries_is x (Some u) s within h = rw (sym h.carried, sym (h.wanted within)) (choose u.carried)
  where
    choose : (c : Bool) → (c && not (has_track u.plan.wanted x)) ≡ (c && not (c && has_track u.plan.wanted x))
    choose true = refl
    choose false = refl

joined_seen : (j k : ℕ) (past : List Event) (volumes : List Volume) (writes : List Write) → j ≡ k → are_within volumes writes ≡ true → ((v y : ℕ) → IsShareOf (volume_of v volumes) y (share k v y past))
    → AreSeen (entries_of j (filter (is_carried volumes) writes)) (filter (is_of_control k) (map (carried_entry k) (filter (is_write_carried past k) writes)))
joined_seen j k past volumes [] is within h = tt
joined_seen j k past volumes (w ∷ writes) is within h =
    let parts = and_parts (is_track_within volumes w.volume w.track) (are_within volumes writes) within in
    choose (is_carried volumes w) (is_write_carried past k w) (carries_is w.track (volume_of w.volume volumes) (share k w.volume w.track past) parts.0 (h w.volume w.track)) (joined_seen j k past volumes writes is parts.1 h)
  where
    choose : (b c : Bool) → b ≡ c → AreSeen (entries_of j (filter (is_carried volumes) writes)) (filter (is_of_control k) (map (carried_entry k) (filter (is_write_carried past k) writes)))
        → AreSeen (entries_of j (cond b (w ∷ filter (is_carried volumes) writes) (filter (is_carried volumes) writes)))
        (filter (is_of_control k) (map (carried_entry k) (cond c (w ∷ filter (is_write_carried past k) writes) (filter (is_write_carried past k) writes))))
    choose true true same rest = rw (itself k) (record { control = is; volume = refl; track = refl; stamp = refl; content = refl }, rest)
    choose false false same rest = rest
    choose true false same rest = absurd cc
    choose false true same rest = absurd cc

pub control_joined : (past : List Event) (b : Batch) (c : ControlState) → c.queue.control ≡ b.control → MayJoin c b → IsControlOf b.control past c → IsControlOf b.control (past ++ Join b ∷ []) (joined b c)
control_joined past b c number may h =
    let k = b.control in
    let tells = may.tells.reporting in
    let t = told_next k past (Join b) c.floor b.upto c.phase c.phase false (λ c. refl) refl (rw (itself k) refl) (told_of k past c h) tells may.tells.up tells (reporting_counts c.phase tells) in
    record {
      told = t.told;
      reporting = t.reporting;
      live = t.live;
      volumes = shares_after k past (Join b) (joined b c).volumes (λ v y. rw (itself k) (all_written v y b.writes c.volumes (share k v y past) (h.volumes v y)));
      waiting = waiting_next k past (Join b) c.queue.waiting (entries_of c.queue.control (carried_writes c b)) (all_stay k past (Join b) c.queue.waiting (λ e is. refl) h.waiting)
          (joined_seen c.queue.control k past c.volumes b.writes number may.tracks h.volumes);
    }

-- ---- a raise and a break

pub control_raised : (k : ℕ) (past : List Event) (upto : Stamp) (c : ControlState) → MayReport c upto → IsControlOf k past c → IsControlOf k (past ++ Raise k upto.0 ∷ []) (raised upto c)
control_raised k past upto c may h =
    let t = told_next k past (Raise k upto.0) c.floor upto c.phase c.phase false (λ c. refl) refl (rw (itself k) refl) (told_of k past c h) may.reporting may.up may.reporting (reporting_counts c.phase may.reporting) in
    record {
      told = t.told;
      reporting = t.reporting;
      live = t.live;
      volumes = shares_after k past (Raise k upto.0) c.volumes h.volumes;
      waiting = waiting_less k past (Raise k upto.0) c.queue.waiting (all_stay k past (Raise k upto.0) c.queue.waiting (λ e is. refl) h.waiting) refl;
    }

pub control_broke : (k : ℕ) (past : List Event) (upto : Stamp) (cause : Cause) (c : ControlState) → MayReport c upto → IsControlOf k past c → IsControlOf k (past ++ Break k upto.0 ∷ []) (broke upto cause c)
control_broke k past upto cause c may h =
    let t = told_next k past (Break k upto.0) c.floor upto c.phase (Broken cause) true (λ c. refl) (itself k) (rw (itself k) refl) (told_of k past c h) may.reporting may.up refl refl in
    record {
      told = t.told;
      reporting = t.reporting;
      live = t.live;
      volumes = shares_after k past (Break k upto.0) c.volumes h.volumes;
      waiting = waiting_less k past (Break k upto.0) c.queue.waiting (all_stay k past (Break k upto.0) c.queue.waiting (λ e is. refl) h.waiting) refl;
    }

-- ---- a copied track

pub control_copied : (k v x : ℕ) (past : List Event) (at : Stamp) (slot : List Rec) (c : ControlState) → c.queue.control ≡ k → IsControlOf k past c → IsControlOf k (past ++ Copied k v x at.0 ∷ []) (copied v x at slot c)
control_copied k v x past at slot c number h =
    let y = Copied k v x at.0 in
    let new : AreSeen (waiting_copy (copy_head c.queue.control v x at) slot ∷ []) (filter (is_of_control k) (copied_entry k v x at.0 ∷ [])) =
    rw (itself k) (record { control = number; volume = refl; track = refl; stamp = refl; content = refl }, tt) in
    quietly k past y c (record { form = λ c. refl; break = refl; told = refl }) h (copied v x at slot c) refl refl
    (λ w z. rw (itself k) (all_copied v w x z at.0 c.volumes (share k w z past) (h.volumes w z)))
    (waiting_next k past y c.queue.waiting (waiting_copy (copy_head c.queue.control v x at) slot ∷ []) (all_stay k past y c.queue.waiting (λ e is. refl) h.waiting) new)

-- ---- a volume that begins, is carried again, and is forgotten

pub control_begun : (k v : ℕ) (past : List Event) (plan : PlanState) (c : ControlState) → MayCarry c v plan → IsControlOf k past c → IsControlOf k (past ++ Carry k v (tracks_in plan.wanted) ∷ []) (begun_volume v plan c)
control_begun k v past plan c may h =
    let y = Carry k v (tracks_in plan.wanted) in
    quietly k past y c (record { form = λ c. refl; break = refl; told = refl }) h (begun_volume v plan c) refl refl
    (λ w z. rw (itself k) (all_begun v w z plan c.volumes (share k w z past) may.unknown (h.volumes w z)))
    (waiting_less k past y c.queue.waiting (all_stay k past y c.queue.waiting (λ e is. refl) h.waiting) refl)

pub control_resumed : (k v : ℕ) (past : List Event) (c : ControlState) → is_dropped v c.volumes ≡ true → IsControlOf k past c → IsControlOf k (past ++ Resume k v ∷ []) (resumed v c)
control_resumed k v past c dropped h =
    let y = Resume k v in
    quietly k past y c (record { form = λ c. refl; break = refl; told = refl }) h (resumed v c) refl refl
    (λ w z. rw (itself k) (all_resumed v w z c.volumes (share k w z past) dropped (h.volumes w z)))
    (waiting_less k past y c.queue.waiting (all_stay k past y c.queue.waiting (λ e is. refl) h.waiting) refl)

pub control_forgotten : (k v : ℕ) (past : List Event) (c : ControlState) → are_distinct c.volumes ≡ true → IsControlOf k past c → IsControlOf k (past ++ Forget k v ∷ []) (forgotten v c)
control_forgotten k v past c distinct h =
    let y = Forget k v in
    quietly k past y c (record { form = λ c. refl; break = refl; told = refl }) h (forgotten v c) refl refl
    (λ w z. rw (itself k) (all_forgotten v w z c.volumes (share k w z past) distinct (h.volumes w z)))
    (waiting_less k past y c.queue.waiting (all_stay k past y c.queue.waiting (λ e is. refl) h.waiting) refl)

-- ---- a drop

any_mapped : {A B : Type 0} (p : B → Bool) (f : A → B) (q : A → Bool) (items : List A) → list_any p (map f (filter q items)) ≡ list_any (λ a. q a && p (f a)) items
any_mapped p f q [] = refl
any_mapped {A} p f q (a ∷ items) = choose (q a) (any_mapped p f q items)
  where
    choose : (t : Bool) → list_any p (map f (filter q items)) ≡ list_any (λ a. q a && p (f a)) items
        → list_any p (map f (cond t (a ∷ filter q items) (filter q items))) ≡ ((t && p (f a)) || list_any (λ a. q a && p (f a)) items)
    choose true h = ap (λ b. p (f a) || b) h
    choose false h = h

pub any_of : {A : Type 0} (ok q : A → Bool) (items : List A) → ((a : A) → ok a ≡ false → q a ≡ false) → list_any q (filter ok items) ≡ list_any q items
any_of ok q [] none = refl
any_of {A} ok q (a ∷ items) none = choose (ok a) refl (any_of ok q items none)
  where
    choose : (t : Bool) → ok a ≡ t → list_any q (filter ok items) ≡ list_any q items → list_any q (cond t (a ∷ filter ok items) (filter ok items)) ≡ (q a || list_any q items)
    choose true is h = ap (λ b. q a || b) h
    choose false is h = rw (none a is) h

-- the tracks of a volume's entries that wait are those on which the history's entries wait
drop_waits : (k v x : ℕ) (past : List Event) (c : ControlState) → IsControlOf k past c → not (length (share k v x past).waiting == 0) ≡ list_any (λ y. y == x) (entry_tracks v c.queue.waiting)
drop_waits k v x past c h =
    let entries = waiting_in [] past in
    let waits = ap (λ (stamps : List ℕ). not (length stamps == 0)) (shares_wait k v x past) ∙ any_waits (waits_on k v x) entries in
    let mine = any_of (is_of_control k) (waits_on k v x) entries (λ e other. rw other refl) in
    let seen = seen_any (is_of_control k) (λ w. is_of_volume v w && w.head.track == x) (waits_on k v x) (λ w e s is. rw (s.volume, s.track, is) refl) c.queue.waiting (filter (is_of_control k) entries) (all_kept (is_of_control k) entries) h.waiting in
    waits ∙ sym mine ∙ sym seen ∙ sym (any_mapped (λ y. y == x) (λ (w : WaitingEntry). w.head.track) (is_of_volume v) c.queue.waiting)

pub control_dropped : (k v : ℕ) (all : Bool) (past : List Event) (c : ControlState) → IsControlOf k past c → IsControlOf k (past ++ Drop k v all ∷ []) (dropped v all c)
control_dropped k v all past c h =
    let y = Drop k v all in
    let entries = filter (is_of_control k) (waiting_in [] past) in
    quietly k past y c (record { form = λ c. refl; break = refl; told = refl }) h (dropped v all c) refl refl
    (λ w z. rw (itself k) (all_dropped v w z all (entry_tracks v c.queue.waiting) c.volumes (share k w z past)
    (λ same. subst (λ n. not (length (share k n z past).waiting == 0) ≡ list_any (λ y. y == z) (entry_tracks v c.queue.waiting)) (eqb-true v w same) (drop_waits k v z past c h)) (h.volumes w z)))
    (waiting_less k past y (without_volume v c.queue.waiting)
    (seen_filter (is_of_control k) (λ w. not (is_of_volume v w)) (stays y) (λ w e s is. rw (s.volume, eqb-true e.control k is, itself k, turned e.volume v) refl) c.queue.waiting entries (all_kept (is_of_control k) (waiting_in [] past)) h.waiting) refl)

-- ---- a form

pub control_formed : (k : ℕ) (past : List Event) (cut : Stamp) (c : ControlState) → breaks_at k (floor k past) past ≡ true → IsControlOf k past c → IsControlOf k (past ++ Form cut.0 ∷ []) (formed cut c)
control_formed k past cut c breaks h =
    let t = told_formed k past cut c.floor c.phase breaks (told_of k past c h) in
    record {
      told = t.told;
      reporting = t.reporting;
      live = t.live;
      volumes = shares_after k past (Form cut.0) (formed cut c).volumes
          (λ v y. same_share (volume_of v (formed cut c).volumes) y (filter (λ stamp. nat_lt cut.0 stamp) (share k v y past).waiting) (share k v y past)
          (all_formed v y c.volumes (copies (due_of cut c)) (share k v y past) (h.volumes v y)));
      waiting = waiting_less k past (Form cut.0) (left cut c.queue.waiting)
          (seen_filter (is_of_control k) (is_later cut) (stays (Form cut.0)) (λ w e s is. later_not cut w ∙ rw s.stamp (sym (and-true (not (nat_le e.stamp cut.0))))) c.queue.waiting (filter (is_of_control k) (waiting_in [] past))
          (all_kept (is_of_control k) (waiting_in [] past)) h.waiting) refl;
    }
