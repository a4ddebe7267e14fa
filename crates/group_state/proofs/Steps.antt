-- Each call, made when it may be made and answered as the machine answers, keeps what is kept.
use Rattle.std.proofs.Common.{◌≡◌, ℕ, ◌<◌, Bool, true, false, not, cond, nat_lt, nat_le, ◌&&◌, List, [], ◌∷◌, ◌++◌, Option, Some, None, refl, sym, ap, subst, ◌∙◌, arith}
use Rattle.std.specs.Prelude.{◌==◌, filter}
use Rattle.std.proofs.lemmas.Bool.{and_from, eq-eqb, lt-ltb, le-leb}
use Rattle.tod_stamp.specs.declared.stamp.Stamp.{Stamp}
use Rattle.ckd_track.specs.declared.rec.Rec.{Rec}
use Rattle.ckd_track.specs.declared.write.Batch.{Batch}
use Rattle.ckd_track.specs.declared.write.Cause.{Cause}
use Rattle.xrc_edge.specs.Order.{is_in_order}
use Rattle.copy_plan.specs.Plans.{PlanState}
use Rattle.cut_core.specs.Events.{Event, floor, is_broken_after}
use Rattle.cut_core.specs.Events.Event.{Join as Joins, Copied as Copies, Break as Breaks, Raise as Raises, Drop as Drops, Carry as Carries, Resume as Resumes, Forget as Forgets}
use Rattle.cut_core.specs.Groups.{is_write_carried}
use Rattle.cut_core.specs.Shares.{share}
use Rattle.cut_core.specs.LegalHistories.{are_in, may_report, is_legal_next}
use Rattle.group_state.specs.Volumes.{is_wanted}
use Rattle.group_state.specs.Controls.{ControlState, is_reporting, fits, fits_track, room_of, joined, copied, raised, broke, begun_volume, dropped, resumed, forgotten}
use Rattle.group_state.specs.Groups.{Group, control_at, with_control, cut_of, gives_nothing, formed_at, shown_at}
use Rattle.group_state.specs.SoundStates.{MayReport}
use Rattle.group_state.specs.Machine.{Call, Reply, reply_to, group_after, steps}
use Rattle.group_state.specs.Machine.Call.{Join, NextWanted, Copied, Raise, Break, Form, Carry, Drop, Resume, Forget}
use Rattle.group_state.specs.Machine.Reply.{Joined, Held, Stale, Formed, Nothing}
use Rattle.group_state.proofs.SoundLaws.{sound_joined, sound_raised, sound_broke, sound_copied, sound_begun, sound_dropped, sound_resumed, sound_forgotten}
use Rattle.group_state.specs.Runs.{tracks_in, event_by, May}
use Rattle.group_state.specs.Histories.{IsControlOf}
use Rattle.group_state.proofs.Elsewhere.{join_elsewhere, copied_elsewhere, raise_elsewhere, break_elsewhere, drop_elsewhere, carry_elsewhere, resume_elsewhere, forget_elsewhere}
use Rattle.group_state.proofs.Controls.{control_joined, control_raised, control_broke, control_copied, control_begun, control_resumed, control_forgotten, control_dropped}
use Rattle.group_state.proofs.Stands.{Stands, stands_next, written_below}
use Rattle.group_state.proofs.Forms.{stands_formed}
use Rattle.ckd_track.specs.Writes.{is_earlier}

-- a history with one more event, where there is one
abbrev pub with_event : List Event → Option Event → List Event
with_event past None = past
with_event past (Some x) = past ++ x ∷ []

-- ---- legal events

tells : (n k : ℕ) (past : List Event) (c : ControlState) → k < n → is_reporting c.phase ≡ true → IsControlOf k past c → may_report n k past ≡ true
tells n k past c lt reporting h = and_from (nat_lt k n) (not (is_broken_after k past)) (lt-ltb k n lt) (sym h.reporting ∙ reporting)

told : (n k : ℕ) (past : List Event) (upto : Stamp) (c : ControlState) → k < n → MayReport c upto → IsControlOf k past c → (may_report n k past && nat_le (floor k past) upto.0) ≡ true
told n k past upto c lt may h = and_from (may_report n k past) (nat_le (floor k past) upto.0) (tells n k past c lt may.reporting h) (le-leb (floor k past) upto.0 (omega (arith, h.told, may.up)))

-- ---- the calls that are events of one controller

stands_joined : (n : ℕ) (past : List Event) (s : Group) (b : Batch) → Stands n past s → May s (Join b) → Stands n (past ++ Joins b ∷ []) (with_control b.control (joined b) s)
stands_joined n past s b h may =
    let k = b.control in
    let c = control_at s k in
    let lt : k < n = omega (arith, may.control, h.follows.count) in
    let f = h.follows.each k lt in
    let inside : are_in (floor k past) b.upto.0 b.writes ≡ true = subst (λ t. are_in t b.upto.0 b.writes ≡ true) f.told may.legal.within in
    let legal : is_legal_next n past (Joins b) ≡ true =
    and_from (may_report n k past && are_in (floor k past) b.upto.0 b.writes && is_in_order is_earlier b.writes) (nat_le (floor k past) b.upto.0)
    (and_from (may_report n k past && are_in (floor k past) b.upto.0 b.writes) (is_in_order is_earlier b.writes)
    (and_from (may_report n k past) (are_in (floor k past) b.upto.0 b.writes) (tells n k past c lt may.legal.tells.reporting f) inside) may.legal.order)
    (le-leb (floor k past) b.upto.0 (omega (arith, f.told, may.legal.tells.up))) in
    stands_next n past (Joins b) k (joined b) s h lt legal refl (λ i other. join_elsewhere b i past other)
    (written_below n k (filter (is_write_carried past k) b.writes) lt) refl (sound_joined b c (h.sound k lt) may.legal) (control_joined past b c (h.numbers k lt) may.legal f)

stands_copied : (n : ℕ) (past : List Event) (s : Group) (k v x : ℕ) (at : Stamp) (slot : List Rec) → Stands n past s → May s (Copied k v x at slot) → is_wanted v x (control_at s k).volumes ≡ true
    → Stands n (past ++ Copies k v x at.0 ∷ []) (with_control k (copied v x at slot) s)
stands_copied n past s k v x at slot h may wanted =
    let c = control_at s k in
    let lt : k < n = omega (arith, may.0, h.follows.count) in
    let f = h.follows.each k lt in
    let wants : (share k v x past).is_wanted ≡ true = sym ((f.volumes v x).wanted may.1.track) ∙ wanted in
    let legal : is_legal_next n past (Copies k v x at.0) ≡ true =
    and_from (may_report n k past && (share k v x past).is_wanted) (at.0 == floor k past)
    (and_from (may_report n k past) (share k v x past).is_wanted (tells n k past c lt may.1.reporting f) wants)
    (eq-eqb at.0 (floor k past) (ap (λ (t : Stamp). t.0) may.1.floor ∙ f.told)) in
    stands_next n past (Copies k v x at.0) k (copied v x at slot) s h lt legal refl (λ i other. copied_elsewhere k v x at.0 i past other)
    (and_from (nat_lt k n) true (lt-ltb k n lt) refl) refl (sound_copied v x at slot c (h.sound k lt) may.1.floor wanted may.1.track) (control_copied k v x past at slot c (h.numbers k lt) f)

stands_raised : (n : ℕ) (past : List Event) (s : Group) (k : ℕ) (upto : Stamp) → Stands n past s → May s (Raise k upto) → Stands n (past ++ Raises k upto.0 ∷ []) (with_control k (raised upto) s)
stands_raised n past s k upto h may =
    let c = control_at s k in
    let lt : k < n = omega (arith, may.0, h.follows.count) in
    let f = h.follows.each k lt in
    stands_next n past (Raises k upto.0) k (raised upto) s h lt (told n k past upto c lt may.1 f) refl (λ i other. raise_elsewhere k upto.0 i past other)
    refl refl (sound_raised upto c (h.sound k lt) may.1) (control_raised k past upto c may.1 f)

stands_broke : (n : ℕ) (past : List Event) (s : Group) (k : ℕ) (upto : Stamp) (cause : Cause) → Stands n past s → May s (Break k upto cause) → Stands n (past ++ Breaks k upto.0 ∷ []) (with_control k (broke upto cause) s)
stands_broke n past s k upto cause h may =
    let c = control_at s k in
    let lt : k < n = omega (arith, may.0, h.follows.count) in
    let f = h.follows.each k lt in
    stands_next n past (Breaks k upto.0) k (broke upto cause) s h lt (told n k past upto c lt may.1 f) refl (λ i other. break_elsewhere k upto.0 i past other)
    refl refl (sound_broke upto cause c (h.sound k lt) may.1) (control_broke k past upto cause c may.1 f)

stands_begun : (n : ℕ) (past : List Event) (s : Group) (k v : ℕ) (plan : PlanState) → Stands n past s → May s (Carry k v plan) → Stands n (past ++ Carries k v (tracks_in plan.wanted) ∷ []) (with_control k (begun_volume v plan) s)
stands_begun n past s k v plan h may =
    let c = control_at s k in
    let lt : k < n = omega (arith, may.0, h.follows.count) in
    stands_next n past (Carries k v (tracks_in plan.wanted)) k (begun_volume v plan) s h lt refl refl (λ i other. carry_elsewhere k v (tracks_in plan.wanted) i past other)
    refl refl (sound_begun v plan c (h.sound k lt) may.1) (control_begun k v past plan c may.1 (h.follows.each k lt))

stands_dropped : (n : ℕ) (past : List Event) (s : Group) (k v : ℕ) (all : Bool) → Stands n past s → May s (Drop k v all) → Stands n (past ++ Drops k v all ∷ []) (with_control k (dropped v all) s)
stands_dropped n past s k v all h may =
    let c = control_at s k in
    let lt : k < n = omega (arith, may, h.follows.count) in
    stands_next n past (Drops k v all) k (dropped v all) s h lt refl refl (λ i other. drop_elsewhere k v all i past other)
    refl refl (sound_dropped v all c (h.sound k lt)) (control_dropped k v all past c (h.follows.each k lt))

stands_resumed : (n : ℕ) (past : List Event) (s : Group) (k v : ℕ) → Stands n past s → May s (Resume k v) → Stands n (past ++ Resumes k v ∷ []) (with_control k (resumed v) s)
stands_resumed n past s k v h may =
    let c = control_at s k in
    let lt : k < n = omega (arith, may.0, h.follows.count) in
    stands_next n past (Resumes k v) k (resumed v) s h lt refl refl (λ i other. resume_elsewhere k v i past other)
    refl refl (sound_resumed v c (h.sound k lt) may.1) (control_resumed k v past c may.1 (h.follows.each k lt))

stands_forgotten : (n : ℕ) (past : List Event) (s : Group) (k v : ℕ) → Stands n past s → May s (Forget k v) → Stands n (past ++ Forgets k v ∷ []) (with_control k (forgotten v) s)
stands_forgotten n past s k v h may =
    let c = control_at s k in
    let lt : k < n = omega (arith, may.0, h.follows.count) in
    stands_next n past (Forgets k v) k (forgotten v) s h lt refl refl (λ i other. forget_elsewhere k v i past other)
    refl refl (sound_forgotten v c (h.sound k lt) may.1) (control_forgotten k v past c (h.sound k lt).distinct (h.follows.each k lt))

-- ---- each call

answered_step : (n : ℕ) (past : List Event) (s : Group) (call : Call) → Stands n past s → May s call → Stands n (with_event past (event_by call (reply_to s call))) (group_after s call)
answered_step n past s (Join b) h may = choose (fits (control_at s b.control) b)
  where
    choose : (t : Bool) → Stands n (with_event past (event_by (Join b) (cond t Joined (Held (room_of (control_at s b.control)))))) (cond t (with_control b.control (joined b) s) s)
    choose true = stands_joined n past s b h may
    choose false = h
answered_step n past s (NextWanted k) h may = h
answered_step n past s (Copied k v x at slot) h may = choose (is_wanted v x (control_at s k).volumes) refl (fits_track (control_at s k) slot)
  where
    choose : (w : Bool) → is_wanted v x (control_at s k).volumes ≡ w → (t : Bool)
        → Stands n (with_event past (event_by (Copied k v x at slot) (cond w (cond t Joined (Held (room_of (control_at s k)))) Stale))) (cond (w && t) (with_control k (copied v x at slot) s) s)
    choose true is true = stands_copied n past s k v x at slot h may is
    choose true is false = h
    choose false is t = h
answered_step n past s (Raise k upto) h may = stands_raised n past s k upto h may
answered_step n past s (Break k upto cause) h may = stands_broke n past s k upto cause h may
answered_step n past s (Form limit) h may = choose (gives_nothing s limit)
  where
    choose : (t : Bool) → Stands n (with_event past (event_by (Form limit) (cond t (Nothing (shown_at (cut_of s limit) s)) (Formed (shown_at (cut_of s limit) s))))) (formed_at (cut_of s limit) s)
    choose true = stands_formed n past s limit h may
    choose false = stands_formed n past s limit h may
answered_step n past s (Carry k v plan) h may = stands_begun n past s k v plan h may
answered_step n past s (Drop k v all) h may = stands_dropped n past s k v all h may
answered_step n past s (Resume k v) h may = stands_resumed n past s k v h may
answered_step n past s (Forget k v) h may = stands_forgotten n past s k v h may

pub step : (n : ℕ) (past : List Event) (old : Group) (call : Call) (reply : Reply) (new : Group) → Stands n past old → May old call → steps old call reply new → Stands n (with_event past (event_by call reply)) new
step n past old call reply new h may made =
    subst (λ r. Stands n (with_event past (event_by call r)) new) (sym made.0)
    (subst (Stands n (with_event past (event_by call (reply_to old call)))) (sym made.1) (answered_step n past old call h may))
