-- Each call keeps what is held; what a group makes done is what was reported.
use Rattle.std.proofs.Common.{◌≡◌, ℕ, zero, suc, ◌<◌, ◌≤◌, Bool, true, false, not, cond, nat_eq, nat_lt, nat_le, ◌&&◌, ◌||◌, List, [], ◌∷◌, length, get_or, Option, inl, inr, refl, sym, ap, subst, ◌∙◌, arith, length-set, get_or-set_same, get_or-set_other, true≢false}
use Rattle.std.specs.Prelude.{map, fold, min, slice_set, IsTrue}
use Rattle.std.specs.List.{list_all}
use Rattle.std.proofs.lemmas.Bool.{cases_Bool, and_parts, eqb-true, eqb-false, leb-true, ltb-true, lt-leb}
use Rattle.std.proofs.lemmas.List.{length-map}
use Rattle.std.proofs.lemmas.List.Elements.{All-get_or}
use Rattle.tod_stamp.specs.declared.stamp.Stamp.{Stamp}
use Rattle.ckd_track.specs.declared.rec.Rec.{Rec}
use Rattle.pending_queue.specs.Entries.{WaitingEntry, entry_stamp, left, due, is_queued_on}
use Rattle.image_former.specs.Changes.{changed_by}
use Rattle.group_state.specs.declared.phase.Phase.{Phase}
use Rattle.group_state.specs.declared.phase.Phase.TheVariants.{Unbroken, Broken, Reported}
use Rattle.group_state.specs.Volumes.{is_wanted}
use Rattle.group_state.specs.Controls.{ControlState, new_control, is_reporting, counts, lesser, fits, fits_track, room_of, joined, copied, raised, broke, begun_volume, dropped, resumed, forgotten, formed}
use Rattle.group_state.specs.Groups.{Group, control_at, with_control, cut_of, formed_at, shown_at, gives_nothing}
use Rattle.group_state.specs.SoundStates.{Sound, has_reported, IsGroupSound}
use Rattle.group_state.specs.Machine.{Call, reply_to_copied, reply_to, group_after}
use Rattle.group_state.specs.Machine.Call.{Join, NextWanted, Copied, Raise, Break, Form, Carry, Drop, Resume, Forget}
use Rattle.group_state.specs.Machine.Reply.{Joined, Held, Formed, Nothing}
use Rattle.group_state.specs.Runs.{May}
use Rattle.group_state.proofs.FormLaws.{all_at}
use Rattle.group_state.proofs.Kept.{kept_form}
use Rattle.group_state.proofs.OwnParts.{own_part}
use Rattle.fed_logs.specs.ToldTracks.{Truth, HeldTracks, ReportsTruth, HoldsTold, AllHold, has_changed, after_entries, is_queued_up_to, held_after_group, held_after}
use Rattle.fed_logs.specs.ToldLaws.{StepsKeep, DoneIsTold}
use Rattle.fed_logs.proofs.Controls.{joins, copies_in, tells_upto, drops, forms, begins, resumes, forgets}
use Rattle.fed_logs.proofs.Parts.{names_own}

-- ---- one controller of the state

-- A controller is changed, and the others are as they were.
one : (truth : Truth) (held : HeldTracks) (s : Group) (j : ℕ) (change : ControlState → ControlState) → (j < length s.controls → HoldsTold (truth j) s.last.0 (held j) (change (control_at s j))) → AllHold truth held s
    → AllHold truth held (with_control j change s)
one truth held s j change here all k low = elim (cases_Bool (nat_eq j k)) [
  | inl same ↦
      let is : j ≡ k = eqb-true j k same in
      let within : j < length s.controls = omega (arith, low, length-set s.controls j (change (control_at s j)), is) in
      subst (λ i. HoldsTold (truth i) s.last.0 (held i) (get_or (slice_set s.controls j (change (control_at s j))) i (new_control 0 0 0))) is
      (subst (HoldsTold (truth j) s.last.0 (held j)) (sym (get_or-set_same s.controls j (change (control_at s j)) (new_control 0 0 0) within)) (here within))
  | inr apart ↦
      subst (HoldsTold (truth k) s.last.0 (held k)) (sym (get_or-set_other s.controls j k (change (control_at s j)) (new_control 0 0 0) (λ e. eqb-false j k apart (sym e))))
      (all k (omega (arith, low, length-set s.controls j (change (control_at s j)))))
]

sound_at : (s : Group) (k : ℕ) → IsGroupSound s → k < length s.controls → Sound (control_at s k)
sound_at s k keeps low = All-get_or Sound s.controls k (new_control 0 0 0) low keeps.sound

-- a controller that counts has reported up to the last cut
pub reported_to_last : (last : Stamp) (c : ControlState) → has_reported last c ≡ true → counts c.phase ≡ true → last.0 ≤ c.floor.0
reported_to_last last c told is = leb-true last.0 c.floor.0 (choose (counts c.phase) is told)
  where
    choose : (t : Bool) → t ≡ true → (not t || nat_le last.0 c.floor.0) ≡ true → nat_le last.0 c.floor.0 ≡ true
    choose true e told = told
    choose false e told = absurd (true≢false (sym e))

reporting_counts : (phase : Phase) → is_reporting phase ≡ true → counts phase ≡ true
reporting_counts Unbroken e = refl
reporting_counts (Broken cause) e = absurd cc
reporting_counts Reported e = absurd cc

reporting_low : (s : Group) (k : ℕ) → IsGroupSound s → k < length s.controls → is_reporting (control_at s k).phase ≡ true → s.last.0 ≤ (control_at s k).floor.0
reporting_low s k keeps low reporting = reported_to_last s.last (control_at s k) (all_at (has_reported s.last) s.controls k (new_control 0 0 0) keeps.told low) (reporting_counts (control_at s k).phase reporting)

-- ---- the cut

-- A cut isn't below a time that is up to the limit and up to all floors that count.
cut_above : (last : Stamp) (limit : ℕ) (controls : List ControlState) → last.0 ≤ limit → list_all (has_reported last) controls ≡ true → last.0 ≤ fold lesser limit controls
cut_above last limit [] le told = le
cut_above last limit (c ∷ controls) le told =
    let parts = and_parts (has_reported last c) (list_all (has_reported last) controls) told in
    cut_above last (lesser limit c) controls (first (counts c.phase) (reported_to_last last c parts.0)) parts.1
  where
    first : (t : Bool) → (t ≡ true → last.0 ≤ c.floor.0) → last.0 ≤ cond t (min limit c.floor.0) limit
    first true floor = let f = floor refl in omega (arith, le, f)
    first false floor = le

pub at_map : (cut : Stamp) (controls : List ControlState) (k : ℕ) → k < length controls → get_or (map (formed cut) controls) k (new_control 0 0 0) ≡ formed cut (get_or controls k (new_control 0 0 0))
at_map cut [] k low = absurd (omega (arith, low))
at_map cut (c ∷ controls) zero low = refl
at_map cut (c ∷ controls) (suc k) low = at_map cut controls k (omega (arith, low))

-- ---- each call

held_same : (truth : (volume track time : ℕ) → List Rec) (last : ℕ) (new old : (volume track : ℕ) → Option (List Rec)) (c : ControlState) → ((v x : ℕ) → new v x ≡ old v x) → HoldsTold truth last old c → HoldsTold truth last new c
held_same truth last new old c same h = record {
  holds = λ v x t settled copies from to. ap (after_entries (is_queued_up_to v x t) c.queue.waiting) (same v x) ∙ h.holds v x t settled copies from to;
}

-- a form, whatever it has
pub form_keeps : (truth : Truth) (held : HeldTracks) (s : Group) (limit : Stamp) → IsGroupSound s → s.last.0 ≤ limit.0 → AllHold truth held s → AllHold truth (held_after_group (shown_at (cut_of s limit) s).entries held) (formed_at (cut_of s limit) s)
form_keeps truth held s limit keeps may all = λ k low.
    let cut = cut_of s limit in
    let within : k < length s.controls = omega (arith, low, length-map s.controls (formed cut)) in
    let c = control_at s k in
    subst (HoldsTold (truth k) cut.0 (held_after_group (shown_at cut s).entries held k)) (sym (at_map cut s.controls k within))
    (held_same (truth k) cut.0 (held_after_group (shown_at cut s).entries held k) (λ v x. after_entries (is_queued_on v x) (due cut c.queue.waiting) (held k v x)) (formed cut c)
    (λ v x. names_own k v x (shown_at cut s).entries (held k v x) ∙ ap (λ (es : List WaitingEntry). after_entries (is_queued_on v x) es (held k v x)) (own_part s cut k keeps within))
    (forms (truth k) s.last.0 cut (held k) c (sound_at s k keeps within) (cut_above s.last limit.0 s.controls may keeps.told) (all k within)))

call_keeps : (truth : Truth) (held : HeldTracks) (s : Group) (call : Call) → IsGroupSound s → May s call → (IsTrue (has_changed (reply_to s call)) → ReportsTruth truth s call) → AllHold truth held s
    → AllHold truth (held_after (reply_to s call) held) (group_after s call)
call_keeps truth held s (Join b) keeps may tells all = choose (fits (control_at s b.control) b) tells
  where
    choose : (t : Bool) → (IsTrue (has_changed (cond t Joined (Held (room_of (control_at s b.control))))) → ReportsTruth truth s (Join b))
        → AllHold truth (held_after (cond t Joined (Held (room_of (control_at s b.control)))) held) (cond t (with_control b.control (joined b) s) s)
    choose true tells = one truth held s b.control (joined b) (λ low. joins (truth b.control) s.last.0 (held b.control) (control_at s b.control) b (sound_at s b.control keeps low) may.legal (reporting_low s b.control keeps low may.legal.tells.reporting) (tells refl) (all b.control low)) all
    choose false tells = all
call_keeps truth held s (NextWanted k) keeps may tells all = all
call_keeps truth held s (Copied k v x at recs) keeps may tells all = choose (is_wanted v x (control_at s k).volumes) (fits_track (control_at s k) recs) tells
  where
    choose : (t u : Bool) → (IsTrue (has_changed (reply_to_copied t u (room_of (control_at s k)))) → ReportsTruth truth s (Copied k v x at recs)) → AllHold truth (held_after (reply_to_copied t u (room_of (control_at s k))) held) (cond (t && u) (with_control k (copied v x at recs) s) s)
    choose true true tells = one truth held s k (copied v x at recs) (λ low. copies_in (truth k) s.last.0 (held k) (control_at s k) v x at recs (sound_at s k keeps low) may.1.floor (tells refl) (all k low)) all
    choose true false tells = all
    choose false u tells = all
call_keeps truth held s (Raise k upto) keeps may tells all =
    one truth held s k (raised upto) (λ low. tells_upto (truth k) s.last.0 (held k) (control_at s k) upto (control_at s k).phase (sound_at s k keeps low) may.1 (reporting_low s k keeps low may.1.reporting) (tells refl) (all k low)) all
call_keeps truth held s (Break k upto cause) keeps may tells all =
    one truth held s k (broke upto cause) (λ low. tells_upto (truth k) s.last.0 (held k) (control_at s k) upto (Broken cause) (sound_at s k keeps low) may.1 (reporting_low s k keeps low may.1.reporting) (tells refl) (all k low)) all
call_keeps truth held s (Form limit) keeps may tells all = choose (gives_nothing s limit)
  where
    choose : (t : Bool) → AllHold truth (held_after (cond t (Nothing (shown_at (cut_of s limit) s)) (Formed (shown_at (cut_of s limit) s))) held) (formed_at (cut_of s limit) s)
    choose true = form_keeps truth held s limit keeps may all
    choose false = form_keeps truth held s limit keeps may all
call_keeps truth held s (Carry k v plan) keeps may tells all = one truth held s k (begun_volume v plan) (λ low. begins (truth k) s.last.0 (held k) (control_at s k) v plan (tells refl) (all k low)) all
call_keeps truth held s (Drop k v every) keeps may tells all = one truth held s k (dropped v every) (λ low. drops (truth k) s.last.0 (held k) (control_at s k) v every (tells refl) (all k low)) all
call_keeps truth held s (Resume k v) keeps may tells all = one truth held s k (resumed v) (λ low. resumes (truth k) s.last.0 (held k) (control_at s k) v may.1 (all k low)) all
call_keeps truth held s (Forget k v) keeps may tells all = one truth held s k (forgotten v) (λ low. forgets (truth k) s.last.0 (held k) (control_at s k) v (sound_at s k keeps low) (all k low)) all

pub steps_keep : StepsKeep
steps_keep truth held s next call reply keeps may is tells all =
    subst (λ r. AllHold truth (held_after r held) next) (sym is.0)
    (subst (λ g. AllHold truth (held_after (reply_to s call) held) g) (sym is.1) (call_keeps truth held s call keeps may (subst (λ r. IsTrue (has_changed r) → ReportsTruth truth s call) is.0 tells) all))

-- ---- what is done

-- what a cut leaves is later
later_left : (v x : ℕ) (cut : Stamp) (entries : List WaitingEntry) (old : Option (List Rec)) → after_entries (is_queued_up_to v x cut.0) (left cut entries) old ≡ old
later_left v x cut [] old = refl
later_left v x cut (e ∷ entries) old = choose (nat_lt cut.0 (entry_stamp e)) refl (later_left v x cut entries)
  where
    none : (a b : Bool) → b ≡ false → (a && b) ≡ false
    none true b e = e
    none false b e = refl

    choose : (b : Bool) → nat_lt cut.0 (entry_stamp e) ≡ b → ((o : Option (List Rec)) → after_entries (is_queued_up_to v x cut.0) (left cut entries) o ≡ o)
        → after_entries (is_queued_up_to v x cut.0) (cond b (e ∷ left cut entries) (left cut entries)) old ≡ old
    choose true is rest =
        ap (λ b. after_entries (is_queued_up_to v x cut.0) (left cut entries) (changed_by b e.kind old)) (none (is_queued_on v x e) (nat_le (entry_stamp e) cut.0) (lt-leb (entry_stamp e) cut.0 (ltb-true cut.0 (entry_stamp e) is)))
        ∙ rest old
    choose false is rest = rest old

pub done_is_told : DoneIsTold
done_is_told truth held s limit k v x keeps may all low counted settled copies =
    let cut = cut_of s limit in
    let next = formed_at cut s in
    let is = at_map cut s.controls k low in
    let within : k < length next.controls = omega (arith, low, length-map s.controls (formed cut)) in
    let h = form_keeps truth held s limit keeps may all k within in
    let kept = kept_form s limit.0 cut refl keeps in
    let upto = reported_to_last cut (control_at next k) (all_at (has_reported cut) next.controls k (new_control 0 0 0) kept.told within) counted in
    let after = held_after_group (shown_at cut s).entries held k v x in
    sym (later_left v x cut (control_at s k).queue.waiting after)
    ∙ sym (ap (λ (c : ControlState). after_entries (is_queued_up_to v x cut.0) c.queue.waiting after) is)
    ∙ h.holds v x cut.0 settled copies (omega arith) upto
