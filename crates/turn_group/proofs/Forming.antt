-- What a form of the mover's shows: its cut is at least the last one and at most the limit, and its entries are on volumes that the mover knows as carried.
use Rattle.std.proofs.Common.{◌≡◌, ℕ, suc, ◌+◌, ◌<◌, ◌≤◌, Bool, true, false, cond, nat_eq, nat_lt, nat_le, min, ◌&&◌, ◌||◌, not, List, [], ◌∷◌, length, get_or, map, Option, Some, None, refl, sym, ap, ◌∙◌, subst, arith}
use Rattle.std.specs.Prelude.{fold}
use Rattle.std.specs.List.{list_all, list_any, flat_map}
use Rattle.std.proofs.lemmas.Bool.{and_parts, eqb-true, leb-true}
use Rattle.std.proofs.lemmas.List.Elements.{All-get_or}
use Rattle.tod_stamp.specs.declared.stamp.Stamp.{Stamp}
use Rattle.change_map.specs.Sets.{has_track}
use Rattle.pending_queue.specs.Entries.{WaitingEntry, is_due, stands_before}
use Rattle.pending_queue.specs.Groups.{FormedGroup}
use Rattle.cut_core.proofs.Filters.{all_order}
use Rattle.group_state.specs.declared.joining.Forming.{Forming}
use Rattle.group_state.specs.declared.joining.Forming.TheVariants as formings
use Rattle.group_state.specs.declared.volume.Volume.{Volume}
use Rattle.group_state.specs.Volumes.{volume_of, passes}
use Rattle.group_state.specs.Controls.{ControlState, new_control, counts, lesser, due_of}
use Rattle.group_state.specs.Groups.{Group, Shown, control_at, cut_of, shown_at, shown_in}
use Rattle.group_state.specs.SoundStates.{Sound, IsGroupSound, may_wait, is_entry_of, is_entry_of_control, has_reported, HaveReported}
use Rattle.group_state.specs.Machine.{steps}
use Rattle.group_state.specs.Machine.Call.{Form}
use Rattle.group_state.specs.Runs.{shown_by}
use Rattle.group_state.specs.Answers.{form_reply}
use Rattle.group_state.proofs.Kept.{least_within}
use Rattle.group_state.proofs.SoundLaws.{all_filter, all_up, all_both, all_joined}
use Rattle.turn_group.specs.Notes.{KnownVolume, known_volume, known_of, volumes_known, last_by, is_of_carried}
use Rattle.turn_group.specs.Seats.{AllFrom}
use Rattle.turn_group.proofs.Known.{map_at}
use Rattle.group_state.proofs.OwnParts.{control_number}
use Rattle.turn_group.proofs.Flow.{shown_form}

shown_reply : (result : Forming) (shown : Shown) → shown_by (form_reply result shown) ≡ Some shown
shown_reply formings.Formed shown = refl
shown_reply formings.Nothing shown = refl

shown_is : (x new : Group) (limit : Stamp) (result : Forming) (out : FormedGroup) → steps x (Form limit) (form_reply result (shown_in out)) new → Some (shown_in out) ≡ Some (shown_at (cut_of x limit) x)
shown_is x new limit result out step = sym (shown_reply result (shown_in out)) ∙ shown_form x limit (form_reply result (shown_in out)) step.0

pub form_upto : (x new : Group) (limit : Stamp) (result : Forming) (out : FormedGroup) → steps x (Form limit) (form_reply result (shown_in out)) new → out.cut.0 ≤ limit.0
form_upto x new limit result out step =
    let cut : out.cut ≡ cut_of x limit = ap (λ o. last_by o limit) (shown_is x new limit result out step) in
    subst (λ (t : Stamp). t.0 ≤ limit.0) (sym cut) (least_within limit.0 x.controls)

told_up : (last : Stamp) (limit : ℕ) (controls : List ControlState) → last.0 ≤ limit → list_all (has_reported last) controls ≡ true → last.0 ≤ fold lesser limit controls
told_up last limit [] le told = le
told_up last limit (c ∷ controls) le told =
    let parts = and_parts (has_reported last c) (list_all (has_reported last) controls) told in
    told_up last (lesser limit c) controls (choose (counts c.phase) parts.0) parts.1
  where
    choose : (t : Bool) → (not t || nat_le last.0 c.floor.0) ≡ true → last.0 ≤ cond t (min limit c.floor.0) limit
    choose true here = let up = leb-true last.0 c.floor.0 here in omega (arith, le)
    choose false here = le

-- Each controller that counts has reported up to the last cut, so the next cut isn't below it.
pub form_from : (x new : Group) (limit last : Stamp) (result : Forming) (out : FormedGroup) → x.last ≡ last → last.0 ≤ limit.0 → HaveReported x.last x.controls → steps x (Form limit) (form_reply result (shown_in out)) new → last.0 ≤ out.cut.0
form_from x new limit last result out is le told step =
    let cut : out.cut ≡ cut_of x limit = ap (λ o. last_by o limit) (shown_is x new limit result out step) in
    subst (λ (t : Stamp). last.0 ≤ t.0) (sym cut) (told_up last limit.0 x.controls le (subst (λ (t : Stamp). list_all (has_reported t) x.controls ≡ true) is told))

-- ---- entries of carried volumes

known_carried : (e : WaitingEntry) (volumes : List Volume) → is_entry_of volumes e ≡ true → list_any (λ (u : KnownVolume). nat_eq u.number e.head.volume && (u.carried && nat_lt e.head.track u.tracks)) (map known_volume volumes) ≡ true
known_carried e [] is = absurd cc
known_carried e (u ∷ volumes) is = choose (nat_eq u.number e.head.volume) is (known_carried e volumes)
  where
    choose : (t : Bool) → passes (may_wait e) (cond t (Some u) (volume_of e.head.volume volumes)) ≡ true
        → (is_entry_of volumes e ≡ true → list_any (λ (u : KnownVolume). nat_eq u.number e.head.volume && (u.carried && nat_lt e.head.track u.tracks)) (map known_volume volumes) ≡ true)
        → ((t && (u.carried && nat_lt e.head.track (length u.map))) || list_any (λ (u : KnownVolume). nat_eq u.number e.head.volume && (u.carried && nat_lt e.head.track u.tracks)) (map known_volume volumes)) ≡ true
    choose true here rest =
        let p = and_parts u.carried (nat_lt e.head.track (length u.map) && not (e.is_copy && has_track u.plan.wanted e.head.track)) here in
        let q = and_parts (nat_lt e.head.track (length u.map)) (not (e.is_copy && has_track u.plan.wanted e.head.track)) p.1 in rw (p.0, q.0) refl
    choose false here rest = rest here

all_from : {A : Type 0} (P : ℕ → A → Type 0) (first : ℕ) (l : List A) (d : A) → ((i : ℕ) → i < length l → P (first + i) (get_or l i d)) → AllFrom P first l
all_from P n [] d each = tt
all_from P n (x ∷ l) d each =
    let is : n + 0 ≡ n = omega arith in
    (subst (λ i. P i x) is (each 0 (omega arith)), all_from P (suc n) l d (λ i lt. let next : n + suc i ≡ suc n + i = omega arith in subst (λ j. P j (get_or l i d)) next (each (suc i) (omega arith))))

waiting_carried : (i : ℕ) (known : List (List KnownVolume)) (c : ControlState) → get_or known i [] ≡ known_of c → list_all (is_entry_of_control i) c.queue.waiting ≡ true → list_all (is_entry_of c.volumes) c.queue.waiting ≡ true
    → list_all (is_of_carried known) c.queue.waiting ≡ true
waiting_carried i known c is own entries = all_up (λ e. is_entry_of_control i e && is_entry_of c.volumes e) (is_of_carried known) c.queue.waiting each (all_both (is_entry_of_control i) (is_entry_of c.volumes) c.queue.waiting own entries)
  where
    each : (e : WaitingEntry) → (is_entry_of_control i e && is_entry_of c.volumes e) ≡ true → is_of_carried known e ≡ true
    each e both =
        let parts = and_parts (is_entry_of_control i e) (is_entry_of c.volumes e) both in
        let at : get_or known e.head.control [] ≡ known_of c = ap (λ j. get_or known j []) (eqb-true e.head.control i parts.0) ∙ is in
        subst (λ (l : List KnownVolume). list_any (λ (u : KnownVolume). nat_eq u.number e.head.volume && (u.carried && nat_lt e.head.track u.tracks)) l ≡ true) (sym at) (known_carried e c.volumes parts.1)

all_due : (t : WaitingEntry → Bool) (cut : Stamp) (first : ℕ) (controls : List ControlState) → AllFrom (λ i (c : ControlState). list_all t c.queue.waiting ≡ true) first controls → list_all t (flat_map (due_of cut) controls) ≡ true
all_due t cut n [] all = refl
all_due t cut n (c ∷ controls) all = all_joined t (due_of cut c) (flat_map (due_of cut) controls) (all_filter t (is_due cut) c.queue.waiting all.0) (all_due t cut (suc n) controls all.1)

abbrev entries_by : Option Shown → List WaitingEntry
entries_by None = []
entries_by (Some shown) = shown.entries

pub form_carried : (x new : Group) (limit : Stamp) (result : Forming) (out : FormedGroup) (known : List (List KnownVolume)) → volumes_known x ≡ known → IsGroupSound x → steps x (Form limit) (form_reply result (shown_in out)) new
    → list_all (is_of_carried known) out.entries ≡ true
form_carried x new limit result out known is keeps step =
    let cut = cut_of x limit in
    let entries : out.entries ≡ (shown_at cut x).entries = ap entries_by (shown_is x new limit result out step) in
    let each = all_from (λ i (c : ControlState). list_all (is_of_carried known) c.queue.waiting ≡ true) 0 x.controls (new_control 0 0 0)
    (λ i lt.
    let sound = All-get_or Sound x.controls i (new_control 0 0 0) lt keeps.sound in
    let own : list_all (is_entry_of_control i) (control_at x i).queue.waiting ≡ true = subst (λ n. list_all (is_entry_of_control n) (control_at x i).queue.waiting ≡ true) (control_number x i keeps lt) sound.own in
    let at : get_or known i [] ≡ known_of (control_at x i) = ap (λ (l : List (List KnownVolume)). get_or l i []) (sym is) ∙ map_at known_of x.controls i (new_control 0 0 0) [] refl in
    waiting_carried i known (control_at x i) at own sound.entries) in
    subst (λ (l : List WaitingEntry). list_all (is_of_carried known) l ≡ true) (sym entries) (all_order stands_before (is_of_carried known) (flat_map (due_of cut) x.controls) (all_due (is_of_carried known) cut 0 x.controls each))
